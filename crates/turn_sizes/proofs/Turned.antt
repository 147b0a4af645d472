-- What turns send and plan at most.
use Rattle.std.proofs.Common.{◌≡◌, ℕ, ◌-◌, ◌≤◌, Bool, true, false, List, [], ◌∷◌, length, map, Option, Some, None, refl, ap, ◌∙◌, arith}
use Rattle.std.specs.Prelude.{nat_lt}
use Rattle.std.proofs.lemmas.Bool.{cond_both}
use Rattle.std.proofs.lemmas.List.{length-map, length-append}
use Rattle.truetime.specs.Reading.{Reading}
use Rattle.causal_context.specs.Deps.{deps_of}
use Rattle.causal_context.specs.LeastTimes.{least_of}
use Rattle.causal_context.specs.Services.{AreServices}
use Rattle.causal_context.specs.declared.dep.Dep.{Dep}
use Rattle.pipeline_lang.specs.declared.config.Config.{Config}
use Rattle.pipeline_lang.specs.Config.{body_of, home_of, replicas_of}
use Rattle.rss_names.specs.declared.attempt.Attempt.{Attempt}
use Rattle.rss_names.specs.declared.service.ServiceId.{ServiceId}
use Rattle.rss_names.specs.declared.service.ServiceId.TheVariants as service
use Rattle.rss_model.specs.declared.op.Op.{Op}
use Rattle.rss_model.specs.declared.op.Op.TheVariants as op
use Rattle.rss_wire.specs.declared.messages.Reply.{Reply}
use Rattle.rss_wire.specs.declared.messages.Reply.TheVariants as reply
use Rattle.rss_tables.specs.Lines.{Line, line_at, tells_decision}
use Rattle.rss_tables.specs.Outs.{line_out, slot_replica, slot_shard}
use Rattle.rss_tables.specs.RegisterSession.{RegSession, session_after, phase_end, reached, reply_cell}
use Rattle.rss_tables.specs.Round.{Round, hears, is_reached, was_heard}
use Rattle.rss_tables.specs.SnapshotSession.{SnapSession, opening_snapshot, snap_request}
use Rattle.rss_tables.specs.TransactionSession.{TxnSession, opening_txn, txn_request, written_keys, waiting_time}
use Rattle.rss_tables.specs.Turns.{Turn}
use Rattle.rss_tables.specs.Works.{plan_all, fence_of}
use Rattle.rss_tables.specs.declared.fences.FenceWork.{FenceWork}
use Rattle.rss_tables.specs.declared.fences.FenceWork.TheVariants.{Nothing, Past, Fix}
use Rattle.rss_tables.specs.declared.register_session.RegEnd.{RegEnd}
use Rattle.rss_tables.specs.declared.register_session.RegPhase.{RegPhase}
use Rattle.rss_tables.specs.declared.register_session.RegPhase.TheVariants as phase
use Rattle.rss_tables.specs.declared.register_session.RegWork.TheVariants as work
use Rattle.rss_wire.specs.declared.messages.RegReply.{RegReply}
use Rattle.rss_machine.specs.Effect.{opens_round}
use Rattle.rss_machine.specs.Session.{Session, service_of}
use Rattle.rss_machine.specs.State.{Owner, owner_at}
use Rattle.rss_machine.specs.declared.session.OwnerKind.{OwnerKind}
use Rattle.rss_machine.specs.declared.session.OwnerKind.TheVariants as kind
use Rattle.rss_machine.specs.declared.session.Session.TheVariants as session
use Rattle.std.specs.Prelude.{set}
use Rattle.count_laws.proofs.Budget.{FewIn, FewOwner}
use Rattle.count_laws.proofs.FewLines.{FewTurn, FewSnap, opening_few, few_hears, few_wakes, few_passes, snap_few_hears, snap_few_wakes, told_few}
use Rattle.count_laws.proofs.Runs.{sized_run}
use Rattle.count_laws.proofs.Works.{FewOf, round_few}
use Rattle.world_laws.specs.Shapes.{IsSoundFile}
use Rattle.turn_laws.specs.Few.{IsFew}
use Rattle.turn_laws.specs.Turns.{OwnerTurn, with_session, without_currents, listening, planning, fenced, waiting, cleared, rounds_for, fix_turn, launch_turn, register_start, start_turn, entered_before, Through, waits, through, works_over_turn, through_turn, begin_turn, work_turn, cleared_turn, fixed_turn, fixing_turn, register_turn, txn_turn, snap_turn, plan_turn, settle_turn, session_turn, snap_wake_turn, txn_act_turn, session_act_turn, wait_turn, stub_start_turn, started_turn}
use Rattle.turn_sizes.specs.Sizes.{FewTurns, TurnsAreFew, BeginningsAreFew}
use Rattle.turn_sizes.proofs.Served.{services_few}

-- what is used of a file that is sound
few_of : (c : Config) → IsSoundFile c → FewOf c
few_of c f = record { replicas = by_kind; pipes = f.within.pipes }
  where
    by_kind : (x : ServiceId) → replicas_of c x ≤ 7
    by_kind (service.Reg number) = f.within.places.replicas number
    by_kind (service.Txn number) = let e = f.within.places.others number in omega (arith, e)

-- a turn that plans nothing, and sends so much at most
record Sends (n : ℕ) (t : OwnerTurn) : Type 0 where
  outs : length t.outs ≤ n
  fences : t.fences ≡ []

few : (n : ℕ) (t : OwnerTurn) → n ≤ 32 → Sends n t → IsFew t
few n t h x = record { outs = let a = x.outs in omega (arith, h, a); fences = let a = ap (λ (l : List (ServiceId × FenceWork)). length l) x.fences in omega (arith, a) }

more : (m n : ℕ) (t : OwnerTurn) → m ≤ n → Sends m t → Sends n t
more m n t h x = record { outs = let a = x.outs in omega (arith, h, a); fences = x.fences }

-- BEGINNINGS

fix_few : (c : Config) (o : ℕ) (id : ServiceId) (w : Owner) → FewOf c → Sends 16 (fix_turn c o id w)
fix_few c o id w f = record { outs = round_few (rounds_for c o (work.Fix (deps_of id w.works.copy.deps)) id w) 16 (f.replicas id) (omega arith); fences = refl }

launch_few : (c : Config) (o step : ℕ) (at : Reading) (x : Op) (w : Owner) → FewOf c → Sends 16 (launch_turn c o step at x w)
launch_few c o step at (op.Read key) w f = record { outs = round_few (rounds_for c o (work.Read key) key.service w) 16 (f.replicas key.service) (omega arith); fences = refl }
launch_few c o step at (op.Write key value) w f = record { outs = round_few (rounds_for c o (work.Write key value) key.service w) 16 (f.replicas key.service) (omega arith); fences = refl }
launch_few c o step at (op.Snap keys) w f =
    let t = opening_snapshot (home_of c) o keys (least_of w.works.copy.least (service_of (op.Snap keys))) at in
    let l = opening_few (home_of c) keys [] in
    let m = length-map t.lines (λ (x : Line). line_out x.shard (snap_request t t.phase x)) in
    record { outs = omega (arith, l, m); fences = refl }
launch_few c o step at (op.Txn reads guard writes) w f =
    let t = opening_txn (home_of c) o reads guard writes (least_of w.works.copy.least (service_of (op.Txn reads guard writes))) (body_of c w.stage).earliest_end in
    let l = opening_few (home_of c) reads (written_keys writes) in
    let m = length-map t.lines (λ (x : Line). line_out x.shard (txn_request t t.phase x)) in
    record { outs = omega (arith, l, m); fences = refl }

register_few : (c : Config) (o step : ℕ) (at : Reading) (x : Op) (deps : List Dep) (w : Owner) → FewOf c → Sends 16 (register_start c o step at x deps w)
register_few c o step at x [] w f = launch_few c o step at x w f
register_few c o step at x (dep ∷ deps) w f = fix_few c o (service_of x) w f

start_few : (c : Config) (o step : ℕ) (at : Reading) (x : Op) (w : Owner) → FewOf c → Sends 16 (start_turn c o step at x w)
start_few c o step at (op.Read key) w f = register_few c o step at (op.Read key) w.works.copy.deps w f
start_few c o step at (op.Write key value) w f = register_few c o step at (op.Write key value) w.works.copy.deps w f
start_few c o step at (op.Snap keys) w f = launch_few c o step at (op.Snap keys) w f
start_few c o step at (op.Txn reads guard writes) w f = launch_few c o step at (op.Txn reads guard writes) w f

over_few : (c : Config) (o step : ℕ) (at : Reading) (w : Owner) (k : OwnerKind) → FewOf c → Sends 16 (works_over_turn c o step at w k)
over_few c o step at w (kind.Calling x) f = start_few c o step at x (entered_before step at x w) f
over_few c o step at w kind.Fencing f = record { outs = omega arith; fences = refl }
over_few c o step at w (kind.Stubbing u) f = record { outs = omega arith; fences = refl }

through_few : (c : Config) (o step : ℕ) (at : Reading) (w : Owner) (works : List (ServiceId × FenceWork)) → FewOf c → Sends 16 (through_turn c o step at (through at w works))
through_few c o step at w [] f = over_few c o step at w w.kind f
through_few c o step at w ((id, Nothing) ∷ works) f = through_few c o step at (fenced w id) works f
through_few c o step at w ((id, Past time) ∷ works) f =
    cond_both (nat_lt time at.earliest) (through at (fenced w id) works) (waits (waiting w time)) (λ (x : Through). Sends 16 (through_turn c o step at x)) (λ e. through_few c o step at (fenced w id) works f) (λ e. record { outs = omega arith; fences = refl })
through_few c o step at w ((id, Fix) ∷ works) f = fix_few c o id w f

work_few : (c : Config) (o step : ℕ) (at : Reading) (w : Owner) (works : List (ServiceId × FenceWork)) → FewOf c → Sends 16 (work_turn c o step at w works)
work_few c o step at w [] f = record { outs = omega arith; fences = refl }
work_few c o step at w (x ∷ works) f = through_few c o step at (fenced w x.0) works f

-- ROUNDS

cleared_few : (c : Config) (o step : ℕ) (at : Reading) (k : OwnerKind) (w : Owner) → FewOf c → Sends 16 (cleared_turn c o step at k w)
cleared_few c o step at (kind.Calling x) w f = launch_few c o step at x w f
cleared_few c o step at kind.Fencing w f = record { outs = omega arith; fences = refl }
cleared_few c o step at (kind.Stubbing u) w f = record { outs = omega arith; fences = refl }

fixed_few : (c : Config) (o step : ℕ) (at : Reading) (w : Owner) (works : List (ServiceId × FenceWork)) → FewOf c → Sends 16 (fixed_turn c o step at w works)
fixed_few c o step at w [] f = cleared_few c o step at w.kind (cleared w) f
fixed_few c o step at w (x ∷ works) f = work_few c o step at w (x ∷ works) f

fixing_few : (c : Config) (o step : ℕ) (at : Reading) (g : RegSession) (end : Option RegEnd) (w : Owner) → FewOf c → Sends 16 (fixing_turn c o step at g end w)
fixing_few c o step at g None w f = record { outs = omega arith; fences = refl }
fixing_few c o step at g (Some end) w f = fixed_few c o step at (without_currents (with_session (session.Fixing g) w)) w.works.left f

rounds_few : (w : Owner) (g : RegSession) (anew : Bool) (end : Option RegEnd) → g.round.replicas ≤ 7 → Sends 16 (register_turn w g anew end)
rounds_few w g anew (Some end) h = record { outs = omega arith; fences = refl }
rounds_few w g true None h = record { outs = round_few g 16 h (omega arith); fences = refl }
rounds_few w g false None h = record { outs = omega arith; fences = refl }

-- a round keeps its number of replicas
reached_same : (r : RegSession) (x : RegPhase) → (reached r x).round.replicas ≡ r.round.replicas
reached_same r phase.Fixing = refl
reached_same r phase.Asking = refl
reached_same r phase.Stamping = refl
reached_same r (phase.Storing stamp) = refl
reached_same r (phase.Done end) = refl

hears_same : (x : Round) (from : ℕ) (cell : RegReply) → (hears x from cell).replicas ≡ x.replicas
hears_same x from cell = cond_both (was_heard x from) x (record x { heard = set x.heard (from - 1) (Some cell) }) (λ (y : Round). y.replicas ≡ x.replicas) (λ e. refl) (λ e. refl)

after_same : (f : RegSession) (from : ℕ) (r : Reply) → (session_after f from r).round.replicas ≡ f.round.replicas
after_same f from r =
    let g = record f { round = hears f.round from (reply_cell r) } in
    cond_both (is_reached (hears f.round from (reply_cell r))) (reached g f.phase) g (λ (x : RegSession). x.round.replicas ≡ f.round.replicas) (λ e. reached_same g f.phase ∙ hears_same f.round from (reply_cell r)) (λ e. hears_same f.round from (reply_cell r))

-- STUBS

planned_few : (w : Owner) → AreServices w.works.copy.last.services → length (plan_all w.works.copy).fences ≤ 16
planned_few w h =
    let a = length-map {B = ServiceId × FenceWork} w.works.copy.last.services (λ (id : ServiceId). (id, fence_of w.works.copy id)) in
    let b = services_few w.works.copy.last.services h in
    omega (arith, a, b)

plan_few : (c : Config) (o step : ℕ) (at : Reading) (w : Owner) → FewOf c → AreServices w.works.copy.last.services → IsFew (plan_turn c o step at w)
plan_few c o step at w f h =
    let b = begin_turn c o step at (planning w) in
    let x = through_few c o step at (planning w) (planning w).works.left f in
    let n = x.outs in
    let p = planned_few w h in
    let e = ap (λ (l : List (ServiceId × FenceWork)). length l) x.fences in
    let l = length-append (plan_all w.works.copy).fences b.fences in
    record { outs = omega (arith, n); fences = omega (arith, p, e, l) }

settle_few : (c : Config) (o step : ℕ) (at : Reading) (attempt : Attempt) (shards : List ℕ) (r : Reply) (w : Owner) → FewOf c → AreServices w.works.copy.last.services → length shards ≤ 16 → IsFew (settle_turn c o step at attempt shards r w)
settle_few c o step at attempt shards (reply.Decided outcome) w f h m =
    let b = begin_turn c o step at (planning w) in
    let n = (through_few c o step at (planning w) (planning w).works.left f).outs in
    let x = plan_few c o step at w f h in
    let y = x.fences in
    let t = told_few attempt outcome shards in
    let l = length-append (tells_decision attempt outcome shards) b.outs in
    record { outs = omega (arith, n, m, t, l); fences = omega (arith, y) }
settle_few c o step at attempt shards reply.Wounded w f h m = record { outs = omega arith; fences = omega arith }
settle_few c o step at attempt shards (reply.Granted shown) w f h m = record { outs = omega arith; fences = omega arith }
settle_few c o step at attempt shards (reply.Wait holders) w f h m = record { outs = omega arith; fences = omega arith }
settle_few c o step at attempt shards (reply.Prepared time) w f h m = record { outs = omega arith; fences = omega arith }
settle_few c o step at attempt shards reply.Done w f h m = record { outs = omega arith; fences = omega arith }
settle_few c o step at attempt shards (reply.Outcome outcome) w f h m = record { outs = omega arith; fences = omega arith }
settle_few c o step at attempt shards reply.Open w f h m = record { outs = omega arith; fences = omega arith }
settle_few c o step at attempt shards reply.Released w f h m = record { outs = omega arith; fences = omega arith }
settle_few c o step at attempt shards (reply.Blocked holders) w f h m = record { outs = omega arith; fences = omega arith }
settle_few c o step at attempt shards (reply.Values versions skipped) w f h m = record { outs = omega arith; fences = omega arith }
settle_few c o step at attempt shards reply.Fixed w f h m = record { outs = omega arith; fences = omega arith }
settle_few c o step at attempt shards (reply.Held value stamp writer) w f h m = record { outs = omega arith; fences = omega arith }
settle_few c o step at attempt shards reply.Stored w f h m = record { outs = omega arith; fences = omega arith }

-- ALL TURNS

txn_few : (n k : ℕ) (w : Owner) (turn : Turn TxnSession) → FewTurn n k turn → IsFew (txn_turn w turn)
txn_few n k w turn x = record { outs = x.outs; fences = omega arith }

snap_few : (n : ℕ) (w : Owner) (turn : Turn SnapSession) → FewSnap n turn → IsFew (snap_turn w turn)
snap_few n w turn x = record { outs = x.outs; fences = omega arith }

hears_few : (c : Config) (o step : ℕ) (at : Reading) (slot : ℕ) (r : Reply) (x : Session) (w : Owner) → FewOf c → FewIn x → AreServices w.works.copy.last.services → IsFew (session_turn c o step at slot r x w)
hears_few c o step at slot r (session.Fixing g) w f l h = let e = session_after g (slot_replica slot) r in few 16 _ (omega arith) (fixing_few c o step at e (phase_end e.phase) w f)
hears_few c o step at slot r (session.Register g) w f l h =
    let e = session_after g (slot_replica slot) r in
    let m = after_same g (slot_replica slot) r in
    few 16 _ (omega arith) (rounds_few w e (opens_round g.phase e.phase) (phase_end e.phase) (omega (arith, l, m)))
hears_few c o step at slot r (session.Transaction t) w f l h = txn_few (length t.lines) t.k w _ (few_hears (length t.lines) t.k t (line_at t.lines (slot_shard slot)) at r l refl refl)
hears_few c o step at slot r (session.Snapshot t) w f l h = snap_few (length t.lines) w _ (snap_few_hears (length t.lines) t (line_at t.lines (slot_shard slot)) r l refl)
hears_few c o step at slot r (session.Settling attempt shards) w f l h = settle_few c o step at attempt shards r w f h l
hears_few c o step at slot r session.Idle w f l h = record { outs = omega arith; fences = omega arith }

txn_acts_few : (t : TxnSession) (time : Option ℕ) (line : Option Line) (w : Owner) → length t.lines ≤ 16 → IsFew (txn_act_turn t time line w)
txn_acts_few t (Some time) line w l = txn_few (length t.lines) t.k w _ (few_passes (length t.lines) t.k t t.phase l refl refl)
txn_acts_few t None (Some x) w l = txn_few (length t.lines) t.k w _ (few_wakes (length t.lines) t.k t x refl refl)
txn_acts_few t None None w l = record { outs = omega arith; fences = omega arith }

snap_acts_few : (t : SnapSession) (line : Option Line) (w : Owner) → IsFew (snap_wake_turn t line w)
snap_acts_few t (Some x) w = snap_few (length t.lines) w _ (snap_few_wakes (length t.lines) t x refl)
snap_acts_few t None w = record { outs = omega arith; fences = omega arith }

session_acts_few : (line : Option Line) (x : Session) (w : Owner) → FewIn x → IsFew (session_act_turn line x w)
session_acts_few line (session.Transaction t) w l = txn_acts_few t (waiting_time t t.phase) line w l
session_acts_few line (session.Snapshot t) w l = snap_acts_few t line w
session_acts_few line session.Idle w l = record { outs = omega arith; fences = omega arith }
session_acts_few line (session.Fixing r) w l = record { outs = omega arith; fences = omega arith }
session_acts_few line (session.Register r) w l = record { outs = omega arith; fences = omega arith }
session_acts_few line (session.Settling attempt shards) w l = record { outs = omega arith; fences = omega arith }

acts_few : (c : Config) (o step : ℕ) (at : Reading) (line : Option Line) (time : Option ℕ) (w : Owner) → FewOf c → FewIn w.session → IsFew (wait_turn c o step at line time w)
acts_few c o step at line (Some time) w f l = few 16 _ (omega arith) (work_few c o step at w w.works.left f)
acts_few c o step at line None w f l = session_acts_few line w.session w l

stub_starts_few : (c : Config) (o step : ℕ) (at : Reading) (k : OwnerKind) (w : Owner) → FewOf c → AreServices w.works.copy.last.services → IsFew (stub_start_turn c o step at k w)
stub_starts_few c o step at (kind.Stubbing (Some u)) w f h = record { outs = omega arith; fences = omega arith }
stub_starts_few c o step at (kind.Stubbing None) w f h = plan_few c o step at w f h
stub_starts_few c o step at (kind.Calling x) w f h = record { outs = omega arith; fences = omega arith }
stub_starts_few c o step at kind.Fencing w f h = record { outs = omega arith; fences = omega arith }

stubs_few : (c : Config) (o step : ℕ) (at : Reading) (started : Bool) (w : Owner) → FewOf c → AreServices w.works.copy.last.services → IsFew (started_turn c o step at started w)
stubs_few c o step at false w f h = stub_starts_few c o step at w.kind w f h
stubs_few c o step at true w f h = few 16 _ (omega arith) (work_few c o step at w w.works.left f)

pub few_turns : (c : Config) (o step : ℕ) (at : Reading) (w : Owner) → FewOf c → FewOwner w → AreServices w.works.copy.last.services → FewTurns c o step at w
few_turns c o step at w f x h = record {
  begins = few 16 _ (omega arith) (through_few c o step at w w.works.left f);
  hears = λ slot r. hears_few c o step at slot r w.session (listening slot w) f x.session h;
  acts = λ line. acts_few c o step at line w.works.wait w f x.session;
  stubs = stubs_few c o step at w.started w f h;
}

pub turns_are_few : TurnsAreFew
turns_are_few c steps s o step at file e h = few_turns c o step at (owner_at s o) (few_of c file) ((sized_run c (few_of c file) steps s e).few o) h

pub beginnings_are_few : BeginningsAreFew
beginnings_are_few c o step at w file = few 16 _ (omega arith) (through_few c o step at w w.works.left (few_of c file))
