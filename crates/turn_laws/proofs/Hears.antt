-- What an owner hears is a turn of its own record.
use Rattle.std.proofs.Common.{◌≡◌, ℕ, ◌<◌, Bool, true, false, List, [], ◌∷◌, length, Option, Some, None, refl, sym, ap, ◌∙◌, arith}
use Rattle.std.specs.Prelude.{nat_lt, if◌then◌else◌}
use Rattle.std.proofs.lemmas.List.{length-set}
use Rattle.truetime.specs.Reading.{Reading}
use Rattle.causal_context.specs.Seen.{after_txn, after_read, after_write}
use Rattle.pipeline_lang.specs.declared.config.Config.{Config}
use Rattle.rss_names.specs.declared.attempt.Attempt.{Attempt}
use Rattle.rss_names.specs.declared.service.ServiceId.{ServiceId}
use Rattle.rss_model.specs.declared.op.Op.{Op}
use Rattle.rss_model.specs.declared.op.Op.TheVariants as op
use Rattle.rss_model.specs.declared.op.Shown.{Shown}
use Rattle.rss_wire.specs.declared.messages.Reply.{Reply}
use Rattle.rss_wire.specs.declared.messages.Reply.TheVariants as reply
use Rattle.rss_tables.specs.Lines.{line_at, tells_decision}
use Rattle.rss_tables.specs.Outs.{Out, awaited, slot_replica, slot_shard}
use Rattle.rss_tables.specs.RegisterSession.{RegSession, session_after, phase_end, round_requests}
use Rattle.rss_tables.specs.SnapshotSession.{SnapSession, snap_hears, snap_end}
use Rattle.rss_tables.specs.TransactionSession.{TxnSession, txn_hears, txn_end, shown_reply}
use Rattle.rss_tables.specs.Turns.{Turn}
use Rattle.rss_tables.specs.Works.{Works, plan_all}
use Rattle.rss_tables.specs.declared.fences.FenceWork.{FenceWork}
use Rattle.rss_tables.specs.declared.fences.FenceWork.TheVariants.{Nothing, Past, Fix}
use Rattle.rss_tables.specs.declared.register_session.RegEnd.{RegEnd}
use Rattle.rss_tables.specs.declared.register_session.RegEnd.TheVariants as ends
use Rattle.rss_tables.specs.declared.register_session.RegWork.{RegWork}
use Rattle.rss_tables.specs.declared.register_session.RegWork.TheVariants as work
use Rattle.causal_context.specs.declared.dep.Dep.{Dep}
use Rattle.rss_machine.specs.Calls.{goes_on_with_works, fix_ends, launches_cleared, replies, register_ends, ends_at, forgets_if, txn_turns, snap_turns}
use Rattle.rss_machine.specs.Effect.{owner_hears, opens_round, fix_goes_on, register_goes_on, stub_settles}
use Rattle.rss_machine.specs.Moves.{with_owner, sends, forgets, turns_session, clears, counts_fences, plans_stub}
use Rattle.rss_machine.specs.Session.{Session, service_of}
use Rattle.rss_machine.specs.State.{State, Owner, owner_at}
use Rattle.rss_machine.specs.declared.session.OwnerKind.{OwnerKind}
use Rattle.rss_machine.specs.declared.session.OwnerKind.TheVariants as kind
use Rattle.rss_machine.specs.declared.session.Session.TheVariants as session
use Rattle.turn_laws.specs.Turns.{OwnerTurn, turns, ends_turn, takes_turn, with_session, without_currents, forgets_owner, listening, cleared, fenced, waiting, planning, entering, entered_before, register_end, register_turn, timed_end, txn_turn, snap_turn, cleared_turn, fixed_turn, fixing_turn, launch_turn, register_start, start_turn, works_over_turn, Through, waits, through, through_turn, begin_turn, behind, plan_turn, settle_turn, session_turn, hear_turn, HearingIsATurn}
use Rattle.turn_laws.proofs.Puts.{put_twice, put_there, put_then, sends_works, told_to, tells_so, plans_behind, tells_behind}
use Rattle.turn_laws.proofs.Works.{call_launches, work_ends, begins_so}

-- ROUNDS OF DEPENDENCIES

launches_behind : (c : Config) (s : State) (o : ℕ) (at : Reading) (k : OwnerKind) (w : Owner) → o < length s.owners → launches_cleared c (with_owner s o w) o at k ≡ takes_turn c s o (cleared_turn c o s.steps at k w)
launches_behind c s o at (kind.Calling op) w h = call_launches c s o at op w h
launches_behind c s o at kind.Fencing w h = refl
launches_behind c s o at (kind.Stubbing unsettled) w h = refl

fix_is_over : (c : Config) (s : State) (o : ℕ) (at : Reading) (w : Owner) (works : List (ServiceId × FenceWork)) → o < length s.owners → fix_ends c (with_owner s o w) o at works ≡ takes_turn c s o (fixed_turn c o s.steps at w works)
fix_is_over c s o at w [] h =
    ap (λ (v : Owner). launches_cleared c (clears (with_owner s o w) o) o at v.kind) (put_there s o w h)
    ∙ ap (λ (t : State). launches_cleared c t o at w.kind) (put_then cleared s o w h)
    ∙ launches_behind c s o at w.kind (cleared w) h
fix_is_over c s o at w (x ∷ works) h = work_ends c s o at w (x ∷ works) h

fix_goes : (c : Config) (s : State) (o : ℕ) (at : Reading) (g : RegSession) (end : Option RegEnd) (w : Owner) → o < length s.owners → fix_goes_on c (with_owner s o w) o at g end ≡ takes_turn c s o (fixing_turn c o s.steps at g end w)
fix_goes c s o at g None w h = put_then (with_session (session.Fixing g)) s o w h
fix_goes c s o at g (Some end) w h =
    let b : Owner = with_session (session.Fixing g) w in
    let first : forgets (turns_session (with_owner s o w) o (session.Fixing g)) o ≡ with_owner s o (without_currents b) = ap (λ (t : State). forgets t o) (put_then (with_session (session.Fixing g)) s o w h) ∙ put_then without_currents s o b h in
    ap (λ (v : Owner). fix_ends c (forgets (turns_session (with_owner s o w) o (session.Fixing g)) o) o at v.works.left) (put_there s o w h)
    ∙ ap (λ (t : State). fix_ends c t o at w.works.left) first
    ∙ fix_is_over c s o at (without_currents b) w.works.left h

-- REGISTER CALLS

reg_ends : (c : Config) (u : State) (o : ℕ) (w : Owner) (k : RegWork) (end : RegEnd) → (owner_at u o).works ≡ w.works → register_ends c u o k end ≡ ends_turn c u o (register_end w k end)
reg_ends c u o w (work.Read key) (ends.Read cell dep) e = ap (λ (x : Works). replies c u o (record { key = key; value = cell.value; writer = cell.writer } ∷ []) (after_read x.copy key.service dep)) e
reg_ends c u o w (work.Write key value) (ends.Written stamp) e = ap (λ (x : Works). replies c u o [] (after_write x.copy key.service)) e
reg_ends c u o w (work.Read key) (ends.Written stamp) e = refl
reg_ends c u o w (work.Read key) ends.Fixed e = refl
reg_ends c u o w (work.Write key value) (ends.Read cell dep) e = refl
reg_ends c u o w (work.Write key value) ends.Fixed e = refl
reg_ends c u o w (work.Fix deps) end e = refl

-- a register call goes on, behind what was put in its place
reg_goes : (c : Config) (s : State) (o : ℕ) (a : Owner) (g : RegSession) (anew : Bool) (end : Option RegEnd) → o < length s.owners → register_goes_on c (with_owner s o a) o g anew end ≡ takes_turn c s o (register_turn a g anew end)
reg_goes c s o a g anew (Some end) h =
    let b : Owner = with_session (session.Register g) a in
    let first : forgets (turns_session (with_owner s o a) o (session.Register g)) o ≡ with_owner s o (without_currents b) = ap (λ (t : State). forgets t o) (put_then (with_session (session.Register g)) s o a h) ∙ put_then without_currents s o b h in
    ap (λ (t : State). register_ends c t o g.work end) first
    ∙ reg_ends c (with_owner s o (without_currents b)) o a g.work end (ap (λ (w : Owner). w.works) (put_there s o (without_currents b) h))
reg_goes c s o a g true None h =
    ap (λ (t : State). sends t o (awaited (round_requests g))) (ap (λ (t : State). turns_session t o (session.Register g)) (put_then without_currents s o a h) ∙ put_then (with_session (session.Register g)) s o (without_currents a) h)
reg_goes c s o a g false None h = put_then (with_session (session.Register g)) s o a h

-- TRANSACTIONS AND SNAPSHOTS

timed_ends : (c : Config) (u : State) (o : ℕ) (w : Owner) (k : OwnerKind) (shown : List Shown) (time : Option ℕ) → (owner_at u o).works ≡ w.works → ends_at c u o k shown time ≡ ends_turn c u o (timed_end w k shown time)
timed_ends c u o w (kind.Calling op) shown (Some time) e = ap (λ (x : Works). replies c u o shown (after_txn x.copy (service_of op) time)) e
timed_ends c u o w (kind.Calling op) shown None e = refl
timed_ends c u o w kind.Fencing shown time e = refl
timed_ends c u o w (kind.Stubbing unsettled) shown time e = refl

turned : (s : State) (o : ℕ) (a : Owner) (x : Session) (anew : Bool) → o < length s.owners → turns_session (forgets_if anew (with_owner s o a) o) o x ≡ with_owner s o (with_session x (forgets_owner anew a))
turned s o a x true h = ap (λ (t : State). turns_session t o x) (put_then without_currents s o a h) ∙ put_then (with_session x) s o (without_currents a) h
turned s o a x false h = put_then (with_session x) s o a h

forgotten_works : (anew : Bool) (a : Owner) → (forgets_owner anew a).works ≡ a.works
forgotten_works true a = refl
forgotten_works false a = refl

-- the works behind what a session sends
sent_works : (s : State) (o : ℕ) (a : Owner) (outs : List Out) (x : Session) (anew : Bool) → o < length s.owners → (owner_at (sends (with_owner s o (with_session x (forgets_owner anew a))) o outs) o).works ≡ a.works
sent_works s o a outs x anew h =
    let b : Owner = with_session x (forgets_owner anew a) in
    sends_works (with_owner s o b) o outs (omega (arith, h, length-set s.owners o b))
    ∙ ap (λ (w : Owner). w.works) (put_there s o b h)
    ∙ forgotten_works anew a

pub txn_takes : (c : Config) (s : State) (o : ℕ) (a : Owner) (turn : Turn TxnSession) → o < length s.owners → txn_turns c (with_owner s o a) o turn ≡ takes_turn c s o (txn_turn a turn)
txn_takes c s o a turn h =
    let b : Owner = with_session (session.Transaction turn.after) (forgets_owner turn.anew a) in
    let u : State = sends (with_owner s o b) o turn.outs in
    ap (λ (t : State). ends_at c (sends t o turn.outs) o (owner_at (with_owner s o a) o).kind (shown_reply turn.after.reads turn.after.lines) (txn_end turn.after.phase)) (turned s o a (session.Transaction turn.after) turn.anew h)
    ∙ ap (λ (w : Owner). ends_at c u o w.kind (shown_reply turn.after.reads turn.after.lines) (txn_end turn.after.phase)) (put_there s o a h)
    ∙ timed_ends c u o a a.kind (shown_reply turn.after.reads turn.after.lines) (txn_end turn.after.phase) (sent_works s o a turn.outs (session.Transaction turn.after) turn.anew h)

pub snap_takes : (c : Config) (s : State) (o : ℕ) (a : Owner) (turn : Turn SnapSession) → o < length s.owners → snap_turns c (with_owner s o a) o turn ≡ takes_turn c s o (snap_turn a turn)
snap_takes c s o a turn h =
    let b : Owner = with_session (session.Snapshot turn.after) (forgets_owner turn.anew a) in
    let u : State = sends (with_owner s o b) o turn.outs in
    ap (λ (t : State). ends_at c (sends t o turn.outs) o (owner_at (with_owner s o a) o).kind (shown_reply turn.after.keys turn.after.lines) (snap_end turn.after.phase)) (turned s o a (session.Snapshot turn.after) turn.anew h)
    ∙ ap (λ (w : Owner). ends_at c u o w.kind (shown_reply turn.after.keys turn.after.lines) (snap_end turn.after.phase)) (put_there s o a h)
    ∙ timed_ends c u o a a.kind (shown_reply turn.after.keys turn.after.lines) (snap_end turn.after.phase) (sent_works s o a turn.outs (session.Snapshot turn.after) turn.anew h)

-- STUBS

-- a turn that begins leaves its owner's stage
entered_stage : (step : ℕ) (at : Reading) (op : Op) (w : Owner) → (entered_before step at op w).stage ≡ w.stage
entered_stage step at op w = chosen w.works.enter
  where
    chosen : (b : Bool) → (if b then entering step (service_of op) at.latest w else w).stage ≡ w.stage
    chosen true = refl
    chosen false = refl

launch_stage : (c : Config) (o step : ℕ) (at : Reading) (op : Op) (w : Owner) → (launch_turn c o step at op w).after.stage ≡ w.stage
launch_stage c o step at (op.Read key) w = refl
launch_stage c o step at (op.Write key value) w = refl
launch_stage c o step at (op.Snap keys) w = refl
launch_stage c o step at (op.Txn reads guard writes) w = refl

register_stage : (c : Config) (o step : ℕ) (at : Reading) (op : Op) (deps : List Dep) (w : Owner) → (register_start c o step at op deps w).after.stage ≡ w.stage
register_stage c o step at op [] w = launch_stage c o step at op w
register_stage c o step at op (dep ∷ deps) w = refl

start_stage : (c : Config) (o step : ℕ) (at : Reading) (op : Op) (w : Owner) → (start_turn c o step at op w).after.stage ≡ w.stage
start_stage c o step at (op.Read key) w = register_stage c o step at (op.Read key) w.works.copy.deps w
start_stage c o step at (op.Write key value) w = register_stage c o step at (op.Write key value) w.works.copy.deps w
start_stage c o step at (op.Snap keys) w = refl
start_stage c o step at (op.Txn reads guard writes) w = refl

over_stage : (c : Config) (o step : ℕ) (at : Reading) (w : Owner) (k : OwnerKind) → (works_over_turn c o step at w k).after.stage ≡ w.stage
over_stage c o step at w (kind.Calling op) = start_stage c o step at op (entered_before step at op w) ∙ entered_stage step at op w
over_stage c o step at w kind.Fencing = refl
over_stage c o step at w (kind.Stubbing unsettled) = refl

pub through_stage : (c : Config) (o step : ℕ) (at : Reading) (w : Owner) (works : List (ServiceId × FenceWork)) → (through_turn c o step at (through at w works)).after.stage ≡ w.stage
through_stage c o step at w [] = over_stage c o step at w w.kind
through_stage c o step at w ((id, Nothing) ∷ works) = through_stage c o step at (fenced w id) works
through_stage c o step at w ((id, Past time) ∷ works) = passes (nat_lt time at.earliest) (through_stage c o step at (fenced w id) works)
  where
    passes : (b : Bool) → (through_turn c o step at (through at (fenced w id) works)).after.stage ≡ w.stage → (through_turn c o step at (if b then through at (fenced w id) works else waits (waiting w time))).after.stage ≡ w.stage
    passes true rest = rest
    passes false rest = refl
through_stage c o step at w ((id, Fix) ∷ works) = refl

-- a stub plans, and goes through its works
pub plans_so : (c : Config) (s : State) (o : ℕ) (at : Reading) (w : Owner) → o < length s.owners → goes_on_with_works c (plans_stub (with_owner s o w) o) o at ≡ takes_turn c s o (plan_turn c o s.steps at w)
plans_so c s o at w h =
    let fences : Owner → List (ServiceId × FenceWork) = λ (v : Owner). (plan_all v.works.copy).fences in
    let p : State = record s { planned = counts_fences (fences w) s.planned } in
    ap (λ (v : Owner). goes_on_with_works c (record (with_owner (with_owner s o w) o (planning v)) { planned = counts_fences (fences v) s.planned }) o at) (put_there s o w h)
    ∙ ap (λ (t : State). goes_on_with_works c t o at) (put_twice p o w (planning w))
    ∙ begins_so c p o at (planning w) h
    ∙ plans_behind c s o (fences w) (begin_turn c o s.steps at (planning w))

settles_so : (c : Config) (s : State) (o : ℕ) (at : Reading) (attempt : Attempt) (shards : List ℕ) (r : Reply) (w : Owner) → o < length s.owners → stub_settles c (with_owner s o w) o at attempt shards r ≡ takes_turn c s o (settle_turn c o s.steps at attempt shards r w)
settles_so c s o at attempt shards (reply.Decided outcome) w h =
    ap (λ (t : State). goes_on_with_works c (plans_stub t o) o at) (tells_so s o w attempt outcome shards h)
    ∙ plans_so c (told_to s o w.stage (tells_decision attempt outcome shards)) o at w h
    ∙ tells_behind c s o attempt outcome shards w.stage (plan_turn c o s.steps at w) h (through_stage c o s.steps at (planning w) (planning w).works.left)
settles_so c s o at attempt shards reply.Wounded w h = refl
settles_so c s o at attempt shards (reply.Granted shown) w h = refl
settles_so c s o at attempt shards (reply.Wait holders) w h = refl
settles_so c s o at attempt shards (reply.Prepared time) w h = refl
settles_so c s o at attempt shards reply.Done w h = refl
settles_so c s o at attempt shards (reply.Outcome outcome) w h = refl
settles_so c s o at attempt shards reply.Open w h = refl
settles_so c s o at attempt shards reply.Released w h = refl
settles_so c s o at attempt shards (reply.Blocked holders) w h = refl
settles_so c s o at attempt shards (reply.Values versions skipped) w h = refl
settles_so c s o at attempt shards reply.Fixed w h = refl
settles_so c s o at attempt shards (reply.Held value stamp writer) w h = refl
settles_so c s o at attempt shards reply.Stored w h = refl

-- ALL SESSIONS

pub hears_so : (c : Config) (s : State) (o slot : ℕ) (at : Reading) (r : Reply) (x : Session) (w : Owner) → o < length s.owners → owner_hears c (with_owner s o w) o slot at r x ≡ takes_turn c s o (session_turn c o s.steps at slot r x w)
hears_so c s o slot at r (session.Fixing f) w h =
    let g : RegSession = session_after f (slot_replica slot) r in fix_goes c s o at g (phase_end g.phase) w h
hears_so c s o slot at r (session.Register f) w h =
    let g : RegSession = session_after f (slot_replica slot) r in reg_goes c s o w g (opens_round f.phase g.phase) (phase_end g.phase) h
hears_so c s o slot at r (session.Transaction t) w h = txn_takes c s o w (txn_hears t (line_at t.lines (slot_shard slot)) at r) h
hears_so c s o slot at r (session.Snapshot t) w h = snap_takes c s o w (snap_hears t (line_at t.lines (slot_shard slot)) r) h
hears_so c s o slot at r (session.Settling attempt shards) w h = settles_so c s o at attempt shards r w h
hears_so c s o slot at r session.Idle w h = refl

pub hearing_is_a_turn : HearingIsATurn
hearing_is_a_turn c s o slot at r h = hears_so c s o slot at r (owner_at s o).session (listening slot (owner_at s o)) h
