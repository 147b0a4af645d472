-- An owner stays of its stage in a turn, and a fence statement or a stub that ends in one has the least times that it had.
use Rattle.std.proofs.Common.{◌≡◌, ℕ, Bool, true, false, List, [], ◌∷◌, Option, Some, None, refl, ◌∙◌}
use Rattle.std.specs.Prelude.{nat_lt}
use Rattle.std.proofs.lemmas.Bool.{cond_both}
use Rattle.causal_context.specs.declared.dep.Dep.{Dep}
use Rattle.pipeline_lang.specs.declared.config.Config.{Config}
use Rattle.rss_names.specs.declared.attempt.Attempt.{Attempt}
use Rattle.rss_names.specs.declared.service.ServiceId.{ServiceId}
use Rattle.rss_model.specs.declared.op.Op.{Op}
use Rattle.rss_model.specs.declared.op.Op.TheVariants as op
use Rattle.rss_model.specs.declared.op.Shown.{Shown}
use Rattle.truetime.specs.Reading.{Reading}
use Rattle.rss_wire.specs.declared.messages.Reply.{Reply}
use Rattle.rss_wire.specs.declared.messages.Reply.TheVariants as reply
use Rattle.rss_tables.specs.Lines.{Line, line_at}
use Rattle.rss_tables.specs.Outs.{slot_replica, slot_shard}
use Rattle.rss_tables.specs.RegisterSession.{RegSession, session_after, phase_end}
use Rattle.rss_tables.specs.SnapshotSession.{SnapSession, snap_hears, snap_wakes, snap_end}
use Rattle.rss_tables.specs.TransactionSession.{TxnSession, txn_hears, txn_wakes, txn_passes, txn_end, waiting_time, shown_reply}
use Rattle.rss_tables.specs.Turns.{Turn}
use Rattle.rss_tables.specs.declared.fences.FenceWork.{FenceWork}
use Rattle.rss_tables.specs.declared.fences.FenceWork.TheVariants.{Nothing, Past, Fix}
use Rattle.rss_tables.specs.declared.register_session.RegEnd.{RegEnd}
use Rattle.rss_tables.specs.declared.register_session.RegEnd.TheVariants as ends
use Rattle.rss_tables.specs.declared.register_session.RegWork.{RegWork}
use Rattle.rss_tables.specs.declared.register_session.RegWork.TheVariants as work
use Rattle.rss_machine.specs.Effect.{opens_round}
use Rattle.rss_machine.specs.Session.{Session, service_of}
use Rattle.rss_machine.specs.State.{Owner}
use Rattle.rss_machine.specs.declared.session.OwnerKind.{OwnerKind}
use Rattle.rss_machine.specs.declared.session.OwnerKind.TheVariants as kind
use Rattle.rss_machine.specs.declared.session.Session.TheVariants as session
use Rattle.turn_laws.specs.Turns.{Through, over, waits, stores, through, through_turn, works_over_turn, start_turn, register_start, launch_turn, entered_before, begin_turn, work_turn, cleared_turn, fixed_turn, fixing_turn, cleared, without_currents, with_session, register_end, register_turn, timed_end, plan_turn, planning, settle_turn, session_turn, hear_turn, listening, txn_act_turn, snap_wake_turn, session_act_turn, wait_turn, act_turn, stub_start_turn, started_turn, stub_turn, fenced, waiting, forgets_owner, txn_turn, snap_turn, entering}
use Rattle.turn_ends.specs.Ends.{IsOver, EndsAsBefore}

-- works that are gone through
abbrev ThroughSame : ℕ → List (ServiceId × ℕ) → Through → Type 0
ThroughSame n least (over v) = (v.stage ≡ n) × (v.works.copy.least ≡ least)
ThroughSame n least (waits v) = v.stage ≡ n
ThroughSame n least (stores v id) = v.stage ≡ n

through_same : (at : Reading) (w : Owner) (works : List (ServiceId × FenceWork)) → ThroughSame w.stage w.works.copy.least (through at w works)
through_same at w [] = (refl, refl)
through_same at w ((id, Nothing) ∷ works) = through_same at (fenced w id) works
through_same at w ((id, Past time) ∷ works) =
    cond_both (nat_lt time at.earliest) (through at (fenced w id) works) (waits (waiting w time)) (ThroughSame w.stage w.works.copy.least) (λ e. through_same at (fenced w id) works) (λ e. refl)
through_same at w ((id, Fix) ∷ works) = refl

-- a call that begins does not end
launch_goes : (c : Config) (o step : ℕ) (at : Reading) (x : Op) (w v : Owner) → w.stage ≡ v.stage → EndsAsBefore v (launch_turn c o step at x w)
launch_goes c o step at (op.Read key) w v e = (e, λ h. absurd h)
launch_goes c o step at (op.Write key value) w v e = (e, λ h. absurd h)
launch_goes c o step at (op.Snap keys) w v e = (e, λ h. absurd h)
launch_goes c o step at (op.Txn reads guard writes) w v e = (e, λ h. absurd h)

register_goes : (c : Config) (o step : ℕ) (at : Reading) (x : Op) (deps : List Dep) (w v : Owner) → w.stage ≡ v.stage → EndsAsBefore v (register_start c o step at x deps w)
register_goes c o step at x [] w v e = launch_goes c o step at x w v e
register_goes c o step at x (dep ∷ deps) w v e = (e, λ h. absurd h)

start_goes : (c : Config) (o step : ℕ) (at : Reading) (x : Op) (w v : Owner) → w.stage ≡ v.stage → EndsAsBefore v (start_turn c o step at x w)
start_goes c o step at (op.Read key) w v e = register_goes c o step at (op.Read key) w.works.copy.deps w v e
start_goes c o step at (op.Write key value) w v e = register_goes c o step at (op.Write key value) w.works.copy.deps w v e
start_goes c o step at (op.Snap keys) w v e = launch_goes c o step at (op.Snap keys) w v e
start_goes c o step at (op.Txn reads guard writes) w v e = launch_goes c o step at (op.Txn reads guard writes) w v e

entered_stage : (step : ℕ) (at : Reading) (x : Op) (w : Owner) → (entered_before step at x w).stage ≡ w.stage
entered_stage step at x w = cond_both w.works.enter (entering step (service_of x) at.latest w) w (λ (v : Owner). v.stage ≡ w.stage) (λ e. refl) (λ e. refl)

works_over_same : (c : Config) (o step : ℕ) (at : Reading) (w v : Owner) (k : OwnerKind) → w.stage ≡ v.stage → w.works.copy.least ≡ v.works.copy.least → EndsAsBefore v (works_over_turn c o step at w k)
works_over_same c o step at w v (kind.Calling x) n e = start_goes c o step at x (entered_before step at x w) v (entered_stage step at x w ∙ n)
works_over_same c o step at w v kind.Fencing n e = (n, λ h. e)
works_over_same c o step at w v (kind.Stubbing unsettled) n e = (n, λ h. e)

through_turn_same : (c : Config) (o step : ℕ) (at : Reading) (v : Owner) (x : Through) → ThroughSame v.stage v.works.copy.least x → EndsAsBefore v (through_turn c o step at x)
through_turn_same c o step at v (over w) h = works_over_same c o step at w v w.kind h.0 h.1
through_turn_same c o step at v (waits w) h = (h, λ q. absurd q)
through_turn_same c o step at v (stores w id) h = (h, λ q. absurd q)

pub begin_same : (c : Config) (o step : ℕ) (at : Reading) (w : Owner) → EndsAsBefore w (begin_turn c o step at w)
begin_same c o step at w = through_turn_same c o step at w (through at w w.works.left) (through_same at w w.works.left)

work_same : (c : Config) (o step : ℕ) (at : Reading) (w : Owner) (left : List (ServiceId × FenceWork)) → EndsAsBefore w (work_turn c o step at w left)
work_same c o step at w [] = (refl, λ h. absurd h)
work_same c o step at w (x ∷ works) = through_turn_same c o step at w (through at (fenced w x.0) works) (through_same at (fenced w x.0) works)

plan_same : (c : Config) (o step : ℕ) (at : Reading) (w : Owner) → EndsAsBefore w (plan_turn c o step at w)
plan_same c o step at w = begin_same c o step at (planning w)

-- what is heard
cleared_goes : (c : Config) (o step : ℕ) (at : Reading) (k : OwnerKind) (w v : Owner) → w.stage ≡ v.stage → EndsAsBefore v (cleared_turn c o step at k w)
cleared_goes c o step at (kind.Calling x) w v e = launch_goes c o step at x w v e
cleared_goes c o step at kind.Fencing w v e = (e, λ h. absurd h)
cleared_goes c o step at (kind.Stubbing unsettled) w v e = (e, λ h. absurd h)

fixed_same : (c : Config) (o step : ℕ) (at : Reading) (w : Owner) (left : List (ServiceId × FenceWork)) → EndsAsBefore w (fixed_turn c o step at w left)
fixed_same c o step at w [] = cleared_goes c o step at w.kind (cleared w) w refl
fixed_same c o step at w (x ∷ works) = work_same c o step at w (x ∷ works)

fixing_same : (c : Config) (o step : ℕ) (at : Reading) (g : RegSession) (end : Option RegEnd) (w : Owner) → EndsAsBefore w (fixing_turn c o step at g end w)
fixing_same c o step at g None w = (refl, λ h. absurd h)
fixing_same c o step at g (Some end) w = fixed_same c o step at (without_currents (with_session (session.Fixing g) w)) w.works.left

replies_alone : (w : Owner) (x : RegWork) (end : RegEnd) → IsOver (register_end w x end) → ⊥
replies_alone w (work.Read key) (ends.Read cell dep) h = h
replies_alone w (work.Write key value) (ends.Written stamp) h = h
replies_alone w (work.Read key) (ends.Written stamp) h = h
replies_alone w (work.Read key) ends.Fixed h = h
replies_alone w (work.Write key value) (ends.Read cell dep) h = h
replies_alone w (work.Write key value) ends.Fixed h = h
replies_alone w (work.Fix deps) end h = h

register_same : (w v : Owner) → w.stage ≡ v.stage → (g : RegSession) (anew : Bool) (end : Option RegEnd) → EndsAsBefore v (register_turn w g anew end)
register_same w v e g anew (Some end) = (e, λ h. absurd (replies_alone w g.work end h))
register_same w v e g true None = (e, λ h. absurd h)
register_same w v e g false None = (e, λ h. absurd h)

timed_alone : (w : Owner) (k : OwnerKind) (shown : List Shown) (time : Option ℕ) → IsOver (timed_end w k shown time) → ⊥
timed_alone w (kind.Calling x) shown (Some time) h = h
timed_alone w (kind.Calling x) shown None h = h
timed_alone w kind.Fencing shown time h = h
timed_alone w (kind.Stubbing unsettled) shown time h = h

forgets_stage : (anew : Bool) (w : Owner) → (forgets_owner anew w).stage ≡ w.stage
forgets_stage true w = refl
forgets_stage false w = refl

txn_same : (w : Owner) (t : Turn TxnSession) → EndsAsBefore w (txn_turn w t)
txn_same w t = (forgets_stage t.anew w, λ h. absurd (timed_alone w w.kind (shown_reply t.after.reads t.after.lines) (txn_end t.after.phase) h))

snap_same : (w : Owner) (t : Turn SnapSession) → EndsAsBefore w (snap_turn w t)
snap_same w t = (forgets_stage t.anew w, λ h. absurd (timed_alone w w.kind (shown_reply t.after.keys t.after.lines) (snap_end t.after.phase) h))

settle_same : (c : Config) (o step : ℕ) (at : Reading) (attempt : Attempt) (shards : List ℕ) (r : Reply) (w : Owner) → EndsAsBefore w (settle_turn c o step at attempt shards r w)
settle_same c o step at attempt shards (reply.Decided outcome) w = plan_same c o step at w
settle_same c o step at attempt shards reply.Wounded w = (refl, λ h. absurd h)
settle_same c o step at attempt shards (reply.Granted shown) w = (refl, λ h. absurd h)
settle_same c o step at attempt shards (reply.Wait holders) w = (refl, λ h. absurd h)
settle_same c o step at attempt shards (reply.Prepared time) w = (refl, λ h. absurd h)
settle_same c o step at attempt shards reply.Done w = (refl, λ h. absurd h)
settle_same c o step at attempt shards (reply.Outcome outcome) w = (refl, λ h. absurd h)
settle_same c o step at attempt shards reply.Open w = (refl, λ h. absurd h)
settle_same c o step at attempt shards reply.Released w = (refl, λ h. absurd h)
settle_same c o step at attempt shards (reply.Blocked holders) w = (refl, λ h. absurd h)
settle_same c o step at attempt shards (reply.Values versions skipped) w = (refl, λ h. absurd h)
settle_same c o step at attempt shards reply.Fixed w = (refl, λ h. absurd h)
settle_same c o step at attempt shards (reply.Held value stamp writer) w = (refl, λ h. absurd h)
settle_same c o step at attempt shards reply.Stored w = (refl, λ h. absurd h)

session_same : (c : Config) (o step : ℕ) (at : Reading) (slot : ℕ) (r : Reply) (x : Session) (w : Owner) → EndsAsBefore w (session_turn c o step at slot r x w)
session_same c o step at slot r (session.Fixing f) w = fixing_same c o step at (session_after f (slot_replica slot) r) (phase_end (session_after f (slot_replica slot) r).phase) w
session_same c o step at slot r (session.Register f) w = register_same w w refl (session_after f (slot_replica slot) r) (opens_round f.phase (session_after f (slot_replica slot) r).phase) (phase_end (session_after f (slot_replica slot) r).phase)
session_same c o step at slot r (session.Transaction t) w = txn_same w (txn_hears t (line_at t.lines (slot_shard slot)) at r)
session_same c o step at slot r (session.Snapshot t) w = snap_same w (snap_hears t (line_at t.lines (slot_shard slot)) r)
session_same c o step at slot r (session.Settling attempt shards) w = settle_same c o step at attempt shards r w
session_same c o step at slot r session.Idle w = (refl, λ h. absurd h)

pub hear_same : (c : Config) (o step : ℕ) (at : Reading) (slot : ℕ) (r : Reply) (w : Owner) → EndsAsBefore w (hear_turn c o step at slot r w)
hear_same c o step at slot r w = session_same c o step at slot r w.session (listening slot w)

-- what an owner does by itself
txn_act_same : (t : TxnSession) (time : Option ℕ) (line : Option Line) (w : Owner) → EndsAsBefore w (txn_act_turn t time line w)
txn_act_same t (Some time) line w = txn_same w (txn_passes t t.phase)
txn_act_same t None None w = (refl, λ h. absurd h)
txn_act_same t None (Some l) w = txn_same w (txn_wakes t l)

snap_act_same : (t : SnapSession) (line : Option Line) (w : Owner) → EndsAsBefore w (snap_wake_turn t line w)
snap_act_same t None w = (refl, λ h. absurd h)
snap_act_same t (Some l) w = snap_same w (snap_wakes t l)

session_act_same : (line : Option Line) (x : Session) (w : Owner) → EndsAsBefore w (session_act_turn line x w)
session_act_same line (session.Transaction t) w = txn_act_same t (waiting_time t t.phase) line w
session_act_same line (session.Snapshot t) w = snap_act_same t line w
session_act_same line session.Idle w = (refl, λ h. absurd h)
session_act_same line (session.Fixing r) w = (refl, λ h. absurd h)
session_act_same line (session.Register r) w = (refl, λ h. absurd h)
session_act_same line (session.Settling attempt shards) w = (refl, λ h. absurd h)

wait_same : (c : Config) (o step : ℕ) (at : Reading) (line : Option Line) (time : Option ℕ) (w : Owner) → EndsAsBefore w (wait_turn c o step at line time w)
wait_same c o step at line (Some time) w = work_same c o step at w w.works.left
wait_same c o step at line None w = session_act_same line w.session w

pub act_same : (c : Config) (o step : ℕ) (at : Reading) (line : Option Line) (w : Owner) → EndsAsBefore w (act_turn c o step at line w)
act_same c o step at line w = wait_same c o step at line w.works.wait w

-- the step of a stub
stub_start_same : (c : Config) (o step : ℕ) (at : Reading) (k : OwnerKind) (w : Owner) → EndsAsBefore w (stub_start_turn c o step at k w)
stub_start_same c o step at (kind.Stubbing (Some unsettled)) w = (refl, λ h. absurd h)
stub_start_same c o step at (kind.Stubbing None) w = plan_same c o step at w
stub_start_same c o step at (kind.Calling x) w = (refl, λ h. absurd h)
stub_start_same c o step at kind.Fencing w = (refl, λ h. absurd h)

started_same : (c : Config) (o step : ℕ) (at : Reading) (started : Bool) (w : Owner) → EndsAsBefore w (started_turn c o step at started w)
started_same c o step at false w = stub_start_same c o step at w.kind w
started_same c o step at true w = work_same c o step at w w.works.left

pub stub_same : (c : Config) (o step : ℕ) (at : Reading) (w : Owner) → EndsAsBefore w (stub_turn c o step at w)
stub_same c o step at w = started_same c o step at w.started w
