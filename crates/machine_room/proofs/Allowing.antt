-- Which ends a turn can have, by the kind of its owner.
use Rattle.std.proofs.Common.{◌≡◌, ℕ, ◌≤◌, Bool, true, false, List, [], ◌∷◌, Option, Some, None, refl, subst}
use Rattle.std.specs.Prelude.{⊤, nat_lt}
use Rattle.std.proofs.lemmas.Bool.{cond_both}
use Rattle.causal_context.specs.Seen.{Seen}
use Rattle.causal_context.specs.declared.dep.Dep.{Dep}
use Rattle.pipeline_lang.specs.declared.config.Config.{Config}
use Rattle.rss_names.specs.declared.attempt.Attempt.{Attempt}
use Rattle.rss_names.specs.declared.service.ServiceId.{ServiceId}
use Rattle.rss_model.specs.declared.op.Op.{Op}
use Rattle.rss_model.specs.declared.op.Op.TheVariants as op
use Rattle.rss_model.specs.declared.op.Shown.{Shown}
use Rattle.truetime.specs.Reading.{Reading}
use Rattle.rss_wire.specs.declared.messages.Reply.{Reply}
use Rattle.rss_wire.specs.declared.messages.Reply.TheVariants as reply
use Rattle.rss_tables.specs.Lines.{Line, line_at}
use Rattle.rss_tables.specs.Outs.{slot_replica, slot_shard}
use Rattle.rss_tables.specs.RegisterSession.{RegSession, session_after, phase_end}
use Rattle.rss_tables.specs.SnapshotSession.{SnapSession, snap_hears, snap_wakes, snap_end}
use Rattle.rss_tables.specs.TransactionSession.{TxnSession, txn_hears, txn_wakes, txn_passes, txn_end, waiting_time, shown_reply}
use Rattle.rss_tables.specs.Turns.{Turn}
use Rattle.rss_tables.specs.declared.fences.FenceWork.{FenceWork}
use Rattle.rss_tables.specs.declared.fences.FenceWork.TheVariants.{Nothing, Past, Fix}
use Rattle.rss_tables.specs.declared.register_session.RegEnd.{RegEnd}
use Rattle.rss_tables.specs.declared.register_session.RegEnd.TheVariants as ends
use Rattle.rss_tables.specs.declared.register_session.RegWork.{RegWork}
use Rattle.rss_tables.specs.declared.register_session.RegWork.TheVariants as work
use Rattle.rss_machine.specs.Effect.{opens_round}
use Rattle.rss_machine.specs.Session.{Session}
use Rattle.rss_machine.specs.State.{Owner}
use Rattle.rss_machine.specs.declared.session.OwnerKind.{OwnerKind}
use Rattle.rss_machine.specs.declared.session.OwnerKind.TheVariants as kind
use Rattle.rss_machine.specs.declared.session.Session.TheVariants as session
use Rattle.turn_laws.specs.Turns.{TurnEnd, goes, replied, fence_over, stub_over, Through, over, waits, stores, through, through_turn, works_over_turn, start_turn, register_start, launch_turn, entered_before, begin_turn, work_turn, cleared_turn, fixed_turn, fixing_turn, cleared, without_currents, with_session, register_end, register_turn, timed_end, plan_turn, planning, settle_turn, session_turn, hear_turn, listening, txn_act_turn, snap_wake_turn, session_act_turn, wait_turn, act_turn, stub_start_turn, started_turn, stub_turn, fenced, waiting, txn_turn, snap_turn}
use Rattle.world_stages.specs.View.{StagingView}
use Rattle.world_machine.specs.Ending.{EndRoom}
use Rattle.machine_room.specs.Prepared.{KindRoom, EndsRoom}

-- an end that an owner of this kind can have
abbrev Allows : OwnerKind → TurnEnd → Type 0
Allows k goes = ⊤
Allows k (replied shown seen) = ⊤
Allows kind.Fencing fence_over = ⊤
Allows (kind.Calling x) fence_over = ⊥
Allows (kind.Stubbing unsettled) fence_over = ⊥
Allows (kind.Stubbing unsettled) stub_over = ⊤
Allows (kind.Calling x) stub_over = ⊥
Allows kind.Fencing stub_over = ⊥

-- for such an end there is room
room_by : (c : Config) (v : StagingView) (n : ℕ) (copy : Seen) (k : OwnerKind) (end : TurnEnd) → Allows k end → 1 ≤ v.room → KindRoom c v n copy k → EndRoom c v n copy end
room_by c v n copy k goes h entry room = tt
room_by c v n copy k (replied shown seen) h entry room = entry
room_by c v n copy kind.Fencing fence_over h entry room = room
room_by c v n copy (kind.Calling x) fence_over h entry room = absurd h
room_by c v n copy (kind.Stubbing unsettled) fence_over h entry room = absurd h
room_by c v n copy (kind.Stubbing unsettled) stub_over h entry room = room
room_by c v n copy (kind.Calling x) stub_over h entry room = absurd h
room_by c v n copy kind.Fencing stub_over h entry room = absurd h

-- going through works does not change what an owner is
abbrev ThroughKind : OwnerKind → Through → Type 0
ThroughKind k (over v) = v.kind ≡ k
ThroughKind k (waits v) = ⊤
ThroughKind k (stores v id) = ⊤

through_kind : (at : Reading) (w : Owner) (works : List (ServiceId × FenceWork)) → ThroughKind w.kind (through at w works)
through_kind at w [] = refl
through_kind at w ((id, Nothing) ∷ works) = through_kind at (fenced w id) works
through_kind at w ((id, Past time) ∷ works) =
    cond_both (nat_lt time at.earliest) (through at (fenced w id) works) (waits (waiting w time)) (ThroughKind w.kind) (λ e. through_kind at (fenced w id) works) (λ e. tt)
through_kind at w ((id, Fix) ∷ works) = tt

-- a call that begins goes on
launches : (c : Config) (o step : ℕ) (at : Reading) (x : Op) (w : Owner) (k : OwnerKind) → Allows k (launch_turn c o step at x w).ending
launches c o step at (op.Read key) w k = tt
launches c o step at (op.Write key value) w k = tt
launches c o step at (op.Snap keys) w k = tt
launches c o step at (op.Txn reads guard writes) w k = tt

registers : (c : Config) (o step : ℕ) (at : Reading) (x : Op) (deps : List Dep) (w : Owner) (k : OwnerKind) → Allows k (register_start c o step at x deps w).ending
registers c o step at x [] w k = launches c o step at x w k
registers c o step at x (dep ∷ deps) w k = tt

starts : (c : Config) (o step : ℕ) (at : Reading) (x : Op) (w : Owner) (k : OwnerKind) → Allows k (start_turn c o step at x w).ending
starts c o step at (op.Read key) w k = registers c o step at (op.Read key) w.works.copy.deps w k
starts c o step at (op.Write key value) w k = registers c o step at (op.Write key value) w.works.copy.deps w k
starts c o step at (op.Snap keys) w k = launches c o step at (op.Snap keys) w k
starts c o step at (op.Txn reads guard writes) w k = launches c o step at (op.Txn reads guard writes) w k

works_over : (c : Config) (o step : ℕ) (at : Reading) (w : Owner) (k : OwnerKind) → Allows k (works_over_turn c o step at w k).ending
works_over c o step at w (kind.Calling x) = starts c o step at x (entered_before step at x w) (kind.Calling x)
works_over c o step at w kind.Fencing = tt
works_over c o step at w (kind.Stubbing unsettled) = tt

gone_through : (c : Config) (o step : ℕ) (at : Reading) (k : OwnerKind) (y : Through) → ThroughKind k y → Allows k (through_turn c o step at y).ending
gone_through c o step at k (over w) h = subst (λ (j : OwnerKind). Allows j (works_over_turn c o step at w w.kind).ending) h (works_over c o step at w w.kind)
gone_through c o step at k (waits w) h = tt
gone_through c o step at k (stores w id) h = tt

begins : (c : Config) (o step : ℕ) (at : Reading) (w : Owner) → Allows w.kind (begin_turn c o step at w).ending
begins c o step at w = gone_through c o step at w.kind (through at w w.works.left) (through_kind at w w.works.left)

goes_on : (c : Config) (o step : ℕ) (at : Reading) (w : Owner) (left : List (ServiceId × FenceWork)) → Allows w.kind (work_turn c o step at w left).ending
goes_on c o step at w [] = tt
goes_on c o step at w (x ∷ works) = gone_through c o step at w.kind (through at (fenced w x.0) works) (through_kind at (fenced w x.0) works)

plans : (c : Config) (o step : ℕ) (at : Reading) (w : Owner) → Allows w.kind (plan_turn c o step at w).ending
plans c o step at w = begins c o step at (planning w)

-- what is heard
clears : (c : Config) (o step : ℕ) (at : Reading) (j k : OwnerKind) (w : Owner) → Allows k (cleared_turn c o step at j w).ending
clears c o step at (kind.Calling x) k w = launches c o step at x w k
clears c o step at kind.Fencing k w = tt
clears c o step at (kind.Stubbing unsettled) k w = tt

fixes : (c : Config) (o step : ℕ) (at : Reading) (w : Owner) (left : List (ServiceId × FenceWork)) → Allows w.kind (fixed_turn c o step at w left).ending
fixes c o step at w [] = clears c o step at w.kind w.kind (cleared w)
fixes c o step at w (x ∷ works) = goes_on c o step at w (x ∷ works)

fixing : (c : Config) (o step : ℕ) (at : Reading) (g : RegSession) (end : Option RegEnd) (w : Owner) → Allows w.kind (fixing_turn c o step at g end w).ending
fixing c o step at g None w = tt
fixing c o step at g (Some end) w = fixes c o step at (without_currents (with_session (session.Fixing g) w)) w.works.left

register_over : (w : Owner) (x : RegWork) (end : RegEnd) (k : OwnerKind) → Allows k (register_end w x end)
register_over w (work.Read key) (ends.Read cell dep) k = tt
register_over w (work.Write key value) (ends.Written stamp) k = tt
register_over w (work.Read key) (ends.Written stamp) k = tt
register_over w (work.Read key) ends.Fixed k = tt
register_over w (work.Write key value) (ends.Read cell dep) k = tt
register_over w (work.Write key value) ends.Fixed k = tt
register_over w (work.Fix deps) end k = tt

register_goes : (w : Owner) (g : RegSession) (anew : Bool) (end : Option RegEnd) (k : OwnerKind) → Allows k (register_turn w g anew end).ending
register_goes w g anew (Some end) k = register_over (without_currents (with_session (session.Register g) w)) g.work end k
register_goes w g true None k = tt
register_goes w g false None k = tt

timed_over : (w : Owner) (j : OwnerKind) (shown : List Shown) (time : Option ℕ) (k : OwnerKind) → Allows k (timed_end w j shown time)
timed_over w (kind.Calling x) shown (Some time) k = tt
timed_over w (kind.Calling x) shown None k = tt
timed_over w kind.Fencing shown time k = tt
timed_over w (kind.Stubbing unsettled) shown time k = tt

txn_goes : (w : Owner) (t : Turn TxnSession) (k : OwnerKind) → Allows k (txn_turn w t).ending
txn_goes w t k = timed_over w w.kind (shown_reply t.after.reads t.after.lines) (txn_end t.after.phase) k

snap_goes : (w : Owner) (t : Turn SnapSession) (k : OwnerKind) → Allows k (snap_turn w t).ending
snap_goes w t k = timed_over w w.kind (shown_reply t.after.keys t.after.lines) (snap_end t.after.phase) k

settles : (c : Config) (o step : ℕ) (at : Reading) (attempt : Attempt) (shards : List ℕ) (r : Reply) (w : Owner) → Allows w.kind (settle_turn c o step at attempt shards r w).ending
settles c o step at attempt shards (reply.Decided outcome) w = plans c o step at w
settles c o step at attempt shards reply.Wounded w = tt
settles c o step at attempt shards (reply.Granted shown) w = tt
settles c o step at attempt shards (reply.Wait holders) w = tt
settles c o step at attempt shards (reply.Prepared time) w = tt
settles c o step at attempt shards reply.Done w = tt
settles c o step at attempt shards (reply.Outcome outcome) w = tt
settles c o step at attempt shards reply.Open w = tt
settles c o step at attempt shards reply.Released w = tt
settles c o step at attempt shards (reply.Blocked holders) w = tt
settles c o step at attempt shards (reply.Values versions skipped) w = tt
settles c o step at attempt shards reply.Fixed w = tt
settles c o step at attempt shards (reply.Held value stamp writer) w = tt
settles c o step at attempt shards reply.Stored w = tt

session_goes : (c : Config) (o step : ℕ) (at : Reading) (slot : ℕ) (r : Reply) (x : Session) (w : Owner) → Allows w.kind (session_turn c o step at slot r x w).ending
session_goes c o step at slot r (session.Fixing f) w = fixing c o step at (session_after f (slot_replica slot) r) (phase_end (session_after f (slot_replica slot) r).phase) w
session_goes c o step at slot r (session.Register f) w = register_goes w (session_after f (slot_replica slot) r) (opens_round f.phase (session_after f (slot_replica slot) r).phase) (phase_end (session_after f (slot_replica slot) r).phase) w.kind
session_goes c o step at slot r (session.Transaction t) w = txn_goes w (txn_hears t (line_at t.lines (slot_shard slot)) at r) w.kind
session_goes c o step at slot r (session.Snapshot t) w = snap_goes w (snap_hears t (line_at t.lines (slot_shard slot)) r) w.kind
session_goes c o step at slot r (session.Settling attempt shards) w = settles c o step at attempt shards r w
session_goes c o step at slot r session.Idle w = tt

hears : (c : Config) (o step : ℕ) (at : Reading) (slot : ℕ) (r : Reply) (w : Owner) → Allows w.kind (hear_turn c o step at slot r w).ending
hears c o step at slot r w = session_goes c o step at slot r w.session (listening slot w)

-- what an owner does by itself
txn_acts : (t : TxnSession) (time : Option ℕ) (line : Option Line) (w : Owner) (k : OwnerKind) → Allows k (txn_act_turn t time line w).ending
txn_acts t (Some time) line w k = txn_goes w (txn_passes t t.phase) k
txn_acts t None None w k = tt
txn_acts t None (Some l) w k = txn_goes w (txn_wakes t l) k

snap_acts : (t : SnapSession) (line : Option Line) (w : Owner) (k : OwnerKind) → Allows k (snap_wake_turn t line w).ending
snap_acts t None w k = tt
snap_acts t (Some l) w k = snap_goes w (snap_wakes t l) k

session_acts : (line : Option Line) (x : Session) (w : Owner) (k : OwnerKind) → Allows k (session_act_turn line x w).ending
session_acts line (session.Transaction t) w k = txn_acts t (waiting_time t t.phase) line w k
session_acts line (session.Snapshot t) w k = snap_acts t line w k
session_acts line session.Idle w k = tt
session_acts line (session.Fixing r) w k = tt
session_acts line (session.Register r) w k = tt
session_acts line (session.Settling attempt shards) w k = tt

waits_over : (c : Config) (o step : ℕ) (at : Reading) (line : Option Line) (wait : Option ℕ) (w : Owner) → Allows w.kind (wait_turn c o step at line wait w).ending
waits_over c o step at line (Some time) w = goes_on c o step at w w.works.left
waits_over c o step at line None w = session_acts line w.session w w.kind

acts : (c : Config) (o step : ℕ) (at : Reading) (line : Option Line) (w : Owner) → Allows w.kind (act_turn c o step at line w).ending
acts c o step at line w = waits_over c o step at line w.works.wait w

-- what a stub does
stub_starts : (c : Config) (o step : ℕ) (at : Reading) (j : OwnerKind) (w : Owner) → Allows w.kind (stub_start_turn c o step at j w).ending
stub_starts c o step at (kind.Stubbing (Some unsettled)) w = tt
stub_starts c o step at (kind.Stubbing None) w = plans c o step at w
stub_starts c o step at (kind.Calling x) w = tt
stub_starts c o step at kind.Fencing w = tt

stub_started : (c : Config) (o step : ℕ) (at : Reading) (started : Bool) (w : Owner) → Allows w.kind (started_turn c o step at started w).ending
stub_started c o step at false w = stub_starts c o step at w.kind w
stub_started c o step at true w = goes_on c o step at w w.works.left

-- THE ENDS THAT THERE IS ROOM FOR
module _ (c : Config) (v : StagingView) (o step : ℕ) (at : Reading) (w : Owner) (room : EndsRoom c v w) where
  pub hear_room : (slot : ℕ) (r : Reply) → EndRoom c v w.stage w.works.copy (hear_turn c o step at slot r w).ending
  hear_room slot r = room_by c v w.stage w.works.copy w.kind (hear_turn c o step at slot r w).ending (hears c o step at slot r w) room.entry room.kind

  pub act_room : (line : Option Line) → EndRoom c v w.stage w.works.copy (act_turn c o step at line w).ending
  act_room line = room_by c v w.stage w.works.copy w.kind (act_turn c o step at line w).ending (acts c o step at line w) room.entry room.kind

  pub stub_room : EndRoom c v w.stage w.works.copy (stub_turn c o step at w).ending
  stub_room = room_by c v w.stage w.works.copy w.kind (stub_turn c o step at w).ending (stub_started c o step at w.started w) room.entry room.kind
