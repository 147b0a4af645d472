-- What an owner does by itself is a turn of its own record.
use Rattle.std.proofs.Common.{◌≡◌, ℕ, ◌<◌, Bool, true, false, List, [], ◌∷◌, length, Option, Some, None, refl, sym, ap, ◌∙◌}
use Rattle.truetime.specs.Reading.{Reading}
use Rattle.pipeline_lang.specs.declared.config.Config.{Config}
use Rattle.rss_wire.specs.declared.messages.Request.TheVariants as request
use Rattle.rss_tables.specs.Lines.{Line}
use Rattle.rss_tables.specs.Outs.{line_out}
use Rattle.rss_tables.specs.SnapshotSession.{SnapSession, snap_wakes}
use Rattle.rss_tables.specs.TransactionSession.{TxnSession, txn_wakes, txn_passes, waiting_time}
use Rattle.rss_machine.specs.Effect.{owner_acts, session_acts, txn_acts, txn_line_wakes, snap_line_wakes, stub_acts, stub_starts, least_shard, waking_line}
use Rattle.rss_machine.specs.Calls.{goes_on_with_works, txn_turns, ends_work}
use Rattle.rss_machine.specs.Moves.{with_owner, sends, plans_stub}
use Rattle.rss_machine.specs.Session.{Session}
use Rattle.rss_machine.specs.State.{State, Owner, owner_at}
use Rattle.rss_machine.specs.declared.session.OwnerKind.{OwnerKind}
use Rattle.rss_machine.specs.declared.session.OwnerKind.TheVariants as kind
use Rattle.rss_machine.specs.declared.session.Session.TheVariants as session
use Rattle.turn_laws.specs.Turns.{takes_turn, with_session, txn_wake_turn, snap_wake_turn, txn_act_turn, session_act_turn, lines_in, work_turn, wait_turn, act_turn, stub_start_turn, started_turn, stub_turn, ActingIsATurn, StubsTakeTurns}
use Rattle.turn_laws.proofs.Puts.{put_then, same_put}
use Rattle.turn_laws.proofs.Works.{work_ends}
use Rattle.turn_laws.proofs.Hears.{txn_takes, snap_takes, plans_so}

-- OWNERS

txn_line_so : (c : Config) (s : State) (o : ℕ) (t : TxnSession) (line : Option Line) (w : Owner) → o < length s.owners → txn_line_wakes c (with_owner s o w) o t line ≡ takes_turn c s o (txn_wake_turn t line w)
txn_line_so c s o t None w h = refl
txn_line_so c s o t (Some l) w h = txn_takes c s o w (txn_wakes t l) h

snap_line_so : (c : Config) (s : State) (o : ℕ) (t : SnapSession) (line : Option Line) (w : Owner) → o < length s.owners → snap_line_wakes c (with_owner s o w) o t line ≡ takes_turn c s o (snap_wake_turn t line w)
snap_line_so c s o t None w h = refl
snap_line_so c s o t (Some l) w h = snap_takes c s o w (snap_wakes t l) h

txn_acts_so : (c : Config) (s : State) (o : ℕ) (t : TxnSession) (time : Option ℕ) → o < length s.owners → txn_acts c s o t time ≡ takes_turn c s o (txn_act_turn t time (waking_line s t.lines) (owner_at s o))
txn_acts_so c s o t (Some time) h =
    ap (λ (u : State). txn_turns c u o (txn_passes t t.phase)) (sym (same_put s o h))
    ∙ txn_takes c s o (owner_at s o) (txn_passes t t.phase) h
txn_acts_so c s o t None h =
    ap (λ (u : State). txn_line_wakes c u o t (waking_line s t.lines)) (sym (same_put s o h))
    ∙ txn_line_so c s o t (waking_line s t.lines) (owner_at s o) h

session_acts_so : (c : Config) (s : State) (o : ℕ) (x : Session) → o < length s.owners → session_acts c s o x ≡ takes_turn c s o (session_act_turn (waking_line s (lines_in x)) x (owner_at s o))
session_acts_so c s o (session.Transaction t) h = txn_acts_so c s o t (waiting_time t t.phase) h
session_acts_so c s o (session.Snapshot t) h =
    ap (λ (u : State). snap_line_wakes c u o t (waking_line s t.lines)) (sym (same_put s o h))
    ∙ snap_line_so c s o t (waking_line s t.lines) (owner_at s o) h
session_acts_so c s o session.Idle h = sym (same_put s o h)
session_acts_so c s o (session.Fixing r) h = sym (same_put s o h)
session_acts_so c s o (session.Register r) h = sym (same_put s o h)
session_acts_so c s o (session.Settling attempt shards) h = sym (same_put s o h)

-- the first of its works has ended
works_end_so : (c : Config) (s : State) (o : ℕ) (at : Reading) → o < length s.owners → ends_work c s o at (owner_at s o).works.left ≡ takes_turn c s o (work_turn c o s.steps at (owner_at s o) (owner_at s o).works.left)
works_end_so c s o at h =
    ap (λ (u : State). ends_work c u o at (owner_at s o).works.left) (sym (same_put s o h))
    ∙ work_ends c s o at (owner_at s o) (owner_at s o).works.left h

acts_so : (c : Config) (s : State) (o : ℕ) (at : Reading) (wait : Option ℕ) → o < length s.owners → owner_acts c s o at wait ≡ takes_turn c s o (wait_turn c o s.steps at (waking_line s (lines_in (owner_at s o).session)) wait (owner_at s o))
acts_so c s o at (Some time) h = works_end_so c s o at h
acts_so c s o at None h = session_acts_so c s o (owner_at s o).session h

pub acting_is_a_turn : ActingIsATurn
acting_is_a_turn c s o at h = acts_so c s o at (owner_at s o).works.wait h

-- STUBS

starts_so : (c : Config) (s : State) (o : ℕ) (at : Reading) (k : OwnerKind) → o < length s.owners → stub_starts c s o at k ≡ takes_turn c s o (stub_start_turn c o s.steps at k (owner_at s o))
starts_so c s o at (kind.Stubbing (Some unsettled)) h =
    ap (λ (u : State). sends u o (line_out (least_shard unsettled.1) (request.Decide unsettled.0 false 0) ∷ [])) (put_then (with_session (session.Settling unsettled.0 unsettled.1)) s o (record (owner_at s o) { started = true }) h)
starts_so c s o at (kind.Stubbing None) h =
    ap (λ (u : State). goes_on_with_works c (plans_stub u o) o at) (sym (same_put s o h))
    ∙ plans_so c s o at (owner_at s o) h
starts_so c s o at (kind.Calling op) h = sym (same_put s o h)
starts_so c s o at kind.Fencing h = sym (same_put s o h)

stub_so : (c : Config) (s : State) (o : ℕ) (at : Reading) (started : Bool) → o < length s.owners → stub_acts c s o at started ≡ takes_turn c s o (started_turn c o s.steps at started (owner_at s o))
stub_so c s o at false h = starts_so c s o at (owner_at s o).kind h
stub_so c s o at true h = works_end_so c s o at h

pub stubs_take_turns : StubsTakeTurns
stubs_take_turns c s o at h = stub_so c s o at (owner_at s o).started h
