-- An owner that goes through its works takes a turn.
use Rattle.std.proofs.Common.{◌≡◌, ℕ, ◌<◌, Bool, true, false, List, [], ◌∷◌, length, refl, sym, ap, ◌∙◌}
use Rattle.std.specs.Prelude.{nat_lt, if◌then◌else◌}
use Rattle.truetime.specs.Reading.{Reading}
use Rattle.causal_context.specs.Deps.{deps_of}
use Rattle.causal_context.specs.LeastTimes.{least_of}
use Rattle.causal_context.specs.declared.dep.Dep.{Dep}
use Rattle.pipeline_lang.specs.declared.config.Config.{Config}
use Rattle.pipeline_lang.specs.Config.{body_of, home_of}
use Rattle.rss_names.specs.declared.service.ServiceId.{ServiceId}
use Rattle.rss_model.specs.declared.op.Op.{Op}
use Rattle.rss_model.specs.declared.op.Op.TheVariants as op
use Rattle.rss_tables.specs.Outs.{awaited}
use Rattle.rss_tables.specs.RegisterSession.{RegSession, round_requests}
use Rattle.rss_tables.specs.SnapshotSession.{SnapSession, opening_snapshot, snap_starts}
use Rattle.rss_tables.specs.TransactionSession.{TxnSession, opening_txn, txn_starts}
use Rattle.rss_tables.specs.Turns.{Turn}
use Rattle.rss_tables.specs.declared.fences.FenceWork.{FenceWork}
use Rattle.rss_tables.specs.declared.fences.FenceWork.TheVariants.{Nothing, Past, Fix}
use Rattle.rss_tables.specs.declared.register_session.RegWork.{RegWork}
use Rattle.rss_tables.specs.declared.register_session.RegWork.TheVariants as work
use Rattle.rss_machine.specs.Calls.{goes_through, goes_on_with_works, ends_work, fixes, launches_register, launches_call, starts_at_register, starts_call, entered_first, works_over}
use Rattle.rss_machine.specs.Moves.{with_owner, sends, goes_on, launches, enters}
use Rattle.rss_machine.specs.Session.{Session, service_of}
use Rattle.rss_machine.specs.State.{State, Owner, owner_at}
use Rattle.rss_machine.specs.declared.session.OwnerKind.{OwnerKind}
use Rattle.rss_machine.specs.declared.session.OwnerKind.TheVariants as kind
use Rattle.rss_machine.specs.declared.session.Session.TheVariants as session
use Rattle.turn_laws.specs.Turns.{OwnerTurn, takes_turn, with_session, launched, rounds_for, fix_turn, register_launch, launch_turn, register_start, start_turn, entering, entered_before, Through, waits, through, fenced, waiting, works_over_turn, through_turn, begin_turn, work_turn, BeginningIsATurn}
use Rattle.turn_laws.proofs.Puts.{put_there, put_then, same_put}

-- a round of dependencies begins
pub fixes_so : (c : Config) (s : State) (o : ℕ) (id : ServiceId) (w : Owner) → o < length s.owners → fixes c (with_owner s o w) o id ≡ takes_turn c s o (fix_turn c o id w)
fixes_so c s o id w h =
    let r : Owner → RegSession = λ (v : Owner). rounds_for c o (work.Fix (deps_of id v.works.copy.deps)) id v in
    ap (λ (v : Owner). goes_on (with_owner s o w) o (session.Fixing (r v)) (awaited (round_requests (r v)))) (put_there s o w h)
    ∙ ap (λ (t : State). sends t o (awaited (round_requests (r w)))) (put_then (with_session (session.Fixing (r w))) s o w h)

launches_so : (s : State) (o : ℕ) (x : Session) (w : Owner) → o < length s.owners → with_owner (with_owner s o w) o (launched s.steps x (owner_at (with_owner s o w) o)) ≡ with_owner s o (launched s.steps x w)
launches_so s o x w h = put_then (launched s.steps x) s o w h

-- a register call sends its own first round
register_launches : (c : Config) (s : State) (o : ℕ) (k : RegWork) (id : ServiceId) (w : Owner) → o < length s.owners → launches_register c (with_owner s o w) o k id ≡ takes_turn c s o (register_launch c o s.steps k id w)
register_launches c s o k id w h =
    let r : Owner → RegSession = λ (v : Owner). rounds_for c o k id v in
    ap (λ (v : Owner). launches (with_owner s o w) o (session.Register (r v)) (awaited (round_requests (r v)))) (put_there s o w h)
    ∙ ap (λ (t : State). sends t o (awaited (round_requests (r w)))) (launches_so s o (session.Register (r w)) w h)

-- a call sends its own first round
pub call_launches : (c : Config) (s : State) (o : ℕ) (at : Reading) (op : Op) (w : Owner) → o < length s.owners → launches_call c (with_owner s o w) o at op ≡ takes_turn c s o (launch_turn c o s.steps at op w)
call_launches c s o at (op.Read key) w h = register_launches c s o (work.Read key) key.service w h
call_launches c s o at (op.Write key value) w h = register_launches c s o (work.Write key value) key.service w h
call_launches c s o at (op.Snap keys) w h =
    let turn : Owner → Turn SnapSession = λ (v : Owner). snap_starts (opening_snapshot (home_of c) o keys (least_of v.works.copy.least (service_of (op.Snap keys))) at) in
    ap (λ (v : Owner). launches (with_owner s o w) o (session.Snapshot (turn v).after) (turn v).outs) (put_there s o w h)
    ∙ ap (λ (t : State). sends t o (turn w).outs) (launches_so s o (session.Snapshot (turn w).after) w h)
call_launches c s o at (op.Txn reads guard writes) w h =
    let turn : Owner → Turn TxnSession = λ (v : Owner). txn_starts (opening_txn (home_of c) o reads guard writes (least_of v.works.copy.least (service_of (op.Txn reads guard writes))) (body_of c v.stage).earliest_end) in
    ap (λ (v : Owner). launches (with_owner s o w) o (session.Transaction (turn v).after) (turn v).outs) (put_there s o w h)
    ∙ ap (λ (t : State). sends t o (turn w).outs) (launches_so s o (session.Transaction (turn w).after) w h)

register_starts : (c : Config) (s : State) (o : ℕ) (at : Reading) (op : Op) (deps : List Dep) (w : Owner) → o < length s.owners → starts_at_register c (with_owner s o w) o at op deps ≡ takes_turn c s o (register_start c o s.steps at op deps w)
register_starts c s o at op [] w h = call_launches c s o at op w h
register_starts c s o at op (dep ∷ deps) w h = fixes_so c s o (service_of op) w h

call_starts : (c : Config) (s : State) (o : ℕ) (at : Reading) (op : Op) (w : Owner) → o < length s.owners → starts_call c (with_owner s o w) o at op ≡ takes_turn c s o (start_turn c o s.steps at op w)
call_starts c s o at (op.Read key) w h =
    ap (λ (v : Owner). starts_at_register c (with_owner s o w) o at (op.Read key) v.works.copy.deps) (put_there s o w h)
    ∙ register_starts c s o at (op.Read key) w.works.copy.deps w h
call_starts c s o at (op.Write key value) w h =
    ap (λ (v : Owner). starts_at_register c (with_owner s o w) o at (op.Write key value) v.works.copy.deps) (put_there s o w h)
    ∙ register_starts c s o at (op.Write key value) w.works.copy.deps w h
call_starts c s o at (op.Snap keys) w h = call_launches c s o at (op.Snap keys) w h
call_starts c s o at (op.Txn reads guard writes) w h = call_launches c s o at (op.Txn reads guard writes) w h

-- a call enters its service first, where its plan says so
enters_before : (s : State) (o : ℕ) (op : Op) (at : Reading) (w : Owner) → o < length s.owners → entered_first (with_owner s o w) o op at ≡ with_owner s o (entered_before s.steps at op w)
enters_before s o op at w h =
    ap (λ (v : Owner). if v.works.enter then enters (with_owner s o w) o (service_of op) at.latest else with_owner s o w) (put_there s o w h)
    ∙ chosen w.works.enter
  where
    chosen : (b : Bool) → (if b then enters (with_owner s o w) o (service_of op) at.latest else with_owner s o w) ≡ with_owner s o (if b then entering s.steps (service_of op) at.latest w else w)
    chosen true = put_then (entering s.steps (service_of op) at.latest) s o w h
    chosen false = refl

works_are_over : (c : Config) (s : State) (o : ℕ) (at : Reading) (w : Owner) (k : OwnerKind) → o < length s.owners → works_over c (with_owner s o w) o at k ≡ takes_turn c s o (works_over_turn c o s.steps at w k)
works_are_over c s o at w (kind.Calling op) h =
    ap (λ (t : State). starts_call c t o at op) (enters_before s o op at w h)
    ∙ call_starts c s o at op (entered_before s.steps at op w) h
works_are_over c s o at w kind.Fencing h = refl
works_are_over c s o at w (kind.Stubbing unsettled) h = refl

-- an owner goes through works
pub goes_so : (c : Config) (s : State) (o : ℕ) (at : Reading) (w : Owner) (works : List (ServiceId × FenceWork)) → o < length s.owners → goes_through c (with_owner s o w) o at works ≡ takes_turn c s o (through_turn c o s.steps at (through at w works))
goes_so c s o at w [] h =
    ap (λ (v : Owner). works_over c (with_owner s o w) o at v.kind) (put_there s o w h)
    ∙ works_are_over c s o at w w.kind h
goes_so c s o at w ((id, Nothing) ∷ works) h =
    ap (λ (t : State). goes_through c t o at works) (put_then (λ (v : Owner). fenced v id) s o w h)
    ∙ goes_so c s o at (fenced w id) works h
goes_so c s o at w ((id, Past time) ∷ works) h =
    passes (nat_lt time at.earliest) (ap (λ (t : State). goes_through c t o at works) (put_then (λ (v : Owner). fenced v id) s o w h) ∙ goes_so c s o at (fenced w id) works h)
  where
    over_time : State
    over_time = with_owner (with_owner s o w) o (fenced (owner_at (with_owner s o w) o) id)

    in_time : State
    in_time = with_owner (with_owner s o w) o (waiting (owner_at (with_owner s o w) o) time)

    passes : (b : Bool) → goes_through c over_time o at works ≡ takes_turn c s o (through_turn c o s.steps at (through at (fenced w id) works)) → (if b then goes_through c over_time o at works else in_time) ≡ takes_turn c s o (through_turn c o s.steps at (if b then through at (fenced w id) works else waits (waiting w time)))
    passes true rest = rest
    passes false rest = put_then (λ (v : Owner). waiting v time) s o w h
goes_so c s o at w ((id, Fix) ∷ works) h = fixes_so c s o id w h

-- the first of its works has ended
pub work_ends : (c : Config) (s : State) (o : ℕ) (at : Reading) (w : Owner) (works : List (ServiceId × FenceWork)) → o < length s.owners → ends_work c (with_owner s o w) o at works ≡ takes_turn c s o (work_turn c o s.steps at w works)
work_ends c s o at w [] h = refl
work_ends c s o at w (x ∷ works) h =
    ap (λ (t : State). goes_through c t o at works) (put_then (λ (v : Owner). fenced v x.0) s o w h)
    ∙ goes_so c s o at (fenced w x.0) works h

-- an owner that was put goes on with its works
pub begins_so : (c : Config) (s : State) (o : ℕ) (at : Reading) (w : Owner) → o < length s.owners → goes_on_with_works c (with_owner s o w) o at ≡ takes_turn c s o (begin_turn c o s.steps at w)
begins_so c s o at w h =
    ap (λ (v : Owner). goes_through c (with_owner s o w) o at v.works.left) (put_there s o w h)
    ∙ goes_so c s o at w w.works.left h

pub beginning_is_a_turn : BeginningIsATurn
beginning_is_a_turn c s o at h =
    ap (λ (t : State). goes_on_with_works c t o at) (sym (same_put s o h))
    ∙ begins_so c s o at (owner_at s o) h
