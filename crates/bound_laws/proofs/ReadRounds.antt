-- A read has one round of its own, and a write two.
use Rattle.std.proofs.Common.{◌≡◌, ℕ, ◌+◌, ◌<◌, ◌≤◌, List, Some, sym, ◌∙◌, arith}
use Rattle.rss_names.specs.declared.service.Key.{Key}
use Rattle.rss_names.specs.declared.service.ServiceId.{ServiceId}
use Rattle.rss_names.specs.declared.service.Target.TheVariants.{Replica}
use Rattle.pipeline_lang.specs.declared.config.Config.{Config}
use Rattle.rss_model.specs.declared.op.Op.TheVariants as op
use Rattle.rss_tables.specs.Losses.{losses_of, replica_place, target_count}
use Rattle.rss_tables.specs.declared.register_session.RegPhase.{RegPhase}
use Rattle.rss_tables.specs.declared.register_session.RegPhase.TheVariants as phase
use Rattle.rss_tables.specs.declared.register_session.RegWork.{RegWork}
use Rattle.rss_tables.specs.declared.register_session.RegWork.TheVariants as work
use Rattle.rss_machine.specs.Run.{run}
use Rattle.rss_machine.specs.Session.{Session}
use Rattle.rss_machine.specs.State.{State, Owner, owner_at}
use Rattle.rss_machine.specs.declared.session.OwnerKind.{OwnerKind}
use Rattle.rss_machine.specs.declared.session.OwnerKind.TheVariants as kind
use Rattle.rss_machine.specs.declared.session.Session.TheVariants as session
use Rattle.rss_machine.specs.declared.step.Step.{Step}
use Rattle.reg_laws.specs.Agree.{WorkAgrees, Agrees}
use Rattle.reg_laws.proofs.Agree.{agree_run}
use Rattle.bound_laws.specs.Counts.{own_requests, rounds_by, rounds_of}
use Rattle.bound_laws.specs.Laws.{CallsFew}
use Rattle.bound_laws.proofs.Few.{few_run}

write_not_read : (key other : Key) (value : ℕ) → kind.Calling (op.Write key value) ≡ kind.Calling (op.Read other) → ⊥
write_not_read key other value e = cc

work_rounds : (w : RegWork) (p : RegPhase) (k : OwnerKind) (key : Key) → WorkAgrees w k → k ≡ kind.Calling (op.Read key) → rounds_by w p ≤ 1
work_rounds (work.Read other) p k key a e = omega arith
work_rounds (work.Write other value) p k key a e = absurd (write_not_read other key value (sym a ∙ e))
work_rounds (work.Fix deps) p k key a e = omega arith

read_rounds : (w : Owner) (x : Session) (key : Key) → Agrees w x → w.kind ≡ kind.Calling (op.Read key) → rounds_of x ≤ 1
read_rounds w session.Idle key a e = omega arith
read_rounds w (session.Fixing r) key a e = omega arith
read_rounds w (session.Register r) key a e = work_rounds r.work r.phase w.kind key a.of_kind e
read_rounds w (session.Transaction t) key a e = omega arith
read_rounds w (session.Snapshot t) key a e = omega arith
read_rounds w (session.Settling attempt shards) key a e = omega arith

write_rounds : (w : Owner) (x : Session) → rounds_of x ≤ 2
write_rounds w session.Idle = omega arith
write_rounds w (session.Fixing r) = omega arith
write_rounds w (session.Register r) = two r.work r.phase
  where
    two : (w : RegWork) (p : RegPhase) → rounds_by w p ≤ 2
    two (work.Read key) p = omega arith
    two (work.Fix deps) p = omega arith
    two (work.Write key value) phase.Fixing = omega arith
    two (work.Write key value) phase.Asking = omega arith
    two (work.Write key value) phase.Stamping = omega arith
    two (work.Write key value) (phase.Storing stamp) = omega arith
    two (work.Write key value) (phase.Done end) = omega arith
write_rounds w (session.Transaction t) = omega arith
write_rounds w (session.Snapshot t) = omega arith
write_rounds w (session.Settling attempt shards) = omega arith

pub calls_run : (c : Config) (steps : List Step) (s : State) → run c steps ≡ Some s → CallsFew s
calls_run c steps s e = record { reads = reads; writes = writes }
  where
    reads : (o replica : ℕ) (key : Key) (service : ServiceId) → (owner_at s o).kind ≡ kind.Calling (op.Read key) → replica_place service replica < target_count → own_requests o (Replica service replica) s.net ≤ 1 + losses_of (owner_at s o).losses (Replica service replica)
    reads o replica key service f l =
        let d = ((few_run c steps s e).each o).due service replica l in
        let r = read_rounds (owner_at s o) (owner_at s o).session key ((agree_run c steps s e).each o) f in
        omega (arith, d, r)

    writes : (o replica : ℕ) (key : Key) (value : ℕ) (service : ServiceId) → (owner_at s o).kind ≡ kind.Calling (op.Write key value) → replica_place service replica < target_count → own_requests o (Replica service replica) s.net ≤ 2 + losses_of (owner_at s o).losses (Replica service replica)
    writes o replica key value service f l =
        let d = ((few_run c steps s e).each o).due service replica l in
        let r = write_rounds (owner_at s o) (owner_at s o).session in
        omega (arith, d, r)
