-- How many requests calls send, in every run.
use Rattle.std.specs.Prelude.{◌≡◌, ℕ, ◌+◌, ◌*◌, ◌<◌, ◌≤◌, List, [], ◌∷◌, ◌++◌, length, Some}
use Rattle.rss_names.specs.declared.service.Key.{Key}
use Rattle.rss_names.specs.declared.service.ServiceId.{ServiceId}
use Rattle.rss_names.specs.declared.service.Target.TheVariants.{Replica}
use Rattle.pipeline_lang.specs.declared.config.Config.{Config}
use Rattle.rss_model.specs.declared.op.Op.TheVariants as op
use Rattle.rss_tables.specs.Losses.{losses_of, replica_place, target_count}
use Rattle.rss_machine.specs.Effect.{stepped}
use Rattle.rss_machine.specs.Run.{run}
use Rattle.rss_machine.specs.State.{State, stage_at, owner_at}
use Rattle.rss_machine.specs.declared.session.OwnerKind.TheVariants as kind
use Rattle.rss_machine.specs.declared.step.Step.{Step}
use Rattle.bound_laws.specs.Counts.{own_requests, requests_to, requests_to_all, losses_with_all}

-- a read has sent to a replica at most one request of its own round, and one for each loss with it; a
-- write at most two, and one for each loss
pub record CallsFew (s : State) : Type 0 where
  pub reads : (o replica : ℕ) (key : Key) (service : ServiceId) → (owner_at s o).kind ≡ kind.Calling (op.Read key) → replica_place service replica < target_count
      → own_requests o (Replica service replica) s.net ≤ 1 + losses_of (owner_at s o).losses (Replica service replica)
  pub writes : (o replica : ℕ) (key : Key) (value : ℕ) (service : ServiceId) → (owner_at s o).kind ≡ kind.Calling (op.Write key value) → replica_place service replica < target_count
      → own_requests o (Replica service replica) s.net ≤ 2 + losses_of (owner_at s o).losses (Replica service replica)

abbrev pub OwnRoundsAreFew : Type 0
OwnRoundsAreFew = (c : Config) (steps : List Step) (s : State) → run c steps ≡ Some s → CallsFew s

-- the owner of a number begins in the step that follows a state, and its stage's context has no dependency then
pub record BeginsClean (c : Config) (u : State) (next : Step) (s : State) (o : ℕ) : Type 0 where
  pub number : o ≡ length u.owners
  pub begins : o < length (stepped c u next).owners
  pub clean : (stage_at u (owner_at s o).stage).context.deps ≡ []

-- so all its requests are few: those to a replica, and those to the first n replicas of a service together
pub record AllFew (s : State) (o : ℕ) : Type 0 where
  pub reads : (replica : ℕ) (key : Key) (service : ServiceId) → (owner_at s o).kind ≡ kind.Calling (op.Read key) → replica_place service replica < target_count
      → requests_to o (Replica service replica) s.net ≤ 1 + losses_of (owner_at s o).losses (Replica service replica)
  pub writes : (replica : ℕ) (key : Key) (value : ℕ) (service : ServiceId) → (owner_at s o).kind ≡ kind.Calling (op.Write key value) → replica_place service replica < target_count
      → requests_to o (Replica service replica) s.net ≤ 2 + losses_of (owner_at s o).losses (Replica service replica)
  pub reads_together : (n : ℕ) (key : Key) (service : ServiceId) → (owner_at s o).kind ≡ kind.Calling (op.Read key) → replica_place service n < target_count
      → requests_to_all o service n s.net ≤ n + losses_with_all (owner_at s o).losses service n
  pub writes_together : (n : ℕ) (key : Key) (value : ℕ) (service : ServiceId) → (owner_at s o).kind ≡ kind.Calling (op.Write key value) → replica_place service n < target_count
      → requests_to_all o service n s.net ≤ 2 * n + losses_with_all (owner_at s o).losses service n

abbrev pub ReadsSendFew : Type 0
ReadsSendFew =
    (c : Config) (steps more : List Step) (next : Step) (u s : State) (o : ℕ) → run c steps ≡ Some u → run c (steps ++ next ∷ more) ≡ Some s → BeginsClean c u next s o → AllFew s o
