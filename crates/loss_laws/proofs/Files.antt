-- The laws, of files that give places: then each message to a replica is with a target that has one.
use Rattle.std.proofs.Common.{◌≡◌, ℕ, ◌≤◌, ◌⊎◌, true, List, [], ◌∷◌, ◌++◌, Some, refl, arith}
use Rattle.rss_names.specs.declared.service.ServiceId.TheVariants.{Txn, Reg}
use Rattle.rss_names.specs.declared.service.Target.{Target}
use Rattle.rss_names.specs.declared.service.Target.TheVariants.{Shard, Replica}
use Rattle.pipeline_lang.specs.Config.{replicas_of}
use Rattle.pipeline_lang.specs.declared.config.Config.{Config}
use Rattle.rss_wire.specs.Messages.{message_at}
use Rattle.rss_tables.specs.Losses.{losses_of}
use Rattle.rss_machine.specs.Run.{run}
use Rattle.rss_machine.specs.Standing.{is_running}
use Rattle.rss_machine.specs.State.{State, start, owner_at}
use Rattle.rss_machine.specs.Withheld.{lost_from, IsWithheld}
use Rattle.rss_machine.specs.declared.state.OwnerFate.TheVariants.{CutOff}
use Rattle.rss_machine.specs.declared.step.Step.{Step}
use Rattle.loss_laws.specs.Laws.{GoesToReplicas, IsCutOff, NothingWithheld, EndsFirst, StagesTell}
use Rattle.world_laws.specs.Targets.{IsService, HasPlace, GivesPlaces, ShardsHavePlaces}
use Rattle.loss_laws.proofs.Near.{replicas_within}
use Rattle.loss_laws.proofs.Places.{IsTarget, AreTargets}
use Rattle.loss_laws.proofs.Runs.{losses_counted}
use Rattle.loss_laws.proofs.Withheld.{was_withheld, nothing_withheld, cut_or_nothing, ends_first, stages_tell}

are_targets : (c : Config) (steps : List Step) (s : State) → run c steps ≡ Some s → GivesPlaces c → ShardsHavePlaces s → AreTargets c s
are_targets c steps s e l p m z i = by_target (message_at s.net m).envelope.target refl
  where
    no_replica : (replica n : ℕ) → 1 ≤ replica → replica ≤ n → n ≡ 0 → ⊥
    no_replica replica n a b d = omega (arith, a, b, d)

    by_target : (target : Target) → (message_at s.net m).envelope.target ≡ target → IsTarget c target
    by_target (Shard shard) f = record { place = p m shard z i f; within = tt }
    by_target (Replica (Reg number) replica) f =
        let w = replicas_within c steps s e m (Reg number) replica f in
        let a = w.0 in
        let b = w.1 in
        let d = l.replicas number in
        let n = l.numbers number (omega (arith, a, b)) in
        record { place = record { service = record { from_one = n.0; few = n.1; replicas = d }; from_one = a; few = omega (arith, b, d) }; within = b }
    by_target (Replica (Txn number) replica) f =
        let w = replicas_within c steps s e m (Txn number) replica f in
        absurd (no_replica replica (replicas_of c (Txn number)) w.0 w.1 (l.others number))

services : (c : Config) → GivesPlaces c → (number : ℕ) → 1 ≤ replicas_of c (Reg number) → IsService c number
services c l number d = record { from_one = (l.numbers number d).0; few = (l.numbers number d).1; replicas = l.replicas number }

pub counted : (c : Config) (steps : List Step) (s : State) (o : ℕ) (target : Target) → run c steps ≡ Some s → GivesPlaces c → ShardsHavePlaces s → HasPlace c target → losses_of (owner_at s o).losses target ≡ lost_from c (start c) steps o target
counted c steps s o target e l p q = losses_counted c steps s o target e l.tries (are_targets c steps s e l p) q

pub withheld : (c : Config) (steps : List Step) (s : State) (o : ℕ) (target : Target) → run c steps ≡ Some s → GivesPlaces c → ShardsHavePlaces s → (owner_at s o).fate ≡ CutOff target → IsWithheld c steps o target
withheld c steps s o target e l p q = was_withheld c steps s e l.tries (are_targets c steps s e l p) o target q

pub nothing : (c : Config) (steps : List Step) (s : State) (o : ℕ) → run c steps ≡ Some s → GivesPlaces c → ShardsHavePlaces s → is_running (owner_at s o).fate ≡ true → NothingWithheld c steps o
nothing c steps s o e l p r = nothing_withheld c steps s e l.tries (are_targets c steps s e l p) o (services c l) r

pub cut_off : (c : Config) (steps : List Step) (s : State) (o : ℕ) → run c steps ≡ Some s → GivesPlaces c → ShardsHavePlaces s → IsCutOff s o ⊎ NothingWithheld c steps o
cut_off c steps s o e l p = cut_or_nothing c steps s e l.tries (are_targets c steps s e l p) o (services c l)

pub ends : (c : Config) (steps : List Step) (step : Step) (s t : State) (o : ℕ) → run c steps ≡ Some s → run c (steps ++ step ∷ []) ≡ Some t → GivesPlaces c → ShardsHavePlaces t → is_running (owner_at s o).fate ≡ true → EndsFirst c steps step t o
ends c steps step s t o e f l p r = ends_first c steps step s t o e f l.tries (are_targets c (steps ++ step ∷ []) t f l p) (services c l) r

pub stages : (c : Config) (steps : List Step) (s : State) → run c steps ≡ Some s → GivesPlaces c → ShardsHavePlaces s → StagesTell c steps s
stages c steps s e l p = stages_tell c steps s e l.tries (are_targets c steps s e l p)

-- the replicas that messages go to
pub within : (c : Config) (steps : List Step) (s : State) → run c steps ≡ Some s → GoesToReplicas c s
within c steps s e = replicas_within c steps s e
