-- What holds of losses in every run.
use Rattle.std.specs.Prelude.{◌≡◌, ℕ, ◌≤◌, true, ◌⊎◌, ◌++◌, [], ◌∷◌, false, List, Some}
use Rattle.rss_names.specs.declared.service.ServiceId.{ServiceId}
use Rattle.rss_names.specs.declared.service.ServiceId.TheVariants.{Reg}
use Rattle.rss_names.specs.declared.service.Target.{Target}
use Rattle.rss_names.specs.declared.service.Target.TheVariants.{Shard, Replica}
use Rattle.pipeline_lang.specs.Config.{replicas_of}
use Rattle.rss_wire.specs.Messages.{message_at}
use Rattle.pipeline_lang.specs.declared.config.Config.{Config}
use Rattle.rss_model.specs.declared.history.How.TheVariants.{Unavailable}
use Rattle.rss_tables.specs.Losses.{losses_of}
use Rattle.rss_tables.specs.declared.endings.StubEnd.TheVariants.{Unfenced}
use Rattle.rss_machine.specs.Run.{run}
use Rattle.rss_machine.specs.Standing.{is_running, stub_end_of}
use Rattle.rss_machine.specs.State.{State, start, stage_at, owner_at}
use Rattle.rss_machine.specs.Withheld.{lost_from, is_target_withheld, is_quorum_withheld, IsWithheld, HurtBy}
use Rattle.rss_machine.specs.declared.state.Life.TheVariants.{Over}
use Rattle.rss_machine.specs.declared.state.OwnerFate.TheVariants.{CutOff}
use Rattle.rss_machine.specs.declared.step.Step.{Step}
use Rattle.world_laws.specs.Targets.{IsShard, HasPlace, GivesPlaces, ShardsHavePlaces}

-- each message to a replica goes to one of its service's in the file
abbrev pub GoesToReplicas : Config → State → Type 0
GoesToReplicas c s =
    (m : ℕ) (service : ServiceId) (replica : ℕ) → (message_at s.net m).envelope.target ≡ Replica service replica → (1 ≤ replica) × (replica ≤ replicas_of c service)

abbrev pub MessagesGoToReplicas : Type 0
MessagesGoToReplicas = (c : Config) (steps : List Step) (s : State) → run c steps ≡ Some s → GoesToReplicas c s

-- the count that an owner keeps of a target is the number of its messages with it that the steps lost while it ran
abbrev pub LossesAreCounted : Type 0
LossesAreCounted =
    (c : Config) (steps : List Step) (s : State) (o : ℕ) (target : Target) → run c steps ≡ Some s → GivesPlaces c → ShardsHavePlaces s → HasPlace c target → losses_of (owner_at s o).losses target ≡ lost_from c (start c) steps o target

-- an owner that was cut off from a target had that shard withheld, or a quorum of that replica's service
abbrev pub UnavailableWereWithheld : Type 0
UnavailableWereWithheld =
    (c : Config) (steps : List Step) (s : State) (o : ℕ) (target : Target) → run c steps ≡ Some s → GivesPlaces c → ShardsHavePlaces s → (owner_at s o).fate ≡ CutOff target → IsWithheld c steps o target

-- the steps withheld no shard from an owner, and no quorum of a register service of the file
pub record NothingWithheld (c : Config) (steps : List Step) (o : ℕ) : Type 0 where
  pub shards : (shard : ℕ) → IsShard shard → is_target_withheld c steps o (Shard shard) ≡ false
  pub quorums : (number : ℕ) → 1 ≤ replicas_of c (Reg number) → is_quorum_withheld c steps o (Reg number) ≡ false

-- an owner that runs has nothing withheld
abbrev pub WithheldAreUnavailable : Type 0
WithheldAreUnavailable =
    (c : Config) (steps : List Step) (s : State) (o : ℕ) → run c steps ≡ Some s → GivesPlaces c → ShardsHavePlaces s → is_running (owner_at s o).fate ≡ true → NothingWithheld c steps o

-- an owner was cut off from a target
pub record IsCutOff (s : State) (o : ℕ) : Type 0 where
  pub target : Target
  pub cut : (owner_at s o).fate ≡ CutOff target

-- whatever became of it, an owner was cut off, or nothing was withheld from it
abbrev pub CutOffOrNothingWithheld : Type 0
CutOffOrNothingWithheld =
    (c : Config) (steps : List Step) (s : State) (o : ℕ) → run c steps ≡ Some s → GivesPlaces c → ShardsHavePlaces s → IsCutOff s o ⊎ NothingWithheld c steps o

-- of an owner that runs before a step that leads to this state: nothing was withheld from it yet; where the step
-- cuts it off, that target is withheld now; and where the step does not, nothing is
pub record EndsFirst (c : Config) (steps : List Step) (step : Step) (t : State) (o : ℕ) : Type 0 where
  pub before : NothingWithheld c steps o
  pub cut : (target : Target) → (owner_at t o).fate ≡ CutOff target → IsWithheld c (steps ++ step ∷ []) o target
  pub uncut : ((target : Target) → (owner_at t o).fate ≡ CutOff target → ⊥) → NothingWithheld c (steps ++ step ∷ []) o

-- an owner ends cut off in the step in which something is withheld from it first, and in no other
abbrev pub OwnersEndAsWithheld : Type 0
OwnersEndAsWithheld =
    (c : Config) (steps : List Step) (step : Step) (s t : State) (o : ℕ) → run c steps ≡ Some s → run c (steps ++ step ∷ []) ≡ Some t → GivesPlaces c → ShardsHavePlaces t → is_running (owner_at s o).fate ≡ true → EndsFirst c steps step t o

-- the stub of a stage, cut off from a target, which was withheld from it
pub record UnfencedBy (c : Config) (steps : List Step) (s : State) (n : ℕ) (target : Target) : Type 0 where
  pub stub : ℕ
  pub of_stage : (stage_at s n).stub ≡ Some stub
  pub cut : (owner_at s stub).fate ≡ CutOff target
  pub withheld : IsWithheld c steps stub target

-- a stage is over as unavailable, and its stub ends unfenced, only where something was withheld
pub record StagesTell (c : Config) (steps : List Step) (s : State) : Type 0 where
  pub unavailable : (n : ℕ) → (stage_at s n).life ≡ Over Unavailable → HurtBy c steps s n
  pub unfenced : (n : ℕ) (target : Target) → stub_end_of s (stage_at s n).stub ≡ Some (Unfenced target) → UnfencedBy c steps s n target

abbrev pub StagesTellWithheld : Type 0
StagesTellWithheld = (c : Config) (steps : List Step) (s : State) → run c steps ≡ Some s → GivesPlaces c → ShardsHavePlaces s → StagesTell c steps s
