-- How runs end whose steps are turns of the stages, and those of the serial policy.
use Rattle.std.specs.Prelude.{◌≡◌, ℕ, List, [], Some}
use Rattle.rss_names.specs.declared.service.Target.{Target}
use Rattle.pipeline_lang.specs.declared.config.Config.{Config}
use Rattle.rss_model.specs.declared.history.How.TheVariants.{Killed, Unavailable}
use Rattle.rss_machine.specs.Endings.{ending_of}
use Rattle.rss_machine.specs.Run.{run}
use Rattle.rss_machine.specs.Serial.{serial, strays}
use Rattle.rss_machine.specs.State.{State, stage_at, owner_at}
use Rattle.rss_machine.specs.declared.ending.Ending.TheVariants as ending
use Rattle.rss_machine.specs.declared.state.Life.TheVariants.{Over}
use Rattle.rss_machine.specs.declared.state.OwnerFate.TheVariants.{CutOff}
use Rattle.rss_machine.specs.declared.step.Step.{Step}
use Rattle.world_laws.specs.Shapes.{IsSoundFile}

-- the state to which the steps of the serial policy lead has no step to come, or its log is full
abbrev pub SerialNeverEndsUnfinished : Type 0
SerialNeverEndsUnfinished =
    (c : Config) → IsSoundFile c → (s : State) → run c (serial c) ≡ Some s → ending_of c s ≡ ending.Unfinished → ⊥

-- each of these steps is some stage's turn
abbrev pub AreTurns : Config → List Step → Type 0
AreTurns c steps = strays c steps ≡ 0

-- so is each step of the serial policy
abbrev pub SerialHasNoStrays : Type 0
SerialHasNoStrays = (c : Config) → AreTurns c (serial c)

-- a file that withholds no message and kills no stage
pub record IsCalm (c : Config) : Type 0 where
  pub withholds : c.withholds ≡ []
  pub kills : c.kills ≡ []

-- a stage is not over as killed or unavailable
pub record IsUnhurt (s : State) (n : ℕ) : Type 0 where
  pub alive : (stage_at s n).life ≡ Over Killed → ⊥
  pub available : (stage_at s n).life ≡ Over Unavailable → ⊥

-- an owner was cut off from no target
abbrev pub IsUncut : State → ℕ → Type 0
IsUncut s o = (target : Target) → (owner_at s o).fate ≡ CutOff target → ⊥

-- nobody was hurt: no stage, and no owner
pub record AreUnhurt (s : State) : Type 0 where
  pub stages : (n : ℕ) → IsUnhurt s n
  pub owners : (o : ℕ) → IsUncut s o

-- of a calm file each run of turns hurts nobody
abbrev pub NobodyIsHurt : Type 0
NobodyIsHurt =
    (c : Config) → IsCalm c → (steps : List Step) (s : State) → run c steps ≡ Some s → AreTurns c steps → AreUnhurt s
