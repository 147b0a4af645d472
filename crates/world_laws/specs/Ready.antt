-- What holds of the state of every run of every file that is read, so far as the code of its steps needs it.
use Rattle.std.specs.Prelude.{◌≡◌, ℕ, ◌+◌, ◌^◌, true, List, Some}
use Rattle.std.specs.List.{All}
use Rattle.truetime.specs.Reading.{IsReading}
use Rattle.pipeline_lang.specs.declared.config.Config.{Config}
use Rattle.rss_model.specs.declared.op.Op.{Op}
use Rattle.rss_machine.specs.Run.{run, readings_of}
use Rattle.rss_machine.specs.State.{State, owner_at}
use Rattle.rss_machine.specs.declared.session.OwnerKind.TheVariants as kind
use Rattle.rss_machine.specs.declared.step.Step.{Step}
use Rattle.world_laws.specs.Numbered.{are_numbered}
use Rattle.world_laws.specs.Shapes.{IsSoundFile}
use Rattle.world_laws.specs.Sizes.{FitsSizes, HasRoom}
use Rattle.world_laws.specs.Stamps.{StampsUpTo}
use Rattle.world_laws.specs.Times.{TimesUpTo}
use Rattle.world_laws.specs.Traffic.{MessagesFit, TargetsFit, LinksFit, StubsFit, OperationFits, WorksFit}

-- sizes; stamps numbered up to the steps made; times below the limit of readings and a step for each; and what messages,
-- owners, operations and works are
pub record IsReady (c : Config) (s : State) : Type 0 where
  pub sizes : FitsSizes c s
  pub room : HasRoom c s
  pub stamps : StampsUpTo s.steps s
  pub times : TimesUpTo (2 ^ 62 + s.steps) s
  pub messages : MessagesFit s
  pub targets : TargetsFit c s
  pub links : LinksFit s
  pub stubs : StubsFit s
  pub operations : (o : ℕ) (x : Op) → (owner_at s o).kind ≡ kind.Calling x → OperationFits c x
  pub works : WorksFit c s

-- every state of a run is so, where readings and steps are what they can be
abbrev pub RunsAreReady : Type 0
RunsAreReady =
    (c : Config) (steps : List Step) (s : State) → IsSoundFile c → All IsReading (readings_of steps) → are_numbered steps ≡ true → run c steps ≡ Some s → IsReady c s
