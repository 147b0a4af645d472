-- What the turns of owners need of the state before them: it holds in every run of a sound file.
use Rattle.std.specs.Prelude.{◌≡◌, ℕ, ◌<◌, true, List, Some, None}
use Rattle.std.specs.List.{All}
use Rattle.truetime.specs.Reading.{Reading, IsReading}
use Rattle.pipeline_lang.specs.declared.config.Config.{Config}
use Rattle.rss_model.specs.CallStatement.{op_of_statement}
use Rattle.rss_model.specs.declared.op.Op.{Op}
use Rattle.rss_machine.specs.Enabling.{next_statement}
use Rattle.rss_machine.specs.Refusal.{kind_refusal}
use Rattle.rss_machine.specs.Run.{run, readings_of}
use Rattle.rss_machine.specs.Slots.{slot_in}
use Rattle.rss_machine.specs.State.{State, Owner, stage_at, owner_at}
use Rattle.rss_machine.specs.declared.session.OwnerKind.TheVariants as kind
use Rattle.rss_machine.specs.declared.step.Step.{Step}
use Rattle.rss_machine.specs.declared.step.StepKind.TheVariants.{Stub}
use Rattle.owner_sessions.specs.Rounds.{HearsSmallStamps}
use Rattle.owner_turns.specs.Going.{SlotFits, AttemptsFit, HomesFit, may_start}
use Rattle.owner_turns.specs.Whole.{KindFits, OpFits, FewReplicas}
use Rattle.turn_laws.specs.Few.{IsFew}
use Rattle.turn_laws.specs.Turns.{begin_turn}
use Rattle.turn_sizes.specs.Sizes.{FewTurns}
use Rattle.world_laws.specs.Numbered.{are_numbered}
use Rattle.world_laws.specs.Shapes.{IsSoundFile}
use Rattle.world_traffic.specs.Turned.{said_in}

-- an operation that a stage can begin: it fits, and its keys have homes
pub record CanBegin (c : Config) (x : Op) : Type 0 where
  pub fits : OpFits x
  pub homes : HomesFit c (kind.Calling x)

pub record TurnFacts (c : Config) (s : State) : Type 0 where
  pub turns : (o step : ℕ) (at : Reading) → FewTurns c o step at (owner_at s o)
  pub beginnings : (o step : ℕ) (at : Reading) (w : Owner) → IsFew (begin_turn c o step at w)
  pub replicas : FewReplicas c
  pub kinds : (o : ℕ) → KindFits (owner_at s o).kind
  pub homes : (o : ℕ) → HomesFit c (owner_at s o).kind
  pub operations : (n : ℕ) (x : Op) → op_of_statement (next_statement c s n) (stage_at s n).cursor.variables ≡ Some x → CanBegin c x
  pub slots : (o slot exchange : ℕ) → slot_in (owner_at s o).currents exchange ≡ Some slot → (slot < 23) × SlotFits (owner_at s o).session slot
  pub small : (o replica message : ℕ) → HearsSmallStamps (owner_at s o).session replica (said_in s.net message)
  pub attempts : (o : ℕ) → AttemptsFit (owner_at s o).session
  pub stubs : (n o : ℕ) (at : Reading) → kind_refusal c s at (Stub n) ≡ None → (stage_at s n).stub ≡ Some o → may_start (owner_at s o).works.wait (owner_at s o).session ≡ true

-- every state of a run keeps it
abbrev pub RunsKeepTurnFacts : Type 0
RunsKeepTurnFacts =
    (c : Config) (steps : List Step) (s : State) → IsSoundFile c → All IsReading (readings_of steps) → are_numbered steps ≡ true → run c steps ≡ Some s → TurnFacts c s
