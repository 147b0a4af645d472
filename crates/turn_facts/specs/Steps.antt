-- What a step of the machine needs of the state before it, besides what turns of owners need: it holds in every run of a sound
-- file.
use Rattle.std.specs.Prelude.{◌≡◌, ℕ, ◌+◌, ◌<◌, ◌≤◌, ◌^◌, true, List, length, get_or, Some}
use Rattle.std.specs.List.{All}
use Rattle.truetime.specs.Reading.{IsReading}
use Rattle.rss_names.specs.declared.attempt.Attempt.{Attempt}
use Rattle.pipeline_lang.specs.declared.config.Config.{Config}
use Rattle.rss_wire.specs.declared.messages.Holder.{Holder}
use Rattle.rss_tables.specs.Lines.{no_line, asleep_on}
use Rattle.rss_machine.specs.Enabling.{next_statement}
use Rattle.rss_machine.specs.Run.{run, readings_of}
use Rattle.rss_machine.specs.Session.{left_unsettled}
use Rattle.rss_machine.specs.Standing.{is_live}
use Rattle.rss_machine.specs.State.{State, stage_at, owner_at}
use Rattle.rss_machine.specs.declared.session.OwnerKind.TheVariants as kind
use Rattle.rss_machine.specs.declared.step.Step.{Step}
use Rattle.pipeline_stage.specs.Statements.{opens_block}
use Rattle.owner_turns.specs.Asked.{awaited_in}
use Rattle.owner_turns.specs.Whole.{KindFits}
use Rattle.turn_laws.specs.Turns.{lines_in}
use Rattle.world_laws.specs.Numbered.{are_numbered}
use Rattle.world_laws.specs.Shapes.{IsSoundFile}

-- a stage that lives can open the block that comes next; lines sleep for calls, at shards that are there; place 0 holds no stub;
-- what an owner leaves to settle fits; a cursor can go on to the next place, and a stage to its next act; stages are few
pub record StepFacts (c : Config) (s : State) : Type 0 where
  pub shallow : (n : ℕ) → 1 ≤ n → is_live (stage_at s n).life ≡ true → opens_block (next_statement c s n) ≡ true → length (stage_at s n).cursor.blocks < 4
  pub holders : (o place : ℕ) (h : Holder) → asleep_on (get_or (lines_in (owner_at s o).session) place no_line).state ≡ Some h → h.coordinator ≤ length s.shards
  pub first : (owner_at s 0).kind ≡ kind.Fencing
  pub left : (o : ℕ) → KindFits (kind.Stubbing (left_unsettled (owner_at s o).session))
  pub positions : (n : ℕ) → (stage_at s n).cursor.position + 1 < 2 ^ 64
  pub calls : (o : ℕ) (a : Attempt) → awaited_in (lines_in (owner_at s o).session) ≡ Some a → 1 ≤ a.call
  pub stages : length s.stages ≤ 16
  pub acts : (n : ℕ) → (stage_at s n).acts + 1 < 2 ^ 32

-- every state of a run keeps it
abbrev pub RunsKeepStepFacts : Type 0
RunsKeepStepFacts =
    (c : Config) (steps : List Step) (s : State) → IsSoundFile c → All IsReading (readings_of steps) → are_numbered steps ≡ true → run c steps ≡ Some s → StepFacts c s
