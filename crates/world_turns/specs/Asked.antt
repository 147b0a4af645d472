-- What is asked of a machine between two steps.
use Rattle.std.specs.Prelude.{◌≡◌, ℕ, ◌+◌, ◌<◌, ◌≤◌, ◌^◌, length, Option, Some, None}
use Rattle.rss_names.specs.declared.attempt.Attempt.{Attempt}
use Rattle.rss_tables.specs.declared.endings.Await.{Await}
use Rattle.rss_machine.specs.State.{stage_at, owner_at}
use Rattle.rss_machine.specs.declared.turn.Turn.{Turn}
use Rattle.rss_machine.specs.declared.turn.Turn.TheVariants as turn
use Rattle.owner_turns.specs.Asked.{awaited_in}
use Rattle.turn_laws.specs.Turns.{lines_in}
use Rattle.world_machine.specs.declared.machine.Machine.{Machine}
use Rattle.world_machine.specs.Asking.{CanAsk}
use Rattle.world_machine.specs.Machine.{state_of}

-- what a stage waits for, if its turn is to wait
abbrev pub blocked_by : Turn → Option Await
blocked_by (turn.Blocked a) = Some a
blocked_by (turn.Step kind) = None
blocked_by (turn.Past kind time) = None
blocked_by turn.Unborn = None
blocked_by turn.Over = None

-- it may be asked whose turn it is: stages have few acts behind them, and lines wait for calls
pub record CanTell (m : Machine) : Type 0 where
  pub ask : CanAsk m
  pub stages : length m.staging.staging.stages ≤ 16
  pub acts : (n : ℕ) → (stage_at (state_of m) n).acts + 1 < 2 ^ 32
  pub calls : (n o : ℕ) → (stage_at (state_of m) n).owner ≡ Some o → (a : Attempt) → awaited_in (lines_in (owner_at (state_of m) o).session) ≡ Some a → 1 ≤ a.call
