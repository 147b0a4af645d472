-- What there must be room for, so that a step of a kind takes no memory.
use Rattle.std.specs.Prelude.{◌≡◌, ℕ, ◌+◌, ◌<◌, ◌≤◌, false, Some, None, vec_len, vec_capacity}
use Rattle.truetime.specs.Reading.{Reading}
use Rattle.rss_wire.specs.Messages.{message_at, request_at}
use Rattle.rss_machine.specs.Effect.{waking_line}
use Rattle.rss_machine.specs.Enabling.{next_statement}
use Rattle.rss_machine.specs.State.{stage_at, owner_at}
use Rattle.rss_machine.specs.declared.step.Step.{Step}
use Rattle.rss_machine.specs.declared.step.StepKind.{StepKind}
use Rattle.rss_machine.specs.declared.step.StepKind.TheVariants.{Act, Go, Lose, Again, Kill, Stub}
use Rattle.turn_laws.specs.Turns.{act_turn, stub_turn, lines_in}
use Rattle.world_laws.specs.Calls.{is_stub}
use Rattle.world_parts.specs.Parts.{owner_in}
use Rattle.world_traffic.specs.View.{HasTurnRoom, IsQuiet}
use Rattle.world_machine.specs.declared.clock.Clock.{Clock}
use Rattle.world_machine.specs.declared.machine.Machine.{Machine}
use Rattle.world_machine.specs.Acts.{counted}
use Rattle.world_machine.specs.Clock.{clock_in, ticked}
use Rattle.world_machine.specs.Ending.{CanEnd}
use Rattle.world_machine.specs.Hearing.{ComeRoom}
use Rattle.world_machine.specs.Machine.{state_of}
use Rattle.world_machine.specs.Rooms.{StatementRoom, DeathRoom}

-- an act of a stage: for its statement, or for the end of its owner's turn
pub record ActRoom (m : Machine) (n : ℕ) (at : Reading) : Type 0 where
  pub idle : (stage_at (state_of m) n).owner ≡ None → StatementRoom (counted m n) n at (next_statement m.config (state_of (counted m n)) n)
  pub turn : (o : ℕ) → (stage_at (state_of m) n).owner ≡ Some o → HasTurnRoom m.config at m.traffic o None
  pub ends : (o : ℕ) → (stage_at (state_of m) n).owner ≡ Some o → CanEnd (counted m n) o (act_turn m.config o m.clock.steps at (waking_line (state_of m) (lines_in (owner_at (state_of m) o).session)) (owner_at (state_of m) o)).ending

-- a loss: the request once more, and where it can end a stage, for its death
pub record LossRoom (m : Machine) (number : ℕ) : Type 0 where
  pub messages : 0 < m.traffic.messages
  pub again : m.traffic.again ≡ request_at m.traffic.traffic.net (message_at m.traffic.traffic.net number).envelope.exchange
  pub death : is_stub (owner_in m.traffic.traffic (message_at m.traffic.traffic.net number).envelope.owner).kind ≡ false → DeathRoom m (owner_in m.traffic.traffic (message_at m.traffic.traffic.net number).envelope.owner).stage

-- a step of a stub: for the end of its turn
pub record SettleRoom (m : Machine) (n : ℕ) (at : Reading) : Type 0 where
  pub turn : (o : ℕ) → (stage_at (state_of m) n).stub ≡ Some o → HasTurnRoom m.config at m.traffic o None
  pub ends : (o : ℕ) → (stage_at (state_of m) n).stub ≡ Some o → CanEnd m o (stub_turn m.config o m.clock.steps at (owner_at (state_of m) o)).ending

abbrev pub StepRoom : Machine → Reading → StepKind → Type 0
StepRoom m at (Act n) = ActRoom m n at
StepRoom m at (Go number) = ComeRoom m number at
StepRoom m at (Again number) = ComeRoom m number at
StepRoom m at (Lose number) = LossRoom m number
StepRoom m at (Kill n) = DeathRoom m n
StepRoom m at (Stub n) = SettleRoom m n at

-- a step: its moment is pushed, and its kind is made behind that; nothing is being sent between steps
pub record HasRoom (m : Machine) (step : Step) : Type 0 where
  pub quiet : IsQuiet m.traffic
  pub moments : vec_len m.clock.moments + 1 ≤ vec_capacity m.clock.moments
  pub kind : (k : Clock) → clock_in k ≡ ticked (clock_in m.clock) step.at → StepRoom (record m { clock = k }) step.at step.kind
