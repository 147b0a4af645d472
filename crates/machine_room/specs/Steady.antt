-- Room for the next step, in the words of the parts.
use Rattle.std.specs.Prelude.{◌≡◌, ℕ, ◌+◌, None}
use Rattle.truetime.specs.Reading.{Reading}
use Rattle.rss_wire.specs.Messages.{message_at}
use Rattle.rss_machine.specs.State.{stage_at}
use Rattle.rss_machine.specs.declared.step.StepKind.{StepKind}
use Rattle.rss_machine.specs.declared.step.StepKind.TheVariants.{Act, Go, Lose, Again, Kill, Stub}
use Rattle.rss_machine.specs.Enabling.{next_statement}
use Rattle.world_machine.specs.declared.machine.Machine.{Machine}
use Rattle.world_machine.specs.Acts.{counted}
use Rattle.world_machine.specs.Machine.{state_of}
use Rattle.machine_room.specs.Prepared.{TurnIf, ComeIn, LossIn}
use Rattle.world_machine.specs.Rooms.{DeathIn, StatementRoom}
use Rattle.world_machine.specs.declared.clock.Clock.{Clock}
use Rattle.world_machine.specs.Clock.{clock_in, ticked}

-- an act of a stage: of its call or fence statement, or of its next statement
pub record ActIn (m : Machine) (n : ℕ) (at : Reading) : Type 0 where
  pub owned : TurnIf m.config at m.staging m.traffic (stage_at (state_of m) n).owner
  pub idle : (stage_at (state_of m) n).owner ≡ None → (k : Clock) → clock_in k ≡ ticked (clock_in m.clock) at → StatementRoom (counted (record m { clock = k }) n) n at (next_statement m.config (state_of (counted (record m { clock = k }) n)) n)

abbrev pub KindIn : Machine → Reading → StepKind → Type 0
KindIn m at (Act n) = ActIn m n at
KindIn m at (Go number) = ComeIn m.config at m.staging m.traffic m.stores number (message_at m.traffic.traffic.net number).envelope
KindIn m at (Again number) = ComeIn m.config at m.staging m.traffic m.stores number (message_at m.traffic.traffic.net number).envelope
KindIn m at (Lose number) = LossIn m.staging m.traffic (m.clock.steps + 1) (message_at m.traffic.traffic.net number).envelope
KindIn m at (Kill n) = DeathIn m.staging m.traffic (m.clock.steps + 1) n
KindIn m at (Stub n) = TurnIf m.config at m.staging m.traffic (stage_at (state_of m) n).stub
