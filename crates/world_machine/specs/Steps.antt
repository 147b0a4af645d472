-- What the steps of each kind need.
use Rattle.std.specs.Prelude.{◌≡◌, ℕ, ◌+◌, ◌<◌, ◌≤◌, Some, None, IsTrue, vec_len, vec_capacity}
use Rattle.truetime.specs.Reading.{Reading}
use Rattle.truetime.specs.TrueMoment.{admits}
use Rattle.rss_wire.specs.Net.{deliver_refusal, again_refusal}
use Rattle.rss_machine.specs.State.{stage_at, owner_at}
use Rattle.rss_machine.specs.declared.step.Step.{Step}
use Rattle.rss_machine.specs.declared.step.StepKind.{StepKind}
use Rattle.rss_machine.specs.declared.step.StepKind.TheVariants.{Act, Go, Lose, Again, Kill, Stub}
use Rattle.turn_facts.specs.Facts.{TurnFacts}
use Rattle.world_traffic.specs.View.{IsQuiet}
use Rattle.world_machine.specs.declared.clock.Clock.{Clock}
use Rattle.world_machine.specs.declared.machine.Machine.{Machine}
use Rattle.world_machine.specs.Acts.{CanAct}
use Rattle.world_machine.specs.Clock.{clock_in, ticked}
use Rattle.world_machine.specs.Dying.{OwnersFit}
use Rattle.world_machine.specs.Hearing.{ComeRoom}
use Rattle.world_machine.specs.Losing.{CanBear}
use Rattle.world_machine.specs.Machine.{state_of}
use Rattle.world_machine.specs.Ready.{IsReady}
use Rattle.world_machine.specs.Rooms.{DeathRoom}
use Rattle.world_machine.specs.Turning.{CanStub}

-- a message that is delivered, or once more
pub record CanDeliver (m : Machine) (number : ℕ) (at : Reading) : Type 0 where
  pub ready : IsReady m
  pub facts : TurnFacts m.config (state_of m)
  pub quiet : IsQuiet m.traffic
  pub pending : deliver_refusal m.traffic.traffic.net number ≡ None
  pub room : ComeRoom m number at

pub record CanRepeat (m : Machine) (number : ℕ) (at : Reading) : Type 0 where
  pub ready : IsReady m
  pub facts : TurnFacts m.config (state_of m)
  pub quiet : IsQuiet m.traffic
  pub delivered : again_refusal m.traffic.traffic.net number ≡ None
  pub room : ComeRoom m number at

-- a stage that is killed
pub record CanKill (m : Machine) (n : ℕ) : Type 0 where
  pub owners : OwnersFit m n
  pub room : DeathRoom m n

-- a stub that goes on
pub record CanSettle (m : Machine) (n : ℕ) (at : Reading) : Type 0 where
  pub takes : (o : ℕ) → (stage_at (state_of m) n).stub ≡ Some o → CanStub m o at

-- a step of this kind
abbrev pub CanDo : Machine → Reading → StepKind → Type 0
CanDo m at (Act n) = CanAct m n at
CanDo m at (Go number) = CanDeliver m number at
CanDo m at (Again number) = CanRepeat m number at
CanDo m at (Lose number) = CanBear m number
CanDo m at (Kill n) = CanKill m n
CanDo m at (Stub n) = CanSettle m n at

-- a step, which is counted first
pub record CanTake (m : Machine) (step : Step) : Type 0 where
  pub steps : m.clock.steps < 200000
  pub admitted : IsTrue (admits m.clock.moment step.at)
  pub room : vec_len m.clock.moments + 1 ≤ vec_capacity m.clock.moments
  pub kind : (k : Clock) → clock_in k ≡ ticked (clock_in m.clock) step.at → CanDo (record m { clock = k }) step.at step.kind
