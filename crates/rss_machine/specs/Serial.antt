-- The serial policy: one stage after another makes its steps, over a clock that steps on until the end
-- of time.
use Rattle.std.specs.Prelude.{ℕ, zero, suc, ◌+◌, ◌-◌, ◌^◌, max, nat_lt, Bool, true, false, List, [], ◌∷◌, ◌++◌, length, Option, Some, None, if◌then◌else◌}
use Rattle.std.specs.Option.{option_map}
use Rattle.truetime.specs.Reading.{Reading}
use Rattle.pipeline_lang.specs.declared.config.Config.{Config}
use Rattle.rss_tables.specs.declared.endings.Await.{Await}
use Rattle.rss_machine.specs.Effect.{stepped}
use Rattle.rss_machine.specs.State.{State, start}
use Rattle.rss_machine.specs.Turns.{next_for, is_astray}
use Rattle.rss_machine.specs.declared.step.Step.{Step}
use Rattle.rss_machine.specs.declared.step.StepKind.{StepKind}
use Rattle.rss_machine.specs.declared.turn.Turn.{Turn}
use Rattle.rss_machine.specs.declared.turn.Turn.TheVariants as turn

-- a clock that goes on by a tick at each reading, as long as the reading ends below 2^62; a reading
-- reaches half to both sides of its time
pub record Stepping : Type 0 where
  pub now : ℕ
  pub tick : ℕ
  pub half : ℕ

-- the clock of the serial policy
abbrev pub serial_clock : Stepping
serial_clock = record { now = 1000; tick = 10; half = 5 }

-- the reading at a clock's time
abbrev pub reading_of : Stepping → Reading
reading_of clock = record { earliest = clock.now - clock.half; latest = clock.now + clock.half }

-- whether a clock's reading at a time ends below 2^62
abbrev pub can_read_at : Stepping → ℕ → Bool
can_read_at clock time = nat_lt (time + clock.half) (2 ^ 62)

-- the clock after one more reading: it stays as it is where that would reach 2^62
abbrev pub ticked : Stepping → Stepping
ticked clock = if can_read_at clock (clock.now + clock.tick) then record clock { now = clock.now + clock.tick } else clock

-- the clock at a time, if it can read there
abbrev pub moved_to : Stepping → ℕ → Option Stepping
moved_to clock time = if can_read_at clock time then Some (record clock { now = time }) else None

-- the clock after a reading that begins above a time, if there is one
abbrev pub passed : Stepping → ℕ → Option Stepping
passed clock time = moved_to clock (max (clock.now + clock.tick) (time + 1 + clock.half))

-- a step of this kind with the clock's reading, and the clock behind it
abbrev pub step_with : StepKind → Stepping → Step × Stepping
step_with kind clock = (record { kind = kind; at = reading_of clock }, clock)

-- the step of a turn, if it is one; the clock may have no reading above the time that a turn waits for
abbrev pub turn_step : Stepping → Turn → Option (Step × Stepping)
turn_step clock (turn.Step kind) = Some (step_with kind (ticked clock))
turn_step clock (turn.Past kind time) = option_map (step_with kind) (passed clock time)
turn_step clock (turn.Blocked a) = None
turn_step clock turn.Unborn = None
turn_step clock turn.Over = None

-- whether a turn is a step
abbrev pub has_step : Turn → Bool
has_step (turn.Step kind) = true
has_step (turn.Past kind time) = true
has_step (turn.Blocked a) = false
has_step turn.Unborn = false
has_step turn.Over = false

-- the first of these many stages from a number on that has a step; 0 where none has
abbrev pub first_stage : Config → State → ℕ → ℕ → ℕ
first_stage c s n zero = 0
first_stage c s n (suc left) = if has_step (next_for c s n) then n else first_stage c s (n + 1) left

-- the stage whose step is made: the one under way while it has one, and else the first
abbrev pub stage_under_way : Config → State → ℕ → ℕ
stage_under_way c s n =
    if has_step (next_for c s n) then n else first_stage c s 1 (length s.stages)

-- the step of a stage, where there is one
abbrev pub step_of_stage : Config → State → Stepping → ℕ → Option (Step × Stepping)
step_of_stage c s clock zero = None
step_of_stage c s clock (suc n) = turn_step clock (next_for c s (suc n))

-- a step and what follows it, if there is one
abbrev pub followed_by : Option (Step × Stepping) → (Step × Stepping → List Step) → List Step
followed_by None rest = []
followed_by (Some made) rest = made.0 ∷ rest made

-- the steps of the policy from a state on, at most so many, where this stage is under way
unfoldable pub serial_from : ℕ → Config → State → Stepping → ℕ → List Step
serial_from zero c s clock n = []
serial_from (suc left) c s clock n =
    let m = stage_under_way c s n in
    followed_by (step_of_stage c s clock m) (λ made. serial_from left c (stepped c s made.0) made.1 m)

-- the steps of the policy
abbrev pub serial : Config → List Step
serial c = serial_from c.max_steps c (start c) serial_clock 1

-- how many of these steps are astray
unfoldable pub strays_from : Config → State → List Step → ℕ
strays_from c s [] = 0
strays_from c s (step ∷ steps) =
    if is_astray c s step.kind then suc (strays_from c (stepped c s step) steps) else strays_from c (stepped c s step) steps

abbrev pub strays : Config → List Step → ℕ
strays c steps = strays_from c (start c) steps
