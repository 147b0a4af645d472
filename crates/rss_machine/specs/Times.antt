-- The step of a time and the step of a stamp, over a list of steps and by the notes of a state.
use Rattle.std.specs.Prelude.{ℕ, suc, ◌+◌, Bool, List, [], ◌∷◌, nat_lt, if◌then◌else◌}
use Rattle.std.specs.Option.{unwrap_or}
use Rattle.rss_names.specs.declared.service.Key.{Key}
use Rattle.carstamps.specs.declared.carstamp.Carstamp.{Carstamp}
use Rattle.carstamps.specs.Stamp.{stamp_le, opening_stamp}
use Rattle.pipeline_lang.specs.declared.config.Config.{Config}
use Rattle.rss_machine.specs.Effect.{stepped}
use Rattle.rss_machine.specs.Marks.{is_held, first_mark}
use Rattle.rss_machine.specs.State.{State, start, replicas_at, marks_at}
use Rattle.rss_machine.specs.declared.step.Step.{Step}

-- the first step, counted from this number on, whose true moment is above a time, else one more than the last
abbrev pub first_above : ℕ → ℕ → List ℕ → ℕ
first_above n time [] = n
first_above n time (moment ∷ moments) = if nat_lt time moment then n else first_above (n + 1) time moments

-- the step of a time: the first whose true moment is above it, else one more than the number of steps
abbrev pub step_of_time : State → ℕ → ℕ
step_of_time s time = first_above 1 time s.moments

-- the first of these steps after which a majority of the register's service holds the stamp, else one more than their number
unfoldable pub first_held : Config → State → List Step → Key → Carstamp → ℕ
first_held c s [] key stamp = 1
first_held c s (step ∷ steps) key stamp =
    if is_held (replicas_at (stepped c s step) key.service) key stamp then 1 else suc (first_held c (stepped c s step) steps key stamp)

-- the step of a stamp over a list of steps; 0 for the stamp of an opening value
abbrev pub step_of_stamp : Config → List Step → Key → Carstamp → ℕ
step_of_stamp c steps key stamp =
    if stamp_le stamp opening_stamp then 0 else first_held c (start c) steps key stamp

-- the same by the marks of a state
abbrev pub marked_step : State → Key → Carstamp → ℕ
marked_step s key stamp =
    if stamp_le stamp opening_stamp then 0 else unwrap_or (first_mark (marks_at s key) stamp) (s.steps + 1)
