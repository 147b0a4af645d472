-- What the layers above ask of a turn, of an owner and of a log.
use Rattle.std.specs.Prelude.{ℕ, suc, ◌==◌, List, [], ◌∷◌, Option, Some, None, if◌then◌else◌}
use Rattle.rss_names.specs.declared.service.Target.{Target}
use Rattle.rss_machine.specs.declared.state.OwnerFate.{OwnerFate}
use Rattle.rss_machine.specs.declared.state.OwnerFate.TheVariants.{Running, Ended, Dropped, CutOff}
use Rattle.rss_machine.specs.declared.step.Logged.{Logged}

-- the target whose cut ended an owner as unavailable
abbrev pub cut_target : OwnerFate → Option Target
cut_target (CutOff target) = Some target
cut_target Running = None
cut_target Ended = None
cut_target Dropped = None

-- how many steps of a log a driver made
abbrev pub count_by : ℕ → List Logged → ℕ
count_by driver [] = 0
count_by driver (l ∷ log) = if l.driver == driver then suc (count_by driver log) else count_by driver log
