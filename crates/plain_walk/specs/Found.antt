-- What the code finds of a script and of a call.
use Rattle.std.specs.Prelude.{ℕ, List, Option, None, option_map, if◌then◌else◌}
use Rattle.std.specs.List.{slice_get}
use Rattle.rss_names.specs.declared.service.Key.{Key}
use Rattle.pipeline_lang.specs.declared.script.Compare.{Compare}
use Rattle.rss_model.specs.Formula.{guard_value}
use Rattle.rss_model.specs.Cursor.{NumberedStatement}
use Rattle.rss_model.specs.CallStatement.{bound_guard}
use Rattle.rss_model.specs.Walk.{Walk, Mode, unborn, ready, in_call, over}

-- between statements what is found, and else nothing
abbrev pub found_in : Mode → Option NumberedStatement → Option NumberedStatement
found_in unborn found = None
found_in ready found = found
found_in (in_call call) found = None
found_in (over how owed) found = None

-- the statement that comes next, if the walk is before one that stands in the script
abbrev pub found_statement : List NumberedStatement → Walk → Option NumberedStatement
found_statement script w = found_in w.mode (slice_get script w.cursor.position)

-- the status that a guard sets
abbrev pub status_by : List (ℕ × Key) → List ℕ → List ℕ → Compare ℕ → ℕ
status_by pairs variables values guard =
    if guard_value (bound_guard pairs variables guard) values then 0 else 1

-- the status that a transaction sets, if it has a guard
abbrev pub verdict_of : Option (Compare ℕ) → List (ℕ × Key) → List ℕ → List ℕ → Option ℕ
verdict_of guard pairs variables values = option_map (status_by pairs variables values) guard
