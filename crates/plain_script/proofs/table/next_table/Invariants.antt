use Rattle.std.proofs.Common.{◌≡◌, ◌++◌, drop, length}
use Rattle.plain_script.specs.Standing.{next_table}
use Rattle.plain_script.proofs.table.next_table.Given as goal

-- the stages that were passed and those that are left are all
abbrev pub invariant-loop-stage : goal.invariant-loop-stage
invariant-loop-stage l = record {
  table : l.next.items ++ next_table l.config l.h l.place l.told l.stage (drop l.stage l.table) ≡ next_table l.config l.h l.place l.told 0 l.table;
  stages : length l.next.items ≡ l.stage;
}
