use Rattle.std.proofs.Common.{◌≡◌, map, length}
use Rattle.std.specs.List.{range_with_len}
use Rattle.plain_script.specs.Standing.{first_states}
use Rattle.plain_script.proofs.table.first_table.Given as goal

-- the walks of the stages so far
abbrev pub invariant-loop-stage : goal.invariant-loop-stage
invariant-loop-stage l = record {
  table : l.table.items ≡ map (first_states l.config) (range_with_len 0 l.stage);
  stages : length l.table.items ≡ l.stage;
}
