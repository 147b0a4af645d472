use Rattle.std.proofs.Common.{◌≡◌, ◌+◌, ◌≤◌, drop}
use Rattle.rss_model.specs.Cursor.{statements_to_end}
use Rattle.pipeline_stage.proofs.script.statements_to_end.Given as goal

-- the statements that were passed and those up to the end are all
abbrev pub invariant-loop-place : goal.invariant-loop-place
invariant-loop-place l = record {
  counted : l.place + statements_to_end l.depth (drop l.place l.statements) ≡ statements_to_end 1 l.statements;
  low : l.depth ≤ l.place + 1;
}
