use Rattle.std.proofs.Common.{◌+◌, arith}
use Rattle.std.proofs.lemmas.Grind.{common_steps}
use Rattle.toml.specs.View.{view}
use Rattle.pipeline_tables.specs.Lists.{row_in}
use Rattle.pipeline_tables.proofs.Laws.{rows_from_drop, rows_from_end, turn_ok, turn_err, turn_end, tells_on}
use Rattle.pipeline_tables.proofs.row.rows.Goals as goal

pub returns-in_err-row-clause-read : goal.returns-in_err-row-clause-read
returns-in_err-row-clause-read g c =
    let step = rows_from_drop (g.R.Row.says c.args.root.now) c.args.place (c.loop-index.index + 1) c.args.values.now c.loop-index.index c.index-values-index.result c.loop-index-test.true in
    tells_on c.in_err-row.field-0.0 c.from_residual.result (row_in (g.R.Row.says c.args.root.now) c.args.place (c.loop-index.index + 1) (view c.index-values-index.result)) _ c.in_err-row.ensures
    (λ first s. turn_err _ _ c.loop-index.rows first _ _ c.loop-index.invariant.0 (rw (← c.index-values-index.is) at step) s) c.from_residual.ensures.1

pub loop-index-preserved : goal.loop-index-preserved
loop-index-preserved g c =
    let step = rows_from_drop (g.R.Row.says c.args.root.now) c.args.place (c.loop-index.index + 1) c.args.values.now c.loop-index.index c.index-values-index.result c.loop-index-test.true in (
      rw c.in_ok-push.ensures.ok (turn_ok _ _ _ c.loop-index.rows _ _ c.loop-index.invariant.0 (rw (← c.index-values-index.is) at step) c.in_ok-row.ensures),
      grind (arith, common_steps),
    )

pub returns-clause-read : goal.returns-clause-read
returns-clause-read g c = turn_end _ _ c.loop-index.rows c.loop-index.invariant.0 (rows_from_end (g.R.Row.says c.args.root.now) c.args.place (c.loop-index.index + 1) c.args.values.now c.loop-index.index (omega arith))
