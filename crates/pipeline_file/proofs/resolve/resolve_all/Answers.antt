use Rattle.std.proofs.Common.{◌+◌, arith, sym}
use Rattle.std.proofs.lemmas.Grind.{common_steps}
use Rattle.pipeline_tables.proofs.Laws.{turn_ok, turn_err, turn_end, tells_err}
use Rattle.pipeline_file.proofs.Meanings.{each_from_drop, each_from_end}
use Rattle.pipeline_file.proofs.resolve.resolve_all.Goals as goal

pub returns-in_err-meaning-clause-read : goal.returns-in_err-meaning-clause-read
returns-in_err-meaning-clause-read g c =
    let step = each_from_drop (g.T.Resolve.means c.args.known.now) (c.loop-index.index + 1) c.args.rows.now c.loop-index.index c.index-rows-index.result c.loop-index-test.true in
    tells_err c.from_residual.result c.in_err-meaning.field-0.0 _ (turn_err _ _ c.loop-index.meanings c.in_err-meaning.field-0.0 _ _ c.loop-index.invariant.0 (rw (← c.index-rows-index.is) at step) (sym c.in_err-meaning.ensures)) c.from_residual.ensures.1

pub loop-index-preserved : goal.loop-index-preserved
loop-index-preserved g c =
    let step = each_from_drop (g.T.Resolve.means c.args.known.now) (c.loop-index.index + 1) c.args.rows.now c.loop-index.index c.index-rows-index.result c.loop-index-test.true in (
      rw c.in_ok-push.ensures.ok (turn_ok _ _ _ c.loop-index.meanings _ _ c.loop-index.invariant.0 (rw (← c.index-rows-index.is) at step) (sym c.in_ok-meaning.ensures)),
      grind (arith, common_steps),
    )

pub returns-clause-read : goal.returns-clause-read
returns-clause-read g c = turn_end _ _ c.loop-index.meanings c.loop-index.invariant.0 (each_from_end (g.T.Resolve.means c.args.known.now) (c.loop-index.index + 1) c.args.rows.now c.loop-index.index (omega arith))
