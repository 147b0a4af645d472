use Rattle.history_index.proofs.Indexed.{indexed_step}
use Rattle.history_index.proofs.index.index_history.Goals as goal

pub loop-place-preserved : goal.loop-place-preserved
loop-place-preserved c =
    let kept = c.loop-place.invariant in
    let step = indexed_step c.args.h.now c.loop-place.place c.index-h-place.result c.loop-place.index c.note.new.self c.loop-place-test.true c.index-h-place.is kept.indexed kept.left c.in_ok-note.ensures.noted in
    record { indexed = step.0; left = step.1 }
