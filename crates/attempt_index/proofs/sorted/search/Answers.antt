use Rattle.std.proofs.Common.{sym, ◌∙◌}
use Rattle.attempt_index.proofs.Searching.{found-here, found-before, found-last}
use Rattle.attempt_index.proofs.sorted.search.Goals as goal
use Rattle.attempt_index.proofs.sorted.search.Goals.{else-place-list-via-then-place-list+else-not-is_before, else-place-list-via-else-place-list}

pub returns-then-not-is_before-clause-found : goal.returns-then-not-is_before-clause-found
returns-then-not-is_before-clause-found g c =
    let free = sym c.is_before.ensures ∙ c.if-not-is_before.true in
    found-here g.T.Ordered.before c.args.list.now c.args.item.now c.index-list-place.result c.place_of-place.result c.place_of-place.ensures.place c.if-place-list.true (rw c.index-list-place.is at free)

pub returns-clause-found : goal.returns-clause-found
returns-clause-found g c =
    elim c.else-place-list.branch [ else-place-list-via-then-place-list+else-not-is_before w ↦ found-before g.T.Ordered.before c.args.list.now c.args.item.now w.index-list-place.result c.place_of-place.result c.place_of-place.ensures.place w.if-place-list.true (rw w.index-list-place.is at (sym w.is_before.ensures ∙ w.if-not-is_before.false)) | else-place-list-via-else-place-list w ↦ found-last g.T.Ordered.before c.args.list.now c.args.item.now c.place_of-place.result c.place_of-place.ensures.place w.if-place-list.false ]
