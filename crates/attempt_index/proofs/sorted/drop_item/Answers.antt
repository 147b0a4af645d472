use Rattle.std.proofs.Common.{sym, ◌∙◌}
use Rattle.attempt_index.proofs.Searching.{left-by, left-whole, is-nowhere, ascends-left}
use Rattle.attempt_index.proofs.sorted.drop_item.Goals as goal

pub returns-in-Ok-clause-left : goal.returns-in-Ok-clause-left
returns-in-Ok-clause-left g c =
    let found = rw c.deref.ensures.value at c.in-Ok.ensures.found in
    c.remove.ensures.items ∙ left-by g.T.Ordered.before c.args.list.now.items c.args.item.now c.in-Ok.place found

pub returns-in-Ok-clause-ascending : goal.returns-in-Ok-clause-ascending
returns-in-Ok-clause-ascending g c =
    let found = rw c.deref.ensures.value at c.in-Ok.ensures.found in
    rw (c.remove.ensures.items ∙ left-by g.T.Ordered.before c.args.list.now.items c.args.item.now c.in-Ok.place found) (ascends-left g.T.Ordered.before c.args.list.now.items c.args.item.now c.requires.ascending)

pub returns-in_default-clause-left : goal.returns-in_default-clause-left
returns-in_default-clause-left g c =
    let found = rw c.deref.ensures.value at c.in_default.ensures.found in
    sym (left-whole g.T.Ordered.before c.args.list.now.items c.args.item.now (is-nowhere g.T.Ordered.before c.args.list.now.items c.args.item.now c.in_default.field-0 found).0)
