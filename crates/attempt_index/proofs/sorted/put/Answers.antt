use Rattle.std.proofs.Common.{length, arith, sym, ap, ◌∙◌}
use Rattle.std.proofs.lemmas.List.Edits.{length-insert}
use Rattle.attempt_index.proofs.Searching.{put-by, put-standing, is-there, ascends-put}
use Rattle.attempt_index.proofs.sorted.put.Goals as goal

pub unwrap-requires : goal.unwrap-requires
unwrap-requires g c =
    let found = rw c.deref.ensures.value at c.in-Err.ensures.found in
    let put = put-by g.T.Ordered.before c.args.list.now.items c.args.item c.in-Err.place found in
    let long = ap length put in
    let more = length-insert c.args.list.now.items c.in-Err.place c.args.item (rw c.deref.ensures.value at c.in-Err.ensures.belongs) in
    c.insert.ensures.succeeds (omega (arith, long, more, c.requires.room))

pub returns-in-Err-clause-put : goal.returns-in-Err-clause-put
returns-in-Err-clause-put g c =
    let found = rw c.deref.ensures.value at c.in-Err.ensures.found in
    rw c.unwrap.ensures at c.insert.ensures.items ∙ put-by g.T.Ordered.before c.args.list.now.items c.args.item c.in-Err.place found

pub returns-in-Err-clause-ascending : goal.returns-in-Err-clause-ascending
returns-in-Err-clause-ascending g c =
    let found = rw c.deref.ensures.value at c.in-Err.ensures.found in
    rw (rw c.unwrap.ensures at c.insert.ensures.items ∙ put-by g.T.Ordered.before c.args.list.now.items c.args.item c.in-Err.place found) (ascends-put g.T.Ordered.before g.met.T.Ordered.transitive c.args.list.now.items c.args.item c.requires.ascending)

pub returns-in_default-clause-put : goal.returns-in_default-clause-put
returns-in_default-clause-put g c =
    let found = rw c.deref.ensures.value at c.in_default.ensures.found in
    sym (put-standing g.T.Ordered.before c.args.list.now.items c.args.item (is-there g.T.Ordered.before c.args.list.now.items c.args.item c.in_default.field-0 found).0)
