use Rattle.std.proofs.Common.{sym}
use Rattle.plain_walk.proofs.Pairs.{writes_differ}
use Rattle.plain_walk.proofs.operations.are_writes.Goals as goal

pub returns-then-writes-others : goal.returns-then-writes-others
returns-then-writes-others c =
    sym (writes_differ c.args.pairs.now c.args.variables.now c.args.writes.now c.args.others.now c.if-writes-others.true)
