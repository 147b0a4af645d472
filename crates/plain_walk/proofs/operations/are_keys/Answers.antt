use Rattle.std.proofs.Common.{sym}
use Rattle.plain_walk.proofs.Pairs.{keys_differ}
use Rattle.plain_walk.proofs.operations.are_keys.Goals as goal

pub returns-then-pairs-keys : goal.returns-then-pairs-keys
returns-then-pairs-keys c =
    sym (keys_differ c.args.pairs.now c.args.keys.now c.if-pairs-keys.true)
