use Rattle.std.proofs.Common.{◌∙◌, arith}
use Rattle.shard_versions.specs.Rows.{store_of}
use Rattle.shard_versions.proofs.Cleared.{cleared-all, store-length}
use Rattle.shard_versions.proofs.versions.clear_all.Goals as goal

pub returns : goal.returns
returns c = c.loop-place.invariant ∙ cleared-all (store_of c.args.rows.now) c.loop-place.place (omega (arith, store-length c.args.rows.now))
