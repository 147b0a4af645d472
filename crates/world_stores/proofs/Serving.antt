-- The shards with their room, and without.
use Rattle.std.proofs.Common.{◌≡◌, ℕ, List, length}
use Rattle.std.proofs.lemmas.List.{length-map}
use Rattle.txn_shard.specs.ShardView.{ShardView}
use Rattle.txn_world.specs.Shards.{shards_in}

-- there are as many
pub as_many : (views : List ShardView) → length (shards_in views) ≡ length views
as_many views = length-map views (λ (v : ShardView). v.shard)

pub ruleset counting = (as_many)
