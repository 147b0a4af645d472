-- The states of a shard: what it comes to by requests, each served at a reading that ends at some time.
use Rattle.std.specs.Prelude.{◌≡◌, ℕ, List, [], ◌∷◌}
use Rattle.rss_names.specs.declared.service.Key.{Key}
use Rattle.rss_wire.specs.declared.messages.Request.{Request}
use Rattle.rss_tables.specs.ShardRow.{Shard, opening_shard, shard_after}

-- what a shard comes to by requests, each with the end of the reading at which it is served
abbrev pub served : Shard → List (ℕ × Request) → Shard
served sh [] = sh
served sh (r ∷ requests) = served (shard_after sh r.0 r.1) requests

-- a state that the opening shard of some keys comes to, whatever requests it serves in whatever order
pub record IsReached (sh : Shard) : Type 0 where
  pub keys : List Key
  pub requests : List (ℕ × Request)
  pub by : served (opening_shard keys) requests ≡ sh
