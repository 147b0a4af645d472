-- The induction principle of a shard's states.
use Rattle.std.proofs.Common.{ℕ, List, [], ◌∷◌, subst}
use Rattle.rss_names.specs.declared.service.Key.{Key}
use Rattle.rss_wire.specs.declared.messages.Request.{Request}
use Rattle.rss_tables.specs.ShardRow.{Shard, opening_shard, shard_after}
use Rattle.shard_laws.specs.Served.{served, IsReached}

-- what each request keeps, any list of requests keeps
pub served_keeps : (P : Shard → Type 0) → ((sh : Shard) (latest : ℕ) (r : Request) → P sh → P (shard_after sh latest r)) → (sh : Shard) (requests : List (ℕ × Request)) → P sh → P (served sh requests)
served_keeps P step sh [] p = p
served_keeps P step sh (r ∷ requests) p = served_keeps P step (shard_after sh r.0 r.1) requests (step sh r.0 r.1 p)

-- what holds at the opening and each request keeps, holds of every state of a shard
pub reached_keeps : (P : Shard → Type 0) → ((keys : List Key) → P (opening_shard keys)) → ((sh : Shard) (latest : ℕ) (r : Request) → P sh → P (shard_after sh latest r)) → (sh : Shard) → IsReached sh → P sh
reached_keeps P opening step sh x = subst P x.by (served_keeps P step (opening_shard x.keys) x.requests (opening x.keys))
