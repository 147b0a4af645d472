-- One shard among the others.
use Rattle.std.proofs.Common.{◌≡◌, ℕ, ◌+◌, ◌-◌, ◌<◌, ◌≤◌, List, [], length, map, set, get_or, sym, ap, ◌∙◌, arith}
use Rattle.std.proofs.Math.Seq.{map-set_same}
use Rattle.std.proofs.lemmas.List.{get_or-map, get_or_default, get_or-set_same, map-set, length-set}
use Rattle.rss_wire.specs.declared.messages.Request.{Request}
use Rattle.rss_tables.specs.ShardRow.{Shard, opening_shard, shard_after}
use Rattle.txn_shard.specs.ShardView.{ShardView}
use Rattle.txn_world.specs.Shards.{shards_in, shard_in, view_in, served_by, no_view}

at_number : (at n : ℕ) → at + 1 ≡ n → n - 1 ≡ at
at_number at n e = omega (arith, e)

-- the shard of a number is seen at its place
pub shard_seen : (views : List ShardView) (at n : ℕ) (d : ShardView) → at + 1 ≡ n → at < length views → shard_in (shards_in views) n ≡ (get_or views at d).shard
shard_seen views at n d e h =
    ap (λ i. get_or (shards_in views) i (opening_shard [])) (at_number at n e)
    ∙ get_or-map (λ (v : ShardView). v.shard) views at d (opening_shard []) h

-- one shard is as another one
pub shards_set : (views : List ShardView) (at : ℕ) (x : ShardView) → shards_in (set views at x) ≡ set (shards_in views) at x.shard
shards_set views at x = map-set (λ (v : ShardView). v.shard) views at x

pub shards_served : (views : List ShardView) (at n latest : ℕ) (r : Request) (d x : ShardView) → at + 1 ≡ n → at < length views → x.shard ≡ shard_after (get_or views at d).shard latest r → shards_in (set views at x) ≡ served_by (shards_in views) n latest r
shards_served views at n latest r d x e h same =
    shards_set views at x
    ∙ ap (λ (s : Shard). set (shards_in views) at s) (same ∙ ap (λ (s : Shard). shard_after s latest r) (sym (shard_seen views at n d e h)))
    ∙ ap (λ i. set (shards_in views) i (shard_after (shard_in (shards_in views) n) latest r)) (sym (at_number at n e))

-- so is its room
pub view_seen : (views : List ShardView) (at n : ℕ) (d : ShardView) → at + 1 ≡ n → at < length views → view_in views n ≡ get_or views at d
view_seen views at n d e h = ap (λ i. get_or views i no_view) (at_number at n e) ∙ get_or_default views at no_view d h

pub view_set : (views : List ShardView) (at n : ℕ) (x : ShardView) → at + 1 ≡ n → at < length views → view_in (set views at x) n ≡ x
view_set views at n x e h = ap (λ i. get_or (set views at x) i no_view) (at_number at n e) ∙ get_or-set_same views at x no_view h

-- a shard of which only the room changes
pub shards_same : (views : List ShardView) (at : ℕ) (x d : ShardView) → x.shard ≡ (get_or views at d).shard → shards_in (set views at x) ≡ shards_in views
shards_same views at x d e = map-set_same (λ (v : ShardView). v.shard) views at x d e

pub ruleset serving = (shard_seen, shards_served, view_seen, view_set, shards_same, length-set)
