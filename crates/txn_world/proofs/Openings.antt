-- The shards and keys of a file, one after the other.
use Rattle.std.proofs.Common.{◌≡◌, ℕ, ◌+◌, ◌<◌, ◌==◌, Bool, true, false, List, [], ◌∷◌, ◌++◌, length, map, get_or, drop, refl, sym, ap, ◌∙◌, arith, append_assoc}
use Rattle.std.specs.Prelude.{if◌then◌else◌}
use Rattle.std.proofs.lemmas.List.{drop_more, map-append}
use Rattle.rss_names.specs.declared.service.Key.{Key}
use Rattle.rss_names.specs.declared.service.ServiceId.{ServiceId}
use Rattle.pipeline_lang.specs.declared.config.Config.{Config}
use Rattle.rss_machine.specs.State.{keys_from, shards_from}
use Rattle.rss_tables.specs.ShardRow.{Shard, opening_shard}
use Rattle.txn_shard.specs.ShardView.{ShardView}
use Rattle.txn_world.specs.Shards.{shards_in, key_at}

-- one shard more
pub shards_end : (views : List ShardView) (x : ShardView) → shards_in (views ++ x ∷ []) ≡ shards_in views ++ x.shard ∷ []
shards_end [] x = refl
shards_end (v ∷ views) x = ap (λ (l : List Shard). v.shard ∷ l) (shards_end views x)

pub shards_more : (c : Config) (services : List ServiceId) (now old whole : List Shard) (at : ℕ) (d : ServiceId) → at < length services → now ≡ old ++ opening_shard (keys_from (get_or services at d) (at + 1) c.homes 0) ∷ [] → old ++ shards_from c (at + 1) (drop at services) ≡ whole → now ++ shards_from c (at + 1 + 1) (drop (at + 1) services) ≡ whole
shards_more c services now old whole at d h e w =
    let x : Shard = opening_shard (keys_from (get_or services at d) (at + 1) c.homes 0) in
    let rest : List Shard = shards_from c (at + 1 + 1) (drop (at + 1) services) in
    ap (λ (l : List Shard). l ++ rest) e
    ∙ append_assoc old (x ∷ []) rest
    ∙ ap (λ (l : List ServiceId). old ++ shards_from c (at + 1) l) (sym (drop_more services at d h))
    ∙ w

-- one home more
keys_step : (service : ServiceId) (number home at : ℕ) (homes : List ℕ) → keys_from service number (home ∷ homes) at ≡ key_at service number home at ++ keys_from service number homes (at + 1)
keys_step service number home at homes = go (home == number)
  where
    go : (b : Bool) → (if b then record { service = service; index = at } ∷ keys_from service number homes (at + 1) else keys_from service number homes (at + 1)) ≡ (if b then record { service = service; index = at } ∷ [] else []) ++ keys_from service number homes (at + 1)
    go true = refl
    go false = refl

pub keys_more : (service : ServiceId) (number at d : ℕ) (homes : List ℕ) (old now whole : List Key) → at < length homes → now ≡ old ++ key_at service number (get_or homes at d) at → old ++ keys_from service number (drop at homes) at ≡ whole → now ++ keys_from service number (drop (at + 1) homes) (at + 1) ≡ whole
keys_more service number at d homes old now whole h e w =
    ap (λ (l : List Key). l ++ keys_from service number (drop (at + 1) homes) (at + 1)) e
    ∙ append_assoc old (key_at service number (get_or homes at d) at) (keys_from service number (drop (at + 1) homes) (at + 1))
    ∙ ap (λ (l : List Key). old ++ l) (sym (keys_step service number (get_or homes at d) at (drop (at + 1) homes)))
    ∙ ap (λ (l : List ℕ). old ++ keys_from service number l at) (sym (drop_more homes at d h))
    ∙ w
