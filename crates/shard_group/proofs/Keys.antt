-- The keys of a shard that was never written.
use Rattle.std.proofs.Common.{◌≡◌, List, [], ◌∷◌, refl, ap}
use Rattle.rss_names.specs.declared.service.Key.{Key}
use Rattle.rss_tables.specs.Versions.{unwritten}
use Rattle.shard_versions.specs.Rows.{keys_of}

pub keys_unwritten : (keys : List Key) → keys_of (unwritten keys) ≡ keys
keys_unwritten [] = refl
keys_unwritten (k ∷ keys) = ap (λ (ks : List Key). k ∷ ks) (keys_unwritten keys)
