-- Lists of keys that share none.
use Rattle.std.proofs.Common.{◌≡◌, ◌⊎◌, inl, inr, true, false, ◌||◌, List, [], ◌∷◌, sym, ap, ◌∙◌}
use Rattle.std.proofs.lemmas.Bool.{or_parts, or_cases, true≢false, false_from_ne_true}
use Rattle.rss_names.specs.declared.service.Key.{Key}
use Rattle.rss_names.specs.Services.{same_key}
use Rattle.rss_names.proofs.Services.{same_key-Decides}
use Rattle.rss_tables.specs.Locks.{LockHolder, has_key, share_key, in_the_way}
use Rattle.shard_laws.specs.Locked.{AreExcluded}

pub keys_apart : (xs ys : List Key) (k : Key) → share_key xs ys ≡ false → has_key xs k ≡ true → has_key ys k ≡ false
keys_apart [] ys k s h = absurd (true≢false (sym h))
keys_apart (x ∷ xs) ys k s h =
    let p = or_parts (has_key ys x) (share_key xs ys) s in
    by_key p.0 (keys_apart xs ys k p.1) (or_cases (same_key k x) (has_key xs k) h)
  where
    by_key : has_key ys x ≡ false → (has_key xs k ≡ true → has_key ys k ≡ false) → (same_key k x ≡ true) ⊎ (has_key xs k ≡ true) → has_key ys k ≡ false
    by_key n ih (inl e) = ap (has_key ys) ((same_key-Decides k x).0 e) ∙ n
    by_key n ih (inr e) = ih e

pub keys_apart_turned : (xs ys : List Key) (k : Key) → share_key xs ys ≡ false → has_key ys k ≡ true → has_key xs k ≡ false
keys_apart_turned xs ys k s h = false_from_ne_true (has_key xs k) (λ e. true≢false (sym h ∙ keys_apart xs ys k s e))

-- who is not in the way of another is kept apart from it
pub excluded : (h g : LockHolder) → in_the_way h.reads h.writes g.reads g.writes ≡ false → AreExcluded h g
excluded h g e =
    let p = or_parts (share_key h.writes g.writes || share_key h.writes g.reads) (share_key h.reads g.writes) e in
    let q = or_parts (share_key h.writes g.writes) (share_key h.writes g.reads) p.0 in
    record {
      first = λ key w. (keys_apart h.writes g.writes key q.0 w, keys_apart h.writes g.reads key q.1 w);
      second = λ key w. (keys_apart_turned h.writes g.writes key q.0 w, keys_apart_turned h.reads g.writes key p.1 w);
    }

pub excluded_turned : (h g : LockHolder) → AreExcluded h g → AreExcluded g h
excluded_turned h g e = record { first = e.second; second = e.first }
