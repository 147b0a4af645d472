-- Clearing one key after another clears all.
use Rattle.std.proofs.Common.{◌≡◌, ℕ, suc, zero, ◌<◌, List, [], ◌∷◌, length, get_or, set, arith, refl, ap}
use Rattle.rss_tables.specs.Versions.{KeyVersions, unwritten}
use Rattle.shard_versions.specs.Rows.{RowView, store_of, keys_of, cleared_upto}

-- once the next row is cleared, one more is
pub cleared-one : (rows : List RowView) (old : List KeyVersions) (place : ℕ) (new d : RowView) → place < length rows → store_of rows ≡ cleared_upto place old → new.kept ≡ record { key = (get_or rows place d).kept.key; versions = [] } → store_of (set rows place new) ≡ cleared_upto (suc place) old
cleared-one [] old place new d l e n = absurd (omega (arith, l))
cleared-one (r ∷ rows) [] zero new d l e n = absurd (let x : r.kept ∷ store_of rows ≡ [] = e in cc)
cleared-one (r ∷ rows) (o ∷ old) zero new d l e n =
    let x : r.kept ∷ store_of rows ≡ o ∷ old = e in
    let h : r.kept ≡ o = cc in
    let t : store_of rows ≡ old = cc in
    rw (n, h, t) refl
cleared-one (r ∷ rows) [] (suc place) new d l e n = absurd (let x : r.kept ∷ store_of rows ≡ [] = e in cc)
cleared-one (r ∷ rows) (o ∷ old) (suc place) new d l e n =
    let x : r.kept ∷ store_of rows ≡ record { key = o.key; versions = [] } ∷ cleared_upto place old = e in
    let t : store_of rows ≡ cleared_upto place old = cc in
    let h : r.kept ≡ record { key = o.key; versions = [] } = cc in
    let ih = cleared-one rows old place new d (grind (arith, l)) t n in
    rw (h, ih) refl

-- in the end all are
pub cleared-all : (old : List KeyVersions) (n : ℕ) → n ≡ length old → cleared_upto n old ≡ unwritten (keys_of old)
cleared-all [] zero e = refl
cleared-all [] (suc n) e = refl
cleared-all (o ∷ old) zero e = absurd (omega (arith, e))
cleared-all (o ∷ old) (suc n) e = ap (λ (l : List KeyVersions). record { key = o.key; versions = [] } ∷ l) (cleared-all old n (grind (arith, e)))

-- as many keys as rows
pub store-length : (rows : List RowView) → length (store_of rows) ≡ length rows
store-length [] = refl
store-length (r ∷ rows) = let ih = store-length rows in grind (arith, ih)

pub ruleset cleared = (cleared-one, cleared-all)
