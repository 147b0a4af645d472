-- How long lists grow while entries join.
use Rattle.std.proofs.Common.{◌≡◌, ℕ, suc, zero, ◌<◌, ◌≤◌, Bool, true, false, List, [], ◌∷◌, length, drop, get_or, Option, Some, None, arith, refl, ap}
use Rattle.rss_names.specs.declared.attempt.Attempt.{Attempt}
use Rattle.rss_names.specs.declared.service.Key.{Key}
use Rattle.attempt_index.specs.declared.index.KeyAttempt.{KeyAttempt}
use Rattle.rss_tables.specs.Attempts.{attempt_lt}
use Rattle.attempt_index.specs.Ascending.{put_in}
use Rattle.attempt_index.specs.Entries.{entry_of}
use Rattle.attempt_index.specs.KeyIndex.{pairs_of}
use Rattle.attempt_index.specs.Listing.{listed_one, listed_pairs, listed_keys, with_attempts, with_beside}
use Rattle.attempt_index.proofs.Searching.{length-put}

pub drop-next : {X : Type 0} (xs : List X) (i : ℕ) (d : X) → i < length xs → drop i xs ≡ get_or xs i d ∷ drop (suc i) xs
drop-next [] i d l = absurd (omega (arith, l))
drop-next (x ∷ xs) zero d l = refl
drop-next (x ∷ xs) (suc i) d l = drop-next xs i d (omega (arith, l))

module _ {E : Type 0} (at : E → Attempt) where
  entry-grows : {X : Type 0} (before : X → X → Bool) (name : E → X) (test : E → Bool) (o : Option E) (xs : List X) → length xs ≤ length (listed_one before name test o xs)
  entry-grows before name test None xs = omega arith
  entry-grows before name test (Some p) xs = go (test p) refl
    where
      go : (b : Bool) → test p ≡ b → length xs ≤ length (listed_one before name test (Some p) xs)
      go true e = rw e ((length-put before xs (name p)).0)
      go false e = rw e (omega arith)

  -- a list does not shrink while entries join
  pub entries-grow : {X : Type 0} (before : X → X → Bool) (name : E → X) (test : E → Bool) (ps : List E) (ws : List KeyAttempt) (xs : List X) → length xs ≤ length (listed_pairs at before name test ps ws xs)
  entries-grow before name test ps [] xs = omega arith
  entries-grow before name test ps (w ∷ ws) xs =
      omega (arith, entry-grows before name test (entry_of at ps w.attempt) xs, entries-grow before name test ps ws (listed_one before name test (entry_of at ps w.attempt) xs))

  pub keys-grow : {X : Type 0} (before : X → X → Bool) (name : E → X) (test : E → Bool) (ps : List E) (index : List KeyAttempt) (ks : List Key) (xs : List X) → length xs ≤ length (listed_keys at before name test ps index ks xs)
  keys-grow before name test ps index [] xs = omega arith
  keys-grow before name test ps index (k ∷ ks) xs =
      omega (arith, entries-grow before name test ps (pairs_of index k) xs, keys-grow before name test ps index ks (listed_pairs at before name test ps (pairs_of index k) xs))

  -- where there is room for all that join, there is room for the next one
  pub entry-fits : {X : Type 0} (before : X → X → Bool) (name : E → X) (test : E → Bool) (ps : List E) (ws : List KeyAttempt) (xs : List X) (i : ℕ) (d : KeyAttempt) (p : E) (room : ℕ) → i < length ws → Some p ≡ entry_of at ps (get_or ws i d).attempt → length (listed_pairs at before name test ps (drop i ws) xs) ≤ room → length (listed_one before name test (Some p) xs) ≤ room
  entry-fits before name test ps ws xs i d p room l h fits =
      let w : KeyAttempt = get_or ws i d in
      let all : length (listed_pairs at before name test ps (drop (suc i) ws) (listed_one before name test (entry_of at ps w.attempt) xs)) ≤ room = rw (drop-next ws i d l) at fits in
      let one : length (listed_one before name test (Some p) xs) ≡ length (listed_one before name test (entry_of at ps w.attempt) xs) = ap (λ (o : Option E). length (listed_one before name test o xs)) h in
      omega (arith, one, all, entries-grow before name test ps (drop (suc i) ws) (listed_one before name test (entry_of at ps w.attempt) xs))

  pub key-fits : {X : Type 0} (before : X → X → Bool) (name : E → X) (test : E → Bool) (ps : List E) (index : List KeyAttempt) (ks : List Key) (xs : List X) (i : ℕ) (d : Key) (ws : List KeyAttempt) (room : ℕ) → i < length ks → ws ≡ pairs_of index (get_or ks i d) → length (listed_keys at before name test ps index (drop i ks) xs) ≤ room → length (listed_pairs at before name test ps ws xs) ≤ room
  key-fits before name test ps index ks xs i d ws room l h fits =
      let k : Key = get_or ks i d in
      let all : length (listed_keys at before name test ps index (drop (suc i) ks) (listed_pairs at before name test ps (pairs_of index k) xs)) ≤ room = rw (drop-next ks i d l) at fits in
      let one : length (listed_pairs at before name test ps ws xs) ≡ length (listed_pairs at before name test ps (pairs_of index k) xs) = ap (λ (v : List KeyAttempt). length (listed_pairs at before name test ps v xs)) h in
      omega (arith, one, all, keys-grow before name test ps index (drop (suc i) ks) (listed_pairs at before name test ps (pairs_of index k) xs))

pub attempts-grow : (ps : List KeyAttempt) (xs : List Attempt) → length xs ≤ length (with_attempts xs ps)
attempts-grow [] xs = omega arith
attempts-grow (p ∷ ps) xs = omega (arith, (length-put attempt_lt xs p.attempt).0, attempts-grow ps (put_in attempt_lt xs p.attempt))

pub beside-grows : (index : List KeyAttempt) (ks : List Key) (xs : List Attempt) → length xs ≤ length (with_beside index ks xs)
beside-grows index [] xs = omega arith
beside-grows index (k ∷ ks) xs = omega (arith, attempts-grow (pairs_of index k) xs, beside-grows index ks (with_attempts xs (pairs_of index k)))

-- where there is room for all that join, there is room for the next one
pub attempt-fits : (ps : List KeyAttempt) (xs : List Attempt) (i : ℕ) (d : KeyAttempt) (room : ℕ) → i < length ps → length (with_attempts xs (drop i ps)) ≤ room → length (put_in attempt_lt xs (get_or ps i d).attempt) ≤ room
attempt-fits ps xs i d room l fits =
    let all : length (with_attempts (put_in attempt_lt xs (get_or ps i d).attempt) (drop (suc i) ps)) ≤ room = rw (drop-next ps i d l) at fits in
    omega (arith, all, attempts-grow (drop (suc i) ps) (put_in attempt_lt xs (get_or ps i d).attempt))

pub beside-fits : (index : List KeyAttempt) (ks : List Key) (xs : List Attempt) (i : ℕ) (d : Key) (ps : List KeyAttempt) (room : ℕ) → i < length ks → ps ≡ pairs_of index (get_or ks i d) → length (with_beside index (drop i ks) xs) ≤ room → length (with_attempts xs ps) ≤ room
beside-fits index ks xs i d ps room l h fits =
    let all : length (with_beside index (drop (suc i) ks) (with_attempts xs (pairs_of index (get_or ks i d)))) ≤ room = rw (drop-next ks i d l) at fits in
    let one : length (with_attempts xs ps) ≡ length (with_attempts xs (pairs_of index (get_or ks i d))) = ap (λ (v : List KeyAttempt). length (with_attempts xs v)) h in
    omega (arith, one, all, beside-grows index (drop (suc i) ks) (with_attempts xs (pairs_of index (get_or ks i d))))
