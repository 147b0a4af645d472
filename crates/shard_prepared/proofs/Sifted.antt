-- Those sifted key by key are those that the tables name.
use Rattle.std.proofs.Common.{◌≡◌, ℕ, ◌≤◌, Bool, true, false, ◌&&◌, ◌||◌, List, [], ◌∷◌, length, map, filter, get_or, arith, refl, sym, ap, ◌∙◌}
use Rattle.std.specs.List.{list_any}
use Rattle.std.proofs.lemmas.Bool.{false≢true}
use Rattle.rss_names.specs.declared.service.Key.{Key}
use Rattle.rss_names.specs.Services.{same_key}
use Rattle.rss_names.proofs.Services.{same_key-Decides}
use Rattle.rss_tables.specs.Attempts.{attempt_lt}
use Rattle.rss_tables.specs.Locks.{has_key}
use Rattle.rss_tables.specs.Prepared.{PreparedWriter, prepared_attempts, writes_any}
use Rattle.attempt_index.specs.declared.index.KeyAttempt.{KeyAttempt}
use Rattle.attempt_index.specs.Ascending.{ascends}
use Rattle.attempt_index.specs.Entries.{IsIndexOf}
use Rattle.attempt_index.specs.Listing.{listed_keys}
use Rattle.attempt_index.proofs.Sieve.{sieved, none-left, length-sieved, filters-agree}
use Rattle.shard_prepared.specs.Written.{attempt_of, written, keys_of}

keys-turned : (a b : Key) → same_key a b ≡ same_key b a
keys-turned a b = go (same_key a b) refl (same_key b a) refl
  where
    go : (s : Bool) → same_key a b ≡ s → (t : Bool) → same_key b a ≡ t → same_key a b ≡ same_key b a
    go true e true f = e ∙ sym f
    go true e false f = absurd (false≢true (sym f ∙ (same_key-Decides b a).1 (sym ((same_key-Decides a b).0 e))))
    go false e true f = absurd (false≢true (sym e ∙ (same_key-Decides a b).1 (sym ((same_key-Decides b a).0 f))))
    go false e false f = e ∙ sym f

or-swapped : (a b c d : Bool) → ((a || b) || (c || d)) ≡ ((a || c) || (b || d))
or-swapped true b c d = refl
or-swapped false true true d = refl
or-swapped false true false d = refl
or-swapped false false c d = refl

none-any : (ks : List Key) → list_any (λ (k : Key). has_key (written []) k) ks ≡ false
none-any [] = refl
none-any (k ∷ ks) = none-any ks

one-any : (w : Key × ℕ) (writes : List (Key × ℕ)) (ks : List Key) → list_any (λ (k : Key). has_key (written (w ∷ writes)) k) ks ≡ (has_key ks w.0 || list_any (λ (k : Key). has_key (written writes) k) ks)
one-any w writes [] = refl
one-any w writes (k ∷ ks) =
    ap (λ (b : Bool). (same_key k w.0 || has_key (written writes) k) || b) (one-any w writes ks)
    ∙ ap (λ (b : Bool). (b || has_key (written writes) k) || (has_key ks w.0 || list_any (λ (k : Key). has_key (written writes) k) ks)) (keys-turned k w.0)
    ∙ or-swapped (same_key w.0 k) (has_key (written writes) k) (has_key ks w.0) (list_any (λ (k : Key). has_key (written writes) k) ks)

-- whether one of the keys is written, asked from either side
any-written : (writes : List (Key × ℕ)) (ks : List Key) → list_any (λ (k : Key). has_key (written writes) k) ks ≡ list_any (λ (w : Key × ℕ). has_key ks w.0) writes
any-written [] ks = none-any ks
any-written (w ∷ writes) ks = one-any w writes ks ∙ ap (λ (b : Bool). has_key ks w.0 || b) (any-written writes ks)

anys-agree : (t u : Key → Bool) (ks : List Key) → ((k : Key) → t k ≡ u k) → list_any t ks ≡ list_any u ks
anys-agree t u [] h = refl
anys-agree t u (k ∷ ks) h = rw (h k, anys-agree t u ks h) refl

and-turned : (a b c : Bool) → (a && (b && c)) ≡ ((a && b) && c)
and-turned true b c = refl
and-turned false b c = refl

-- what is listed key by key is what a filter of all the writers leaves
pub sifted : {X : Type 0} (before : X → X → Bool) (name : PreparedWriter → X) (agrees : (p q : PreparedWriter) → before (name p) (name q) ≡ attempt_lt p.attempt q.attempt) (early late : PreparedWriter → Bool) (index : List KeyAttempt) (ks : List Key) (ps : List PreparedWriter) → ascends attempt_lt (prepared_attempts ps) ≡ true → IsIndexOf attempt_of keys_of index ps
    → listed_keys attempt_of before name (λ (p : PreparedWriter). early p && late p) ps index ks [] ≡ map name (filter (λ (p : PreparedWriter). (writes_any ks p && early p) && late p) ps)
sifted {X} before name agrees early late index ks ps up h =
    let test : PreparedWriter → Bool = λ (p : PreparedWriter). early p && late p in
    ap (λ (l : List PreparedWriter). listed_keys attempt_of before name test ps index ks (map name l)) (sym (none-left test ps))
    ∙ sieved attempt_of before name agrees test (λ (p : PreparedWriter). false) keys_of index ks ps up h
    ∙ ap (λ (l : List PreparedWriter). map name l) (filters-agree (λ (p : PreparedWriter). (false || list_any (λ (k : Key). has_key (keys_of p) k) ks) && test p) (λ (p : PreparedWriter). (writes_any ks p && early p) && late p) ps (λ i d l. ap (λ (b : Bool). b && test (get_or ps i d)) (any-written (get_or ps i d).writes ks) ∙ and-turned (writes_any ks (get_or ps i d)) (early (get_or ps i d)) (late (get_or ps i d))))

-- all that is listed fits where there is room for all writers
pub sifted-fits : {X : Type 0} (before : X → X → Bool) (name : PreparedWriter → X) (agrees : (p q : PreparedWriter) → before (name p) (name q) ≡ attempt_lt p.attempt q.attempt) (early late : PreparedWriter → Bool) (index : List KeyAttempt) (ks : List Key) (ps : List PreparedWriter) (room : ℕ) → ascends attempt_lt (prepared_attempts ps) ≡ true → IsIndexOf attempt_of keys_of index ps → length ps ≤ room
    → length (listed_keys attempt_of before name (λ (p : PreparedWriter). early p && late p) ps index ks []) ≤ room
sifted-fits {X} before name agrees early late index ks ps room up h fits =
    let all = ap (λ (l : List X). length l) (sifted before name agrees early late index ks ps up h) in
    omega (arith, all, length-sieved attempt_of name (λ (p : PreparedWriter). (writes_any ks p && early p) && late p) ps, fits)
