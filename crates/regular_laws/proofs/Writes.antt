-- Keys among keys, and what writes leave of a key that is written once.
use Rattle.std.proofs.Common.{◌≡◌, ℕ, zero, suc, ◌⊎◌, inl, inr, Bool, true, false, List, [], ◌∷◌, Some, None, refl, sym, ap, ◌∙◌, arith}
use Rattle.std.specs.Prelude.{◌||◌, map, Contains, if◌then◌else◌}
use Rattle.std.proofs.lemmas.Bool.{true≢false, false≢true}
use Rattle.rss_names.specs.Services.{same_key}
use Rattle.rss_names.specs.declared.service.Key.{Key}
use Rattle.rss_model.specs.declared.op.Shown.{Shown}
use Rattle.rss_model.specs.Legal.{shown_after}
use Rattle.rss_tables.specs.Locks.{has_key}
use Rattle.order_laws.proofs.Keys.{same_key-true, same_key-itself}
use Rattle.session_laws.proofs.Shown.{key_turned, key_turned_not}
use Rattle.shard_laws.specs.Committed.{written_value}
use Rattle.regular_laws.specs.Kept.{AreOnce}

-- the first of a list, or among the others
pub head_or_tail : {X : Type 0} (x : X) (xs : List X) (y : X) → Contains (x ∷ xs) y → (x ≡ y) ⊎ Contains xs y
head_or_tail x xs y (zero, l, e) = inl e
head_or_tail x xs y (suc i, l, e) = inr (i, omega (arith, l), e)

pub in_head : {X : Type 0} (x : X) (xs : List X) (y : X) → x ≡ y → Contains (x ∷ xs) y
in_head x xs y e = (0, omega arith, e)

pub in_tail : {X : Type 0} (x : X) (xs : List X) (y : X) → Contains xs y → Contains (x ∷ xs) y
in_tail x xs y (i, l, e) = (suc i, omega (arith, l), e)

pub in_none : {X : Type 0} (y : X) → Contains [] y → ⊥
in_none y (i, l, e) = omega (arith, l)

or_right : (a : Bool) → (a || true) ≡ true
or_right true = refl
or_right false = refl

-- the test of keys among keys
pub contains_has : (keys : List Key) (key : Key) → Contains keys key → has_key keys key ≡ true
contains_has [] key m = absurd (in_none key m)
contains_has (k ∷ keys) key m = by_place (head_or_tail k keys key m) (contains_has keys key)
  where
    by_place : (k ≡ key) ⊎ Contains keys key → (Contains keys key → has_key keys key ≡ true) → (same_key key k || has_key keys key) ≡ true
    by_place (inl e) ih = ap (λ (b : Bool). b || has_key keys key) (ap (same_key key) e ∙ same_key-itself key)
    by_place (inr n) ih = ap (λ (b : Bool). same_key key k || b) (ih n) ∙ or_right (same_key key k)

pub has_contains : (keys : List Key) (key : Key) → has_key keys key ≡ true → Contains keys key
has_contains [] key e = absurd (false≢true e)
has_contains (k ∷ keys) key e = by_first (same_key key k) refl e (has_contains keys key)
  where
    by_first : (b : Bool) → same_key key k ≡ b → (b || has_key keys key) ≡ true → (has_key keys key ≡ true → Contains keys key) → Contains (k ∷ keys) key
    by_first true f g ih = in_head k keys key (sym (same_key-true key k f))
    by_first false f g ih = in_tail k keys key (ih g)

-- keys of writes
abbrev pub keys_of : List (Key × ℕ) → List Key
keys_of writes = map (λ (w : Key × ℕ). w.0) writes

-- a key that is written has a value
pub has_value : (writes : List (Key × ℕ)) (key : Key) → Contains (keys_of writes) key → (value : ℕ) × (written_value writes key ≡ Some value)
has_value [] key m = absurd (in_none key m)
has_value (w ∷ writes) key m = by_test (same_key w.0 key) refl (head_or_tail w.0 (keys_of writes) key m) (has_value writes key)
  where
    by_test : (b : Bool) → same_key w.0 key ≡ b → (w.0 ≡ key) ⊎ Contains (keys_of writes) key → (Contains (keys_of writes) key → (value : ℕ) × (written_value writes key ≡ Some value)) → (value : ℕ) × ((if b then Some w.1 else written_value writes key) ≡ Some value)
    by_test true e p ih = (w.1, refl)
    by_test false e (inl p) ih = absurd (true≢false (sym (ap (λ (k : Key). same_key k key) p ∙ same_key-itself key) ∙ e))
    by_test false e (inr p) ih = ih p

-- and one that has a value is written
pub is_written : (writes : List (Key × ℕ)) (key : Key) (value : ℕ) → written_value writes key ≡ Some value → Contains (keys_of writes) key
is_written [] key value e = absurd (none_some e)
  where
    none_some : None ≡ Some value → ⊥
    none_some f = cc
is_written (w ∷ writes) key value e = by_test (same_key w.0 key) refl e (is_written writes key value)
  where
    by_test : (b : Bool) → same_key w.0 key ≡ b → (if b then Some w.1 else written_value writes key) ≡ Some value → (written_value writes key ≡ Some value → Contains (keys_of writes) key) → Contains (w.0 ∷ keys_of writes) key
    by_test true f g ih = in_head w.0 (keys_of writes) key (same_key-true w.0 key f)
    by_test false f g ih = in_tail w.0 (keys_of writes) key (ih g)

-- what is shown of a key that no write is of stays
unwritten : (writes : List (Key × ℕ)) (x : Shown) (call : ℕ) → has_key (keys_of writes) x.key ≡ false → shown_after x call writes ≡ x
unwritten [] x call e = refl
unwritten (w ∷ writes) x call e = by_test (same_key x.key w.0) refl e (unwritten writes x call)
  where
    by_test : (b : Bool) → same_key x.key w.0 ≡ b → (b || has_key (keys_of writes) x.key) ≡ false → (has_key (keys_of writes) x.key ≡ false → shown_after x call writes ≡ x) → shown_after (if b then record x { value = w.1; writer = call } else x) call writes ≡ x
    by_test true f g ih = absurd (true≢false g)
    by_test false f g ih = ih g

-- of a key that is written once its value is left
pub left_by : (writes : List (Key × ℕ)) (key : Key) (value old from call : ℕ) → written_value writes key ≡ Some value → AreOnce (keys_of writes) → shown_after (record { key = key; value = old; writer = from }) call writes ≡ record { key = key; value = value; writer = call }
left_by [] key value old from call e h = absurd (none_some e)
  where
    none_some : None ≡ Some value → ⊥
    none_some f = cc
left_by (w ∷ writes) key value old from call e h = by_test (same_key w.0 key) refl e (left_by writes key value old from call)
  where
    some_same : Some w.1 ≡ Some value → w.1 ≡ value
    some_same f = cc

    by_test : (b : Bool) → same_key w.0 key ≡ b → (if b then Some w.1 else written_value writes key) ≡ Some value
        → (written_value writes key ≡ Some value → AreOnce (keys_of writes) → shown_after (record { key = key; value = old; writer = from }) call writes ≡ record { key = key; value = value; writer = call })
        → shown_after (record { key = key; value = old; writer = from }) call (w ∷ writes) ≡ record { key = key; value = value; writer = call }
    by_test true f g ih =
        ap (λ (b : Bool). shown_after (if b then record { key = key; value = w.1; writer = call } else record { key = key; value = old; writer = from }) call writes) (key_turned w.0 key f)
        ∙ (unwritten writes (record { key = key; value = w.1; writer = call }) call (ap (has_key (keys_of writes)) (sym (same_key-true w.0 key f)) ∙ h.0)
        ∙ ap (λ (n : ℕ). record { key = key; value = n; writer = call }) (some_same g))
    by_test false f g ih =
        ap (λ (b : Bool). shown_after (if b then record { key = key; value = w.1; writer = call } else record { key = key; value = old; writer = from }) call writes) (key_turned_not w.0 key f) ∙ ih g h.1
