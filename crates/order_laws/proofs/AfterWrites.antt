-- What a key shows after the writes of a call.
use Rattle.std.proofs.Common.{◌≡◌, ℕ, zero, suc, ◌⊎◌, inl, inr, Bool, true, false, List, [], ◌∷◌, arith, refl, sym, ap, subst}
use Rattle.std.specs.Prelude.{map, Contains}
use Rattle.std.proofs.lemmas.Bool.{cond_both}
use Rattle.rss_names.specs.declared.service.Key.{Key}
use Rattle.rss_model.specs.declared.op.Op.{Op}
use Rattle.rss_model.specs.declared.op.Op.TheVariants.{Read, Write, Snap, Txn}
use Rattle.rss_model.specs.declared.op.Shown.{Shown}
use Rattle.rss_model.specs.Formula.{formula_value}
use Rattle.rss_names.specs.Services.{same_key}
use Rattle.rss_model.specs.Operation.{writes_of, written_by}
use Rattle.rss_model.specs.Legal.{shown_after}
use Rattle.order_laws.proofs.Keys.{same_key-true, same_key-itself}

-- the keys that a list of writes gives values to
abbrev pub keys_of : List (Key × ℕ) → List Key
keys_of writes = map (λ write. write.0) writes

-- the key stays
pub key_stays : (call : ℕ) (writes : List (Key × ℕ)) (shown : Shown) →
    (shown_after shown call writes).key ≡ shown.key
key_stays call [] shown = refl
key_stays call (write ∷ writes) shown =
    cond_both (same_key shown.key write.0) (record shown { value = write.1; writer = call }) shown (λ (s : Shown). (shown_after s call writes).key ≡ shown.key)
    (λ e. key_stays call writes (record shown { value = write.1; writer = call })) (λ e. key_stays call writes shown)

-- either no write is of the key, and it shows what it showed; or one is, and it matters not what it showed
pub data After (call : ℕ) (writes : List (Key × ℕ)) (shown : Shown) : Type 0 where
  untouched : (Contains (keys_of writes) shown.key → ⊥) → shown_after shown call writes ≡ shown →
      After call writes shown
  rewritten :
      Contains (keys_of writes) shown.key →
      ((other : Shown) → other.key ≡ shown.key → shown_after shown call writes ≡ shown_after other call writes) →
      After call writes shown

contains-here : (k : Key) (ks : List Key) → Contains (k ∷ ks) k
contains-here k ks = (0, omega arith, refl)

contains-later : (j k : Key) (ks : List Key) → Contains ks k → Contains (j ∷ ks) k
contains-later j k ks (i, l, e) = (suc i, omega (arith, l), e)

pub contains-cases : (j k : Key) (ks : List Key) → Contains (j ∷ ks) k → (j ≡ k) ⊎ Contains ks k
contains-cases j k ks (zero, l, e) = inl e
contains-cases j k ks (suc i, l, e) = inr (i, omega (arith, l), e)

rewritten_first : (call : ℕ) (write : Key × ℕ) (writes : List (Key × ℕ)) (shown : Shown) →
    same_key shown.key write.0 ≡ true → After call (write ∷ writes) shown
rewritten_first call write writes shown e =
    rewritten
    (subst (λ (k : Key). Contains (write.0 ∷ keys_of writes) k) (sym (same_key-true shown.key write.0 e)) (contains-here write.0 (keys_of writes)))
    (λ other k. grind (arith, e, k))

after_more : (call : ℕ) (write : Key × ℕ) (writes : List (Key × ℕ)) (shown : Shown) →
    same_key shown.key write.0 ≡ false → After call writes shown → After call (write ∷ writes) shown
after_more call write writes shown e (untouched n s) =
    untouched
    (λ m. none (contains-cases write.0 shown.key (keys_of writes) m))
    (grind (arith, e, s))
  where
    none : (write.0 ≡ shown.key) ⊎ Contains (keys_of writes) shown.key → ⊥
    none (inl k) = grind (arith, e, same_key-itself shown.key, k)
    none (inr m) = n m
after_more call write writes shown e (rewritten m s) =
    rewritten (contains-later write.0 shown.key (keys_of writes) m)
    (λ other k. let f = s other k in grind (arith, e, k, f))

pub after : (call : ℕ) (writes : List (Key × ℕ)) (shown : Shown) → After call writes shown
after call [] shown = untouched (λ (i, l, e). absurd (omega (arith, l))) refl
after call (write ∷ writes) shown = by_test (same_key shown.key write.0) refl (after call writes shown)
  where
    by_test : (t : Bool) → same_key shown.key write.0 ≡ t → After call writes shown →
        After call (write ∷ writes) shown
    by_test true e a = rewritten_first call write writes shown e
    by_test false e a = after_more call write writes shown e a

keys-mapped : {A : Type 0} (f : Key × A → ℕ) (writes : List (Key × A)) →
    keys_of (map (λ write. (write.0, f write)) writes) ≡ map (λ write. write.0) writes
keys-mapped f [] = refl
keys-mapped f (write ∷ writes) = ap (λ (ks : List Key). write.0 ∷ ks) (keys-mapped f writes)

-- the keys written are those of the operation
pub keys-written : (op : Op) (values : List ℕ) → keys_of (written_by op values) ≡ writes_of op
keys-written (Read key) values = refl
keys-written (Write key value) values = refl
keys-written (Snap keys) values = refl
keys-written (Txn keys guard writes) values = keys-mapped (λ write. formula_value write.1 values) writes
