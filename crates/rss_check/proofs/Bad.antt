-- The least bad call, place by place.
use Rattle.std.proofs.Common.{◌≡◌, ℕ, ◌+◌, ◌<◌, ◌≤◌, ◌⊎◌, inl, inr, Bool, true, false, Option, Some, None, refl, arith, subst}
use Rattle.std.specs.Prelude.{nat_lt}
use Rattle.std.proofs.lemmas.Bool.{cases_lt, ltb-true, ltb-false}
use Rattle.rss_check.specs.Bad.{IsLeastBad, lesser}

module _ (Bad : ℕ → ℕ → Type 0) where
  pub none_bad : IsLeastBad Bad 0 None
  none_bad = record {
    found = λ call e. absurd cc;
    least_is = λ call i other e l b. absurd (omega (arith, l));
    none = λ i other e l b. omega (arith, l);
  }

  -- a place at which no call is bad
  pub good_place : (n : ℕ) (least : Option ℕ) → IsLeastBad Bad n least → ((call : ℕ) → Bad n call → ⊥) → IsLeastBad Bad (n + 1) least
  good_place n least k g = record {
    found = λ call e. let f = k.found call e in (f.0, omega (arith, f.1), f.2);
    least_is = λ call i other e l b. by_place i other (cases_lt i n) l b (λ m. k.least_is call i other e m b);
    none = λ i other e l b. absurd (by_place_none i other (cases_lt i n) l b (λ m. k.none i other e m b));
  }
    where
      by_place : {P : Type 0} (i other : ℕ) → (i < n) ⊎ (n ≤ i) → i < n + 1 → Bad i other → (i < n → P) → P
      by_place i other (inl m) l b f = f m
      by_place i other (inr m) l b f = absurd (g other (subst (λ (j : ℕ). Bad j other) (let e : i ≡ n = omega (arith, l, m) in e) b))

      by_place_none : (i other : ℕ) → (i < n) ⊎ (n ≤ i) → i < n + 1 → Bad i other → (i < n → ⊥) → ⊥
      by_place_none i other (inl m) l b f = f m
      by_place_none i other (inr m) l b f = g other (subst (λ (j : ℕ). Bad j other) (let e : i ≡ n = omega (arith, l, m) in e) b)

  -- a place at which this call is bad, and no other
  module _ (n call : ℕ) (bad : Bad n call) (only : (other : ℕ) → Bad n other → other ≡ call) where
    older : (i other : ℕ) → i < n + 1 → Bad i other → (i < n) ⊎ (other ≡ call)
    older i other l b = by_place (cases_lt i n)
      where
        by_place : (i < n) ⊎ (n ≤ i) → (i < n) ⊎ (other ≡ call)
        by_place (inl m) = inl m
        by_place (inr m) = inr (only other (subst (λ (j : ℕ). Bad j other) (let e : i ≡ n = omega (arith, l, m) in e) b))

    first_bad : IsLeastBad Bad n None → IsLeastBad Bad (n + 1) (Some call)
    first_bad k = record {
      found = λ c e. (n, omega arith, subst (Bad n) (let f : call ≡ c = cc in f) bad);
      least_is = λ c i other e l b. by_older c i other e b (older i other l b);
      none = λ i other e l b. absurd (let f : ◌≡◌ {A = Option ℕ} (Some call) None = e in cc);
    }
      where
        by_older : (c i other : ℕ) → Some call ≡ Some c → Bad i other → (i < n) ⊎ (other ≡ call) → c ≤ other
        by_older c i other e b (inl m) = absurd (k.none i other refl m b)
        by_older c i other e b (inr s) = let f : call ≡ c = cc in omega (arith, f, s)

    keeps_least : (least : ℕ) → least ≤ call → IsLeastBad Bad n (Some least) → IsLeastBad Bad (n + 1) (Some least)
    keeps_least least m k = record {
      found = λ c e. let f = k.found c e in (f.0, omega (arith, f.1), f.2);
      least_is = λ c i other e l b. by_older c i other e b (older i other l b);
      none = λ i other e l b. absurd (let f : ◌≡◌ {A = Option ℕ} (Some least) None = e in cc);
    }
      where
        by_older : (c i other : ℕ) → Some least ≡ Some c → Bad i other → (i < n) ⊎ (other ≡ call) → c ≤ other
        by_older c i other e b (inl l) = k.least_is c i other e l b
        by_older c i other e b (inr s) = let f : least ≡ c = cc in omega (arith, f, s, m)

    lower_least : (least : ℕ) → call < least → IsLeastBad Bad n (Some least) → IsLeastBad Bad (n + 1) (Some call)
    lower_least least m k = record {
      found = λ c e. (n, omega arith, subst (Bad n) (let f : call ≡ c = cc in f) bad);
      least_is = λ c i other e l b. by_older c i other e b (older i other l b);
      none = λ i other e l b. absurd (let f : ◌≡◌ {A = Option ℕ} (Some call) None = e in cc);
    }
      where
        by_older : (c i other : ℕ) → Some call ≡ Some c → Bad i other → (i < n) ⊎ (other ≡ call) → c ≤ other
        by_older c i other e b (inl l) = let f : call ≡ c = cc in omega (arith, f, m, k.least_is least i other refl l b)
        by_older c i other e b (inr s) = let f : call ≡ c = cc in omega (arith, f, s)

    pub bad_place : (least : Option ℕ) → IsLeastBad Bad n least → IsLeastBad Bad (n + 1) (lesser least call)
    bad_place None k = first_bad k
    bad_place (Some least) k = by_test (nat_lt call least) refl
      where
        by_test : (t : Bool) → nat_lt call least ≡ t → IsLeastBad Bad (n + 1) (lesser (Some least) call)
        by_test true t = rw t (lower_least least (ltb-true call least t) k)
        by_test false t = rw t (keeps_least least (omega (arith, ltb-false call least t)) k)
