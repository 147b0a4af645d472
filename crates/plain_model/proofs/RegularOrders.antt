-- What the test of an order decides, and what it adds up to.
use Rattle.std.proofs.Common.{◌≡◌, ℕ, zero, suc, ◌<◌, ◌≤◌, List, [], ◌∷◌, Bool, true, false, refl, arith, subst, ◌⊎◌, inl, inr}
use Rattle.std.specs.Prelude.{IsTrue}
use Rattle.std.specs.Bool.{Decides}
use Rattle.std.proofs.lemmas.Bool.{cases_lt}
use Rattle.std.proofs.lemmas.Bool.Decides.{Decides-and, Decides-or, Decides-not, Decides-like}
use Rattle.rss_model.specs.declared.history.Entry.{Entry}
use Rattle.rss_model.specs.Mutation.{is_mutation}
use Rattle.rss_model.specs.RealTime.{BeforeInRealTime}
use Rattle.rss_model.specs.Causality.{CausallyBefore}
use Rattle.rss_model.specs.Candidate.{StandsAt, InOrder, IsCandidate}
use Rattle.rss_model.specs.Legal.{Legal}
use Rattle.rss_model.specs.Regular.{Regular}
use Rattle.plain_model.specs.Orders.{must_precede, none_precedes, keeps_order}
use Rattle.plain_model.specs.Causes.{IsCausality}
use Rattle.plain_model.proofs.Pairs.{has_pair-Decides}
use Rattle.plain_model.proofs.RealTimes.{MustFollow, ReadsWritten, follows-Decides}

-- a call must stand before another one
abbrev MustPrecede : List Entry → ℕ → ℕ → Type 0
MustPrecede h a b = CausallyBefore h a b ⊎ MustFollow h a b

-- the calls of an order stand behind none that they must precede
abbrev pub IsKept : List Entry → List ℕ → Type 0
IsKept h c = (a b i j : ℕ) → i ≤ j → StandsAt c b i → StandsAt c a j → ¬ MustPrecede h a b

module _ (h : List Entry) (pairs : List (ℕ × ℕ)) (exact : IsCausality h pairs) where
  must-Decides : (a b : ℕ) → Decides (must_precede h pairs a b) (MustPrecede h a b)
  must-Decides a b =
      Decides-or _ _
      (Decides-like _ (λ w. (exact.exact a b).0 w) (λ p. (exact.exact a b).1 p)
      (has_pair-Decides pairs a b))
      (follows-Decides h a b)

  abbrev NonePrecedes : ℕ → List ℕ → Type 0
  NonePrecedes b calls = (a i : ℕ) → StandsAt calls a i → ¬ MustPrecede h a b

  none_cons : (b a : ℕ) (calls : List ℕ) → (¬ MustPrecede h a b) × NonePrecedes b calls →
      NonePrecedes b (a ∷ calls)
  none_cons b a calls p x zero s = subst (λ y. ¬ MustPrecede h y b) (cc) p.0
  none_cons b a calls p x (suc i) s = p.1 x i s

  none_uncons : (b a : ℕ) (calls : List ℕ) → NonePrecedes b (a ∷ calls) →
      (¬ MustPrecede h a b) × NonePrecedes b calls
  none_uncons b a calls f = (f a 0 refl, λ x i s. f x (suc i) s)

  none-Decides : (b : ℕ) (calls : List ℕ) →
      Decides (none_precedes h pairs b calls) (NonePrecedes b calls)
  none-Decides b [] = (λ t a i s. absurd (cc), λ f. refl)
  none-Decides b (a ∷ calls) =
      Decides-like _ (none_cons b a calls) (none_uncons b a calls)
      (Decides-and _ _ (Decides-not _ (must-Decides a b)) (none-Decides b calls))

  kept_cons : (b : ℕ) (c : List ℕ) → NonePrecedes b (b ∷ c) × IsKept h c → IsKept h (b ∷ c)
  kept_cons b c p x y zero j l s t =
      subst (λ z. ¬ MustPrecede h x z) (cc) (p.0 x j t)
  kept_cons b c p x y (suc i) zero l s t = absurd (omega (arith, l))
  kept_cons b c p x y (suc i) (suc j) l s t = p.1 x y i j (omega (arith, l)) s t

  kept_uncons : (b : ℕ) (c : List ℕ) → IsKept h (b ∷ c) → NonePrecedes b (b ∷ c) × IsKept h c
  kept_uncons b c f = (
    λ x j t. f x b 0 j (omega arith) refl t,
    λ x y i j l s t. f x y (suc i) (suc j) (omega (arith, l)) s t,
  )

  pub kept-Decides : (c : List ℕ) → Decides (keeps_order h pairs c) (IsKept h c)
  kept-Decides [] = (λ t a b i j l s u. absurd (cc), λ f. refl)
  kept-Decides (b ∷ c) =
      Decides-like _ (kept_cons b c) (kept_uncons b c)
      (Decides-and _ _ (none-Decides b (b ∷ c)) (kept-Decides c))

-- a legal candidate that is kept is regular
pub to_regular : (h : List Entry) (c : List ℕ) → IsCandidate h c → Legal h c → IsKept h c →
    Regular h c
to_regular h c candidate legal kept =
    record {
      candidate = candidate;
      legal = legal;
      causal = λ a b p. in_order a b (inl p);
      mutations = λ a b t m n. in_order a b (inr (t, (m, inl n)));
      reads = λ a b t k. in_order a b (inr (t, (k.mutates, inr (k.key, k.is_read, k.is_written))));
    }
  where
    in_order : (a b : ℕ) → MustPrecede h a b → InOrder c a b
    in_order a b m i j s t = by_place (cases_lt i j)
      where
        by_place : (i < j) ⊎ (j ≤ i) → i < j
        by_place (inl l) = l
        by_place (inr l) = absurd (kept a b j i l t s m)

-- a regular order is kept
pub from_regular : (h : List Entry) (c : List ℕ) → Regular h c → IsKept h c
from_regular h c r a b i j l s t m = omega (arith, l, by_cause m j i t s)
  where
    by_kind : (x : Bool) → is_mutation h b ≡ x → BeforeInRealTime h a b → IsTrue (is_mutation h a) →
        ReadsWritten h b a → InOrder c a b
    by_kind true e before mutates shared = r.mutations a b before mutates e
    by_kind false e before mutates shared =
        r.reads a b before
        (record {
          reads = e;
          mutates = mutates;
          key = shared.0;
          is_read = shared.1;
          is_written = shared.2;
        })

    by_cause : MustPrecede h a b → InOrder c a b
    by_cause (inl p) = r.causal a b p
    by_cause (inr (before, (mutates, inl n))) = r.mutations a b before mutates n
    by_cause (inr (before, (mutates, inr shared))) =
        by_kind (is_mutation h b) refl before mutates shared
