-- The sample history, in which call 1 writes what call 2 then reads, is regular in that order.
use Rattle.std.proofs.Common.{◌≡◌, ℕ, ◌<◌, ◌⊎◌, [], ◌∷◌, arith, refl, inl, inr}
use Rattle.std.specs.Prelude.{IsTrue, ◌+◌}
use Rattle.rss_model.specs.History.{reply_of, has_ended, BeginsAt, EndsAt}
use Rattle.rss_model.specs.Mutation.{is_mutation}
use Rattle.rss_model.specs.Causality.{ReadsFrom, Generates, CausallyBefore}
use Rattle.rss_model.specs.Candidate.{StandsAt, InOrder, IsCandidate}
use Rattle.rss_model.specs.RealTime.{BeforeInRealTime}
use Rattle.rss_model.specs.Regular.{Regular}
use Rattle.rss_model.specs.Samples.{written_then_read, legal, each_of_two}
use Rattle.rss_model.proofs.PathLemmas.{path_forward, closure_within}

-- what ends, begins and is read where
ends_where :
    (call i : ℕ) → EndsAt written_then_read call i → ((i ≡ 1) × (call ≡ 1)) ⊎ ((i ≡ 3) × (call ≡ 2))
ends_where call i e = grind arith

begins_where : (call i : ℕ) → BeginsAt written_then_read call i →
    ((i ≡ 0) × (call ≡ 1)) ⊎ ((i ≡ 2) × (call ≡ 2))
begins_where call i e = grind arith

reads_what : (a b : ℕ) → ReadsFrom written_then_read b a → (a ≡ 1) × (b ≡ 2)
unfolding reply_of
reads_what a b (s, (k, x, l, e, w)) = grind (arith, s, l, e, w)

generated : (a b : ℕ) → Generates written_then_read a b → (a ≡ 1) × (b ≡ 2)
generated a b (inl (i, j, e, s, p)) =
    grind (arith, ends_where a i e, begins_where b j s, path_forward written_then_read i j p)
generated a b (inr s) = reads_what a b s

-- what is before another call causally has the smaller number
rising : (a b : ℕ) → CausallyBefore written_then_read a b → a < b
rising =
    closure_within written_then_read (λ a b. a < b) (λ a b g. grind (arith, generated a b g))
    (λ a b c l g. grind (arith, l, generated b c g))

-- the calls stand by their numbers
places : (call i : ℕ) → StandsAt (1 ∷ 2 ∷ []) call i → call ≡ i + 1
places = each_of_two (λ call i. call ≡ i + 1) 1 2 refl refl

candidate : IsCandidate written_then_read (1 ∷ 2 ∷ [])
unfolding has_ended
candidate = record {
  distinct = λ i j d l m. grind (arith, l, m);
  ended = λ call e. grind (arith, e);
  besides =
      each_of_two
      (λ call i.
      IsTrue (has_ended written_then_read call) ⊎ IsTrue (is_mutation written_then_read call))
      1 2 (inl refl) (inl refl);
}

in_real_time : (a b : ℕ) → BeforeInRealTime written_then_read a b → a < b
in_real_time a b (i, j, e, s, l) = grind (arith, ends_where a i e, begins_where b j s, l)

in_order : (a b : ℕ) → a < b → InOrder (1 ∷ 2 ∷ []) a b
in_order a b l i j s t = omega (arith, l, places a i s, places b j t)

pub regular : Regular written_then_read (1 ∷ 2 ∷ [])
regular = record {
  candidate = candidate;
  legal = legal;
  causal = λ a b c. in_order a b (rising a b c);
  mutations = λ a b t m n. in_order a b (in_real_time a b t);
  reads = λ a b t c. in_order a b (in_real_time a b t);
}
