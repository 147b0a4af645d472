-- What a list lacks, and a reply that is too short or too long.
use Rattle.std.proofs.Common.{◌≡◌, ℕ, zero, suc, ◌<◌, ◌≤◌, Bool, true, false, List, [], ◌∷◌, length, drop, get_or, Option, Some, None, refl, sym, ap, ◌∙◌, arith}
use Rattle.std.specs.Prelude.{slice_get, ◌==◌}
use Rattle.std.proofs.lemmas.Grind.{common_steps}
use Rattle.std.proofs.lemmas.Bool.Decides.{nat_tests}
use Rattle.rss_names.specs.declared.service.Key.{Key}
use Rattle.rss_model.specs.declared.op.Shown.{Shown}
use Rattle.history_index.specs.Following.{shows}

pub missing : {X : Type 0} (xs : List X) (i : ℕ) (d : X) → slice_get xs i ≡ None → get_or xs i d ≡ d
missing [] zero d e = refl
missing [] (suc i) d e = refl
missing (x ∷ xs) zero d e = absurd cc
missing (x ∷ xs) (suc i) d e = missing xs i d e

-- a key is left, and nothing is shown
pub shows_short : (keys : List Key) (i : ℕ) → i < length keys → shows [] (drop i keys) ≡ false
shows_short [] i l = absurd (omega (arith, l))
shows_short (key ∷ keys) zero l = refl
shows_short (key ∷ keys) (suc i) l = shows_short keys i (omega (arith, l))

-- nothing was shown for a key that is left
pub shows_none : (left : List Shown) (keys : List Key) (i : ℕ) → length left ≡ 0 → i < length keys → shows left (drop i keys) ≡ false
shows_none [] keys i e l = shows_short keys i l
shows_none (shown ∷ left) keys i e l = absurd (omega (arith, e))

nothing_left : (left : List Shown) → shows left [] ≡ (length left == 0)
nothing_left [] = refl
nothing_left (shown ∷ left) = grind (arith, common_steps, nat_tests)

-- no key is left
pub shows_end : (left : List Shown) (keys : List Key) (i : ℕ) → length keys ≤ i → shows left (drop i keys) ≡ (length left == 0)
shows_end left [] zero l = nothing_left left
shows_end left [] (suc i) l = nothing_left left
shows_end left (key ∷ keys) zero l = absurd (omega (arith, l))
shows_end left (key ∷ keys) (suc i) l = shows_end left keys i (omega (arith, l))
