-- One more fence of a service leaves room for the others.
use Rattle.std.proofs.Common.{◌≡◌, ℕ, suc, ◌+◌, ◌<◌, ◌≤◌, ◌^◌, List, drop, get_or, set, length, Option, Some, None, sym, ap, ◌∙◌, arith}
use Rattle.std.specs.Prelude.{◌⊎◌}
use Rattle.std.proofs.lemmas.Grind.{common_steps}
use Rattle.std.proofs.lemmas.List.{length-drop}
use Rattle.std.proofs.Math.Seq.{drop-cons}
use Rattle.causal_context.specs.Services.{place_of}
use Rattle.rss_names.specs.declared.service.ServiceId.{ServiceId}
use Rattle.rss_tables.specs.declared.fences.FenceWork.{FenceWork}
use Rattle.rss_machine.specs.Moves.{counts_fences, one_more_at}
use Rattle.world_traffic.specs.View.{CountsFit}

get_or_set : (xs : List ℕ) (i a j : ℕ) → ((get_or (set xs i a) j 0 ≡ a) × (j ≡ i)) ⊎ (get_or (set xs i a) j 0 ≡ get_or xs j 0)
get_or_set xs i a j = grind (arith, common_steps)

-- one more fence is counted
pub one_more_fits : (m n : ℕ) (place : Option ℕ) (counts : List ℕ) → CountsFit m counts → n + 1 ≤ m → CountsFit n (one_more_at place counts)
one_more_fits m n None counts h e = record { fits = λ p. (let a = h.fits p in omega (arith, a, e)) }
one_more_fits m n (Some place) counts h e = record { fits = λ p. (let a = h.fits p in let b = h.fits place in let d = get_or_set counts place (get_or counts place 0 + 1) p in grind (arith, a, b, d, e)) }

pub fewer_fit : (m n : ℕ) (counts : List ℕ) → CountsFit n counts → m ≤ n → CountsFit m counts
fewer_fit m n counts h e = record { fits = λ p. (let a = h.fits p in omega (arith, a, e)) }

pub place_fits : (n place : ℕ) (counts : List ℕ) → CountsFit n counts → get_or counts place 0 + n < 2 ^ 32
place_fits n place counts h = h.fits place

drop_more : (fences : List (ServiceId × FenceWork)) (i : ℕ) → i < length fences → length (drop (i + 1) fences) + 1 ≤ length (drop i fences)
drop_more fences i h = omega (arith, h, length-drop i fences, length-drop (i + 1) fences)

-- what is left to count still fits
pub fits_on : (fences : List (ServiceId × FenceWork)) (i : ℕ) (place : Option ℕ) (counts : List ℕ) → i < length fences → CountsFit (length (drop i fences)) counts → CountsFit (length (drop (i + 1) fences)) (one_more_at place counts)
fits_on fences i place counts h g = one_more_fits (length (drop i fences)) (length (drop (i + 1) fences)) place counts g (drop_more fences i h)

pub fits_one : (fences : List (ServiceId × FenceWork)) (i : ℕ) (counts : List ℕ) → i < length fences → CountsFit (length (drop i fences)) counts → CountsFit 1 counts
fits_one fences i counts h g = fewer_fit 1 (length (drop i fences)) counts g (omega (arith, h, length-drop i fences))

-- one more is counted
pub counted_on : (fences : List (ServiceId × FenceWork)) (i : ℕ) (d : ServiceId × FenceWork) (counts : List ℕ) → i < length fences → counts_fences (drop (i + 1) fences) (one_more_at (place_of (get_or fences i d).0) counts) ≡ counts_fences (drop i fences) counts
counted_on fences i d counts h =
    let one : i + 1 ≡ suc i = omega arith in
    ap (λ (n : ℕ). counts_fences (drop n fences) (one_more_at (place_of (get_or fences i d).0) counts)) one
    ∙ sym (ap (λ (l : List (ServiceId × FenceWork)). counts_fences l counts) (drop-cons fences i d h))

pub ruleset counting = (counted_on, fits_on, fits_one)

pub ruleset placing = (place_fits)
