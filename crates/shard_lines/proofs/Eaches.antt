-- Loops over lines.
use Rattle.std.proofs.Common.{◌≡◌, ℕ, zero, suc, [], ◌∷◌, subst, ◌+◌, ◌-◌, ◌<◌, ◌≤◌, List, ◌++◌, map, length, take, drop, get_or, set, ap, sym, ◌∙◌, arith}
use Rattle.std.proofs.lemmas.List.{take_all, drop_all, append-nil}
use Rattle.std.proofs.lemmas.List.Edits.{map_over_more}
use Rattle.shard_lines.specs.declared.flat.Part.{Part}
use Rattle.shard_lines.specs.declared.flat.FlatLine.{FlatLine}
use Rattle.shard_lines.specs.Flat.{part, IsInside, AreSkips}

pub ruleset mapping = (map_over_more, take_all, drop_all, append-nil)

pub part_size : {A : Type 0} (from many : ℕ) (xs : List A) → take (from + many - from) (drop from xs) ≡ take many (drop from xs)
part_size from many xs = let same : from + many - from ≡ many = omega arith in ap (λ n. take n (drop from xs)) same

-- one more line is changed
pub mapped_more : (f : FlatLine → FlatLine) (old now : List FlatLine) (i : ℕ) (x y : FlatLine) → now ≡ map f (take i old) ++ drop i old → i < length old → x ≡ get_or now i x → y ≡ f (get_or now i x) → set now i y ≡ map f (take (i + 1) old) ++ drop (i + 1) old
mapped_more f old now i x y e h read is = ap (set now i) (is ∙ ap f (sym read)) ∙ map_over_more f old now i x h e read

-- a line's skipped writers lie inside, and stay there
pub skips_at : (n : ℕ) (fs : List FlatLine) (at : ℕ) (d : FlatLine) → AreSkips n fs → at < length fs → IsInside n (get_or fs at d).skipped
skips_at n [] at d h l = absurd (omega (arith, l))
skips_at n (f ∷ fs) zero d h l = h.0
skips_at n (f ∷ fs) (suc at) d h l = skips_at n fs at d h.1 (omega (arith, l))

pub skips_set : (n : ℕ) (fs : List FlatLine) (at : ℕ) (x : FlatLine) → AreSkips n fs → IsInside n x.skipped → AreSkips n (set fs at x)
skips_set n [] at x h i = tt
skips_set n (f ∷ fs) zero x h i = (i, h.1)
skips_set n (f ∷ fs) (suc at) x h i = (h.0, skips_set n fs at x h.1 i)
