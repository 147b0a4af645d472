-- How a step of a search by halves pays, and what a pair in the middle says of the others.
use Rattle.std.proofs.Common.{◌≡◌, ◌⊎◌, inl, inr, ℕ, suc, ◌+◌, ◌-◌, ◌*◌, ◌^◌, ◌<◌, ◌≤◌, Bool, true, false, List, length, arith, sym, ap, ◌∙◌, refl}
use Rattle.std.proofs.lemmas.Grind.{common_steps}
use Rattle.std.proofs.lemmas.Bool.{cases_lt}
use Rattle.std.proofs.Math.Nat.{mul-le-mul_left}
use Rattle.rss_names.specs.Ascending.{pair_le, pair_at, Ascend}

-- one more step doubles the power
pub power_later : (a b : ℕ) → b ≤ a → 2 ^ ((a + 1) - b) ≡ 2 * 2 ^ (a - b)
power_later a b h = let e : (a + 1) - b ≡ suc (a - b) = omega arith in ap (λ (k : ℕ). 2 ^ k) e ∙ grind arith

-- at most half is left after a step
pub half_left : (p r s n : ℕ) → p * r ≤ n → 2 * s ≤ r → 2 * p * s ≤ n
half_left p r s n h k = omega (arith, mul-le-mul_left p k)

-- a step is taken only where something is left
pub step_pays : (p r n : ℕ) → p * r ≤ n → 0 < r → 2 * p ≤ 2 * n + 1
step_pays p r n h k = let k' : 1 ≤ r = omega arith in omega (arith, mul-le-mul_left p k')

le_trans : (a b c : ℕ × ℕ) → pair_le a b ≡ true → pair_le b c ≡ true → pair_le a c ≡ true
le_trans a b c p q = grind (arith, common_steps)

-- where a pair is at most the bound, so is each pair before it
pub before_at_most : (pairs : List (ℕ × ℕ)) (bound : ℕ × ℕ) (middle j : ℕ) → Ascend pairs → middle < length pairs → pair_le (pair_at pairs middle) bound ≡ true → j < middle → pair_le (pair_at pairs j) bound ≡ true
before_at_most pairs bound middle j h w m k = le_trans _ (pair_at pairs middle) _ (h.in_order j middle k w) m

-- where a pair is above the bound, so is each pair behind it
pub behind_above : (pairs : List (ℕ × ℕ)) (bound : ℕ × ℕ) (middle j : ℕ) → Ascend pairs → j < length pairs → pair_le (pair_at pairs middle) bound ≡ false → middle < j → pair_le (pair_at pairs j) bound ≡ false
behind_above pairs bound middle j h w m k = go (pair_le (pair_at pairs j) bound) refl
  where
    go : (b : Bool) → pair_le (pair_at pairs j) bound ≡ b → pair_le (pair_at pairs j) bound ≡ false
    go false e = e
    go true e = let f = le_trans _ (pair_at pairs j) _ (h.in_order middle j k w) e in absurd (let x : true ≡ false = sym f ∙ m in cc)

-- a step that leaves at most half keeps the bound on steps
pub paid : (a b first r s n : ℕ) → first ≤ a → b ≡ a + 1 → 2 ^ (a - first) * r ≤ n → 2 * s ≤ r → 0 < r → (2 ^ (b - first) * s ≤ n) × (2 ^ (b - first) ≤ 2 * n + 1)
paid a b first r s n h q k t u =
    let e : 2 ^ (b - first) ≡ 2 * 2 ^ (a - first) = ap (λ (k : ℕ). 2 ^ (k - first)) q ∙ power_later a first h in
    (rw e (half_left (2 ^ (a - first)) r s n k t), rw e (step_pays (2 ^ (a - first)) r n k u))

-- the same, with the pair in the middle itself
pub upto_at_most : (pairs : List (ℕ × ℕ)) (bound : ℕ × ℕ) (middle j : ℕ) → Ascend pairs → middle < length pairs → pair_le (pair_at pairs middle) bound ≡ true → j < middle + 1 → pair_le (pair_at pairs j) bound ≡ true
upto_at_most pairs bound middle j h w m k = go (cases_lt j middle)
  where
    go : ((j < middle) ⊎ (middle ≤ j)) → pair_le (pair_at pairs j) bound ≡ true
    go (inl l) = before_at_most pairs bound middle j h w m l
    go (inr l) = let e : j ≡ middle = omega arith in rw e m

pub from_above : (pairs : List (ℕ × ℕ)) (bound : ℕ × ℕ) (middle j : ℕ) → Ascend pairs → j < length pairs → pair_le (pair_at pairs middle) bound ≡ false → middle ≤ j → pair_le (pair_at pairs j) bound ≡ false
from_above pairs bound middle j h w m k = go (cases_lt middle j)
  where
    go : ((middle < j) ⊎ (j ≤ middle)) → pair_le (pair_at pairs j) bound ≡ false
    go (inl l) = behind_above pairs bound middle j h w m l
    go (inr l) = let e : j ≡ middle = omega arith in rw e m
