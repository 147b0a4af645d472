-- The first moment above a time, by how many are not above it.
use Rattle.std.proofs.Common.{◌≡◌, ℕ, zero, suc, ◌+◌, ◌<◌, ◌≤◌, List, [], ◌∷◌, length, get_or, arith, sym, ◌∙◌}
use Rattle.std.specs.Prelude.{true, false}
use Rattle.std.proofs.Math.Dec.{leb}
use Rattle.std.specs.List.Sorted.{IsPartitionPoint}
use Rattle.std.proofs.lemmas.Bool.Decides.{nat_tests}
use Rattle.std.proofs.lemmas.Bool.{leb-true, leb-false}
use Rattle.rss_machine.specs.Times.{first_above}

pub first_is : (xs : List ℕ) (time p n : ℕ) → p ≤ length xs → ((k : ℕ) → k < p → get_or xs k 0 ≤ time) → ((k : ℕ) → p ≤ k → k < length xs → time < get_or xs k 0) → first_above n time xs ≡ n + p
first_is [] time p n l low high = let e : p ≡ 0 = omega (arith, l) in rw e (omega arith)
first_is (x ∷ xs) time zero n l low high =
    let h : time < x = high 0 (omega arith) (omega arith) in
    grind (arith, nat_tests, h)
first_is (x ∷ xs) time (suc p) n l low high =
    let h : x ≤ time = low 0 (omega arith) in
    let r : first_above (n + 1) time xs ≡ n + 1 + p = first_is xs time p (n + 1) (omega (arith, l)) (λ k q. low (suc k) (omega (arith, q))) (λ k q t. high (suc k) (omega (arith, q)) (omega (arith, t))) in
    grind (arith, nat_tests, h, r)

-- from what `partition_point` says
pub first_from : (xs : List ℕ) (time p : ℕ) → p ≤ length xs → IsPartitionPoint (λ y. leb y time ≡ true) (λ y. leb y time ≡ false) xs p → p + 1 ≡ first_above 1 time xs
first_from xs time p l h =
    let low : (k : ℕ) → k < p → get_or xs k 0 ≤ time = λ k q. leb-true (get_or xs k 0) time (h.0 k 0 (omega arith) q) in
    let high : (k : ℕ) → p ≤ k → k < length xs → time < get_or xs k 0 = λ k q t. leb-false (get_or xs k 0) time (h.1 k 0 q t) in
    omega arith ∙ sym (first_is xs time p 1 l low high)
