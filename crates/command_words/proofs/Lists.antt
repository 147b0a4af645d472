-- A list of two.
use Rattle.std.proofs.Common.{◌≡◌, ℕ, ◌<◌, ◌≤◌, List, [], ◌∷◌, length, get_or, arith, ap, sym, ◌∙◌}

pub two_items : {X : Type 0} (xs : List X) (x y : X) → 2 ≤ length xs → length xs < 3 → x ≡ get_or xs 0 x → y ≡ get_or xs 1 y → xs ≡ x ∷ y ∷ []
two_items [] x y some few e f = absurd (omega (arith, some))
two_items (a ∷ []) x y some few e f = absurd (omega (arith, some))
two_items (a ∷ b ∷ []) x y some few e f = ap (λ z. z ∷ b ∷ []) (sym e) ∙ ap (λ z. x ∷ z ∷ []) (sym f)
two_items (a ∷ b ∷ c ∷ cs) x y some few e f = absurd (omega (arith, few))
