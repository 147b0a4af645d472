-- Pieces of a line behind one another.
use Rattle.std.proofs.Common.{◌≡◌, ℕ, List, ◌++◌, ap, ◌∙◌}
use Rattle.std.proofs.lemmas.List.{append_assoc}

-- three pieces behind what was written
pub three : (out a b c x y : List ℕ) → x ≡ out ++ a → y ≡ x ++ b → y ++ c ≡ out ++ (a ++ (b ++ c))
three out a b c x y e f =
    ap (λ (text : List ℕ). text ++ c) f ∙ append_assoc x b c ∙ ap (λ (text : List ℕ). text ++ (b ++ c)) e ∙ append_assoc out a (b ++ c)
