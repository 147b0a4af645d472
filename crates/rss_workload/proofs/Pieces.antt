-- Pieces of text behind one another.
use Rattle.std.proofs.Common.{◌≡◌, ℕ, List, [], ◌++◌, ◌∙◌, ap}
use Rattle.std.proofs.lemmas.List.{append_assoc}
use Rattle.std.specs.Fmt.{decimal}

-- four pieces, each put behind what was written, and nothing was
pub four_pieces : (a b c d start w x y z : List ℕ) → start ≡ [] → w ≡ start ++ a → x ≡ w ++ b → y ≡ x ++ c → z ≡ y ++ d → z ≡ a ++ (b ++ (c ++ d))
four_pieces a b c d start w x y z empty first second third last =
    last
    ∙ ap (λ text. text ++ d) third
    ∙ append_assoc x c d
    ∙ ap (λ text. text ++ (c ++ d)) second
    ∙ append_assoc w b (c ++ d)
    ∙ ap (λ text. text ++ (b ++ (c ++ d))) (first ∙ ap (λ text. text ++ a) empty)

-- a piece and a number by another name
pub renamed : (old new piece : List ℕ) (k m : ℕ) → new ≡ old ++ (piece ++ decimal k) → k ≡ m → new ≡ old ++ (piece ++ decimal m)
renamed old new piece k m put same = put ∙ ap (λ number. old ++ (piece ++ decimal number)) same
