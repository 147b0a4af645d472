-- The first line of a text.
use Rattle.std.proofs.Common.{◌≡◌, ◌≤◌, ℕ, arith, Bool, true, false, List, [], ◌∷◌, length, take, drop, refl, ap, ◌∙◌, sym, subst}
use Rattle.std.proofs.lemmas.Bool.{cond-true, cond-false}
use Rattle.std.specs.List.{slice_split, onto_first}
use Rattle.pipeline_lang.specs.Tokens.{is_newline, line_size}

-- a newline ends the first line
abbrev Ended : List ℕ → ℕ → Type 0
Ended text n = (b : ℕ) (more : List ℕ) → drop n text ≡ b ∷ more → slice_split is_newline text ≡ take n text ∷ slice_split is_newline more

-- the text ends the first line
abbrev Last : List ℕ → ℕ → Type 0
Last text n = length text ≤ n → slice_split is_newline text ≡ take n text ∷ []

same_rest : (text more : List ℕ) (b c : ℕ) → drop 0 (c ∷ text) ≡ b ∷ more → [] ∷ slice_split is_newline text ≡ [] ∷ slice_split is_newline more
same_rest text more b c d =
    let e : text ≡ more = cc in
    ap (λ l. [] ∷ slice_split is_newline l) e

first_of : (text : List ℕ) → Ended text (line_size text) × Last text (line_size text)
first_of [] = (λ b more e. cc, λ e. refl)
first_of (c ∷ text) = go (is_newline c) refl (first_of text)
  where
    go : (t : Bool) → is_newline c ≡ t → Ended text (line_size text) × Last text (line_size text) → Ended (c ∷ text) (line_size (c ∷ text)) × Last (c ∷ text) (line_size (c ∷ text))
    go true e h = subst (λ n. Ended (c ∷ text) n × Last (c ∷ text) n) (sym (cond-true (is_newline c) _ _ e))
        (λ b more d. cond-true (is_newline c) _ _ e ∙ same_rest text more b c d, λ d. absurd (omega arith))
    go false e h = subst (λ n. Ended (c ∷ text) n × Last (c ∷ text) n) (sym (cond-false (is_newline c) _ _ e))
        (λ b more d. cond-false (is_newline c) _ _ e ∙ ap (onto_first c) (h.0 b more d), λ d. cond-false (is_newline c) _ _ e ∙ ap (onto_first c) (h.1 (omega arith)))

pub first_line : (text : List ℕ) (n b : ℕ) (more : List ℕ) → n ≡ line_size text → drop n text ≡ b ∷ more → slice_split is_newline text ≡ take n text ∷ slice_split is_newline more
first_line text n b more e d = subst (λ m. Ended text m) (sym e) (first_of text).0 b more d

pub last_line : (text : List ℕ) (n : ℕ) → n ≡ line_size text → length text ≤ n → slice_split is_newline text ≡ take n text ∷ []
last_line text n e d = subst (λ m. Last text m) (sym e) (first_of text).1 d

pub ruleset first_lines = (first_line, last_line)
