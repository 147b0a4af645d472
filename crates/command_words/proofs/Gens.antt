-- Which words are `gen` and a number.
use Rattle.std.proofs.Common.{◌≡◌, ℕ, List, [], ◌∷◌, Some, None, ap, ◌∙◌, sym}
use Rattle.std.specs.Prelude.{Option, MatchOption, codes}
use Rattle.rss_workload.specs.Spelling.{IsSpelling, SpellsNone}
use Rattle.command_words.specs.Generated.{IsGen, IsNoGen}

-- the second of some words
abbrev second_of : List (List ℕ) → List ℕ
second_of [] = []
second_of (first ∷ []) = []
second_of (first ∷ word ∷ words) = word

pub gen_by : (o : Option ℕ) (name number text : List ℕ) → name ≡ codes "gen" → text ≡ number → MatchOption o (SpellsNone text) (λ n. IsSpelling text n) → MatchOption o (IsNoGen (name ∷ number ∷ [])) (λ n. IsGen (name ∷ number ∷ []) n)
gen_by None name number text e same h = λ n g. h n (record { file = g.file; spelled = same ∙ ap second_of g.called })
gen_by (Some n) name number text e same h = record { file = h.file; called = ap (λ (x : List ℕ). x ∷ number ∷ []) e ∙ ap (λ (x : List ℕ). codes "gen" ∷ x ∷ []) (sym same ∙ h.spelled) }
