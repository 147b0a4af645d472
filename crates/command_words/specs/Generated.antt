-- The words `gen N`.
use Rattle.std.specs.Prelude.{ℕ, ◌≡◌, List, [], ◌∷◌, codes}
use Rattle.std.specs.Fmt.{decimal}
use Rattle.rss_workload.specs.Spelling.{HasFile}

-- the words are `gen` and a number of which there is a generated file, decimal without leading zeros
pub record IsGen (words : List (List ℕ)) (n : ℕ) : Type 0 where
  pub file : HasFile n
  pub called : words ≡ codes "gen" ∷ decimal n ∷ []

-- the words are that of no number
abbrev pub IsNoGen : List (List ℕ) → Type 0
IsNoGen words = (n : ℕ) → IsGen words n → ⊥
