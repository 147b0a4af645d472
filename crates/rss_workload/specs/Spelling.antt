-- The numbers of generated files as words.
use Rattle.std.specs.Prelude.{ℕ, ◌≡◌, ◌≤◌, List}
use Rattle.std.specs.Fmt.{decimal}

-- there is a generated file of this number
pub record HasFile (n : ℕ) : Type 0 where
  pub low : 1 ≤ n
  pub high : n ≤ 1000

-- the word spells such a number, decimal without leading zeros
pub record IsSpelling (word : List ℕ) (n : ℕ) : Type 0 where
  pub file : HasFile n
  pub spelled : word ≡ decimal n

-- the word spells no such number
abbrev pub SpellsNone : List ℕ → Type 0
SpellsNone word = (n : ℕ) → IsSpelling word n → ⊥
