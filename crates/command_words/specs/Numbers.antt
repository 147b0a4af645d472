-- Numbers as words.
use Rattle.std.specs.Prelude.{ℕ, ◌≡◌, ◌≤◌, List}
use Rattle.std.specs.Fmt.{decimal}

-- the word spells this number, decimal without leading zeros, and it is at most so great
pub record IsNumber (most : ℕ) (word : List ℕ) (n : ℕ) : Type 0 where
  pub within : n ≤ most
  pub spelled : word ≡ decimal n

-- the word spells no such number
abbrev pub IsNoNumber : ℕ → List ℕ → Type 0
IsNoNumber most word = (n : ℕ) → IsNumber most word n → ⊥
