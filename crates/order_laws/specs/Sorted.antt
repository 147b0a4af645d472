-- Calls sorted by keys.
use Rattle.std.specs.Prelude.{◌≡◌, ℕ, List, AllPairs, Contains, IsPermutation}

-- things that have a call each, sorted: the same things, ascending, none of which shares its call with another
pub record AreSorted {X : Type 0} (call : X → ℕ) (Below : X → X → Type 0) (things order : List X) : Type 0 where
  pub all : IsPermutation things order
  pub ascending : AllPairs Below order
  pub one_each : (x y : X) → Contains things x → Contains things y → call x ≡ call y → x ≡ y

-- not each of two things is below the other
abbrev pub IsAsymmetric : {X : Type 0} → (X → X → Type 0) → Type 0
IsAsymmetric {X} Below = (x y : X) → Below x y → Below y x → ⊥
