-- Majorities of the members of a group.
use Rattle.std.specs.Prelude.{◌≡◌, ℕ, zero, suc, ◌≤◌, Bool, true, if◌then◌else◌}
use Rattle.rss_tables.specs.Round.{majority}

-- how many of the members from 1 to this one pass a test
abbrev pub count_to : (ℕ → Bool) → ℕ → ℕ
count_to test zero = 0
count_to test (suc n) = if test (suc n) then suc (count_to test n) else count_to test n

-- a majority of so many members, each of which is so
pub record MajorityOf (members : ℕ) (P : ℕ → Type 0) : Type 0 where
  pub among : ℕ → Bool
  pub many : majority members ≤ count_to among members
  pub each : (m : ℕ) → 1 ≤ m → m ≤ members → among m ≡ true → P m
