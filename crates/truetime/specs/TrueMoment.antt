-- The true moment over a list of readings, and the readings that it lets in.
use Rattle.std.specs.Prelude.{ℕ, ◌≡◌, ◌≤◌, ◌<◌, ◌⊎◌, max, Bool, nat_le, IsTrue, List, [], ◌∷◌}
use Rattle.truetime.specs.Reading.{Reading, IsReading, reading_at}

-- the true moment after the first n readings: the greatest earliest among them, and 0 before the first
pub record IsTrueMoment (readings : List Reading) (n moment : ℕ) : Type 0 where
  pub greatest : (i : ℕ) → i < n → (reading_at readings i).earliest ≤ moment
  pub reached : ((n ≡ 0) × (moment ≡ 0)) ⊎ ((i : ℕ) × (i < n) × ((reading_at readings i).earliest ≡ moment))

-- the true moment after all readings of a list, as a number
abbrev pub true_moment : List Reading → ℕ
true_moment [] = 0
true_moment (at ∷ readings) = max at.earliest (true_moment readings)

-- whether a reading is let in at this true moment: it does not end before it
abbrev pub admits : ℕ → Reading → Bool
admits moment at = nat_le moment at.latest

-- the true moment after one more reading
abbrev pub moment_after : ℕ → Reading → ℕ
moment_after moment at = max moment at.earliest

-- the readings are let in one after another, from this true moment on
abbrev pub AreAdmitted : ℕ → List Reading → Type 0
AreAdmitted moment [] = Unit {0}
AreAdmitted moment (at ∷ readings) = IsReading at × IsTrue (admits moment at) × AreAdmitted (moment_after moment at) readings
