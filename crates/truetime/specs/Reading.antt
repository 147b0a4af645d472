-- Readings of a clock: the true moment of a reading lies between its two ends.
use Rattle.std.specs.Prelude.{ℕ, ◌≤◌, ◌<◌, ◌^◌, List, length, slice_index_or}

-- one reading, in microseconds
pub record Reading : Type 0 where
  pub earliest : ℕ
  pub latest : ℕ

-- the ends of a reading are in order and below the limit of time
abbrev pub IsReading : Reading → Type 0
IsReading at = (at.earliest ≤ at.latest) × (at.latest < 2 ^ 62)

-- the reading at a position, counted from 0
abbrev pub reading_at : List Reading → ℕ → Reading
reading_at readings i = slice_index_or readings i (record { earliest = 0; latest = 0 })

-- consistent readings: none ends before the beginning of itself or of an earlier one
pub record AreConsistent (readings : List Reading) : Type 0 where
  pub meet : (i j : ℕ) → i ≤ j → j < length readings → (reading_at readings i).earliest ≤ (reading_at readings j).latest
