-- A service that counts the fences planned of it.
use Rattle.std.specs.Prelude.{ℕ, ◌+◌, ◌%◌, ◌^◌}

-- its number within its kind, and how many fences were planned of it
pub record CountedView : Type 0 where
  pub number : ℕ
  pub planned : ℕ

-- one fence more; a count of 64 bits begins again after the greatest
abbrev pub count_more : ℕ → ℕ
count_more n = (n + 1) % 2 ^ 64
