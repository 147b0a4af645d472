-- The notes of a register: each is of a greater stamp than those before it, and of no earlier step.
use Rattle.std.specs.Prelude.{◌≡◌, ℕ, ◌<◌, ◌≤◌, true, List, length, get_or}
use Rattle.carstamps.specs.Stamp.{stamp_lt, opening_stamp}
use Rattle.rss_machine.specs.declared.state.Mark.{Mark}

-- a note by its place, counted from 0
abbrev pub mark_at : List Mark → ℕ → Mark
mark_at marks i = get_or marks i record { stamp = opening_stamp; step = 0 }

-- the notes ascend, and each is of one of the first n steps
pub record Ascending (n : ℕ) (marks : List Mark) : Type 0 where
  pub stamps : (i j : ℕ) → i < j → j < length marks → stamp_lt (mark_at marks i).stamp (mark_at marks j).stamp ≡ true
  pub steps : (i j : ℕ) → i < j → j < length marks → (mark_at marks i).step ≤ (mark_at marks j).step
  pub late : (i : ℕ) → i < length marks → 0 < (mark_at marks i).step
  pub soon : (i : ℕ) → i < length marks → (mark_at marks i).step ≤ n
