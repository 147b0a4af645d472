-- What the replies of a round say together.
use Rattle.std.specs.Prelude.{◌≡◌, ℕ, ◌<◌, ◌^◌, List, get_or, Option, Some, None}
use Rattle.carstamps.specs.Stamp.{IsAtMost}
use Rattle.rss_wire.specs.declared.messages.RegReply.{RegReply}
use Rattle.rss_tables.specs.Round.{Round, greatest_heard}
use Rattle.rss_tables.specs.RegisterSession.{found_cell}

-- what was heard of the replica at this place, if anything
abbrev pub heard_at : List (Option RegReply) → ℕ → Option RegReply
heard_at heard at = get_or heard at None

-- where the first cell is there, so is the second, and its stamp is not smaller
abbrev pub IsCellAtMost : Option RegReply → Option RegReply → Type 0
IsCellAtMost None best = Unit {0}
IsCellAtMost (Some cell) None = ⊥
IsCellAtMost (Some cell) (Some best) = IsAtMost cell.stamp best.stamp

-- a cell that was heard, and than which none has a greater stamp; none only where nobody was heard
pub record IsGreatest (heard : List (Option RegReply)) (best : Option RegReply) : Type 0 where
  pub none_above : (at : ℕ) → IsCellAtMost (heard_at heard at) best
  pub was_heard : (cell : RegReply) → best ≡ Some cell → (at : ℕ) × (heard_at heard at ≡ Some cell)

-- all cells heard have one stamp
abbrev pub HaveOneStamp : List (Option RegReply) → Type 0
HaveOneStamp heard =
    (i j : ℕ) (a b : RegReply) → heard_at heard i ≡ Some a → heard_at heard j ≡ Some b → a.stamp ≡ b.stamp

-- a stamp number after which there is a next one
abbrev pub IsSmall : RegReply → Type 0
IsSmall cell = cell.stamp.number < 2 ^ 63

-- each cell heard has a small stamp
abbrev pub HearsSmall : Round → Type 0
HearsSmall round = (at : ℕ) (cell : RegReply) → heard_at round.heard at ≡ Some cell → IsSmall cell

-- the greatest cell heard has a small stamp
abbrev pub HasSmallStamps : Round → Type 0
HasSmallStamps round = IsSmall (found_cell (greatest_heard round))
