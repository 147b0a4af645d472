-- A round over the replicas of one register service: it is reached when a majority has replied.
use Rattle.std.specs.Prelude.{ℕ, suc, ◌+◌, ◌-◌, ◌/◌, Bool, true, false, ◌&&◌, List, [], ◌∷◌, get_or, set, Option, Some, None, is_some, replicate, nat_le, nat_lt, if◌then◌else◌}
use Rattle.carstamps.specs.Stamp.{stamp_lt, stamp_le}
use Rattle.rss_wire.specs.declared.messages.RegReply.{RegReply}

-- more than half of n replicas
abbrev pub majority : ℕ → ℕ
majority n = n / 2 + 1

-- how many of n replicas can be left out so that a majority is left
abbrev pub spare : ℕ → ℕ
spare n = n - majority n

-- a round: the number of replicas, who of them is cut off, and what each said in this round;
-- replica number r stands at place r - 1
pub record Round : Type 0 where
  pub replicas : ℕ
  pub cut : List Bool
  pub heard : List (Option RegReply)

-- nobody was heard yet
abbrev pub nobody_heard : List (Option RegReply)
nobody_heard = replicate 7 None

-- a round in which nobody was heard yet
abbrev pub opening_round : ℕ → List Bool → Round
opening_round replicas cut = record { replicas = replicas; cut = cut; heard = nobody_heard }

-- how many were heard
abbrev pub count_heard : List (Option RegReply) → ℕ
count_heard [] = 0
count_heard (None ∷ heard) = count_heard heard
count_heard (Some cell ∷ heard) = suc (count_heard heard)

-- how many are cut off
abbrev pub count_cut : List Bool → ℕ
count_cut [] = 0
count_cut (true ∷ cut) = suc (count_cut cut)
count_cut (false ∷ cut) = count_cut cut

-- whether a replica was heard
abbrev pub was_heard : Round → ℕ → Bool
was_heard round from = is_some (get_or round.heard (from - 1) None)

-- a replica is heard, unless it was heard before
abbrev pub hears : Round → ℕ → RegReply → Round
hears round from cell =
    if was_heard round from then round else record round { heard = set round.heard (from - 1) (Some cell) }

-- a replica is cut off
abbrev pub cuts : Round → ℕ → Round
cuts round replica = record round { cut = set round.cut (replica - 1) true }

-- a majority was heard
abbrev pub is_reached : Round → Bool
is_reached round = nat_le (majority round.replicas) (count_heard round.heard)

-- more replicas are cut off than a majority can spare
abbrev pub is_lost : Round → Bool
is_lost round = nat_lt (spare round.replicas) (count_cut round.cut)

-- of two cells the second only where its stamp is greater
abbrev pub greater_cell : Option RegReply → RegReply → RegReply
greater_cell None cell = cell
greater_cell (Some best) cell = if stamp_lt best.stamp cell.stamp then cell else best

-- the cell of the greatest stamp heard, after this best one; the least replica's at equal stamps
abbrev pub greatest_after : Option RegReply → List (Option RegReply) → Option RegReply
greatest_after best [] = best
greatest_after best (None ∷ heard) = greatest_after best heard
greatest_after best (Some cell ∷ heard) = greatest_after (Some (greater_cell best cell)) heard

-- the cell of the greatest stamp heard
abbrev pub greatest_heard : Round → Option RegReply
greatest_heard round = greatest_after None round.heard

-- whether two stamps are the same
abbrev pub same_stamp : RegReply → RegReply → Bool
same_stamp a b = stamp_le a.stamp b.stamp && stamp_le b.stamp a.stamp

-- whether each cell heard has the stamp of this one
abbrev pub all_agree : RegReply → List (Option RegReply) → Bool
all_agree cell [] = true
all_agree cell (None ∷ heard) = all_agree cell heard
all_agree cell (Some other ∷ heard) = same_stamp cell other && all_agree cell heard

-- whether all cells that follow agree with the best one so far
abbrev pub agrees_with : Option RegReply → List (Option RegReply) → Bool
agrees_with None heard = true
agrees_with (Some cell) heard = all_agree cell heard

-- all stamps heard are equal
abbrev pub is_agreed : Round → Bool
is_agreed round = agrees_with (greatest_heard round) round.heard
