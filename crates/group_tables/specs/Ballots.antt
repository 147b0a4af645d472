-- The order of ballots, and the entry of the greatest one.
use Rattle.std.specs.Prelude.{ℕ, zero, suc, ◌+◌, ◌==◌, ◌&&◌, ◌||◌, not, max, Bool, List, [], ◌∷◌, ◌++◌, length, nat_lt, slice_get, Option, Some, None, if◌then◌else◌}
use Rattle.group_tables.specs.declared.messages.Ballot.{Ballot}
use Rattle.group_tables.specs.declared.messages.Slot.{Slot}

-- by round, and then by member
abbrev pub ballot_lt : Ballot → Ballot → Bool
ballot_lt a b = nat_lt a.round b.round || (a.round == b.round && nat_lt a.member b.member)

abbrev pub ballot_le : Ballot → Ballot → Bool
ballot_le a b = not (ballot_lt b a)

abbrev pub same_ballot : Ballot → Ballot → Bool
same_ballot a b = a.round == b.round && a.member == b.member

-- before every ballot
abbrev pub no_ballot : Ballot
no_ballot = record { round = 0; member = 0 }

-- of two entries the one of the greater ballot
abbrev pub greater_slot : Option Slot → Option Slot → Option Slot
greater_slot None other = other
greater_slot (Some s) None = Some s
greater_slot (Some s) (Some t) = if ballot_lt s.ballot t.ballot then Some t else Some s

-- of the entries that these lists have at a place, the one of the greatest ballot
abbrev pub best_at : List (List Slot) → ℕ → Option Slot
best_at [] n = None
best_at (slots ∷ lists) n = greater_slot (slice_get slots n) (best_at lists n)

-- the length of the longest of these lists
abbrev pub longest : List (List Slot) → ℕ
longest [] = 0
longest (slots ∷ lists) = max (length slots) (longest lists)

-- an entry's request under another ballot
abbrev pub under : Ballot → Option Slot → List Slot
under b None = []
under b (Some s) = record { ballot = b; request = s.request } ∷ []

-- the best entries of these lists, so many from a place on, under a ballot
unfoldable pub taken_from : Ballot → List (List Slot) → ℕ → ℕ → List Slot
taken_from b lists n zero = []
taken_from b lists n (suc left) = under b (best_at lists n) ++ taken_from b lists (n + 1) left

-- all of them
abbrev pub taken : Ballot → List (List Slot) → List Slot
taken b lists = taken_from b lists 0 (longest lists)
