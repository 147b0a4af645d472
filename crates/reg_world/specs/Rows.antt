-- The rows in which the marks are kept, one for each register.
use Rattle.std.specs.Prelude.{◌≡◌, ℕ, zero, suc, Bool, true, ◌&&◌, ◌||◌, List, [], ◌∷◌, ◌++◌, map, get_or, set, if◌then◌else◌}
use Rattle.rss_names.specs.declared.service.Key.{Key}
use Rattle.carstamps.specs.declared.carstamp.Carstamp.{Carstamp}
use Rattle.carstamps.specs.Stamp.{stamp_lt, stamp_le}
use Rattle.rss_wire.specs.declared.messages.RegReply.{RegReply}
use Rattle.rss_wire.specs.declared.messages.Request.{Request}
use Rattle.rss_machine.specs.Marks.{is_noted, majority_stamp, raised_by}
use Rattle.rss_machine.specs.declared.state.Mark.{Mark}

-- the marks of one register, and whether there is room for one more
pub record MarksView : Type 0 where
  pub marks : List Mark
  pub room : Bool

-- a register that is not there
abbrev pub no_marks : MarksView
no_marks = record { marks = []; room = true }

-- the marks of all
abbrev pub marks_of : List MarksView → List (List Mark)
marks_of rows = map (λ (r : MarksView). r.marks) rows

-- whether each has room
abbrev pub rooms_of : List MarksView → List Bool
rooms_of rows = map (λ (r : MarksView). r.room) rows

-- whether the register of a key has room; one that is not there needs none
abbrev pub room_at : List Bool → Key → Bool
room_at rooms key = get_or rooms key.index true

-- whether the registers of these keys have room
abbrev pub have_room_at : List Bool → List Key → Bool
have_room_at rooms [] = true
have_room_at rooms (key ∷ keys) = room_at rooms key && have_room_at rooms keys

-- whether each register on which a request may raise a stamp has room for one more mark
abbrev pub has_room_for : List Bool → Request → Bool
has_room_for rooms r = have_room_at rooms (raised_by r)

-- room is made at these keys
abbrev pub with_rooms : List Bool → List Key → List Bool
with_rooms rooms [] = rooms
with_rooms rooms (key ∷ keys) = with_rooms (set rooms key.index true) keys

-- the first ones have room
abbrev pub have_room_upto : ℕ → List MarksView → Bool
have_room_upto zero rows = true
have_room_upto (suc n) [] = true
have_room_upto (suc n) (r ∷ rows) = r.room && have_room_upto n rows

-- all have room
abbrev pub have_room : List MarksView → Bool
have_room [] = true
have_room (r ∷ rows) = r.room && have_room rows

-- the first mark is above this stamp, and each later one above the one before it
abbrev pub rise_from : Carstamp → List Mark → Bool
rise_from stamp [] = true
rise_from stamp (mark ∷ marks) = stamp_lt stamp mark.stamp && rise_from mark.stamp marks

-- the stamps of marks, as the search by halves sees them
abbrev pub pairs_of : List Mark → List (ℕ × ℕ)
pairs_of marks = map (λ (m : Mark). (m.stamp.number, m.stamp.call)) marks

-- how many marks stand before the first one that is not below a stamp
abbrev pub count_below : Carstamp → List Mark → ℕ
count_below stamp [] = 0
count_below stamp (mark ∷ marks) = if stamp_le stamp mark.stamp then 0 else suc (count_below stamp marks)

-- a stamp is noted in a step, unless it needs no note
abbrev pub with_mark : List Mark → Carstamp → ℕ → List Mark
with_mark marks stamp step =
    if is_noted marks stamp then marks else marks ++ record { stamp = stamp; step = step } ∷ []

-- there is room for one more mark, or what a majority holds of the register needs none
abbrev pub is_ready : List (List RegReply) → MarksView → Key → Bool
is_ready replicas row key = row.room || is_noted row.marks (majority_stamp replicas key)

-- the register of a key is ready for what a majority of these replicas holds
abbrev pub is_ready_at : List (List RegReply) → List MarksView → Key → Bool
is_ready_at replicas rows key = is_ready replicas (get_or rows key.index no_marks) key

-- so are the registers of these keys
abbrev pub are_ready : List (List RegReply) → List MarksView → List Key → Bool
are_ready replicas rows [] = true
are_ready replicas rows (key ∷ keys) = is_ready_at replicas rows key && are_ready replicas rows keys

-- what was ready stays so, for all keys
pub record StayReady (replicas : List (List RegReply)) (old new : List MarksView) : Type 0 where
  pub stays : (key : Key) → is_ready_at replicas old key ≡ true → is_ready_at replicas new key ≡ true
