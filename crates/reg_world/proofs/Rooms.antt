-- Room for one more mark, one register after another.
use Rattle.std.proofs.Common.{◌≡◌, ℕ, suc, zero, ◌+◌, ◌<◌, ◌≤◌, Bool, true, false, ◌&&◌, List, [], ◌∷◌, length, get_or, set, arith, refl, sym, ap, ◌∙◌}
use Rattle.std.proofs.Math.Seq.{map-set_same}
use Rattle.std.proofs.lemmas.List.{map-set, set_past, length-map}
use Rattle.rss_names.specs.declared.service.Key.{Key}
use Rattle.rss_machine.specs.declared.state.Mark.{Mark}
use Rattle.rss_wire.specs.declared.messages.RegReply.{RegReply}
use Rattle.reg_world.specs.Rows.{MarksView, no_marks, marks_of, rooms_of, room_at, have_room_at, with_rooms, have_room, have_room_upto, are_ready}

both-true : (a b : Bool) → (a && b) ≡ true → (a ≡ true) × (b ≡ true)
both-true true b e = (refl, e)
both-true false b e = absurd (let x : false ≡ true = e in cc)

room-put : (rows : List MarksView) (place : ℕ) (new : MarksView) → have_room_upto place rows ≡ true → place < length rows → new.room ≡ true → have_room_upto (suc place) (set rows place new) ≡ true
room-put [] place new h l t = absurd (omega (arith, l))
room-put (r ∷ rows) zero new h l t = rw t refl
room-put (r ∷ rows) (suc place) new h l t =
    let p = both-true r.room (have_room_upto place rows) h in
    rw (p.0, room-put rows place new p.1 (grind (arith, l)) t) refl

-- once the next register has room, one more has
pub room-one : (rows : List MarksView) (place : ℕ) (new : MarksView) → have_room_upto place rows ≡ true → place < length rows → new.room ≡ true → have_room_upto (place + 1) (set rows place new) ≡ true
room-one rows place new h l t = let e : place + 1 ≡ suc place = omega arith in rw e (room-put rows place new h l t)

-- in the end all have
pub room-all : (rows : List MarksView) (n : ℕ) → length rows ≤ n → have_room_upto n rows ≡ true → have_room rows ≡ true
room-all [] n l h = refl
room-all (r ∷ rows) zero l h = absurd (omega (arith, l))
room-all (r ∷ rows) (suc n) l h =
    let p = both-true r.room (have_room_upto n rows) h in
    rw (p.0, room-all rows n (grind (arith, l)) p.1) refl

-- where all have room, each has
pub room-at : (rows : List MarksView) (i : ℕ) → have_room rows ≡ true → get_or (rooms_of rows) i true ≡ true
room-at [] i h = refl
room-at (r ∷ rows) zero h = (both-true r.room (have_room rows) h).0
room-at (r ∷ rows) (suc i) h = room-at rows i (both-true r.room (have_room rows) h).1

-- so those of some keys have
pub roomy : (rows : List MarksView) (keys : List Key) → have_room rows ≡ true → have_room_at (rooms_of rows) keys ≡ true
roomy rows [] h = refl
roomy rows (key ∷ keys) h = rw (room-at rows key.index h, roomy rows keys h) refl

pub ruleset all_roomy = (roomy)

-- a register that has room is ready for whatever a majority holds
row-room : (rows : List MarksView) (i : ℕ) → (get_or rows i no_marks).room ≡ get_or (rooms_of rows) i true
row-room [] i = refl
row-room (r ∷ rows) zero = refl
row-room (r ∷ rows) (suc i) = row-room rows i

pub ready-for : (replicas : List (List RegReply)) (rows : List MarksView) (keys : List Key) → have_room_at (rooms_of rows) keys ≡ true → are_ready replicas rows keys ≡ true
ready-for replicas rows [] h = refl
ready-for replicas rows (key ∷ keys) h =
    let p = both-true (room_at (rooms_of rows) key) (have_room_at (rooms_of rows) keys) h in
    rw (row-room rows key.index ∙ p.0, ready-for replicas rows keys p.1) refl

-- room is made for one register
pub rooms-set : (rows : List MarksView) (i : ℕ) (new : MarksView) → new.room ≡ true → rooms_of (set rows i new) ≡ set (rooms_of rows) i true
rooms-set rows i new h = map-set {B = Bool} (λ (r : MarksView). r.room) rows i new ∙ ap (set (rooms_of rows) i) h

pub rooms-past : (rows : List MarksView) (i : ℕ) → length rows ≤ i → rooms_of rows ≡ set (rooms_of rows) i true
rooms-past rows i l = sym (set_past (rooms_of rows) i true (rw length-map l))

pub marks-same : (rows : List MarksView) (i : ℕ) (new d : MarksView) → new.marks ≡ (get_or rows i d).marks → marks_of (set rows i new) ≡ marks_of rows
marks-same rows i new d h = map-set_same {B = List Mark} (λ (r : MarksView). r.marks) rows i new d h

pub ruleset making_room = (rooms-set, rooms-past, marks-same)

-- what has room keeps it when more is made
set-room : (rooms : List Bool) (i j : ℕ) → get_or rooms j true ≡ true → get_or (set rooms i true) j true ≡ true
set-room [] i j h = refl
set-room (r ∷ rooms) zero zero h = refl
set-room (r ∷ rooms) zero (suc j) h = h
set-room (r ∷ rooms) (suc i) zero h = h
set-room (r ∷ rooms) (suc i) (suc j) h = set-room rooms i j h

set-here : (rooms : List Bool) (i : ℕ) → get_or (set rooms i true) i true ≡ true
set-here [] i = refl
set-here (r ∷ rooms) zero = refl
set-here (r ∷ rooms) (suc i) = set-here rooms i

kept-room : (rooms : List Bool) (keys : List Key) (key : Key) → room_at rooms key ≡ true → room_at (with_rooms rooms keys) key ≡ true
kept-room rooms [] key h = h
kept-room rooms (k ∷ keys) key h = kept-room (set rooms k.index true) keys key (set-room rooms k.index key.index h)

-- where room is made at keys, they have it
made-room : (rooms : List Bool) (keys : List Key) → have_room_at (with_rooms rooms keys) keys ≡ true
made-room rooms [] = refl
made-room rooms (key ∷ keys) =
    rw (kept-room (set rooms key.index true) keys key (set-here rooms key.index), made-room (set rooms key.index true) keys) refl

pub room-made : (old new : List Bool) (keys : List Key) → new ≡ with_rooms old keys → have_room_at new keys ≡ true
room-made old new keys e = rw e (made-room old keys)

pub ruleset room_made = (room-made)
