-- The order of stamps: by number, and at equal numbers by call.
use Rattle.std.specs.Prelude.{◌≡◌, ℕ, ◌+◌, ◌<◌, ◌≤◌, ◌⊎◌, Bool, ◌&&◌, ◌||◌, ◌==◌, nat_lt, nat_le, if◌then◌else◌}
use Rattle.carstamps.specs.declared.carstamp.Carstamp.{Carstamp}

-- a stamp is below another: by number, and at equal numbers by call
abbrev pub IsBelow : Carstamp → Carstamp → Type 0
IsBelow a b = (a.number < b.number) ⊎ ((a.number ≡ b.number) × (a.call < b.call))

-- a stamp is below another or the same
abbrev pub IsAtMost : Carstamp → Carstamp → Type 0
IsAtMost a b = (a.number < b.number) ⊎ ((a.number ≡ b.number) × (a.call ≤ b.call))

-- the test of being below
abbrev pub stamp_lt : Carstamp → Carstamp → Bool
stamp_lt a b = nat_lt a.number b.number || ((a.number == b.number) && nat_lt a.call b.call)

-- the test of being below or the same
abbrev pub stamp_le : Carstamp → Carstamp → Bool
stamp_le a b = nat_lt a.number b.number || ((a.number == b.number) && nat_le a.call b.call)

-- the stamp of an opening value
abbrev pub opening_stamp : Carstamp
opening_stamp = record { number = 0; call = 0 }

-- the stamp that a call takes which found this stamp as the greatest
abbrev pub next_stamp : Carstamp → ℕ → Carstamp
next_stamp greatest call = record { number = greatest.number + 1; call = call }

-- the greater of two stamps
abbrev pub greater_stamp : Carstamp → Carstamp → Carstamp
greater_stamp a b = if stamp_lt a b then b else a
