-- What a message says, taken apart.
use Rattle.std.proofs.Common.{◌≡◌, ℕ, false, List, [], ap}
use Rattle.std.specs.Prelude.{◌==◌}
use Rattle.std.proofs.lemmas.Bool.{eqb-false}
use Rattle.group_tables.specs.declared.messages.Ballot.{Ballot}
use Rattle.group_tables.specs.declared.messages.Slot.{Slot}
use Rattle.group_tables.specs.declared.messages.Body.{Body}
use Rattle.group_tables.specs.declared.messages.Body.TheVariants.{Seek, Vow, Put, Kept, Learn}

-- a request in a slot, under a ballot
abbrev pub entry_of : Ballot → ℕ → Slot
entry_of b i = record { ballot = b; request = i }

abbrev pub kind_of : Body → ℕ
kind_of (Seek b) = 0
kind_of (Vow b slots) = 1
kind_of (Put b n i) = 2
kind_of (Kept b n) = 3
kind_of (Learn b n) = 4

abbrev pub slot_of : Body → ℕ
slot_of (Seek b) = 0
slot_of (Vow b slots) = 0
slot_of (Put b n i) = n
slot_of (Kept b n) = n
slot_of (Learn b n) = n

abbrev pub request_of : Body → ℕ
request_of (Seek b) = 0
request_of (Vow b slots) = 0
request_of (Put b n i) = i
request_of (Kept b n) = 0
request_of (Learn b n) = 0

abbrev pub slots_of : Body → List Slot
slots_of (Seek b) = []
slots_of (Vow b slots) = slots
slots_of (Put b n i) = []
slots_of (Kept b n) = []
slots_of (Learn b n) = []

pub differ : (y z : Body) → (kind_of y == kind_of z) ≡ false → y ≡ z → ⊥
differ y z f e = eqb-false (kind_of y) (kind_of z) f (ap kind_of e)
