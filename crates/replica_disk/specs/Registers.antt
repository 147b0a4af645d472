-- The registers that a disk holds, and how one of them is replaced.
use Rattle.std.specs.Prelude.{ℕ, zero, suc, ◌≡◌, ◌⊎◌, ◌+◌, ◌*◌, ◌≤◌, ◌==◌, Bool, true, false, List, [], ◌∷◌, length, nat_le, min, slice_index, if◌then◌else◌}
use Rattle.carstamps.specs.Stamp.{stamp_lt}
use Rattle.rss_wire.specs.declared.messages.RegReply.{RegReply}
use Rattle.replica_disk.specs.declared.layout.RegisterCell.{RegisterCell}
use Rattle.replica_disk.specs.Disks.{Loose, IsDurable, IsImage, SameOutside}
use Rattle.replica_disk.specs.Cells.{cell_at, content_at, register_at, gates_at}

-- a function's values at so many numbers from one on
unfoldable pub each_from : {X : Type 0} → (ℕ → X) → ℕ → ℕ → List X
each_from f i zero = []
each_from f i (suc n) = f i ∷ each_from f (i + 1) n

-- what so many registers hold
abbrev pub registers_of : List ℕ → ℕ → List RegReply
registers_of bytes n = each_from (register_at bytes) 0 n

-- how many gates of so many registers are open
abbrev pub gates_of : List ℕ → ℕ → List ℕ
gates_of bytes n = each_from (gates_at bytes) 0 n

-- a cell's gate is not open, and nothing else changed
pub record IsShut (before after : List ℕ) (at : ℕ) : Type 0 where
  pub outside : SameOutside before after at 1
  pub shut : (slice_index after at == 1) ≡ false

-- a cell holds a content under a gate that is not open, and nothing outside of the cell changed
pub record IsFilled (before after : List ℕ) (at : ℕ) (new : RegReply) : Type 0 where
  pub outside : SameOutside before after at 32
  pub shut : (slice_index after at == 1) ≡ false
  pub content : content_at after at ≡ new

-- a cell's gate is open, and nothing else changed
pub record IsOpened (before after : List ℕ) (at : ℕ) : Type 0 where
  pub outside : SameOutside before after at 1
  pub opened : (slice_index after at == 1) ≡ true

-- a cell is open and holds a content, and nothing outside of it changed
pub record IsWritten (before after : List ℕ) (at : ℕ) (new : RegReply) : Type 0 where
  pub outside : SameOutside before after at 32
  pub cell : cell_at after at ≡ record { is_open = true; content = new }

-- a cell as a stop may leave it while it is written: closed, as it was, or open with the new content
pub record MayHold (before image : List ℕ) (at : ℕ) (new : RegReply) : Type 0 where
  pub outside : SameOutside before image at 32
  pub cell : ((cell_at image at).is_open ≡ false) ⊎ ((cell_at image at ≡ cell_at before at) ⊎ (cell_at image at ≡ record { is_open = true; content = new }))

-- whatever a stop leaves of these bytes, the cell is one of those
pub record LeavesCell (before bytes : List ℕ) (loose : Loose) (at : ℕ) (new : RegReply) : Type 0 where
  pub each : (image : List ℕ) → IsImage bytes loose image → MayHold before image at new

-- a register holds this, and nothing outside of its two cells changed
pub record Holds (before after : List ℕ) (i : ℕ) (held : RegReply) : Type 0 where
  pub outside : SameOutside before after (64 * i) 64
  pub register : register_at after i ≡ held

-- whatever a stop leaves of these bytes, the register holds what it held, or the new content
pub record LeavesEither (before bytes : List ℕ) (loose : Loose) (i : ℕ) (new : RegReply) : Type 0 where
  pub each : (image : List ℕ) → IsImage bytes loose image → Holds before image i (register_at before i) ⊎ Holds before image i new

-- how many writes and syncs replace a content: two more where the gate is to be closed first
abbrev pub replace_cost : ℕ → ℕ
replace_cost gates = if nat_le 2 gates then 6 else 4

-- the bytes have room for the registers, hold them, and nothing of them is loose
pub record IsSettled (bytes : List ℕ) (loose : Loose) (held : List RegReply) : Type 0 where
  pub room : 64 * length held ≤ length bytes
  pub durable : IsDurable loose
  pub registers : registers_of bytes (length held) ≡ held
