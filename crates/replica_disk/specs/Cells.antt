-- The two cells that a register has on a disk.
use Rattle.std.specs.Prelude.{ℕ, zero, suc, ◌+◌, ◌*◌, ◌==◌, ◌&&◌, not, Bool, true, false, List, [], ◌∷◌, ◌++◌, slice_index, if◌then◌else◌}
use Rattle.std.specs.Int.{w32, w64, from_be_bytes, to_be_bytes}
use Rattle.carstamps.specs.Stamp.{stamp_lt}
use Rattle.rss_wire.specs.declared.messages.RegReply.{RegReply}
use Rattle.rss_tables.specs.ReplicaRow.{opening_cell}
use Rattle.replica_disk.specs.declared.layout.RegisterCell.{RegisterCell}

-- so many bytes from a place on
unfoldable pub window : List ℕ → ℕ → ℕ → List ℕ
window bytes at zero = []
window bytes at (suc n) = slice_index bytes at ∷ window bytes (at + 1) n

-- what a cell holds: the value in bytes 8 to 15, the stamp's number in 16 to 23, its call in 24 to 27, the writer in
-- 28 to 31, each with its greatest byte first
unfoldable pub content_at : List ℕ → ℕ → RegReply
content_at bytes at = record {
  value = from_be_bytes w64 (window bytes (at + 8) 8);
  stamp = record {
    number = from_be_bytes w64 (window bytes (at + 16) 8);
    call = from_be_bytes w32 (window bytes (at + 24) 4);
  };
  writer = from_be_bytes w32 (window bytes (at + 28) 4);
}

-- a cell of 32 bytes: its gate in byte 0 is open where it is 1, and every other value is closed
abbrev pub cell_at : List ℕ → ℕ → RegisterCell
cell_at bytes at = record { is_open = slice_index bytes at == 1; content = content_at bytes at }

-- the bytes of a content, from byte 8 of its cell on
unfoldable pub content_bytes : RegReply → List ℕ
content_bytes held =
    to_be_bytes w64 held.value ++ to_be_bytes w64 held.stamp.number ++ to_be_bytes w32 held.stamp.call ++ to_be_bytes w32 held.writer

-- whether the first of two cells is the current one: it is open, and the second is not, or has no greater stamp
abbrev pub first_holds : RegisterCell → RegisterCell → Bool
first_holds a b = a.is_open && not (b.is_open && stamp_lt a.content.stamp b.content.stamp)

-- what a register's two cells hold: the open one of the greater stamp, the first at a tie, and the opening content
-- where none is open
abbrev pub content_of : RegisterCell → RegisterCell → RegReply
content_of a b = if first_holds a b then a.content else (if b.is_open then b.content else opening_cell)

-- how many of two gates are open
abbrev pub open_gates : RegisterCell → RegisterCell → ℕ
open_gates a b = (if a.is_open then 1 else 0) + (if b.is_open then 1 else 0)

-- register i has its cells at 64 i and 64 i + 32
unfoldable pub register_at : List ℕ → ℕ → RegReply
register_at bytes i = content_of (cell_at bytes (64 * i)) (cell_at bytes (64 * i + 32))

-- how many of its gates are open
unfoldable pub gates_at : List ℕ → ℕ → ℕ
gates_at bytes i = open_gates (cell_at bytes (64 * i)) (cell_at bytes (64 * i + 32))
