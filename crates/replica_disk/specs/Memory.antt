-- A disk in memory, as callers see it.
use Rattle.std.specs.Prelude.{ℕ, ◌+◌, ◌*◌, ◌%◌, ◌&&◌, Bool, false, nat_le, List, replicate, slice_index, slice_index_or, if◌then◌else◌}

-- the bytes, which of them were written since the last sync, how many writes and syncs were called, and the one of
-- them that stops the disk: none where it is 0
pub record Memory : Type 0 where
  pub bytes : List ℕ
  pub loose : List Bool
  pub calls : ℕ
  pub stop : ℕ

-- zero bytes, and no call
abbrev pub fresh_memory : ℕ → ℕ → Memory
fresh_memory size stop = record { bytes = replicate size 0; loose = replicate size false; calls = 0; stop = stop }

-- whether a byte was written since the last sync
abbrev pub is_loose : List Bool → ℕ → Bool
is_loose loose p = slice_index_or loose p false

-- one call failed where the stop was met
abbrev pub stops_met : Memory → ℕ
stops_met d = if nat_le 1 d.stop && nat_le d.stop d.calls then 1 else 0

-- what the stop leaves of a byte that was written since the last sync
abbrev pub torn_byte : ℕ → ℕ → ℕ
torn_byte p stop = (7 * p + stop) % 256

-- what the stop leaves at a place
abbrev pub byte_left : List ℕ → List Bool → ℕ → ℕ → ℕ
byte_left bytes loose stop p = if is_loose loose p then torn_byte p stop else slice_index bytes p
