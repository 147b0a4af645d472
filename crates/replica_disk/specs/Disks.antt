-- What a disk holds, and what a stop may leave of it.
use Rattle.std.specs.Prelude.{ℕ, ◌≡◌, ◌+◌, ◌-◌, ◌^◌, ◌<◌, ◌≤◌, ◌||◌, ◌&&◌, Bool, false, min, nat_le, nat_lt, List, length, slice_index}

-- places are loose where they were written since the last sync: a stop may leave any byte there
abbrev pub Loose : Type 0
Loose = ℕ → Bool

-- these places, too, from one on, so many
abbrev pub with_range : Loose → ℕ → ℕ → Loose
with_range loose at n p = loose p || (nat_le at p && nat_lt p (at + n))

-- nothing is loose
abbrev pub IsDurable : Loose → Type 0
IsDurable loose = (p : ℕ) → loose p ≡ false

-- the same, as one fact
pub record NothingLoose (loose : Loose) : Type 0 where
  pub none : IsDurable loose

-- each place that is loose is one of these
abbrev pub LooseWithin : Loose → Loose → Type 0
LooseWithin now most = (p : ℕ) → most p ≡ false → now p ≡ false

-- a stop may leave these bytes: as many, and the same wherever nothing is loose
pub record IsImage (bytes : List ℕ) (loose : Loose) (image : List ℕ) : Type 0 where
  pub size : length image ≡ length bytes
  pub same : (p : ℕ) → loose p ≡ false → slice_index image p ≡ slice_index bytes p

-- but for so many places from one on, the bytes are the same
pub record SameOutside (before after : List ℕ) (at n : ℕ) : Type 0 where
  pub size : length after ≡ length before
  pub below : (p : ℕ) → p < at → slice_index after p ≡ slice_index before p
  pub above : (p : ℕ) → at + n ≤ p → slice_index after p ≡ slice_index before p

-- these bytes stand from a place on, and outside of them nothing changed
pub record IsOverwritten (before after : List ℕ) (at : ℕ) (from : List ℕ) : Type 0 where
  pub outside : SameOutside before after at (length from)
  pub written : (k : ℕ) → k < length from → slice_index after (at + k) ≡ slice_index from k

-- a stop now leaves nothing changed but for so many places from one on
pub record LeavesWithin (before bytes : List ℕ) (loose : Loose) (at n : ℕ) : Type 0 where
  pub each : (image : List ℕ) → IsImage bytes loose image → SameOutside before image at n

-- a stop now leaves only what it might have left of these bytes with these places loose
pub record LeavesAtMost (bytes : List ℕ) (loose : Loose) (most_bytes : List ℕ) (most : Loose) : Type 0 where
  pub each : (image : List ℕ) → IsImage bytes loose image → IsImage most_bytes most image

-- so many calls more were made: the count stops at the greatest number of 64 bits
pub record MadeCalls (before now n : ℕ) : Type 0 where
  pub least : min (before + n) (2 ^ 64 - 1) ≤ now
  pub most : now ≤ before + n
