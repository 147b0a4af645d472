-- What an opening reads, and what a stop leaves of it.
use Rattle.std.proofs.Common.{◌≡◌, ℕ, ◌+◌, ◌*◌, ◌≤◌, List, [], ◌∷◌, ◌++◌, length, slice_index, Result, Ok, Err, OnErr, arith, refl, sym, ap, ◌∙◌, subst}
use Rattle.rss_wire.specs.declared.messages.RegReply.{RegReply}
use Rattle.replica_disk.specs.Disks.{Loose, IsDurable, LooseWithin, NothingLoose, IsImage, LeavesAtMost}
use Rattle.replica_disk.specs.Cells.{register_at}
use Rattle.replica_disk.specs.Registers.{each_from, registers_of, IsSettled}
use Rattle.replica_disk.proofs.Lists.{each_length, each_more, registers_same}

pub registers_none : (bytes : List ℕ) → registers_of bytes 0 ≡ []
unfolding each_from
registers_none bytes = refl

pub registers_more : (bytes : List ℕ) (n : ℕ) → registers_of bytes (n + 1) ≡ registers_of bytes n ++ register_at bytes n ∷ []
registers_more bytes n =
    let e : 0 + n ≡ n = omega arith in
    each_more (register_at bytes) 0 n ∙ ap (λ (k : ℕ). registers_of bytes n ++ register_at bytes k ∷ []) e

pub registers_length : (bytes : List ℕ) (n : ℕ) → length (registers_of bytes n) ≡ n
registers_length bytes n = each_length (register_at bytes) 0 n

-- what was read of a disk of which nothing is loose is settled
pub settled_now : (bytes : List ℕ) (loose : Loose) (held : List RegReply) (n : ℕ) → held ≡ registers_of bytes n → 64 * n ≤ length bytes → IsDurable loose → IsSettled bytes loose held
settled_now bytes loose held n e room durable =
    let len : length held ≡ n = ap length e ∙ registers_length bytes n in
    record {
      room = omega (arith, room, len);
      durable = durable;
      registers = ap (registers_of bytes) len ∙ sym e;
    }

-- a sync stopped
pub sync_leaves : (before bytes : List ℕ) (was loose : Loose) → IsImage before was bytes → LooseWithin loose was → LeavesAtMost bytes loose before was
sync_leaves before bytes was loose torn less = record {
  each = λ image is. record {
    size = is.size ∙ torn.size;
    same = λ p h. is.same p (less p h) ∙ torn.same p h;
  };
}

-- nothing is loose, and the bytes are the same
pub read_leaves : (before bytes : List ℕ) (was loose : Loose) → bytes ≡ before → IsDurable loose → LeavesAtMost bytes loose before was
read_leaves before bytes was loose e durable = record {
  each = λ image is. record {
    size = is.size ∙ ap length e;
    same = λ p _. is.same p (durable p) ∙ ap (λ (xs : List ℕ). slice_index xs p) e;
  };
}

-- a sync stopped on a disk of which nothing was loose
pub sync_same : (before bytes : List ℕ) (was : Loose) (n : ℕ) → IsImage before was bytes → NothingLoose was → registers_of bytes n ≡ registers_of before n
sync_same before bytes was n torn nothing = registers_same before bytes n (λ p. torn.same p (nothing.none p))

-- what holds anyway holds at an error
pub at_error : {T E : Type 0} (r : Result T E) (P : Type 0) → P → OnErr r P
at_error (Ok x) P p = tt
at_error (Err e) P p = p

pub ruleset opening = (registers_none, registers_more, registers_length, settled_now, sync_leaves, read_leaves)
