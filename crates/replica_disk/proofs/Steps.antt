-- The three steps by which a cell is written.
use Rattle.std.proofs.Common.{◌≡◌, ℕ, ◌+◌, ◌<◌, ◌≤◌, ◌^◌, ◌==◌, ◌⊎◌, Bool, true, false, List, [], ◌∷◌, length, slice_index, arith, refl, sym, ap, ◌∙◌, inl, inr, subst}
use Rattle.std.proofs.lemmas.Grind.{common_steps}
use Rattle.rss_wire.specs.declared.messages.RegReply.{RegReply}
use Rattle.replica_disk.specs.declared.layout.RegisterCell.{RegisterCell}
use Rattle.replica_disk.specs.Disks.{Loose, IsImage, SameOutside, IsOverwritten, LeavesWithin}
use Rattle.replica_disk.specs.Cells.{cell_at, content_at, content_bytes}
use Rattle.replica_disk.specs.Registers.{IsShut, IsFilled, IsOpened, IsWritten, MayHold, LeavesCell}
use Rattle.replica_disk.proofs.Windows.{cell_of, content_same, content_back, cell_same}

-- what changes within a range changes within a wider one
wider : (before after : List ℕ) (at n a m : ℕ) → a ≤ at → at + n ≤ a + m → SameOutside before after at n → SameOutside before after a m
wider before after at n a m le fits same = record {
  size = same.size;
  below = λ p lt. same.below p (omega arith);
  above = λ p h. same.above p (omega arith);
}

-- one change after another
then_outside : (a b c : List ℕ) (at n : ℕ) → SameOutside a b at n → SameOutside b c at n → SameOutside a c at n
then_outside a b c at n f g = record {
  size = g.size ∙ f.size;
  below = λ p lt. g.below p lt ∙ f.below p lt;
  above = λ p le. g.above p le ∙ f.above p le;
}

-- where only a gate changes, the content is the same
gate_alone : (before after : List ℕ) (at : ℕ) → SameOutside before after at 1 → content_at after at ≡ content_at before at
gate_alone before after at same = content_same before at after at (λ k le lt. same.above (at + k) (omega arith))

-- nothing is written where the gate is closed
pub shut_already : (bytes : List ℕ) (at : ℕ) → (slice_index bytes at == 1) ≡ false → IsShut bytes bytes at
shut_already bytes at shut = record {
  outside = record { size = refl; below = λ p lt. refl; above = λ p le. refl };
  shut = shut;
}

at_zero : (bytes : List ℕ) (at x : ℕ) (from : List ℕ) → ((k : ℕ) → k < 1 → slice_index bytes (at + k) ≡ slice_index (x ∷ from) k) → slice_index bytes at ≡ x
at_zero bytes at x from h =
    let e : at ≡ at + 0 = omega arith in
    ap (λ i. slice_index bytes i) e ∙ h 0 (omega arith)

-- the gate is written over by 0
pub is_shut : (before after : List ℕ) (at : ℕ) → IsOverwritten before after at (0 ∷ []) → IsShut before after at
is_shut before after at w = record {
  outside = w.outside;
  shut = ap (λ x. x == 1) (at_zero after at 0 [] w.written);
}

-- the gate is written over by 1
pub is_opened : (before after : List ℕ) (at : ℕ) → IsOverwritten before after at (1 ∷ []) → IsOpened before after at
is_opened before after at w = record {
  outside = w.outside;
  opened = ap (λ x. x == 1) (at_zero after at 1 [] w.written);
}

-- the content's bytes are written
pub is_filled : (before after : List ℕ) (at : ℕ) (new : RegReply) → new.value < 2 ^ 64 → new.stamp.number < 2 ^ 64 → new.stamp.call < 2 ^ 32 → new.writer < 2 ^ 32
    → (slice_index before at == 1) ≡ false → length (content_bytes new) ≡ 24 → IsOverwritten before after (at + 8) (content_bytes new) → IsFilled before after at new
is_filled before after at new fv fn fc fw shut len w =
    let outside : SameOutside before after (at + 8) 24 = subst (λ n. SameOutside before after (at + 8) n) len w.outside in
    record {
      outside = wider before after (at + 8) 24 at 32 (omega arith) (omega arith) outside;
      shut = ap (λ x. x == 1) (outside.below at (omega arith)) ∙ shut;
      content = content_back after at new fv fn fc fw (λ k lt. w.written k (subst (λ n. k < n) (sym len) lt));
    }

-- a closed gate and then the content
pub fills : (before middle after : List ℕ) (at : ℕ) (new : RegReply) → IsShut before middle at → IsFilled middle after at new → IsFilled before after at new
fills before middle after at new s f = record {
  outside = then_outside before middle after at 32 (wider before middle at 1 at 32 (omega arith) (omega arith) s.outside) f.outside;
  shut = f.shut;
  content = f.content;
}

same_cells : (g : Bool) (c : RegReply) (h : Bool) (d : RegReply) → g ≡ h → c ≡ d → cell_of g c ≡ cell_of h d
same_cells g c h d e f = ap (λ (x : Bool). cell_of x c) e ∙ ap (λ (x : RegReply). cell_of h x) f

-- and then an open gate
pub writes : (before middle after : List ℕ) (at : ℕ) (new : RegReply) → IsFilled before middle at new → IsOpened middle after at → IsWritten before after at new
writes before middle after at new f o = record {
  outside = then_outside before middle after at 32 f.outside (wider middle after at 1 at 32 (omega arith) (omega arith) o.outside);
  cell = same_cells _ _ _ _ o.opened (gate_alone middle after at o.outside ∙ f.content);
}

-- a stop while the gate is closed
shut_image : (before image : List ℕ) (at : ℕ) (new : RegReply) (b : Bool) → (slice_index image at == 1) ≡ b → (slice_index before at == 1) ≡ true → SameOutside before image at 1 → MayHold before image at new
shut_image before image at new false e was same = record {
  outside = wider before image at 1 at 32 (omega arith) (omega arith) same;
  cell = inl e;
}
shut_image before image at new true e was same = record {
  outside = wider before image at 1 at 32 (omega arith) (omega arith) same;
  cell = inr (inl (same_cells _ _ _ _ (e ∙ sym was) (gate_alone before image at same)));
}

pub shut_stops : (before bytes : List ℕ) (loose : Loose) (at : ℕ) (new : RegReply) → (slice_index before at == 1) ≡ true
    → LeavesWithin before bytes loose at 1 → LeavesCell before bytes loose at new
shut_stops before bytes loose at new was leaves = record {
  each = λ image is. shut_image before image at new (slice_index image at == 1) refl was (leaves.each image is);
}

-- a stop while the content is written
pub fill_stops : (before middle bytes : List ℕ) (loose : Loose) (at : ℕ) (new : RegReply) → IsShut before middle at
    → LeavesWithin middle bytes loose (at + 8) 24 → LeavesCell before bytes loose at new
fill_stops before middle bytes loose at new s leaves = record {
  each = λ image is.
      let same : SameOutside middle image (at + 8) 24 = leaves.each image is in
      record {
        outside = then_outside before middle image at 32
            (wider before middle at 1 at 32 (omega arith) (omega arith) s.outside)
            (wider middle image (at + 8) 24 at 32 (omega arith) (omega arith) same);
        cell = inl (ap (λ x. x == 1) (same.below at (omega arith)) ∙ s.shut);
      };
}

-- a stop while the gate is opened
open_image : (before middle image : List ℕ) (at : ℕ) (new : RegReply) (b : Bool) → (slice_index image at == 1) ≡ b → IsFilled before middle at new
    → SameOutside middle image at 1 → MayHold before image at new
open_image before middle image at new false e f same = record {
  outside = then_outside before middle image at 32 f.outside (wider middle image at 1 at 32 (omega arith) (omega arith) same);
  cell = inl e;
}
open_image before middle image at new true e f same = record {
  outside = then_outside before middle image at 32 f.outside (wider middle image at 1 at 32 (omega arith) (omega arith) same);
  cell = inr (inr (same_cells _ _ _ _ e (gate_alone middle image at same ∙ f.content)));
}

pub open_stops : (before middle bytes : List ℕ) (loose : Loose) (at : ℕ) (new : RegReply) → IsFilled before middle at new
    → LeavesWithin middle bytes loose at 1 → LeavesCell before bytes loose at new
open_stops before middle bytes loose at new f leaves = record {
  each = λ image is. open_image before middle image at new (slice_index image at == 1) refl f (leaves.each image is);
}

pub ruleset steps = (shut_already, is_shut, is_opened, is_filled, fills, writes, shut_stops, fill_stops, open_stops)
