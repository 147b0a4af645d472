-- What a stop leaves while bytes are written and made to stay.
use Rattle.std.proofs.Common.{◌≡◌, ℕ, ◌+◌, ◌<◌, ◌≤◌, ◌||◌, ◌&&◌, Bool, false, nat_le, nat_lt, List, length, slice_index, arith, refl, sym, ap, ◌∙◌}
use Rattle.std.proofs.lemmas.Grind.{common_steps}
use Rattle.replica_disk.specs.Disks.{Loose, with_range, IsDurable, LooseWithin, IsImage, SameOutside, IsOverwritten, LeavesWithin}

-- a place outside of a range is loose where it was
outside_below : (at n p : ℕ) (b : Bool) → p < at → b ≡ false → (b || (nat_le at p && nat_lt p (at + n))) ≡ false
outside_below at n p b lt e = grind (arith, common_steps)

outside_above : (at n p : ℕ) (b : Bool) → at + n ≤ p → b ≡ false → (b || (nat_le at p && nat_lt p (at + n))) ≡ false
outside_above at n p b le e = grind (arith, common_steps)

-- an image of what is within a range of the bytes leaves all else
within : (before bytes : List ℕ) (loose : Loose) (at n : ℕ) → SameOutside before bytes at n
    → ((p : ℕ) → p < at → loose p ≡ false) → ((p : ℕ) → at + n ≤ p → loose p ≡ false) → LeavesWithin before bytes loose at n
within before bytes loose at n same low high = record {
  each = λ image is. record {
    size = is.size ∙ same.size;
    below = λ p lt. is.same p (low p lt) ∙ same.below p lt;
    above = λ p le. is.same p (high p le) ∙ same.above p le;
  };
}

-- the write stops
pub write_stops : (before : List ℕ) (was : Loose) (bytes : List ℕ) (loose : Loose) (at n : ℕ) → IsDurable was
    → IsImage before (with_range was at n) bytes → LooseWithin loose (with_range was at n) → LeavesWithin before bytes loose at n
write_stops before was bytes loose at n durable torn more =
    within before bytes loose at n
    record {
      size = torn.size;
      below = λ p lt. torn.same p (outside_below at n p (was p) lt (durable p));
      above = λ p le. torn.same p (outside_above at n p (was p) le (durable p));
    }
    (λ p lt. more p (outside_below at n p (was p) lt (durable p)))
    (λ p le. more p (outside_above at n p (was p) le (durable p)))

-- the sync behind it stops
pub sync_stops : (before : List ℕ) (was : Loose) (middle : List ℕ) (between : Loose) (bytes : List ℕ) (loose : Loose) (at n : ℕ) → IsDurable was
    → SameOutside before middle at n → LooseWithin between (with_range was at n)
    → IsImage middle between bytes → LooseWithin loose between → LeavesWithin before bytes loose at n
sync_stops before was middle between bytes loose at n durable same more torn less =
    let low : (p : ℕ) → p < at → between p ≡ false = λ p lt. more p (outside_below at n p (was p) lt (durable p)) in
    let high : (p : ℕ) → at + n ≤ p → between p ≡ false = λ p le. more p (outside_above at n p (was p) le (durable p)) in
    within before bytes loose at n
    record {
      size = torn.size ∙ same.size;
      below = λ p lt. torn.same p (low p lt) ∙ same.below p lt;
      above = λ p le. torn.same p (high p le) ∙ same.above p le;
    }
    (λ p lt. less p (low p lt))
    (λ p le. less p (high p le))

pub ruleset stops = (write_stops, sync_stops)
