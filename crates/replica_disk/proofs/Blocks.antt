-- The two cells of a register, one of which is replaced.
use Rattle.std.proofs.Common.{◌≡◌, ℕ, ◌+◌, ◌*◌, ◌<◌, ◌≤◌, ◌==◌, ◌⊎◌, ◌&&◌, not, Bool, true, false, min, List, length, slice_index, if◌then◌else◌, arith, refl, sym, ap, ◌∙◌, inl, inr, subst}
use Rattle.std.proofs.lemmas.Grind.{common_steps}
use Rattle.std.proofs.lemmas.Bool.{true≢false, false≢true}
use Rattle.carstamps.specs.Stamp.{stamp_lt}
use Rattle.carstamps.specs.declared.carstamp.Carstamp.{Carstamp}
use Rattle.rss_tables.specs.ReplicaRow.{opening_cell}
use Rattle.rss_wire.specs.declared.messages.RegReply.{RegReply}
use Rattle.replica_disk.specs.declared.layout.RegisterCell.{RegisterCell}
use Rattle.replica_disk.specs.Disks.{Loose, IsDurable, IsImage, SameOutside}
use Rattle.replica_disk.specs.Cells.{cell_at, content_of, first_holds, open_gates, register_at, gates_at}
use Rattle.replica_disk.specs.Registers.{Holds, IsWritten, MayHold, LeavesCell, LeavesEither, replace_cost}
use Rattle.replica_disk.proofs.Windows.{cell_of, cell_same}

-- a cell as a stop may leave it
abbrev Left : RegisterCell → RegisterCell → RegReply → Type 0
Left was now new = (now.is_open ≡ false) ⊎ ((now ≡ was) ⊎ (now ≡ record { is_open = true; content = new }))

-- a stamp above another is not below it
not_below : (x y : Carstamp) → stamp_lt x y ≡ true → stamp_lt y x ≡ false
not_below x y e = grind (arith, common_steps)

-- what the cells hold, by whether the first is the current one
holds_first : (a b : RegisterCell) → first_holds a b ≡ true → content_of a b ≡ a.content
holds_first a b e = ap (λ t. if t then a.content else (if b.is_open then b.content else opening_cell)) e

holds_other : (a b : RegisterCell) → first_holds a b ≡ false → content_of a b ≡ (if b.is_open then b.content else opening_cell)
holds_other a b e = ap (λ t. if t then a.content else (if b.is_open then b.content else opening_cell)) e

shut_first : (g h l : Bool) → g ≡ false → (g && not (h && l)) ≡ false
shut_first g h l e = ap (λ t. t && not (h && l)) e

current_open : (g h l : Bool) → (g && not (h && l)) ≡ true → g ≡ true
current_open false h l e = absurd (false≢true e)
current_open true h l e = refl

shut_second : (g h l m k : Bool) → (g && not (h && l)) ≡ true → m ≡ false → (g && not (m && k)) ≡ true
shut_second g h l m k e f = ap (λ t. g && not (t && k)) f ∙ ap (λ t. t && true) (current_open g h l e)

open_second : (g k : Bool) → k ≡ true → (g && not (true && k)) ≡ false
open_second false k e = refl
open_second true k e = ap not e

open_first : (h k : Bool) → (h ≡ true → k ≡ false) → (true && not (h && k)) ≡ true
open_first false k f = refl
open_first true k f = ap not (f refl)

-- where the second cell is open and the current one, it holds the register
held_second : (a b : RegisterCell) (new : RegReply) → first_holds a b ≡ false → stamp_lt (content_of a b).stamp new.stamp ≡ true → b.is_open ≡ true
    → stamp_lt new.stamp b.content.stamp ≡ false
held_second a b new other above is_open =
    let e : content_of a b ≡ b.content = holds_other a b other ∙ ap (λ t. if t then b.content else opening_cell) is_open in
    not_below b.content.stamp new.stamp (ap (λ (c : RegReply). stamp_lt c.stamp new.stamp) (sym e) ∙ above)

new_in_first : (a b : RegisterCell) (new : RegReply) → first_holds a b ≡ false → stamp_lt (content_of a b).stamp new.stamp ≡ true → content_of (cell_of true new) b ≡ new
new_in_first a b new other above =
    holds_first (cell_of true new) b (open_first b.is_open (stamp_lt new.stamp b.content.stamp) (held_second a b new other above))

new_in_second : (a b : RegisterCell) (new : RegReply) → first_holds a b ≡ true → stamp_lt (content_of a b).stamp new.stamp ≡ true → content_of a (cell_of true new) ≡ new
new_in_second a b new current above =
    let lt : stamp_lt a.content.stamp new.stamp ≡ true = ap (λ (c : RegReply). stamp_lt c.stamp new.stamp) (sym (holds_first a b current)) ∙ above in
    holds_other a (cell_of true new) (open_second a.is_open (stamp_lt a.content.stamp new.stamp) lt)

-- the first cell is written where it is not the current one
first_left : (a b now : RegisterCell) (new : RegReply) → first_holds a b ≡ false → stamp_lt (content_of a b).stamp new.stamp ≡ true → Left a now new
    → (content_of now b ≡ content_of a b) ⊎ (content_of now b ≡ new)
first_left a b now new other above (inl shut) =
    inl (holds_other now b (shut_first now.is_open b.is_open (stamp_lt now.content.stamp b.content.stamp) shut) ∙ sym (holds_other a b other))
first_left a b now new other above (inr (inl same)) = inl (ap (λ (c : RegisterCell). content_of c b) same)
first_left a b now new other above (inr (inr e)) = inr (ap (λ (c : RegisterCell). content_of c b) e ∙ new_in_first a b new other above)

second_left : (a b now : RegisterCell) (new : RegReply) → first_holds a b ≡ true → stamp_lt (content_of a b).stamp new.stamp ≡ true → Left b now new
    → (content_of a now ≡ content_of a b) ⊎ (content_of a now ≡ new)
second_left a b now new current above (inl shut) =
    inl (holds_first a now (shut_second a.is_open b.is_open (stamp_lt a.content.stamp b.content.stamp) now.is_open (stamp_lt a.content.stamp now.content.stamp) current shut) ∙ sym (holds_first a b current))
second_left a b now new current above (inr (inl same)) = inl (ap (λ (c : RegisterCell). content_of a c) same)
second_left a b now new current above (inr (inr e)) = inr (ap (λ (c : RegisterCell). content_of a c) e ∙ new_in_second a b new current above)

-- the gates, and what a replacement costs
gates_first : (g h l : Bool) → (g && not (h && l)) ≡ false → 1 + (if h then 1 else 0) ≡ min 2 ((if g then 1 else 0) + (if h then 1 else 0) + 1)
gates_first false false l e = refl
gates_first false true l e = refl
gates_first true false l e = absurd (true≢false e)
gates_first true true l e = refl

gates_second : (g h l : Bool) → (g && not (h && l)) ≡ true → (if g then 1 else 0) + 1 ≡ min 2 ((if g then 1 else 0) + (if h then 1 else 0) + 1)
gates_second false h l e = absurd (false≢true e)
gates_second true false l e = refl
gates_second true true l e = refl

cost_first : (g h l : Bool) → (g && not (h && l)) ≡ false → replace_cost ((if g then 1 else 0) + (if h then 1 else 0)) ≡ (if g then 6 else 4)
cost_first false false l e = refl
cost_first false true l e = refl
cost_first true false l e = absurd (true≢false e)
cost_first true true l e = refl

cost_second : (g h l : Bool) → (g && not (h && l)) ≡ true → replace_cost ((if g then 1 else 0) + (if h then 1 else 0)) ≡ (if h then 6 else 4)
cost_second false h l e = absurd (false≢true e)
cost_second true false l e = refl
cost_second true true l e = refl

first_new : (a b : RegisterCell) (new : RegReply) → first_holds a b ≡ false → stamp_lt (content_of a b).stamp new.stamp ≡ true
    → (content_of (cell_of true new) b ≡ new) × (open_gates (cell_of true new) b ≡ min 2 (open_gates a b + 1))
first_new a b new other above = (new_in_first a b new other above, gates_first a.is_open b.is_open (stamp_lt a.content.stamp b.content.stamp) other)

second_new : (a b : RegisterCell) (new : RegReply) → first_holds a b ≡ true → stamp_lt (content_of a b).stamp new.stamp ≡ true
    → (content_of a (cell_of true new) ≡ new) × (open_gates a (cell_of true new) ≡ min 2 (open_gates a b + 1))
second_new a b new current above = (new_in_second a b new current above, gates_second a.is_open b.is_open (stamp_lt a.content.stamp b.content.stamp) current)

first_cost : (a b : RegisterCell) → first_holds a b ≡ false → replace_cost (open_gates a b) ≡ (if a.is_open then 6 else 4)
first_cost a b other = cost_first a.is_open b.is_open (stamp_lt a.content.stamp b.content.stamp) other

second_cost : (a b : RegisterCell) → first_holds a b ≡ true → replace_cost (open_gates a b) ≡ (if b.is_open then 6 else 4)
second_cost a b current = cost_second a.is_open b.is_open (stamp_lt a.content.stamp b.content.stamp) current

-- register i's first cell ends where its second begins
second_same : (before after : List ℕ) (i : ℕ) → SameOutside before after (64 * i) 32 → cell_at after (64 * i + 32) ≡ cell_at before (64 * i + 32)
second_same before after i same = cell_same before (64 * i + 32) after (64 * i + 32) (λ k lt. same.above (64 * i + 32 + k) (omega arith))

first_same : (before after : List ℕ) (i : ℕ) → SameOutside before after (64 * i + 32) 32 → cell_at after (64 * i) ≡ cell_at before (64 * i)
first_same before after i same = cell_same before (64 * i) after (64 * i) (λ k lt. same.below (64 * i + k) (omega arith))

wider_first : (before after : List ℕ) (i : ℕ) → SameOutside before after (64 * i) 32 → SameOutside before after (64 * i) 64
wider_first before after i same = record {
  size = same.size;
  below = λ p lt. same.below p lt;
  above = λ p le. same.above p (omega arith);
}

wider_second : (before after : List ℕ) (i : ℕ) → SameOutside before after (64 * i + 32) 32 → SameOutside before after (64 * i) 64
wider_second before after i same = record {
  size = same.size;
  below = λ p lt. same.below p (omega arith);
  above = λ p le. same.above p (omega arith);
}

-- a register by its cells
pub register_is : (bytes : List ℕ) (i : ℕ) (a b : RegisterCell) → cell_at bytes (64 * i) ≡ a → cell_at bytes (64 * i + 32) ≡ b → register_at bytes i ≡ content_of a b
unfolding register_at
register_is bytes i a b ea eb =
    ap (λ (x : RegisterCell). content_of x (cell_at bytes (64 * i + 32))) ea ∙ ap (λ (x : RegisterCell). content_of a x) eb

pub gates_is : (bytes : List ℕ) (i : ℕ) (a b : RegisterCell) → cell_at bytes (64 * i) ≡ a → cell_at bytes (64 * i + 32) ≡ b → gates_at bytes i ≡ open_gates a b
unfolding gates_at
gates_is bytes i a b ea eb =
    ap (λ (x : RegisterCell). open_gates x (cell_at bytes (64 * i + 32))) ea ∙ ap (λ (x : RegisterCell). open_gates a x) eb

either : (before image : List ℕ) (i : ℕ) (new : RegReply) → SameOutside before image (64 * i) 64
    → (register_at image i ≡ register_at before i) ⊎ (register_at image i ≡ new)
    → Holds before image i (register_at before i) ⊎ Holds before image i new
either before image i new same (inl e) = inl (record { outside = same; register = e })
either before image i new same (inr e) = inr (record { outside = same; register = e })

moved : (x y x' y' new : RegReply) → x ≡ x' → y ≡ y' → (x' ≡ y') ⊎ (x' ≡ new) → (x ≡ y) ⊎ (x ≡ new)
moved x y x' y' new e f (inl g) = inl (e ∙ g ∙ sym f)
moved x y x' y' new e f (inr g) = inr (e ∙ g)

-- what a stop leaves of the register while its first cell is written
pub first_stops : (before bytes : List ℕ) (loose : Loose) (i : ℕ) (new : RegReply) → first_holds (cell_at before (64 * i)) (cell_at before (64 * i + 32)) ≡ false
    → stamp_lt (register_at before i).stamp new.stamp ≡ true → LeavesCell before bytes loose (64 * i) new → LeavesEither before bytes loose i new
first_stops before bytes loose i new other above leaves = record {
  each = λ image is.
      let may : MayHold before image (64 * i) new = leaves.each image is in
      let a : RegisterCell = cell_at before (64 * i) in
      let b : RegisterCell = cell_at before (64 * i + 32) in
      let now : RegisterCell = cell_at image (64 * i) in
      let was : register_at before i ≡ content_of a b = register_is before i a b refl refl in
      let is_now : register_at image i ≡ content_of now b = register_is image i now b refl (second_same before image i may.outside) in
      let greater : stamp_lt (content_of a b).stamp new.stamp ≡ true = ap (λ (c : RegReply). stamp_lt c.stamp new.stamp) (sym was) ∙ above in
      either before image i new (wider_first before image i may.outside)
      (moved _ _ _ _ new is_now was (first_left a b now new other greater may.cell));
}

-- and while its second is
pub second_stops : (before bytes : List ℕ) (loose : Loose) (i : ℕ) (new : RegReply) → first_holds (cell_at before (64 * i)) (cell_at before (64 * i + 32)) ≡ true
    → stamp_lt (register_at before i).stamp new.stamp ≡ true → LeavesCell before bytes loose (64 * i + 32) new → LeavesEither before bytes loose i new
second_stops before bytes loose i new current above leaves = record {
  each = λ image is.
      let may : MayHold before image (64 * i + 32) new = leaves.each image is in
      let a : RegisterCell = cell_at before (64 * i) in
      let b : RegisterCell = cell_at before (64 * i + 32) in
      let now : RegisterCell = cell_at image (64 * i + 32) in
      let was : register_at before i ≡ content_of a b = register_is before i a b refl refl in
      let is_now : register_at image i ≡ content_of a now = register_is image i a now (first_same before image i may.outside) refl in
      let greater : stamp_lt (content_of a b).stamp new.stamp ≡ true = ap (λ (c : RegReply). stamp_lt c.stamp new.stamp) (sym was) ∙ above in
      either before image i new (wider_second before image i may.outside)
      (moved _ _ _ _ new is_now was (second_left a b now new current greater may.cell));
}

-- a stop while cells are read leaves what there was
pub read_stops : (before bytes : List ℕ) (was loose : Loose) (i : ℕ) (new : RegReply) → IsDurable was → bytes ≡ before → ((p : ℕ) → loose p ≡ was p) → LeavesEither before bytes loose i new
read_stops before bytes was loose i new durable e same = record {
  each = λ image is.
      let there : (p : ℕ) → slice_index image p ≡ slice_index before p = λ p. is.same p (same p ∙ durable p) ∙ ap (λ (xs : List ℕ). slice_index xs p) e in
      let outside : SameOutside before image (64 * i) 64 = record {
        size = is.size ∙ ap length e;
        below = λ p _. there p;
        above = λ p _. there p;
      } in
      let first : cell_at image (64 * i) ≡ cell_at before (64 * i) = cell_same before (64 * i) image (64 * i) (λ k _. there (64 * i + k)) in
      let second : cell_at image (64 * i + 32) ≡ cell_at before (64 * i + 32) = cell_same before (64 * i + 32) image (64 * i + 32) (λ k _. there (64 * i + 32 + k)) in
      inl (record { outside = outside; register = register_is image i _ _ first second ∙ sym (register_is before i _ _ refl refl) });
}

-- the register whose first cell is written
pub first_writes : (before after : List ℕ) (i : ℕ) (new : RegReply) → first_holds (cell_at before (64 * i)) (cell_at before (64 * i + 32)) ≡ false
    → stamp_lt (register_at before i).stamp new.stamp ≡ true → IsWritten before after (64 * i) new
    → Holds before after i new × (gates_at after i ≡ min 2 (gates_at before i + 1))
first_writes before after i new other above w =
    let a : RegisterCell = cell_at before (64 * i) in
    let b : RegisterCell = cell_at before (64 * i + 32) in
    let was : register_at before i ≡ content_of a b = register_is before i a b refl refl in
    let greater : stamp_lt (content_of a b).stamp new.stamp ≡ true = ap (λ (c : RegReply). stamp_lt c.stamp new.stamp) (sym was) ∙ above in
    let second : cell_at after (64 * i + 32) ≡ b = second_same before after i w.outside in
    let made = first_new a b new other greater in (
      record { outside = wider_first before after i w.outside; register = register_is after i _ b w.cell second ∙ made.0 },
      gates_is after i _ b w.cell second ∙ made.1 ∙ ap (λ n. min 2 (n + 1)) (sym (gates_is before i a b refl refl)),
    )

-- the register whose second cell is written
pub second_writes : (before after : List ℕ) (i : ℕ) (new : RegReply) → first_holds (cell_at before (64 * i)) (cell_at before (64 * i + 32)) ≡ true
    → stamp_lt (register_at before i).stamp new.stamp ≡ true → IsWritten before after (64 * i + 32) new
    → Holds before after i new × (gates_at after i ≡ min 2 (gates_at before i + 1))
second_writes before after i new current above w =
    let a : RegisterCell = cell_at before (64 * i) in
    let b : RegisterCell = cell_at before (64 * i + 32) in
    let was : register_at before i ≡ content_of a b = register_is before i a b refl refl in
    let greater : stamp_lt (content_of a b).stamp new.stamp ≡ true = ap (λ (c : RegReply). stamp_lt c.stamp new.stamp) (sym was) ∙ above in
    let first : cell_at after (64 * i) ≡ a = first_same before after i w.outside in
    let made = second_new a b new current greater in (
      record { outside = wider_second before after i w.outside; register = register_is after i a _ first w.cell ∙ made.0 },
      gates_is after i a _ first w.cell ∙ made.1 ∙ ap (λ n. min 2 (n + 1)) (sym (gates_is before i a b refl refl)),
    )

-- the cell that is written is open exactly where both are
pub first_costs : (bytes : List ℕ) (i : ℕ) → first_holds (cell_at bytes (64 * i)) (cell_at bytes (64 * i + 32)) ≡ false
    → replace_cost (gates_at bytes i) ≡ (if (cell_at bytes (64 * i)).is_open then 6 else 4)
first_costs bytes i other =
    let e : gates_at bytes i ≡ open_gates (cell_at bytes (64 * i)) (cell_at bytes (64 * i + 32)) = gates_is bytes i _ _ refl refl in
    ap replace_cost e ∙ first_cost (cell_at bytes (64 * i)) (cell_at bytes (64 * i + 32)) other

pub second_costs : (bytes : List ℕ) (i : ℕ) → first_holds (cell_at bytes (64 * i)) (cell_at bytes (64 * i + 32)) ≡ true
    → replace_cost (gates_at bytes i) ≡ (if (cell_at bytes (64 * i + 32)).is_open then 6 else 4)
second_costs bytes i current =
    let e : gates_at bytes i ≡ open_gates (cell_at bytes (64 * i)) (cell_at bytes (64 * i + 32)) = gates_is bytes i _ _ refl refl in
    ap replace_cost e ∙ second_cost (cell_at bytes (64 * i)) (cell_at bytes (64 * i + 32)) current

-- the same by the place of the cell
pub first_stops_at : (before bytes : List ℕ) (loose : Loose) (i at : ℕ) (new : RegReply) → at ≡ 64 * i
    → first_holds (cell_at before (64 * i)) (cell_at before (64 * i + 32)) ≡ false
    → stamp_lt (register_at before i).stamp new.stamp ≡ true → LeavesCell before bytes loose at new → LeavesEither before bytes loose i new
first_stops_at before bytes loose i at new e other above leaves =
    first_stops before bytes loose i new other above (subst (λ p. LeavesCell before bytes loose p new) e leaves)

pub second_stops_at : (before bytes : List ℕ) (loose : Loose) (i at : ℕ) (new : RegReply) → at ≡ 64 * i
    → first_holds (cell_at before (64 * i)) (cell_at before (64 * i + 32)) ≡ true
    → stamp_lt (register_at before i).stamp new.stamp ≡ true → LeavesCell before bytes loose (at + 32) new → LeavesEither before bytes loose i new
second_stops_at before bytes loose i at new e current above leaves =
    second_stops before bytes loose i new current above (subst (λ p. LeavesCell before bytes loose (p + 32) new) e leaves)

pub first_writes_at : (before after : List ℕ) (i at : ℕ) (new : RegReply) → at ≡ 64 * i
    → first_holds (cell_at before (64 * i)) (cell_at before (64 * i + 32)) ≡ false
    → stamp_lt (register_at before i).stamp new.stamp ≡ true → IsWritten before after at new
    → Holds before after i new × (gates_at after i ≡ min 2 (gates_at before i + 1))
first_writes_at before after i at new e other above w =
    first_writes before after i new other above (subst (λ p. IsWritten before after p new) e w)

pub second_writes_at : (before after : List ℕ) (i at : ℕ) (new : RegReply) → at ≡ 64 * i
    → first_holds (cell_at before (64 * i)) (cell_at before (64 * i + 32)) ≡ true
    → stamp_lt (register_at before i).stamp new.stamp ≡ true → IsWritten before after (at + 32) new
    → Holds before after i new × (gates_at after i ≡ min 2 (gates_at before i + 1))
second_writes_at before after i at new e current above w =
    second_writes before after i new current above (subst (λ p. IsWritten before after (p + 32) new) e w)

pub ruleset first_cell = (first_costs)

pub ruleset second_cell = (second_costs)
