-- What each register holds, as a list.
use Rattle.std.proofs.Common.{◌≡◌, ◌≢◌, ℕ, zero, suc, ◌+◌, ◌*◌, ◌<◌, ◌≤◌, ◌⊎◌, List, [], ◌∷◌, ◌++◌, length, get_or, set, slice_index, arith, refl, sym, ap, ◌∙◌, inl, inr, get_or-set_same, get_or-set_other}
use Rattle.std.proofs.lemmas.Grind.{common_steps, get_or-set_at}
use Rattle.std.proofs.lemmas.List.{same_lists, length-set, length-append}
use Rattle.std.proofs.lemmas.Bool.{cases_eq, cases_order}
use Rattle.rss_wire.specs.declared.messages.RegReply.{RegReply}
use Rattle.replica_disk.specs.Disks.{Loose, IsDurable, IsImage, SameOutside}
use Rattle.replica_disk.specs.Cells.{cell_at, register_at, gates_at}
use Rattle.replica_disk.specs.Registers.{each_from, registers_of, gates_of, Holds}
use Rattle.replica_disk.proofs.Windows.{cell_same}
use Rattle.replica_disk.proofs.Blocks.{register_is, gates_is}

pub each_length : {X : Type 0} (f : ℕ → X) (i n : ℕ) → length (each_from f i n) ≡ n
unfolding each_from
each_length f i zero = refl
each_length f i (suc n) = ap suc (each_length f (i + 1) n)

pub each_at : {X : Type 0} (f : ℕ → X) (i n k : ℕ) (d : X) → k < n → get_or (each_from f i n) k d ≡ f (i + k)
unfolding each_from
each_at f i zero k d lt = absurd (omega (arith, lt))
each_at f i (suc n) zero d lt = let e : i ≡ i + 0 = omega arith in ap f e
each_at f i (suc n) (suc k) d lt =
    let e : i + 1 + k ≡ i + suc k = omega arith in
    each_at f (i + 1) n k d (omega arith) ∙ ap f e

pub each_more : {X : Type 0} (f : ℕ → X) (i n : ℕ) → each_from f i (n + 1) ≡ each_from f i n ++ f (i + n) ∷ []
each_more f i n =
    same_lists _ _ (omega (arith, each_length f i (n + 1), each_length f i n, length-append (each_from f i n) (f (i + n) ∷ [])))
    (λ k d lt. grind (arith, common_steps, each_at, each_length))

at_place : {X : Type 0} (f g : ℕ → X) (n i : ℕ) (x : X) → i < n → g i ≡ x → ((k : ℕ) → k ≢ i → g k ≡ f k) → (k : ℕ) (d : X) → k < n → (k ≡ i) ⊎ (k ≡ i → ⊥)
    → get_or (each_from g 0 n) k d ≡ get_or (set (each_from f 0 n) i x) k d
at_place f g n i x lt at other k d below (inl e) =
    let here : k < length (each_from f 0 n) = omega (arith, below, each_length f 0 n) in
    let i_here : i < length (each_from f 0 n) = omega (arith, lt, each_length f 0 n) in
    let z : 0 + k ≡ i = omega (arith, e) in
    each_at g 0 n k d below ∙ ap g z ∙ at ∙ sym (get_or-set_at (each_from f 0 n) i k x d e i_here)
at_place f g n i x lt at other k d below (inr ne) =
    let z : 0 + k ≡ k = omega arith in
    each_at g 0 n k d below ∙ ap g z ∙ other k ne ∙ sym (ap f z) ∙ sym (each_at f 0 n k d below) ∙ sym (get_or-set_other (each_from f 0 n) i k x d ne)

-- the same function but at one number
pub each_set : {X : Type 0} (f g : ℕ → X) (n i : ℕ) (x : X) → i < n → g i ≡ x → ((k : ℕ) → k ≢ i → g k ≡ f k) → each_from g 0 n ≡ set (each_from f 0 n) i x
each_set f g n i x lt at other =
    let len : length (each_from g 0 n) ≡ length (set (each_from f 0 n) i x) = each_length g 0 n ∙ sym (length-set (each_from f 0 n) i x ∙ each_length f 0 n) in
    same_lists _ _ len (λ k d below. at_place f g n i x lt at other k d (omega (arith, below, each_length g 0 n)) (cases_eq k i))

-- and the same function
pub each_same : {X : Type 0} (f g : ℕ → X) (i n : ℕ) → ((k : ℕ) → g k ≡ f k) → each_from g i n ≡ each_from f i n
unfolding each_from
each_same f g i zero h = refl
each_same f g i (suc n) h = ap (λ x. x ∷ each_from g (i + 1) n) (h i) ∙ ap (λ xs. f i ∷ xs) (each_same f g (i + 1) n h)

apart : (before after : List ℕ) (i k p : ℕ) → SameOutside before after (64 * i) 64 → 64 * k ≤ p → p < 64 * k + 64 → (k ≡ i) ⊎ ((k < i) ⊎ (i < k)) → k ≢ i → slice_index after p ≡ slice_index before p
apart before after i k p same le lt (inl e) ne = absurd (ne e)
apart before after i k p same le lt (inr (inl below)) ne = same.below p (omega arith)
apart before after i k p same le lt (inr (inr above)) ne = same.above p (omega arith)

-- cells of another register
cells_apart : (before after : List ℕ) (i k : ℕ) → k ≢ i → SameOutside before after (64 * i) 64
    → (cell_at after (64 * k) ≡ cell_at before (64 * k)) × (cell_at after (64 * k + 32) ≡ cell_at before (64 * k + 32))
cells_apart before after i k ne same =
    let there : (p : ℕ) → 64 * k ≤ p → p < 64 * k + 64 → slice_index after p ≡ slice_index before p = λ p le lt. apart before after i k p same le lt (cases_order k i) ne in (
      cell_same before (64 * k) after (64 * k) (λ j lt. there (64 * k + j) (omega arith) (omega arith)),
      cell_same before (64 * k + 32) after (64 * k + 32) (λ j lt. there (64 * k + 32 + j) (omega arith) (omega arith)),
    )

register_apart : (before after : List ℕ) (i k : ℕ) → SameOutside before after (64 * i) 64 → k ≢ i → register_at after k ≡ register_at before k
register_apart before after i k same ne =
    let c = cells_apart before after i k ne same in
    register_is after k _ _ c.0 c.1 ∙ sym (register_is before k _ _ refl refl)

gates_apart : (before after : List ℕ) (i k : ℕ) → SameOutside before after (64 * i) 64 → k ≢ i → gates_at after k ≡ gates_at before k
gates_apart before after i k same ne =
    let c = cells_apart before after i k ne same in
    gates_is after k _ _ c.0 c.1 ∙ sym (gates_is before k _ _ refl refl)

-- the registers of a disk of which one was replaced
pub registers_hold : (before after : List ℕ) (n i : ℕ) (held : RegReply) → i < n → Holds before after i held → registers_of after n ≡ set (registers_of before n) i held
registers_hold before after n i held lt h =
    each_set (register_at before) (register_at after) n i held lt h.register (λ k ne. register_apart before after i k h.outside ne)

-- and their gates
pub gates_hold : (before after : List ℕ) (n i : ℕ) (held : RegReply) → i < n → Holds before after i held → gates_of after n ≡ set (gates_of before n) i (gates_at after i)
gates_hold before after n i held lt h =
    each_set (gates_at before) (gates_at after) n i (gates_at after i) lt refl (λ k ne. gates_apart before after i k h.outside ne)

-- bytes that are the same at each place hold the same registers
pub registers_same : (before after : List ℕ) (n : ℕ) → ((p : ℕ) → slice_index after p ≡ slice_index before p) → registers_of after n ≡ registers_of before n
registers_same before after n same =
    each_same (register_at before) (register_at after) 0 n (λ k.
    register_is after k _ _ (cell_same before (64 * k) after (64 * k) (λ j _. same (64 * k + j))) (cell_same before (64 * k + 32) after (64 * k + 32) (λ j _. same (64 * k + 32 + j)))
    ∙ sym (register_is before k _ _ refl refl))
