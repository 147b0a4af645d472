-- Bytes from a place on, and what a cell holds by them.
use Rattle.std.proofs.Common.{◌≡◌, ℕ, zero, suc, ◌+◌, ◌<◌, ◌≤◌, ◌^◌, ◌==◌, Bool, List, [], ◌∷◌, length, slice_index, arith, refl, sym, ap, ◌∙◌}
use Rattle.std.specs.Int.{w32, w64, from_be_bytes, to_be_bytes}
use Rattle.std.proofs.lemmas.Nat.{from_be_bytes-to_be_bytes_4, from_be_bytes-to_be_bytes_8}
use Rattle.carstamps.specs.declared.carstamp.Carstamp.{Carstamp}
use Rattle.rss_wire.specs.declared.messages.RegReply.{RegReply}
use Rattle.replica_disk.specs.declared.layout.RegisterCell.{RegisterCell}
use Rattle.replica_disk.specs.Cells.{window, content_at, cell_at, content_bytes}

plus_suc : (p k : ℕ) → p + 1 + k ≡ p + suc k
plus_suc p k = omega arith

plus_zero : (p : ℕ) → p + 0 ≡ p
plus_zero p = omega arith

-- the same bytes make the same window
pub window_same : (a : List ℕ) (p : ℕ) (b : List ℕ) (q n : ℕ) → ((k : ℕ) → k < n → slice_index b (q + k) ≡ slice_index a (p + k)) → window b q n ≡ window a p n
unfolding window
window_same a p b q zero h = refl
window_same a p b q (suc n) h =
    let head : slice_index b q ≡ slice_index a p =
    ap (λ i. slice_index b i) (sym (plus_zero q)) ∙ h 0 (omega arith) ∙ ap (λ i. slice_index a i) (plus_zero p) in
    let tail : window b (q + 1) n ≡ window a (p + 1) n =
    window_same a (p + 1) b (q + 1) n (λ k lt.
    ap (λ i. slice_index b i) (plus_suc q k) ∙ h (suc k) (omega arith) ∙ ap (λ i. slice_index a i) (sym (plus_suc p k))) in
    ap (λ x. x ∷ window b (q + 1) n) head ∙ ap (λ xs. slice_index a p ∷ xs) tail

-- a part of a cell, from byte 8 on
part : (a : List ℕ) (p : ℕ) (b : List ℕ) (q d m : ℕ) → 8 ≤ d → d + m ≤ 32 → ((k : ℕ) → 8 ≤ k → k < 32 → slice_index b (q + k) ≡ slice_index a (p + k))
    → window b (q + d) m ≡ window a (p + d) m
part a p b q d m from fits h =
    window_same a (p + d) b (q + d) m (λ k lt.
    let e : q + d + k ≡ q + (d + k) = omega arith in
    let f : p + d + k ≡ p + (d + k) = omega arith in
    ap (λ i. slice_index b i) e ∙ h (d + k) (omega arith) (omega arith) ∙ ap (λ i. slice_index a i) (sym f))

-- bytes that were written from byte 8 of a cell on, read back
back : (bytes : List ℕ) (at : ℕ) (from : List ℕ) (p d m : ℕ) → p ≡ at + 8 + d → d + m ≤ 24
    → ((k : ℕ) → k < 24 → slice_index bytes (at + 8 + k) ≡ slice_index from k) → window bytes p m ≡ window from d m
back bytes at from p d m e fits h =
    window_same from d bytes p m (λ k lt.
    let f : p + k ≡ at + 8 + (d + k) = omega arith in
    ap (λ i. slice_index bytes i) f ∙ h (d + k) (omega arith))

abbrev pub reply_of : ℕ → ℕ → ℕ → ℕ → RegReply
reply_of v n c w = record { value = v; stamp = record { number = n; call = c }; writer = w }

abbrev pub cell_of : Bool → RegReply → RegisterCell
cell_of g c = record { is_open = g; content = c }

-- a content by its parts
pub content_is : (bytes : List ℕ) (at v n c w : ℕ) → from_be_bytes w64 (window bytes (at + 8) 8) ≡ v → from_be_bytes w64 (window bytes (at + 16) 8) ≡ n
    → from_be_bytes w32 (window bytes (at + 24) 4) ≡ c → from_be_bytes w32 (window bytes (at + 28) 4) ≡ w
    → content_at bytes at ≡ reply_of v n c w
unfolding content_at
content_is bytes at v n c w ev en ec ew =
    ap (λ (x : ℕ). reply_of x (from_be_bytes w64 (window bytes (at + 16) 8)) (from_be_bytes w32 (window bytes (at + 24) 4)) (from_be_bytes w32 (window bytes (at + 28) 4))) ev
    ∙ ap (λ (x : ℕ). reply_of v x (from_be_bytes w32 (window bytes (at + 24) 4)) (from_be_bytes w32 (window bytes (at + 28) 4))) en
    ∙ ap (λ (x : ℕ). reply_of v n x (from_be_bytes w32 (window bytes (at + 28) 4))) ec
    ∙ ap (λ (x : ℕ). reply_of v n c x) ew

-- the same bytes from 8 on make the same content
pub content_same : (a : List ℕ) (p : ℕ) (b : List ℕ) (q : ℕ) → ((k : ℕ) → 8 ≤ k → k < 32 → slice_index b (q + k) ≡ slice_index a (p + k)) → content_at b q ≡ content_at a p
unfolding content_at
content_same a p b q h =
    content_is b q _ _ _ _
    (ap (from_be_bytes w64) (part a p b q 8 8 (omega arith) (omega arith) h))
    (ap (from_be_bytes w64) (part a p b q 16 8 (omega arith) (omega arith) h))
    (ap (from_be_bytes w32) (part a p b q 24 4 (omega arith) (omega arith) h))
    (ap (from_be_bytes w32) (part a p b q 28 4 (omega arith) (omega arith) h))

-- the same bytes make the same cell
pub cell_same : (a : List ℕ) (p : ℕ) (b : List ℕ) (q : ℕ) → ((k : ℕ) → k < 32 → slice_index b (q + k) ≡ slice_index a (p + k)) → cell_at b q ≡ cell_at a p
cell_same a p b q h =
    let gate : slice_index b q ≡ slice_index a p =
    ap (λ i. slice_index b i) (sym (plus_zero q)) ∙ h 0 (omega arith) ∙ ap (λ i. slice_index a i) (plus_zero p) in
    let content : content_at b q ≡ content_at a p = content_same a p b q (λ k _ lt. h k lt) in
    ap (λ (g : ℕ). cell_of (g == 1) (content_at b q)) gate
    ∙ ap (λ (c : RegReply). cell_of (slice_index a p == 1) c) content

-- a content's bytes, read back
pub content_back : (bytes : List ℕ) (at : ℕ) (held : RegReply) → held.value < 2 ^ 64 → held.stamp.number < 2 ^ 64 → held.stamp.call < 2 ^ 32 → held.writer < 2 ^ 32
    → ((k : ℕ) → k < 24 → slice_index bytes (at + 8 + k) ≡ slice_index (content_bytes held) k) → content_at bytes at ≡ held
unfolding content_bytes window
content_back bytes at held fv fn fc fw h =
    let from : List ℕ = content_bytes held in
    content_is bytes at held.value held.stamp.number held.stamp.call held.writer
    (ap (from_be_bytes w64) (back bytes at from (at + 8) 0 8 (omega arith) (omega arith) h) ∙ from_be_bytes-to_be_bytes_8 held.value fv)
    (ap (from_be_bytes w64) (back bytes at from (at + 16) 8 8 (omega arith) (omega arith) h) ∙ from_be_bytes-to_be_bytes_8 held.stamp.number fn)
    (ap (from_be_bytes w32) (back bytes at from (at + 24) 16 4 (omega arith) (omega arith) h) ∙ from_be_bytes-to_be_bytes_4 held.stamp.call fc)
    (ap (from_be_bytes w32) (back bytes at from (at + 28) 20 4 (omega arith) (omega arith) h) ∙ from_be_bytes-to_be_bytes_4 held.writer fw)

-- a cell that was read into a buffer
pub cell_read : (bytes buffer : List ℕ) (at n : ℕ) (cell : RegisterCell) → cell ≡ cell_at buffer 0 → n ≡ 32
    → ((k : ℕ) → k < n → slice_index buffer k ≡ slice_index bytes (at + k)) → cell ≡ cell_at bytes at
cell_read bytes buffer at n cell e len h =
    e ∙ cell_same bytes at buffer 0 (λ k lt.
    let z : 0 + k ≡ k = omega arith in
    ap (λ i. slice_index buffer i) z ∙ h k (omega (arith, lt, len)))
