-- A whole file with a tail splits into the file and what stands behind the line.
use Rattle.std.proofs.Common.{◌≡◌, ◌⊎◌, inl, inr, ℕ, ◌+◌, ◌<◌, true, false, List, ◌++◌, length, take, drop, refl, sym, ap, ◌∙◌, subst, arith}
use Rattle.std.proofs.Math.Seq.{take-append_seam, drop-append-add}
use Rattle.std.proofs.lemmas.Bool.{true≢false, cases_order}
use Rattle.std.specs.Prelude.{codes}
use Rattle.input_parts.specs.Split.{is_mark, IsMarked, IsUnmarked, Splits}
use Rattle.log_laws.specs.Laws.{IsWholeFile, AreParts}
use Rattle.log_laws.proofs.Marks.{none_before, one_behind, within_input}

-- the first mark is the one behind the file
at_is : (file behind : List ℕ) (at : ℕ) → IsWholeFile file → is_mark (file ++ (codes "%steps\n" ++ behind)) at ≡ true → ((k : ℕ) → k < at → is_mark (file ++ (codes "%steps\n" ++ behind)) k ≡ false) → at ≡ length file
at_is file behind at w here first = by_order (cases_order at (length file))
  where
    by_order : (at ≡ length file) ⊎ ((at < length file) ⊎ (length file < at)) → at ≡ length file
    by_order (inl e) = e
    by_order (inr (inl l)) = absurd (none_before file behind w at l here)
    by_order (inr (inr l)) = absurd (true≢false (sym (one_behind file behind w) ∙ first (length file) l))

marked : (file behind one other : List ℕ) → IsWholeFile file → IsMarked (file ++ (codes "%steps\n" ++ behind)) one other → AreParts one other file behind
marked file behind one other w m =
    let e = at_is file behind m.at w m.mark.here m.mark.first in
    record {
      file_is = m.file_is ∙ ap (λ (n : ℕ). take n (file ++ (codes "%steps\n" ++ behind))) e ∙ take-append_seam file (codes "%steps\n" ++ behind);
      steps_are = m.steps_is ∙ ap (λ (n : ℕ). drop (n + 7) (file ++ (codes "%steps\n" ++ behind))) e ∙ drop-append-add file (codes "%steps\n" ++ behind) 7;
    }

pub printed_split : (file behind one other : List ℕ) → IsWholeFile file → Splits (file ++ (codes "%steps\n" ++ behind)) one other → AreParts one other file behind
printed_split file behind one other w (inl m) = marked file behind one other w m
printed_split file behind one other w (inr m) =
    absurd (true≢false (sym (one_behind file behind w) ∙ m.none (length file) (within_input file behind)))
