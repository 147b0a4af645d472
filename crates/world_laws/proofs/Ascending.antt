-- The notes of every register ascend, in every run.
use Rattle.std.proofs.Common.{◌≡◌, ℕ, zero, suc, ◌+◌, ◌<◌, ◌≤◌, ◌⊎◌, inl, inr, Bool, true, false, List, [], ◌∷◌, ◌++◌, length, get_or, Some, None, refl, sym, subst, arith}
use Rattle.std.specs.Prelude.{is_some, if◌then◌else◌}
use Rattle.std.proofs.Math.ListN.{set}
use Rattle.std.proofs.lemmas.Bool.{true≢false}
use Rattle.std.proofs.lemmas.Bool.Decides.{nat_tests}
use Rattle.rss_names.specs.declared.service.Key.{Key}
use Rattle.carstamps.specs.declared.carstamp.Carstamp.{Carstamp}
use Rattle.carstamps.specs.Stamp.{stamp_lt, stamp_le, opening_stamp}
use Rattle.pipeline_lang.specs.declared.config.Config.{Config}
use Rattle.rss_wire.specs.declared.messages.RegReply.{RegReply}
use Rattle.rss_machine.specs.Effect.{stepped}
use Rattle.rss_machine.specs.Marks.{majority_stamp, first_mark, noted, notes_keys, raised_by}
use Rattle.rss_machine.specs.Moves.{ticks, serves_replica}
use Rattle.rss_machine.specs.Refusal.{refusal}
use Rattle.rss_machine.specs.Run.{run, run_from}
use Rattle.rss_machine.specs.State.{State, start, replicas_at, marks_at}
use Rattle.rss_machine.specs.declared.state.Mark.{Mark}
use Rattle.rss_machine.specs.declared.step.Step.{Step}
use Rattle.world_laws.specs.Ascending.{mark_at, Ascending}
use Rattle.world_laws.proofs.Looks.{looks, get_or_set}
use Rattle.world_laws.proofs.Runs.{passes, run_rest, run_none}
use Rattle.world_laws.proofs.Marked.{none_at}
use Rattle.world_laws.proofs.StoreMoves.{StoreKeeps}
use Rattle.world_laws.proofs.StoreWalk.{store_walk}

not_le_lt : (a b : Carstamp) → stamp_le a b ≡ false → stamp_lt b a ≡ true
not_le_lt a b e = grind (arith, nat_tests)

-- a stamp of which no note says so is greater than that of each
not_covered : (marks : List Mark) (z : Carstamp) → is_some (first_mark marks z) ≡ false → (i : ℕ) → i < length marks → stamp_lt (mark_at marks i).stamp z ≡ true
not_covered [] z e i l = absurd (omega (arith, l))
not_covered (m ∷ marks) z e i l = by_test (stamp_le z m.stamp) refl e (not_covered marks z) i l
  where
    by_test : (t : Bool) → stamp_le z m.stamp ≡ t → is_some (if t then Some m.step else first_mark marks z) ≡ false → (is_some (first_mark marks z) ≡ false → (j : ℕ) → j < length marks → stamp_lt (mark_at marks j).stamp z ≡ true) → (j : ℕ) → j < length (m ∷ marks) → stamp_lt (mark_at (m ∷ marks) j).stamp z ≡ true
    by_test true f g ih j n = absurd (true≢false g)
    by_test false f g ih zero n = not_le_lt z m.stamp f
    by_test false f g ih (suc j) n = ih g j (omega (arith, n))

-- later, the same notes ascend
ascending_later : (n k : ℕ) (marks : List Mark) → n ≤ k → Ascending n marks → Ascending k marks
ascending_later n k marks l h = record { stamps = h.stamps; steps = h.steps; late = h.late; soon = λ i j. let a = h.soon i j in omega (arith, a, l) }

abbrev one_more : List Mark → Carstamp → ℕ → List Mark
one_more marks z n = marks ++ record { stamp = z; step = n } ∷ []

old_mark : (marks : List Mark) (z : Carstamp) (n i : ℕ) → i < length marks → mark_at (one_more marks z n) i ≡ mark_at marks i
old_mark marks z n i l = grind (arith, looks, l)

new_mark : (marks : List Mark) (z : Carstamp) (n : ℕ) → mark_at (one_more marks z n) (length marks) ≡ record { stamp = z; step = n }
new_mark marks z n = grind (arith, looks)

mark_place : (marks : List Mark) (z : Carstamp) (n i : ℕ) → i < length (one_more marks z n) → (i < length marks) ⊎ (i ≡ length marks)
mark_place marks z n i l = grind (arith, looks, l)

-- one more note of a stamp that was not covered
ascending_more : (n : ℕ) (marks : List Mark) (z : Carstamp) → 0 < n → is_some (first_mark marks z) ≡ false → Ascending n marks → Ascending n (one_more marks z n)
ascending_more n marks z p e h = record {
  stamps = λ i j l g. by_stamps i j l (mark_place marks z n j g);
  steps = λ i j l g. by_steps i j l (mark_place marks z n j g);
  late = λ i l. by_late i (mark_place marks z n i l);
  soon = λ i l. by_soon i (mark_place marks z n i l);
}
  where
    by_stamps : (i j : ℕ) → i < j → (j < length marks) ⊎ (j ≡ length marks) → stamp_lt (mark_at (one_more marks z n) i).stamp (mark_at (one_more marks z n) j).stamp ≡ true
    by_stamps i j l (inl g) = rw (old_mark marks z n i (omega (arith, l, g)), old_mark marks z n j g) (h.stamps i j l g)
    by_stamps i j l (inr q) = subst (λ (k : ℕ). stamp_lt (mark_at (one_more marks z n) i).stamp (mark_at (one_more marks z n) k).stamp ≡ true) (sym q) (rw (old_mark marks z n i (omega (arith, l, q)), new_mark marks z n) (not_covered marks z e i (omega (arith, l, q))))

    by_steps : (i j : ℕ) → i < j → (j < length marks) ⊎ (j ≡ length marks) → (mark_at (one_more marks z n) i).step ≤ (mark_at (one_more marks z n) j).step
    by_steps i j l (inl g) = rw (old_mark marks z n i (omega (arith, l, g)), old_mark marks z n j g) (h.steps i j l g)
    by_steps i j l (inr q) = subst (λ (k : ℕ). (mark_at (one_more marks z n) i).step ≤ (mark_at (one_more marks z n) k).step) (sym q) (rw (old_mark marks z n i (omega (arith, l, q)), new_mark marks z n) (h.soon i (omega (arith, l, q))))

    by_late : (i : ℕ) → (i < length marks) ⊎ (i ≡ length marks) → 0 < (mark_at (one_more marks z n) i).step
    by_late i (inl g) = rw (old_mark marks z n i g) (h.late i g)
    by_late i (inr q) = subst (λ (k : ℕ). 0 < (mark_at (one_more marks z n) k).step) (sym q) (rw (new_mark marks z n) p)

    by_soon : (i : ℕ) → (i < length marks) ⊎ (i ≡ length marks) → (mark_at (one_more marks z n) i).step ≤ n
    by_soon i (inl g) = rw (old_mark marks z n i g) (h.soon i g)
    by_soon i (inr q) = subst (λ (k : ℕ). (mark_at (one_more marks z n) k).step ≤ n) (sym q) (rw (new_mark marks z n) (omega arith))

noted_ascends : (rs : List (List RegReply)) (key : Key) (n : ℕ) (marks : List Mark) → 0 < n → Ascending n marks → Ascending n (noted rs key n marks)
noted_ascends rs key n marks p h = by_tests (stamp_le (majority_stamp rs key) opening_stamp) (is_some (first_mark marks (majority_stamp rs key))) refl
  where
    by_tests : (a b : Bool) → is_some (first_mark marks (majority_stamp rs key)) ≡ b → Ascending n (if (if a then true else b) then marks else one_more marks (majority_stamp rs key) n)
    by_tests true b e = h
    by_tests false true e = h
    by_tests false false e = ascending_more n marks (majority_stamp rs key) p e h

-- the notes of all registers ascend
abbrev AllAscend : ℕ → List (List Mark) → Type 0
AllAscend n ml = (i : ℕ) → Ascending n (get_or ml i [])

set_ascends : (n : ℕ) (ml : List (List Mark)) (j : ℕ) (x : List Mark) → Ascending n x → AllAscend n ml → AllAscend n (set ml j x)
set_ascends n ml j x a h i = by_place (get_or_set ml j x i [])
  where
    by_place : ((get_or (set ml j x) i [] ≡ x) × (i ≡ j) × (j < length ml)) ⊎ ((get_or (set ml j x) i [] ≡ get_or ml i []) × ((i ≡ j → ⊥) ⊎ (length ml ≤ i))) → Ascending n (get_or (set ml j x) i [])
    by_place (inl p) = subst (Ascending n) (sym p.0) a
    by_place (inr p) = subst (Ascending n) (sym p.0) (h i)

keys_ascend : (rs : List (List RegReply)) (n : ℕ) (keys : List Key) (ml : List (List Mark)) → 0 < n → AllAscend n ml → AllAscend n (notes_keys rs n keys ml)
keys_ascend rs n [] ml p h = h
keys_ascend rs n (key ∷ keys) ml p h =
    let x = noted rs key n (get_or ml key.index []) in
    keys_ascend rs n keys (set ml key.index x) p (set_ascends n ml key.index x (noted_ascends rs key n (get_or ml key.index []) p (h key.index)) h)

-- within a step
record Ascends (s : State) : Type 0 where
  begun : 0 < s.steps
  all : AllAscend s.steps s.marks

ascends_keeps : StoreKeeps Ascends
ascends_keeps = record {
  fates = λ s m f h. record { begun = h.begun; all = h.all };
  sends = λ s o out h. record { begun = h.begun; all = h.all };
  shards = λ s m shard latest r d h. record { begun = h.begun; all = h.all };
  replicas = λ s m service replica r d h. record { begun = h.begun; all = keys_ascend (replicas_at (serves_replica s m service replica r) service) s.steps (raised_by r) s.marks h.begun h.all };
  others = λ s t e h. record { begun = subst (λ (n : ℕ). 0 < n) (sym e.steps) h.begun; all = subst (λ (n : ℕ). AllAscend n t.marks) (sym e.steps) (subst (λ (ml : List (List Mark)). AllAscend s.steps ml) (sym e.marks) h.all) };
}

ascends_step : (c : Config) (s : State) (step : Step) → refusal c s step ≡ None → AllAscend s.steps s.marks → AllAscend (stepped c s step).steps (stepped c s step).marks
ascends_step c s step r h = (store_walk c Ascends ascends_keeps (ticks s step.at) step.at step.kind (passes c s step r).kind (record { begun = omega arith; all = λ i. ascending_later s.steps (s.steps + 1) (get_or s.marks i []) (omega arith) (h i) })).all

ascends_from : (c : Config) (steps : List Step) (u s : State) → run_from c u steps ≡ Some s → AllAscend u.steps u.marks → AllAscend s.steps s.marks
ascends_from c [] u s e h = subst (λ (t : State). AllAscend t.steps t.marks) (run_none c u s e) h
ascends_from c (step ∷ steps) u s e h = let t = run_rest c u step steps s e in ascends_from c steps (stepped c u step) s t.1 (ascends_step c u step t.0 h)

nothing_ascends : (n : ℕ) → Ascending n []
nothing_ascends n = record { stamps = λ i j l g. absurd (omega (arith, g)); steps = λ i j l g. absurd (omega (arith, g)); late = λ i l. absurd (omega (arith, l)); soon = λ i l. absurd (omega (arith, l)) }

-- in every run
pub marks_ascend : (c : Config) (steps : List Step) (s : State) (key : Key) → run c steps ≡ Some s → Ascending s.steps (marks_at s key)
unfolding run
marks_ascend c steps s key e = ascends_from c steps (start c) s e (λ i. subst (Ascending 0) (sym (none_at (length c.registers) i)) (nothing_ascends 0)) key.index
