-- The step of a time: it rises with the time, has come exactly where the true moment is above the time,
-- and stays once it has come.
use Rattle.std.proofs.Common.{◌≡◌, ◌↔◌, length-append, ℕ, ◌+◌, ◌<◌, ◌≤◌, ◌⊎◌, inl, inr, Bool, true, false, List, [], ◌∷◌, ◌++◌, length, Some, None, refl, ap, sym, ◌∙◌, subst, arith}
use Rattle.std.proofs.lemmas.Bool.{cond_both, ltb-true, ltb-false}
use Rattle.std.proofs.lemmas.List.{append_assoc, append-nil}
use Rattle.std.specs.Prelude.{nat_lt, if◌then◌else◌}
use Rattle.truetime.specs.TrueMoment.{moment_after}
use Rattle.pipeline_lang.specs.declared.config.Config.{Config}
use Rattle.rss_machine.specs.State.{State, start}
use Rattle.rss_machine.specs.Effect.{stepped}
use Rattle.rss_machine.specs.Refusal.{refusal}
use Rattle.rss_machine.specs.Run.{run, run_from}
use Rattle.rss_machine.specs.Times.{first_above, step_of_time}
use Rattle.rss_machine.specs.declared.step.Step.{Step}
use Rattle.world_laws.proofs.Runs.{run_rest, run_none, run_split}
use Rattle.world_laws.proofs.Clock.{clock_step}
use Rattle.world_laws.specs.Laws.{StepsRise, StepsStay}

-- it is among the steps, or one more
pub above_from : (n time : ℕ) (ms : List ℕ) → (n ≤ first_above n time ms) × (first_above n time ms ≤ n + length ms)
above_from n time [] = (omega arith, omega arith)
above_from n time (m ∷ ms) =
    let r = above_from (n + 1) time ms in
    cond_both (nat_lt time m) n (first_above (n + 1) time ms) (λ (k : ℕ). (n ≤ k) × (k ≤ n + length (m ∷ ms)))
    (λ t. (omega arith, omega arith)) (λ f. (omega (arith, r), omega (arith, r)))

-- a greater time has no earlier step
pub above_rises : (n a b : ℕ) (ms : List ℕ) → a ≤ b → first_above n a ms ≤ first_above n b ms
above_rises n a b [] l = omega arith
above_rises n a b (m ∷ ms) l = by_tests (nat_lt a m) (nat_lt b m) refl refl (above_rises (n + 1) a b ms l) (above_from (n + 1) b ms)
  where
    by_tests : (x y : Bool) → nat_lt a m ≡ x → nat_lt b m ≡ y → first_above (n + 1) a ms ≤ first_above (n + 1) b ms → (n + 1 ≤ first_above (n + 1) b ms) × (first_above (n + 1) b ms ≤ n + 1 + length ms) → first_above n a (m ∷ ms) ≤ first_above n b (m ∷ ms)
    by_tests true true x y r q = rw (x, y) (omega arith)
    by_tests true false x y r q = rw (x, y) (omega (arith, q))
    by_tests false true x y r q = absurd (let c = ltb-false a m x in let d = ltb-true b m y in omega (arith, c, d, l))
    by_tests false false x y r q = rw (x, y) r

-- further moments do not change a step that has come; one that has not come lies among them
pub above_later : (n time : ℕ) (ms more : List ℕ) → ((first_above n time (ms ++ more) ≡ first_above n time ms) × (first_above n time ms < n + length ms)) ⊎ ((first_above n time ms ≡ n + length ms) × (first_above n time (ms ++ more) ≡ first_above (n + length ms) time more))
above_later n time [] more = inr (omega arith, ap (λ (k : ℕ). first_above k time more) (omega arith))
above_later n time (m ∷ ms) more = by_test (nat_lt time m) refl (above_later (n + 1) time ms more)
  where
    by_test : (x : Bool) → nat_lt time m ≡ x → ((first_above (n + 1) time (ms ++ more) ≡ first_above (n + 1) time ms) × (first_above (n + 1) time ms < n + 1 + length ms)) ⊎ ((first_above (n + 1) time ms ≡ n + 1 + length ms) × (first_above (n + 1) time (ms ++ more) ≡ first_above (n + 1 + length ms) time more)) → ((first_above n time ((m ∷ ms) ++ more) ≡ first_above n time (m ∷ ms)) × (first_above n time (m ∷ ms) < n + length (m ∷ ms))) ⊎ ((first_above n time (m ∷ ms) ≡ n + length (m ∷ ms)) × (first_above n time ((m ∷ ms) ++ more) ≡ first_above (n + length (m ∷ ms)) time more))
    by_test true e r = inl (rw e refl, rw e (omega arith))
    by_test false e (inl r) = inl (rw e r.0, rw e (omega (arith, r.1)))
    by_test false e (inr r) =
        let q : n + 1 + length ms ≡ n + length (m ∷ ms) = omega arith in
        inr (rw e (r.0 ∙ q), rw e (r.1 ∙ ap (λ (k : ℕ). first_above k time more) q))

-- a time's step is among these moments exactly where the last moment is above the time
abbrev pub Comes : ℕ → List ℕ → ℕ → Type 0
Comes moment ms time = ((first_above 1 time ms ≤ length ms) × (time < moment)) ⊎ ((first_above 1 time ms ≡ length ms + 1) × (moment ≤ time))

-- the same with one more moment, not below the last
comes_more : (m now time : ℕ) (ms : List ℕ) → m ≤ now → Comes m ms time → Comes now (ms ++ now ∷ []) time
comes_more m now time ms l c = by_before c (above_later 1 time ms (now ∷ [])) (length-append ms (now ∷ []))
  where
    by_test : (x : Bool) → nat_lt time now ≡ x → first_above 1 time (ms ++ now ∷ []) ≡ (if x then 1 + length ms else 1 + length ms + 1) → length (ms ++ now ∷ []) ≡ length ms + 1 → Comes now (ms ++ now ∷ []) time
    by_test true e q n = let d = ltb-true time now e in inl (omega (arith, q, n), d)
    by_test false e q n = let d = ltb-false time now e in inr (omega (arith, q, n), d)

    by_before : Comes m ms time → ((first_above 1 time (ms ++ now ∷ []) ≡ first_above 1 time ms) × (first_above 1 time ms < 1 + length ms)) ⊎ ((first_above 1 time ms ≡ 1 + length ms) × (first_above 1 time (ms ++ now ∷ []) ≡ first_above (1 + length ms) time (now ∷ []))) → length (ms ++ now ∷ []) ≡ length ms + 1 → Comes now (ms ++ now ∷ []) time
    by_before (inl a) (inl b) n = inl (omega (arith, a.0, b.0, n), omega (arith, a.1, l))
    by_before (inr a) (inl b) n = absurd (omega (arith, a.0, b.1))
    by_before a (inr b) n = by_test (nat_lt time now) refl b.1 n

-- in a state of a run the moments are as many as the steps, and each time's step has come where the moment is above it
pub record Counted (s : State) : Type 0 where
  pub many : length s.moments ≡ s.steps
  pub come : (time : ℕ) → Comes s.moment s.moments time

counted_step : (c : Config) (s : State) (step : Step) → refusal c s step ≡ None → Counted s → Counted (stepped c s step)
counted_step c s step r h = record {
  many = ap (λ (ms : List ℕ). length ms) q.2 ∙ (length-append s.moments (now ∷ []) ∙ omega (arith, h.many, q.0));
  come = λ time. subst (λ (m : ℕ). Comes m (stepped c s step).moments time) (sym q.1) (subst (λ (ms : List ℕ). Comes now ms time) (sym q.2) (comes_more s.moment now time s.moments (omega arith) (h.come time)));
}
  where
    now : ℕ
    now = moment_after s.moment step.at

    q : ((stepped c s step).steps ≡ s.steps + 1) × ((stepped c s step).moment ≡ moment_after s.moment step.at) × ((stepped c s step).moments ≡ s.moments ++ moment_after s.moment step.at ∷ [])
    q = clock_step c s step r

counted_from : (c : Config) (steps : List Step) (u s : State) → run_from c u steps ≡ Some s → Counted u → Counted s
counted_from c [] u s e h = subst Counted (run_none c u s e) h
counted_from c (step ∷ steps) u s e h = let t = run_rest c u step steps s e in counted_from c steps (stepped c u step) s t.1 (counted_step c u step t.0 h)

-- in every run
pub counted_run : (c : Config) (steps : List Step) (s : State) → run c steps ≡ Some s → Counted s
unfolding run
counted_run c steps s e = counted_from c steps (start c) s e (record { many = refl; come = λ time. inr (refl, omega arith) })

-- the moments of a later state are those of the earlier one and more
moments_from : (c : Config) (steps : List Step) (u s : State) → run_from c u steps ≡ Some s → (more : List ℕ) × (s.moments ≡ u.moments ++ more)
moments_from c [] u s e = ([], sym (ap (λ (t : State). t.moments) (run_none c u s e)) ∙ sym (append-nil u.moments))
moments_from c (step ∷ steps) u s e =
    let t = run_rest c u step steps s e in
    let h = moments_from c steps (stepped c u step) s t.1 in
    let q = (clock_step c u step t.0).2 in
    (moment_after u.moment step.at ∷ h.0, h.1 ∙ (ap (λ (ms : List ℕ). ms ++ h.0) q ∙ append_assoc u.moments (moment_after u.moment step.at ∷ []) h.0))

pub steps_rise : (c : Config) (steps : List Step) (s : State) → run c steps ≡ Some s → StepsRise s
steps_rise c steps s e =
    let h = counted_run c steps s e in
    record {
      first = λ time. (above_from 1 time s.moments).0;
      last = λ time. let r = (above_from 1 time s.moments).1 in let q = h.many in omega (arith, r, q);
      rise = λ a b. above_rises 1 a b s.moments;
    }

pub steps_stay : (c : Config) (steps more : List Step) (s later : State) → run c steps ≡ Some s → run c (steps ++ more) ≡ Some later → StepsStay s later
steps_stay c steps more s later e f = record {
  come = λ time. let b = both time in by_before time (h.come time) b;
  stay = λ time l. stays time l (both time);
  ahead = λ time l. is_ahead time l (both time);
}
  where
    h : Counted s
    h = counted_run c steps s e

    grown : (rest : List ℕ) × (later.moments ≡ s.moments ++ rest)
    grown = moments_from c more s later (run_split c steps more s later e f)

    both : (time : ℕ) → ((step_of_time later time ≡ step_of_time s time) × (step_of_time s time < 1 + length s.moments)) ⊎ ((step_of_time s time ≡ 1 + length s.moments) × (step_of_time later time ≡ first_above (1 + length s.moments) time grown.0))
    both time = subst (λ (ms : List ℕ). ((first_above 1 time ms ≡ step_of_time s time) × (step_of_time s time < 1 + length s.moments)) ⊎ ((step_of_time s time ≡ 1 + length s.moments) × (first_above 1 time ms ≡ first_above (1 + length s.moments) time grown.0))) (sym grown.1) (above_later 1 time s.moments grown.0)

    by_before : (time : ℕ) → Comes s.moment s.moments time → ((step_of_time later time ≡ step_of_time s time) × (step_of_time s time < 1 + length s.moments)) ⊎ ((step_of_time s time ≡ 1 + length s.moments) × (step_of_time later time ≡ first_above (1 + length s.moments) time grown.0)) → step_of_time later time ≤ s.steps ↔ time < s.moment
    by_before time (inl a) (inl b) = let q = h.many in (λ l. a.1, λ l. omega (arith, a.0, b.0, q))
    by_before time (inr a) (inl b) = absurd (omega (arith, a.0, b.1))
    by_before time (inl a) (inr b) = absurd (omega (arith, a.0, b.0))
    by_before time (inr a) (inr b) =
        let q = h.many in
        let r = (above_from (1 + length s.moments) time grown.0).0 in
        (λ l. absurd (omega (arith, r, b.1, q, l)), λ l. absurd (omega (arith, a.1, l)))

    stays : (time : ℕ) → step_of_time later time ≤ s.steps → ((step_of_time later time ≡ step_of_time s time) × (step_of_time s time < 1 + length s.moments)) ⊎ ((step_of_time s time ≡ 1 + length s.moments) × (step_of_time later time ≡ first_above (1 + length s.moments) time grown.0)) → step_of_time s time ≡ step_of_time later time
    stays time l (inl b) = sym b.0
    stays time l (inr b) =
        let q = h.many in
        let r = (above_from (1 + length s.moments) time grown.0).0 in
        absurd (omega (arith, r, b.1, q, l))

    is_ahead : (time : ℕ) → s.steps < step_of_time later time → ((step_of_time later time ≡ step_of_time s time) × (step_of_time s time < 1 + length s.moments)) ⊎ ((step_of_time s time ≡ 1 + length s.moments) × (step_of_time later time ≡ first_above (1 + length s.moments) time grown.0)) → step_of_time s time ≡ s.steps + 1
    is_ahead time l (inl b) = let q = h.many in absurd (omega (arith, b.0, b.1, q, l))
    is_ahead time l (inr b) = let q = h.many in omega (arith, b.0, q)
