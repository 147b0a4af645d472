-- The steps of times and the true moments of one state: a time has its step behind each step whose moment is at most
-- the time, and by each whose moment is above it.
use Rattle.std.proofs.Common.{◌≡◌, ℕ, zero, suc, ◌+◌, ◌<◌, ◌≤◌, ◌⊎◌, inl, inr, Bool, true, false, List, [], ◌∷◌, ◌++◌, length, get_or, Some, None, refl, ap, sym, ◌∙◌, subst, arith}
use Rattle.std.specs.Prelude.{nat_lt}
use Rattle.std.proofs.lemmas.Bool.{cond_both, ltb-true, ltb-false, cases_lt}
use Rattle.truetime.specs.Reading.{Reading}
use Rattle.truetime.specs.TrueMoment.{moment_after}
use Rattle.pipeline_lang.specs.declared.config.Config.{Config}
use Rattle.rss_machine.specs.Effect.{stepped}
use Rattle.rss_machine.specs.Refusal.{refusal}
use Rattle.rss_machine.specs.Run.{run}
use Rattle.rss_machine.specs.State.{State, start}
use Rattle.rss_machine.specs.Times.{first_above, step_of_time}
use Rattle.rss_machine.specs.declared.step.Step.{Step}
use Rattle.world_laws.proofs.Clock.{clock_step}
use Rattle.world_laws.proofs.Looks.{looks}
use Rattle.world_laws.proofs.Runs.{run_keeps}
use Rattle.world_laws.proofs.StepsOfTimes.{above_from, above_rises}
use Rattle.shard_event_laws.specs.Known.{Known, moment_at}
use Rattle.fence_laws.specs.Laws.{MomentsRise, TimesFit}

-- where the first so many moments are at most a time, its step lies behind them
pub above_after : (n time k : ℕ) (ms : List ℕ) → k ≤ length ms → ((i : ℕ) → i < k → get_or ms i 0 ≤ time) → n + k ≤ first_above n time ms
above_after n time zero ms l h = let r = (above_from n time ms).0 in omega (arith, r)
above_after n time (suc k) [] l h = absurd (omega (arith, l))
above_after n time (suc k) (m ∷ ms) l h = by_test (nat_lt time m) refl (above_after (n + 1) time k ms (omega (arith, l)) (λ i p. h (suc i) (omega (arith, p))))
  where
    by_test : (b : Bool) → nat_lt time m ≡ b → n + 1 + k ≤ first_above (n + 1) time ms → n + suc k ≤ first_above n time (m ∷ ms)
    by_test true e r = absurd (let d = ltb-true time m e in let g = h 0 (omega arith) in omega (arith, d, g))
    by_test false e r = rw e (omega (arith, r))

-- where one of the moments is above a time, its step is no later
pub above_by : (n time k : ℕ) (ms : List ℕ) → k < length ms → time < get_or ms k 0 → first_above n time ms ≤ n + k
above_by n time k [] l h = absurd (omega (arith, l))
above_by n time zero (m ∷ ms) l h = by_test (nat_lt time m) refl
  where
    by_test : (b : Bool) → nat_lt time m ≡ b → first_above n time (m ∷ ms) ≤ n + zero
    by_test true e = rw e (omega arith)
    by_test false e = absurd (let d = ltb-false time m e in omega (arith, d, h))
above_by n time (suc k) (m ∷ ms) l h =
    let r = above_by (n + 1) time k ms (omega (arith, l)) h in
    cond_both (nat_lt time m) n (first_above (n + 1) time ms) (λ (x : ℕ). x ≤ n + suc k) (λ t. omega arith) (λ f. omega (arith, r))

-- a time that is at least the moment after a step has its step behind that one
pub step_after : (s : State) (time k : ℕ) → MomentsRise s → k ≤ s.steps → moment_at s k ≤ time → k < step_of_time s time
step_after s time k h l a =
    let n = h.long in
    let r = above_after 1 time k s.moments (omega (arith, l, n)) (λ i p. let q = h.rise (suc i) k (omega (arith, p)) l in omega (arith, q, a)) in
    omega (arith, r)

-- a time that is below the moment after a step has its step by that one
pub step_by : (s : State) (time k : ℕ) → MomentsRise s → k ≤ s.steps → time < moment_at s k → step_of_time s time ≤ k
step_by s time zero h l a = absurd (omega (arith, a))
step_by s time (suc k) h l a =
    let n = h.long in
    let r = above_by 1 time k s.moments (omega (arith, l, n)) a in
    omega (arith, r)

-- a greater time has no earlier step
pub step_rises : (s : State) (a b : ℕ) → a ≤ b → step_of_time s a ≤ step_of_time s b
step_rises s a b l = above_rises 1 a b s.moments l

-- one more moment, not below the last
old_moment : (ms : List ℕ) (x i : ℕ) → i ≤ length ms → get_or (0 ∷ (ms ++ x ∷ [])) i 0 ≡ get_or (0 ∷ ms) i 0
old_moment ms x i l = grind (arith, looks, l)

new_moment : (ms : List ℕ) (x : ℕ) → get_or (0 ∷ (ms ++ x ∷ [])) (length ms + 1) 0 ≡ x
new_moment ms x = grind (arith, looks)

more_moments : (ms : List ℕ) (x : ℕ) → length (ms ++ x ∷ []) ≡ length ms + 1
more_moments ms x = grind (arith, looks)

rise_more : (s v : State) (x : ℕ) → v.steps ≡ s.steps + 1 → v.moment ≡ x → v.moments ≡ s.moments ++ x ∷ [] → s.moment ≤ x → MomentsRise s → MomentsRise v
rise_more s v x a b d above h = record {
  long = ap (λ (ms : List ℕ). length ms) d ∙ (let l = h.long in let m = more_moments s.moments x in omega (arith, l, m, a));
  now = ap (λ (n : ℕ). moment_at v n) a ∙ (last ∙ sym b);
  rise = rise;
}
  where
    old : (i : ℕ) → i ≤ s.steps → moment_at v i ≡ moment_at s i
    old i l = ap (λ (ms : List ℕ). get_or (0 ∷ ms) i 0) d ∙ old_moment s.moments x i (let n = h.long in omega (arith, l, n))

    last : moment_at v (s.steps + 1) ≡ x
    last = ap (λ (ms : List ℕ). get_or (0 ∷ ms) (s.steps + 1) 0) d ∙ (ap (λ (n : ℕ). get_or (0 ∷ (s.moments ++ x ∷ [])) (n + 1) 0) (sym h.long) ∙ new_moment s.moments x)

    rise : (i j : ℕ) → i ≤ j → j ≤ v.steps → moment_at v i ≤ moment_at v j
    rise i j p q = by_last (cases_lt s.steps j)
      where
        by_first : (j ≡ s.steps + 1) → (s.steps < i) ⊎ (i ≤ s.steps) → moment_at v i ≤ moment_at v j
        by_first f (inl l) = let z : i ≡ j = omega (arith, f, l, p) in let e = ap (λ (n : ℕ). moment_at v n) z in omega (arith, e)
        by_first f (inr l) =
            let e = old i l in
            let g = ap (λ (n : ℕ). moment_at v n) f ∙ last in
            let r = h.rise i s.steps l (omega arith) in
            let n = h.now in
            omega (arith, e, g, r, n, above)

        by_last : (s.steps < j) ⊎ (j ≤ s.steps) → moment_at v i ≤ moment_at v j
        by_last (inl l) = by_first (omega (arith, l, q, a)) (cases_lt s.steps i)
        by_last (inr l) = let e = old i (omega (arith, l, p)) in let g = old j l in let r = h.rise i j p l in omega (arith, e, g, r)

moments_step : (c : Config) (s : State) (step : Step) → refusal c s step ≡ None → MomentsRise s → MomentsRise (stepped c s step)
moments_step c s step e h =
    let q = clock_step c s step e in
    rise_more s (stepped c s step) (moment_after s.moment step.at) q.0 q.1 q.2 (omega arith) h

-- in every run
pub moments_run : (c : Config) (steps : List Step) (s : State) → run c steps ≡ Some s → MomentsRise s
moments_run c steps s e = run_keeps c MomentsRise (moments_step c) (record { long = refl; now = refl; rise = λ i j a b. none i j a b }) steps s e
  where
    none : (i j : ℕ) → i ≤ j → j ≤ 0 → moment_at (start c) i ≤ moment_at (start c) j
    none i j a b = let p : i ≡ 0 = omega (arith, a, b) in let q : j ≡ 0 = omega (arith, b) in subst (λ (n : ℕ). moment_at (start c) n ≤ moment_at (start c) j) (sym p) (subst (λ (n : ℕ). moment_at (start c) 0 ≤ moment_at (start c) n) (sym q) (omega arith))

-- and in every state within a step, of which this is known
pub known_moments : (at : Reading) (s : State) → Known at s → MomentsRise s
known_moments at s h = record { long = h.long; now = h.now; rise = h.rise }

pub times_fit : (s : State) → MomentsRise s → TimesFit s
times_fit s h = record {
  moments = h;
  after = λ time k. step_after s time k h;
  by = λ time k. step_by s time k h;
  rises = λ a b. step_rises s a b;
}

pub times_run : (c : Config) (steps : List Step) (s : State) → run c steps ≡ Some s → TimesFit s
times_run c steps s e = times_fit s (moments_run c steps s e)
