-- The readings of a run are consistent, and its state keeps their true moment.
use Rattle.std.proofs.Common.{◌≡◌, ℕ, zero, suc, ◌<◌, ◌≤◌, max, List, [], ◌∷◌, length, Some, refl, ap, ◌∙◌, sym, subst, arith, All}
use Rattle.std.proofs.lemmas.Bool.{leb-true}
use Rattle.std.proofs.lemmas.List.{take_all}
use Rattle.truetime.specs.Reading.{reading_at, AreConsistent}
use Rattle.truetime.specs.TrueMoment.{IsTrueMoment, true_moment}
use Rattle.truetime.proofs.Moment.{true_moment_is}
use Rattle.pipeline_lang.specs.declared.config.Config.{Config}
use Rattle.rss_machine.specs.State.{State, start}
use Rattle.rss_machine.specs.Effect.{stepped}
use Rattle.rss_machine.specs.Run.{run, run_from, readings_of}
use Rattle.rss_machine.specs.declared.step.Step.{Step}
use Rattle.world_laws.specs.Laws.{IsOrdered}
use Rattle.world_laws.proofs.Runs.{passes, run_rest, run_none}
use Rattle.world_laws.proofs.Clock.{clock_step}

pub length-readings_of : (steps : List Step) → length (readings_of steps) ≡ length steps
length-readings_of [] = refl
length-readings_of (step ∷ steps) = ap suc (length-readings_of steps)

-- a step of a run ends no earlier than the true moment before it
step_reach : (c : Config) (u : State) (step : Step) (steps : List Step) (s : State) → run_from c u (step ∷ steps) ≡ Some s → u.moment ≤ step.at.latest
step_reach c u step steps s e = leb-true u.moment step.at.latest (passes c u step (run_rest c u step steps s e).0).admitted

-- nor do the later ones
readings_reach : (c : Config) (steps : List Step) (u s : State) → run_from c u steps ≡ Some s → (j : ℕ) → j < length (readings_of steps) → u.moment ≤ (reading_at (readings_of steps) j).latest
readings_reach c [] u s e j l = absurd (omega (arith, l))
readings_reach c (step ∷ steps) u s e zero l = step_reach c u step steps s e
readings_reach c (step ∷ steps) u s e (suc j) l =
    let t = run_rest c u step steps s e in
    let k = clock_step c u step t.0 in
    let h = readings_reach c steps (stepped c u step) s t.1 j (omega (arith, l)) in
    omega (arith, k, h)

-- none ends before the beginning of itself or of an earlier one
readings_meet : (c : Config) (steps : List Step) (u s : State) → run_from c u steps ≡ Some s → All IsOrdered (readings_of steps) → (i j : ℕ) → i ≤ j → j < length (readings_of steps) → (reading_at (readings_of steps) i).earliest ≤ (reading_at (readings_of steps) j).latest
readings_meet c [] u s e o i j k l = absurd (omega (arith, l))
readings_meet c (step ∷ steps) u s e o zero zero k l = o 0 step.at (omega (arith, l))
readings_meet c (step ∷ steps) u s e o (suc i) zero k l = absurd (omega (arith, k))
readings_meet c (step ∷ steps) u s e o zero (suc j) k l =
    let t = run_rest c u step steps s e in
    let q = clock_step c u step t.0 in
    let h = readings_reach c steps (stepped c u step) s t.1 j (omega (arith, l)) in
    omega (arith, q, h)
readings_meet c (step ∷ steps) u s e o (suc i) (suc j) k l =
    let t = run_rest c u step steps s e in
    readings_meet c steps (stepped c u step) s t.1 (λ n d g. o (suc n) d (omega (arith, g))) i j (omega (arith, k)) (omega (arith, l))

-- the readings of a run are consistent
pub readings_consistent : (c : Config) (steps : List Step) (s : State) → run c steps ≡ Some s → All IsOrdered (readings_of steps) → AreConsistent (readings_of steps)
unfolding run
readings_consistent c steps s e o = record { meet = readings_meet c steps (start c) s e o }

-- the moment rises to the greatest beginning
moment_from : (c : Config) (steps : List Step) (u s : State) → run_from c u steps ≡ Some s → s.moment ≡ max u.moment (true_moment (readings_of steps))
moment_from c [] u s e = let q = ap (λ (t : State). t.moment) (run_none c u s e) in omega (arith, q)
moment_from c (step ∷ steps) u s e =
    let t = run_rest c u step steps s e in
    let q = clock_step c u step t.0 in
    let h = moment_from c steps (stepped c u step) s t.1 in
    omega (arith, q, h)

-- the moment of a state is the true moment after the readings of its run
pub moment_run : (c : Config) (steps : List Step) (s : State) → run c steps ≡ Some s → s.moment ≡ true_moment (readings_of steps)
unfolding run
moment_run c steps s e = let h = moment_from c steps (start c) s e in omega (arith, h)

pub moment_true : (c : Config) (steps : List Step) (s : State) → run c steps ≡ Some s → IsTrueMoment (readings_of steps) (length steps) s.moment
moment_true c steps s e =
    let rs = readings_of steps in
    let l = length-readings_of steps in
    let q : true_moment rs ≡ s.moment = sym (moment_run c steps s e) in
    let h = true_moment_is rs (length steps) in
    subst (λ (m : ℕ). IsTrueMoment rs (length steps) m) (ap true_moment (take_all (length steps) rs (omega (arith, l))) ∙ q) h
