-- The clock: a step is counted once, and nothing else changes the count or the true moment.
use Rattle.std.proofs.Common.{◌≡◌, ℕ, ◌+◌, ◌≤◌, List, [], ◌∷◌, ◌++◌, length, Some, None, refl, ap, ◌∙◌, arith}
use Rattle.truetime.specs.TrueMoment.{moment_after}
use Rattle.pipeline_lang.specs.declared.config.Config.{Config}
use Rattle.rss_machine.specs.State.{State, start}
use Rattle.rss_machine.specs.Moves.{ticks}
use Rattle.rss_machine.specs.Effect.{stepped}
use Rattle.rss_machine.specs.Refusal.{refusal}
use Rattle.rss_machine.specs.Run.{run, run_from}
use Rattle.rss_machine.specs.declared.step.Step.{Step}
use Rattle.world_laws.proofs.Runs.{passes, run_rest, run_none}
use Rattle.world_laws.proofs.StoreMoves.{StoreKeeps}
use Rattle.world_laws.proofs.StoreWalk.{store_walk}

-- the clock stands at this step, this moment and these moments
record Stands (k a : ℕ) (ms : List ℕ) (s : State) : Type 0 where
  steps : s.steps ≡ k
  moment : s.moment ≡ a
  moments : s.moments ≡ ms

stands_keeps : (k a : ℕ) (ms : List ℕ) → StoreKeeps (Stands k a ms)
stands_keeps k a ms = record {
  fates = λ s m f h. record { steps = h.steps; moment = h.moment; moments = h.moments };
  sends = λ s o out h. record { steps = h.steps; moment = h.moment; moments = h.moments };
  shards = λ s m sh l r d h. record { steps = h.steps; moment = h.moment; moments = h.moments };
  replicas = λ s m v i r d h. record { steps = h.steps; moment = h.moment; moments = h.moments };
  others = λ s t e h. record { steps = e.steps ∙ h.steps; moment = e.moment ∙ h.moment; moments = e.moments ∙ h.moments };
}

-- the clock after a step that is not refused
pub clock_step : (c : Config) (s : State) (step : Step) → refusal c s step ≡ None → ((stepped c s step).steps ≡ s.steps + 1) × ((stepped c s step).moment ≡ moment_after s.moment step.at) × ((stepped c s step).moments ≡ s.moments ++ moment_after s.moment step.at ∷ [])
clock_step c s step r =
    let t = ticks s step.at in
    let h = store_walk c (Stands t.steps t.moment t.moments) (stands_keeps t.steps t.moment t.moments) t step.at step.kind (passes c s step r).kind (record { steps = refl; moment = refl; moments = refl }) in
    (h.steps, h.moment, h.moments)

-- each step of a run is counted, and there was room for it
counted_from : (c : Config) (steps : List Step) (u s : State) → run_from c u steps ≡ Some s → u.steps ≤ c.max_steps → (s.steps ≡ u.steps + length steps) × (s.steps ≤ c.max_steps)
counted_from c [] u s e l = let q = ap (λ (t : State). t.steps) (run_none c u s e) in (omega (arith, q), omega (arith, q, l))
counted_from c (step ∷ steps) u s e l =
    let t = run_rest c u step steps s e in
    let q = (clock_step c u step t.0).0 in
    let p = passes c u step t.0 in
    let h = counted_from c steps (stepped c u step) s t.1 (omega (arith, q, p.room)) in
    (omega (arith, h, q), h.1)

-- a run counts its steps, and has no more than the file allows
pub run_counted : (c : Config) (steps : List Step) (s : State) → run c steps ≡ Some s → (s.steps ≡ length steps) × (s.steps ≤ c.max_steps)
unfolding run
run_counted c steps s e = let h = counted_from c steps (start c) s e (omega arith) in (omega (arith, h), h.1)
