-- Lists of steps that a World makes one after another.
use Rattle.std.proofs.Common.{◌≡◌, ℕ, ◌+◌, ◌<◌, ◌≤◌, List, [], ◌∷◌, ◌++◌, length, take, drop, get_or, Some, refl, ap, ◌∙◌, arith}
use Rattle.std.proofs.lemmas.Grind.{common_steps}
use Rattle.pipeline_lang.specs.declared.config.Config.{Config}
use Rattle.truetime.specs.Reading.{AreConsistent}
use Rattle.rss_machine.specs.Refusal.{refusal}
use Rattle.rss_machine.specs.Run.{run, steps_of, readings_of}
use Rattle.rss_machine.specs.declared.step.Step.{Step}
use Rattle.rss_machine.specs.declared.step.Logged.{Logged}
use Rattle.rss_machine.specs.declared.step.StepRefusal.{StepRefusal}
use Rattle.event_world.specs.World.{WorldView}
use Rattle.rss_cli.specs.Played.{replayed, HasPlayed, IsFirstRefused}

-- the steps of a replayed list are that list
pub steps_replayed : (steps : List Step) → steps_of (replayed steps) ≡ steps
steps_replayed [] = refl
steps_replayed (step ∷ steps) = ap (λ (rest : List Step). step ∷ rest) (steps_replayed steps)

-- one step more
replayed_more : (steps : List Step) (step : Step) → replayed (steps ++ step ∷ []) ≡ replayed steps ++ record { step = step; driver = 0 } ∷ []
replayed_more [] step = refl
replayed_more (first ∷ steps) step = ap (λ (rest : List Logged). record { step = first; driver = 0 } ∷ rest) (replayed_more steps step)

-- the log after the step at a position is made
pub log_more : (steps : List Step) (i : ℕ) (step : Step) (old new : List Logged) → i < length steps → step ≡ get_or steps i step → old ≡ replayed (take i steps) → new ≡ old ++ record { step = step; driver = 0 } ∷ [] → new ≡ replayed (take (i + 1) steps)
log_more steps i step old new inside at before grown =
    let more : take (i + 1) steps ≡ take i steps ++ step ∷ [] = grind (arith, common_steps) in
    rw (more, replayed_more (take i steps) step, ← before) grown

-- the steps before a position, the step at it, and the rest
split_at : (steps : List Step) (i : ℕ) (step : Step) → i < length steps → step ≡ get_or steps i step → steps ≡ take i steps ++ step ∷ drop (i + 1) steps
split_at steps i step inside at = grind (arith, common_steps)

-- the step at a position is the first one refused
pub first_refused : (c : Config) (steps : List Step) (i : ℕ) (step : Step) (w : WorldView) (cause : StepRefusal) → i < length steps → step ≡ get_or steps i step → w.config ≡ c → w.log ≡ replayed (take i steps) → run w.config (steps_of w.log) ≡ Some w.state → refusal w.config w.state step ≡ Some cause → IsFirstRefused c steps (i + 1) cause
first_refused c steps i step w cause inside at same log runs refused = record {
  front = take i steps;
  step = step;
  rest = drop (i + 1) steps;
  state = w.state;
  steps_are = split_at steps i step inside at;
  number_is = grind (arith, common_steps);
  runs = let front : steps_of w.log ≡ take i steps = ap steps_of log ∙ steps_replayed (take i steps) in rw (← same, ← front) runs;
  refused = rw (← same) refused;
}

-- all steps are made
pub all_played : (c : Config) (steps : List Step) (n : ℕ) (w : WorldView) → length steps ≤ n → w.config ≡ c → w.log ≡ replayed (take n steps) → run w.config (steps_of w.log) ≡ Some w.state → AreConsistent (readings_of (steps_of w.log)) → HasPlayed c steps w
all_played c steps n w end same log runs consistent =
    let whole : take n steps ≡ steps = grind (arith, common_steps) in
    let all : w.log ≡ replayed steps = log ∙ ap replayed whole in
    let made : steps_of w.log ≡ steps = ap steps_of all ∙ steps_replayed steps in
    record {
      config = same;
      log = all;
      run = record { runs = rw (← same, ← made) runs; consistent = rw (← made) consistent };
    }
