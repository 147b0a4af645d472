-- Runs of what owners keep, from any state and from the first.
use Rattle.std.proofs.Common.{◌≡◌, List, None, Some}
use Rattle.truetime.specs.Reading.{Reading}
use Rattle.std.proofs.Common.{ℕ}
use Rattle.pipeline_lang.specs.declared.config.Config.{Config}
use Rattle.rss_machine.specs.Effect.{stepped}
use Rattle.rss_machine.specs.Moves.{ticks}
use Rattle.rss_machine.specs.Refusal.{refusal}
use Rattle.rss_machine.specs.Run.{run, run_from}
use Rattle.rss_machine.specs.State.{State, start}
use Rattle.rss_machine.specs.declared.step.Step.{Step}
use Rattle.world_laws.proofs.OwnerMoves.{OwnerKeeps}
use Rattle.world_laws.proofs.OwnerWalk.{owner_walk}
use Rattle.world_laws.proofs.Runs.{passes, run_keeps, steps_keep}

-- a predicate, with the one for an owner at rest, that owners keep and the clock does
pub record IsKept (c : Config) (P : State → Type 0) (R : State → ℕ → Type 0) : Type 1 where
  pub keeps : (at : Reading) → OwnerKeeps c at P R
  pub ticked : (s : State) (at : Reading) → P s → P (ticks s at)

pub kept_step : (c : Config) (P : State → Type 0) (R : State → ℕ → Type 0) → IsKept c P R → (s : State) (step : Step) → refusal c s step ≡ None → P s → P (stepped c s step)
kept_step c P R k s step r h = owner_walk c step.at P R (k.keeps step.at) (ticks s step.at) step.kind (passes c s step r).kind (k.ticked s step.at h)

pub kept_from : (c : Config) (P : State → Type 0) (R : State → ℕ → Type 0) → IsKept c P R → (steps : List Step) (u s : State) → run_from c u steps ≡ Some s → P u → P s
kept_from c P R k steps u s e h = steps_keep c P (kept_step c P R k) steps u s e h

pub kept_run : (c : Config) (P : State → Type 0) (R : State → ℕ → Type 0) → IsKept c P R → P (start c) → (steps : List Step) (s : State) → run c steps ≡ Some s → P s
kept_run c P R k h steps s e = run_keeps c P (kept_step c P R k) h steps s e
