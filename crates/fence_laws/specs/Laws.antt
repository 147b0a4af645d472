-- The laws of this crate.
use Rattle.std.specs.Prelude.{◌≡◌, ℕ, ◌<◌, ◌≤◌, List, length, Some, None}
use Rattle.pipeline_lang.specs.declared.config.Config.{Config}
use Rattle.rss_machine.specs.Effect.{stepped}
use Rattle.rss_machine.specs.Refusal.{refusal}
use Rattle.rss_machine.specs.Run.{run}
use Rattle.rss_machine.specs.State.{State}
use Rattle.rss_machine.specs.Times.{step_of_time}
use Rattle.rss_machine.specs.declared.step.Step.{Step}
use Rattle.shard_event_laws.specs.Known.{moment_at}
use Rattle.fence_laws.specs.Fences.{FencesEnd}

-- the true moments after the steps of a state are as many as the steps, and never fall
pub record MomentsRise (s : State) : Type 0 where
  pub long : length s.moments ≡ s.steps
  pub now : moment_at s s.steps ≡ s.moment
  pub rise : (i j : ℕ) → i ≤ j → j ≤ s.steps → moment_at s i ≤ moment_at s j

-- the step of a time lies behind each step whose moment is at most the time, and is no later than each whose moment
-- is above it; a greater time has no earlier step
pub record TimesFit (s : State) : Type 0 where
  pub moments : MomentsRise s
  pub after : (time k : ℕ) → k ≤ s.steps → moment_at s k ≤ time → k < step_of_time s time
  pub by : (time k : ℕ) → k ≤ s.steps → time < moment_at s k → step_of_time s time ≤ k
  pub rises : (a b : ℕ) → a ≤ b → step_of_time s a ≤ step_of_time s b

-- so in every run
abbrev pub StepsOfTimesFitMoments : Type 0
StepsOfTimesFitMoments = (c : Config) (steps : List Step) (s : State) → run c steps ≡ Some s → TimesFit s

-- works that wait for times are done where their times have come, over each step of a run
abbrev pub FencesEndWhenTimesHaveCome : Type 0
FencesEndWhenTimesHaveCome =
    (c : Config) (steps : List Step) (s : State) (next : Step) → run c steps ≡ Some s → refusal c s next ≡ None → (o : ℕ) → o < length (stepped c s next).owners → FencesEnd s (stepped c s next) o
