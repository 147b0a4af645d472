-- All states of a walk at a place of a history, and those behind the entry there.
use Rattle.std.specs.Prelude.{◌≡◌, ◌==◌, ℕ, ◌<◌, List, take, Option, Some, Contains, IsFalse}
use Rattle.pipeline_lang.specs.declared.config.Config.{Config}
use Rattle.rss_model.specs.declared.history.Entry.{Entry}
use Rattle.rss_model.specs.declared.history.Entry.TheVariants.{Give, Get}
use Rattle.rss_model.specs.declared.history.Token.TheVariants as token
use Rattle.rss_model.specs.History.{entry_at}
use Rattle.rss_model.specs.Stages.{stage_at}
use Rattle.rss_model.specs.Scripts.{giver_of}
use Rattle.rss_model.specs.Walk.{Walk}
use Rattle.rss_model.specs.Walked.{Walked}
use Rattle.script_laws.specs.Entries.{entry_step}
use Rattle.script_laws.specs.Paths.{Path, tells, take_step}

-- a number of a pipe that was told above a place, to be this value or the end mark
pub record IsTold (config : Config) (h : List Entry) (n pipe number : ℕ) (value : Option ℕ) : Type 0 where
  pub place : ℕ
  pub above : place < n
  pub gives : entry_at h place ≡ Give (giver_of config pipe) (token.Chunk pipe number)
  pub giving : Walk
  pub walked : Walked config h (giver_of config pipe) place giving
  pub told : tells config (giver_of config pipe) giving pipe number ≡ Some value

module _ (config : Config) (h : List Entry) (stage : ℕ) where
  -- these states are all at a place, but for silent steps
  pub record AreAll (n : ℕ) (bases : List Walk) : Type 0 where
    pub sound : (w : Walk) → Contains bases w → Walked config h stage n w
    pub all : (v : Walk) → Walked config h stage n v → (w : Walk) × Contains bases w × Path config h stage v w

  -- where the entry at a place leads a state that stands there
  pub data Leads (n : ℕ) (w v : Walk) : Type 0 where
    by_entry : entry_step config h stage (take n h) (entry_at h n) w ≡ Some v → Leads n w v
    by_take : {pipe number : ℕ} {value : Option ℕ} →
        entry_at h n ≡ Get stage (token.Chunk pipe number) → IsTold config h n pipe number value →
        take_step config stage w pipe number value ≡ Some v → Leads n w v

  -- the states behind the entry: those that it passes by, and those to which it leads
  pub data Behind (n : ℕ) (bases : List Walk) (v : Walk) : Type 0 where
    passed : IsFalse (stage_at h n == stage) → Contains bases v → Behind n bases v
    led : {u w : Walk} → Contains bases u → Path config h stage w u → Leads n w v → Behind n bases v
