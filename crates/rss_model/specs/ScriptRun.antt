-- The entries of a stage are those of its script.
use Rattle.std.specs.Prelude.{◌≡◌, ℕ, List, [], length, ⊤, ◌⊎◌}
use Rattle.pipeline_lang.specs.declared.config.Config.{Config}
use Rattle.rss_model.specs.declared.history.Entry.{Entry}
use Rattle.rss_model.specs.declared.history.Token.{Token}
use Rattle.rss_model.specs.declared.history.How.TheVariants.{Exited, Killed, Unavailable}
use Rattle.rss_model.specs.Walk.{Mode, unborn, ready, in_call, over, Walk, last_gives}
use Rattle.rss_model.specs.Walked.{Walked}

-- after a death stands nothing, or all that an exit gives
abbrev pub NothingOrAll : List Token → List Token → Type 0
NothingOrAll owed all = (owed ≡ all) ⊎ (owed ≡ [])

-- a walk may end in the middle of its script, but not in the middle of what follows a death
abbrev pub IsWhole : List Token → Mode → Type 0
IsWhole all unborn = ⊤
IsWhole all ready = ⊤
IsWhole all (in_call call) = ⊤
IsWhole all (over Exited owed) = ⊤
IsWhole all (over Killed owed) = NothingOrAll owed all
IsWhole all (over Unavailable owed) = NothingOrAll owed all

-- the entries of a stage in a history are a prefix of what its script gives, up to an early Over
pub record ScriptRun (config : Config) (h : List Entry) (stage : ℕ) : Type 0 where
  pub walk : Walk
  pub walked : Walked config h stage (length h) walk
  pub whole : IsWhole (last_gives config stage walk) walk.mode
