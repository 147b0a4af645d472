-- What holds of the shards of every run.
use Rattle.std.specs.Prelude.{◌≡◌, ℕ, List, ◌++◌, Some}
use Rattle.pipeline_lang.specs.declared.config.Config.{Config}
use Rattle.rss_machine.specs.Run.{run}
use Rattle.rss_machine.specs.State.{State, shard_at}
use Rattle.rss_machine.specs.declared.step.Step.{Step}
use Rattle.shard_laws.specs.Served.{IsReached}
use Rattle.txn_laws.specs.Serving.{ServesOn}
use Rattle.txn_laws.specs.Given.{RepliesGiven}
use Rattle.txn_laws.specs.Told.{RepliesTell}
use Rattle.txn_laws.specs.Asked.{NewWasAsked}

-- each shard is in a state that a shard comes to by requests
abbrev pub ShardsAreReached : Type 0
ShardsAreReached = (c : Config) (steps : List Step) (s : State) → run c steps ≡ Some s → (shard : ℕ) → IsReached (shard_at s shard)

-- from one state of a run to a later one, each shard serves what was sent to it
abbrev pub ShardsServe : Type 0
ShardsServe =
    (c : Config) (steps more : List Step) (s t : State) → run c steps ≡ Some s → run c (steps ++ more) ≡ Some t → (shard : ℕ) → ServesOn s t shard

-- each reply of a shard tells of a state from which the shard's present one comes
abbrev pub RepliesWereGiven : Type 0
RepliesWereGiven =
    (c : Config) (steps more : List Step) (u s : State) → run c steps ≡ Some u → run c (steps ++ more) ≡ Some s → RepliesGiven u s

-- replies of shards stay true
abbrev pub RepliesStayTrue : Type 0
RepliesStayTrue = (c : Config) (steps : List Step) (s : State) → run c steps ≡ Some s → RepliesTell s

-- what is new at a shard was asked for
abbrev pub WhatIsNewWasAsked : Type 0
WhatIsNewWasAsked =
    (c : Config) (steps more : List Step) (s t : State) → run c steps ≡ Some s → run c (steps ++ more) ≡ Some t → (shard : ℕ) → NewWasAsked s t shard
