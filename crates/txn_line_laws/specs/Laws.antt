-- What holds of the transaction services of every run, of files that name their keys, where readings begin no later than they end.
use Rattle.std.specs.Prelude.{◌≡◌, ℕ, ◌≤◌, List, ◌++◌, Some}
use Rattle.std.proofs.Common.{All}
use Rattle.rss_names.specs.declared.attempt.Attempt.{Attempt}
use Rattle.pipeline_lang.specs.declared.config.Config.{Config}
use Rattle.rss_wire.specs.declared.messages.Outcome.TheVariants.{Committed}
use Rattle.rss_tables.specs.ShardRow.{decision_in}
use Rattle.rss_machine.specs.Run.{run, readings_of}
use Rattle.rss_machine.specs.State.{State, shard_at}
use Rattle.rss_machine.specs.declared.step.Step.{Step}
use Rattle.world_laws.specs.Laws.{IsOrdered}
use Rattle.txn_laws.specs.Files.{NamesKeys}
use Rattle.txn_state_laws.specs.Decided.{DecidedIs}
use Rattle.txn_line_laws.specs.Line.{TxnsLegal, TxnsPlaced, TxnsInside, TxnsEnter, TxnsCovered, TxnsFresh}

-- what every such run keeps
abbrev pub InRuns : (State → Type 0) → Type 0
InRuns P = (c : Config) (steps : List Step) (s : State) → NamesKeys c → All IsOrdered (readings_of steps) → run c steps ≡ Some s → P s

abbrev pub TxnsAreLegal : Type 0
TxnsAreLegal = InRuns TxnsLegal

abbrev pub TxnsArePlaced : Type 0
TxnsArePlaced = InRuns TxnsPlaced

abbrev pub TxnsAreInside : Type 0
TxnsAreInside = InRuns TxnsInside

abbrev pub TxnsFollowEntry : Type 0
TxnsFollowEntry = InRuns TxnsEnter

abbrev pub CoveredTxnsStandBefore : Type 0
CoveredTxnsStandBefore = InRuns TxnsCovered

abbrev pub TxnReadsAreFresh : Type 0
TxnReadsAreFresh = InRuns TxnsFresh

-- a coordinator keeps a commit of an attempt, which is the present one of its transaction
pub record KeptCommit (s : State) (shard : ℕ) (a : Attempt) (time : ℕ) : Type 0 where
  pub kept : decision_in (shard_at s shard).decisions a ≡ Some (Committed time)
  pub present : DecidedIs s shard a (Committed time)

-- so it is in every state behind one in which the commit is kept
abbrev pub KeptCommitsStay : Type 0
KeptCommitsStay =
    (c : Config) (steps more : List Step) (u s : State) → NamesKeys c → All IsOrdered (readings_of (steps ++ more)) → run c steps ≡ Some u → run c (steps ++ more) ≡ Some s
    → (shard : ℕ) (a : Attempt) (time : ℕ) → 1 ≤ shard → decision_in (shard_at u shard).decisions a ≡ Some (Committed time) → KeptCommit s shard a time
