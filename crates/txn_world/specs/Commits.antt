-- The time of a transaction by the decision of one attempt, and by all decisions of its call.
use Rattle.std.specs.Prelude.{◌≡◌, ℕ, List, [], ◌∷◌, None}
use Rattle.rss_names.specs.declared.attempt.Attempt.{Attempt}
use Rattle.rss_wire.specs.declared.messages.Outcome.{Outcome}
use Rattle.rss_wire.specs.declared.messages.Outcome.TheVariants.{Committed}
use Rattle.rss_tables.specs.ShardRow.{decision_in}
use Rattle.rss_machine.specs.Places.{committed_in}
use Rattle.txn_world.specs.Shards.{time_kept}

-- no attempt of the call but this one is committed
abbrev pub IsOnlyCommit : Attempt → List (Attempt × Outcome) → Type 0
IsOnlyCommit attempt [] = Unit {0}
IsOnlyCommit attempt (d ∷ decisions) =
    ((time : ℕ) → d.1 ≡ Committed time → d.0.call ≡ attempt.call → d.0.k ≡ attempt.k) × IsOnlyCommit attempt decisions

-- each attempt has one decision at most
abbrev pub AreDecidedOnce : List (Attempt × Outcome) → Type 0
AreDecidedOnce [] = Unit {0}
AreDecidedOnce (d ∷ decisions) = (decision_in decisions d.0 ≡ None) × AreDecidedOnce decisions

-- the decision of the one attempt tells the commit time of the call
abbrev pub FindsCommit : Type 0
FindsCommit =
    (decisions : List (Attempt × Outcome)) (attempt : Attempt)
    → IsOnlyCommit attempt decisions → AreDecidedOnce decisions
    → committed_in decisions attempt.call ≡ time_kept (decision_in decisions attempt)
