-- The parts of the rows, by what the code keeps of them.
use Rattle.std.specs.Prelude.{ℕ, Bool, List, [], ◌∷◌, ◌++◌, is_some, Option, Some, None, if◌then◌else◌}
use Rattle.rss_names.specs.declared.attempt.Attempt.{Attempt}
use Rattle.rss_names.specs.declared.service.Key.{Key}
use Rattle.rss_wire.specs.declared.messages.Outcome.{Outcome}
use Rattle.rss_wire.specs.declared.messages.Reply.{Reply}
use Rattle.rss_wire.specs.declared.messages.Reply.TheVariants as reply
use Rattle.rss_tables.specs.Versions.{KeyVersions, newest_of}
use Rattle.rss_tables.specs.ShardRow.{decision_in}
use Rattle.shard_locks.specs.declared.answer.LockAnswer.{LockAnswer}
use Rattle.shard_locks.specs.declared.answer.LockAnswer.TheVariants.{Granted, Wait, WoundedSelf}

-- the decisions with one more, if the attempt has none
abbrev pub with_decision : List (Attempt × Outcome) → Attempt → Outcome → List (Attempt × Outcome)
with_decision decisions attempt outcome =
    if is_some (decision_in decisions attempt) then decisions else decisions ++ (attempt, outcome) ∷ []

-- the answer to a request for locks as a reply
abbrev pub reply_of : LockAnswer → List KeyVersions → List Key → Reply
reply_of Granted store reads = reply.Granted (newest_of store reads)
reply_of (Wait holders) store reads = reply.Wait holders
reply_of WoundedSelf store reads = reply.Wounded
