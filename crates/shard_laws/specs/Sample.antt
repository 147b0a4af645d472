-- A tombstoned attempt that is prepared: it is told that it is committed while it holds and is not prepared.
use Rattle.std.specs.Prelude.{ℕ, List, [], ◌∷◌}
use Rattle.rss_names.specs.declared.attempt.Attempt.{Attempt}
use Rattle.rss_wire.specs.declared.messages.Request.{Request}
use Rattle.rss_wire.specs.declared.messages.Request.TheVariants.{Lock, Prepare, Commit}
use Rattle.rss_tables.specs.ShardRow.{Shard, opening_shard}
use Rattle.shard_laws.specs.Served.{served}

abbrev pub early_attempt : Attempt
early_attempt = record { call = 1; k = 1 }

-- it asks for locks, is told that it is committed, and asks to prepare
abbrev pub early_commit : List (ℕ × Request)
early_commit =
    (1, Lock early_attempt 1 [] []) ∷ (2, Commit early_attempt 5) ∷ (3, Prepare early_attempt 0 9 []) ∷ []

abbrev pub after_early_commit : Shard
after_early_commit = served (opening_shard []) early_commit
