-- What holds of every shard and every request.
use Rattle.std.specs.Prelude.{◌≡◌, ℕ, ◌≤◌, Some}
use Rattle.rss_names.specs.declared.attempt.Attempt.{Attempt}
use Rattle.rss_wire.specs.declared.messages.Outcome.{Outcome}
use Rattle.rss_wire.specs.declared.messages.Request.{Request}
use Rattle.rss_tables.specs.ShardRow.{Shard, decision_in, shard_after}
use Rattle.shard_versions.specs.Rows.{keys_of}

-- a decision that is kept for an attempt is kept after every request
abbrev pub FirstDecisionStays : Type 0
FirstDecisionStays =
    (sh : Shard) (latest : ℕ) (r : Request) (attempt : Attempt) (outcome : Outcome)
    → decision_in sh.decisions attempt ≡ Some outcome
    → decision_in (shard_after sh latest r).decisions attempt ≡ Some outcome

-- no request lowers the greatest time at which a shard was read or written
abbrev pub FloorNeverFalls : Type 0
FloorNeverFalls = (sh : Shard) (latest : ℕ) (r : Request) → sh.floor ≤ (shard_after sh latest r).floor

-- no request changes which keys a shard has
abbrev pub KeysStay : Type 0
KeysStay = (sh : Shard) (latest : ℕ) (r : Request) → keys_of (shard_after sh latest r).store ≡ keys_of sh.store
