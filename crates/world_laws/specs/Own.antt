-- Which stores are of their own call: a call stores a stamp of its own, as its writer.
use Rattle.std.specs.Prelude.{◌≡◌, ℕ, ◌==◌, ◌&&◌, Bool, true}
use Rattle.rss_names.specs.declared.service.Target.{Target}
use Rattle.rss_names.specs.declared.service.Target.TheVariants.{Shard, Replica}
use Rattle.rss_wire.specs.declared.message.Body.{Body}
use Rattle.rss_wire.specs.declared.message.Body.TheVariants as body
use Rattle.rss_wire.specs.declared.messages.Request.{Request}
use Rattle.rss_wire.specs.declared.messages.Request.TheVariants.{Lock, Prepare, Decide, Commit, Abort, Inquire, Release, Snapshot, Fix, Ask, Stamp, Store}
use Rattle.rss_wire.specs.Messages.{message_at}
use Rattle.rss_machine.specs.State.{State}

-- a store names its owner as the writer and in its stamp
abbrev pub is_own : ℕ → Target → Request → Bool
is_own owner (Shard n) r = true
is_own owner (Replica service replica) (Store key value stamp writer) = (writer == owner) && (stamp.call == owner)
is_own owner (Replica service replica) (Fix deps) = true
is_own owner (Replica service replica) (Ask key) = true
is_own owner (Replica service replica) (Stamp key) = true
is_own owner (Replica service replica) (Lock attempt coordinator reads writes) = true
is_own owner (Replica service replica) (Prepare attempt least earliest_end writes) = true
is_own owner (Replica service replica) (Decide attempt commit time) = true
is_own owner (Replica service replica) (Commit attempt commit_time) = true
is_own owner (Replica service replica) (Abort attempt) = true
is_own owner (Replica service replica) (Inquire attempt) = true
is_own owner (Replica service replica) (Release attempt time last) = true
is_own owner (Replica service replica) (Snapshot read_time least keys skip) = true

abbrev pub is_own_body : ℕ → Target → Body → Bool
is_own_body owner target (body.Request r) = is_own owner target r
is_own_body owner target (body.Reply r) = true

-- every store that a replica is sent is of its owner
abbrev pub AreOwn : State → Type 0
AreOwn s =
    (m : ℕ) → is_own_body (message_at s.net m).envelope.owner (message_at s.net m).envelope.target (message_at s.net m).body ≡ true
