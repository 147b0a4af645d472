-- Samples of a shard, each computed: who is wounded, who waits, which version is read, who is passed by.
use Rattle.std.specs.Prelude.{◌≡◌, ℕ, Bool, true, false, List, [], ◌∷◌, Some, refl}
use Rattle.rss_names.specs.declared.attempt.Attempt.{Attempt}
use Rattle.rss_names.specs.declared.service.Key.{Key}
use Rattle.rss_names.specs.declared.service.ServiceId.TheVariants.{Txn}
use Rattle.rss_names.specs.declared.service.Target.TheVariants.{Shard as OfShard, Replica}
use Rattle.rss_names.specs.declared.service.ServiceId.TheVariants as service
use Rattle.rss_wire.specs.declared.messages.Outcome.TheVariants.{Committed, Aborted}
use Rattle.rss_wire.specs.declared.messages.Request.TheVariants.{Lock, Prepare, Decide, Release, Snapshot}
use Rattle.rss_wire.specs.declared.messages.Reply.TheVariants as reply
use Rattle.rss_tables.specs.Locks.{attempts_of}
use Rattle.rss_tables.specs.Losses.{no_losses, one_more_lost, reaches_tries, is_quorum_lost}
use Rattle.rss_tables.specs.Prepared.{PreparedWriter, blocking, passed_by}
use Rattle.rss_tables.specs.ShardRow.{Shard, opening_shard, shard_after, shard_reply, decision_in}
use Rattle.rss_tables.specs.Versions.{KeyVersions, version_at}

abbrev x : Key
x = record { service = Txn 1; index = 0 }

abbrev attempt : ℕ → ℕ → Attempt
attempt call k = record { call = call; k = k }

-- 2.1 holds x for writing
abbrev held : Shard
held = shard_after (opening_shard (x ∷ [])) 10 (Lock (attempt 2 1) 1 [] (x ∷ []))

-- 1.1 is older: it is granted x for reading, and 2.1 is wounded
abbrev taken_over : Shard
taken_over = shard_after held 10 (Lock (attempt 1 1) 1 (x ∷ []) [])

older-granted : shard_reply held 10 (Lock (attempt 1 1) 1 (x ∷ []) []) ≡ reply.Granted ((x, record { value = 0; time = 0; writer = 0 }) ∷ [])
unfolding shard_after shard_reply
older-granted = refl

older-holds : attempts_of taken_over.locks.holders ≡ attempt 1 1 ∷ []
unfolding shard_after
older-holds = refl

younger-tombstoned : taken_over.locks.tombs ≡ attempt 2 1 ∷ []
unfolding shard_after
younger-tombstoned = refl

-- 3.1 is younger: it waits for 1.1
younger-waits : shard_reply taken_over 10 (Lock (attempt 3 1) 1 [] (x ∷ [])) ≡ reply.Wait (record { attempt = attempt 1 1; coordinator = 1 } ∷ [])
unfolding shard_after shard_reply
younger-waits = refl

-- 2.1 asks again
wounded-told : shard_reply taken_over 10 (Lock (attempt 2 1) 1 [] (x ∷ [])) ≡ reply.Wounded
unfolding shard_after shard_reply
wounded-told = refl

-- readers share a key
readers-share : (attempts_of (shard_after taken_over 10 (Lock (attempt 3 1) 1 (x ∷ []) [])).locks.holders) ≡ attempt 1 1 ∷ attempt 3 1 ∷ []
unfolding shard_after
readers-share = refl

-- versions 7 at 10 and 8 at 20
abbrev store : List KeyVersions
store = record { key = x; versions = record { value = 7; time = 10; writer = 1 } ∷ record { value = 8; time = 20; writer = 2 } ∷ [] } ∷ []

at-nine : version_at store x 9 ≡ record { value = 0; time = 0; writer = 0 }
at-nine = refl

at-ten : version_at store x 10 ≡ record { value = 7; time = 10; writer = 1 }
at-ten = refl

at-nineteen : version_at store x 19 ≡ record { value = 7; time = 10; writer = 1 }
at-nineteen = refl

at-twenty : version_at store x 20 ≡ record { value = 8; time = 20; writer = 2 }
at-twenty = refl

-- a writer of x that is prepared at 74 and cannot end before 1054
abbrev writer : PreparedWriter
writer = record { attempt = attempt 1 1; coordinator = 1; prepare_time = 74; earliest_end = 1054; writes = (x, 1) ∷ [] }

abbrev sifted : ℕ → ℕ → Bool → List PreparedWriter × List PreparedWriter
sifted read_time least skip = (blocking (writer ∷ []) (x ∷ []) read_time least skip, passed_by (writer ∷ []) (x ∷ []) read_time least skip)

passed : sifted 194 0 true ≡ ([], writer ∷ [])
passed = refl

seen-before : sifted 194 74 true ≡ (writer ∷ [], [])
seen-before = refl

above : sifted 73 0 true ≡ ([], [])
above = refl

at-its-time : sifted 74 0 true ≡ ([], writer ∷ [])
at-its-time = refl

may-have-ended : sifted 1054 0 true ≡ (writer ∷ [], [])
may-have-ended = refl

nothing-skipped : sifted 194 0 false ≡ (writer ∷ [], [])
nothing-skipped = refl

-- a prepare time lies above the floor, which a snapshot raises
snapshot-raises : (shard_after (opening_shard (x ∷ [])) 10 (Snapshot 54 0 (x ∷ []) true)).floor ≡ 54
unfolding shard_after
snapshot-raises = refl

prepared-above : shard_reply (shard_after held 10 (Snapshot 54 0 [] true)) 44 (Prepare (attempt 2 1) 0 100 ((x, 1) ∷ [])) ≡ reply.Prepared 55
unfolding shard_after shard_reply
prepared-above = refl

-- the first decision is kept; it is not below the coordinator's reading
decided-once : shard_reply (shard_after held 10 (Decide (attempt 2 1) false 0)) 64 (Decide (attempt 2 1) true 44) ≡ reply.Decided Aborted
unfolding shard_after shard_reply
decided-once = refl

decided-late : shard_reply held 64 (Decide (attempt 2 1) true 44) ≡ reply.Decided (Committed 64)
unfolding shard_after shard_reply
decided-late = refl

-- what is released stays released, raises the floor, and counts as aborted at the coordinator
abbrev freed : Shard
freed = shard_after held 10 (Release (attempt 2 1) 114 true)

freed-floor : freed.floor ≡ 114
unfolding shard_after
freed-floor = refl

freed-keys : attempts_of freed.locks.holders ≡ []
unfolding shard_after
freed-keys = refl

freed-aborted : decision_in freed.decisions (attempt 2 1) ≡ Some Aborted
unfolding shard_after
freed-aborted = refl

freed-again : shard_reply freed 10 (Release (attempt 2 1) 114 true) ≡ reply.Released
unfolding shard_after shard_reply
freed-again = refl

-- the third loss of three cuts a target off, and no other
third-cuts : reaches_tries 3 (one_more_lost (one_more_lost no_losses (OfShard 1)) (OfShard 1)) (OfShard 1) ≡ true
third-cuts = refl

second-does-not : reaches_tries 3 (one_more_lost no_losses (OfShard 1)) (OfShard 1) ≡ false
second-does-not = refl

-- a majority of five spares two
abbrev two_lost : List ℕ
two_lost = one_more_lost (one_more_lost no_losses (Replica (service.Reg 1) 1)) (Replica (service.Reg 1) 4)

two-of-five : is_quorum_lost 1 two_lost (service.Reg 1) 5 ≡ false
two-of-five = refl

two-of-three : is_quorum_lost 1 two_lost (service.Reg 1) 3 ≡ true
two-of-three = refl

other-service : is_quorum_lost 1 two_lost (service.Reg 2) 3 ≡ false
other-service = refl
