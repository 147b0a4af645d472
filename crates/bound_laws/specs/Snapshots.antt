-- What the session of a snapshot sends to each shard, reply by reply, as long as nobody is in its way.
use Rattle.std.specs.Prelude.{◌≡◌, ℕ, zero, suc, ◌+◌, ◌≤◌, ⊤, Bool, true, false, List, [], ◌∷◌, ◌++◌, length, Option, Some, None, nat_le, if◌then◌else◌}
use Rattle.std.specs.List.{list_any}
use Rattle.truetime.specs.Reading.{Reading}
use Rattle.rss_names.specs.declared.service.Key.{Key}
use Rattle.rss_names.specs.declared.service.Target.TheVariants.{Shard}
use Rattle.rss_wire.specs.Messages.{same_target}
use Rattle.rss_wire.specs.declared.messages.Reply.{Reply}
use Rattle.rss_wire.specs.declared.messages.Reply.TheVariants as reply
use Rattle.rss_wire.specs.declared.messages.Skipped.{Skipped}
use Rattle.rss_tables.specs.Lines.{keys_on, line_at}
use Rattle.rss_tables.specs.Outs.{Out}
use Rattle.rss_tables.specs.ShardRow.{Shard as ShardState, shard_reply}
use Rattle.rss_tables.specs.SnapshotSession.{SnapSession, opening_snapshot, snap_request, snap_starts, snap_hears}
use Rattle.rss_tables.specs.Turns.{Turn}
use Rattle.rss_tables.specs.declared.lines.LineState.TheVariants.{Awaiting}
use Rattle.rss_tables.specs.declared.phases.SnapPhase.{SnapPhase}
use Rattle.rss_tables.specs.declared.phases.SnapPhase.TheVariants.{First, Second, Done}

-- a reply that the line of a shard hears
pub record Told : Type 0 where
  pub shard : ℕ
  pub reply : Reply

-- what a session does with it
abbrev pub told_turn : SnapSession → Told → Turn SnapSession
told_turn t x = snap_hears t (line_at t.lines x.shard) x.reply

-- the session when it has heard these, and what it has sent on hearing them
abbrev pub told_after : SnapSession → List Told → SnapSession
told_after t [] = t
told_after t (x ∷ told) = told_after (told_turn t x).after told

abbrev pub told_sends : SnapSession → List Told → List Out
told_sends t [] = []
told_sends t (x ∷ told) = (told_turn t x).outs ++ told_sends (told_turn t x).after told

-- the time of a snapshot, once it is known
abbrev pub known_time : SnapPhase → Option ℕ
known_time (First read_time) = None
known_time (Second time) = Some time
known_time (Done time) = Some time

-- whether a reply says that somebody is in the way
abbrev pub is_blocked : Reply → Bool
is_blocked (reply.Blocked holders) = true
is_blocked _ = false

-- whether a reply tells of a writer that was passed by at or below a time
abbrev pub passes_by : ℕ → Reply → Bool
passes_by time (reply.Values versions skipped) = list_any (λ (s : Skipped). nat_le s.prepare_time time) skipped
passes_by time _ = false

-- a line that awaits the reply to its request hears what a shard replies to that, in some state and at some
-- reading, and it is not that somebody is in the way
pub record HearsUnblocked (t : SnapSession) (x : Told) : Type 0 where
  pub awaits : (line_at t.lines x.shard).state ≡ Awaiting
  pub shard : ShardState
  pub latest : ℕ
  pub gives : x.reply ≡ shard_reply shard latest (snap_request t t.phase (line_at t.lines x.shard))
  pub unblocked : is_blocked x.reply ≡ false

-- all that it hears is such
abbrev pub AreUnblocked : SnapSession → List Told → Type 0
AreUnblocked t [] = ⊤
AreUnblocked t (x ∷ told) = HearsUnblocked t x × AreUnblocked (told_turn t x).after told

-- none of these replies tells of a writer at or below a time
abbrev pub PassNobody : ℕ → List Told → Type 0
PassNobody time [] = ⊤
PassNobody time (x ∷ told) = (passes_by time x.reply ≡ false) × PassNobody time told

-- how many requests go to a shard
abbrev pub outs_to_shard : ℕ → List Out → ℕ
outs_to_shard shard [] = 0
outs_to_shard shard (out ∷ outs) = if same_target out.target (Shard shard) then suc (outs_to_shard shard outs) else outs_to_shard shard outs

-- how many a session has sent to a shard, from its beginning on
abbrev pub sent_to : ℕ → SnapSession → List Told → ℕ
sent_to shard t told = outs_to_shard shard (snap_starts t).outs + outs_to_shard shard (told_sends (snap_starts t).after told)

-- one to each shard at most, and none to a shard on which none of its keys lives
pub record AsksOnce (home : ℕ → ℕ) (keys : List Key) (t : SnapSession) (told : List Told) : Type 0 where
  pub each : (shard : ℕ) → sent_to shard t told ≤ 1
  pub reads : (shard : ℕ) → length (keys_on home shard keys) ≡ 0 → sent_to shard t told ≡ 0

abbrev pub SnapshotsAskOnce : Type 0
SnapshotsAskOnce =
    (home : ℕ → ℕ) (call : ℕ) (keys : List Key) (least : ℕ) (at : Reading) (told : List Told) → AreUnblocked (opening_snapshot home call keys least at) told
    → ((time : ℕ) → known_time (told_after (opening_snapshot home call keys least at) told).phase ≡ Some time → PassNobody time told)
    → AsksOnce home keys (opening_snapshot home call keys least at) told
