-- What was answered stays closed, and who was told that it has given its locks back has done so.
use Rattle.std.proofs.Common.{◌≡◌, ℕ, ◌≤◌, Bool, true, List, length, Some, IsTrue, sym, ap, ◌∙◌, subst}
use Rattle.truetime.specs.Reading.{Reading}
use Rattle.rss_names.specs.declared.attempt.Attempt.{Attempt}
use Rattle.rss_names.specs.declared.service.Key.{Key}
use Rattle.rss_names.specs.declared.service.Target.TheVariants.{Shard}
use Rattle.pipeline_lang.specs.declared.config.Config.{Config}
use Rattle.rss_wire.specs.Messages.{message_at}
use Rattle.rss_wire.specs.declared.messages.Reply.TheVariants as reply
use Rattle.rss_wire.specs.declared.messages.Request.{Request}
use Rattle.rss_wire.specs.declared.messages.Request.TheVariants as request
use Rattle.rss_wire.specs.declared.messages.Skipped.{Skipped}
use Rattle.rss_wire.specs.declared.messages.Version.{Version}
use Rattle.rss_tables.specs.Attempts.{has_attempt}
use Rattle.rss_tables.specs.Lines.{version_in}
use Rattle.rss_tables.specs.Locks.{has_key}
use Rattle.rss_tables.specs.ShardRow.{Shard as ShardState, shard_after, shard_reply}
use Rattle.rss_machine.specs.Moves.{serves_shard}
use Rattle.rss_machine.specs.State.{State, shard_at}
use Rattle.shard_laws.specs.Closed.{EachOf}
use Rattle.shard_laws.specs.Snapshots.{IsBefore, ClosesAt}
use Rattle.shard_laws.proofs.Fresh.{answer_closes}
use Rattle.shard_laws.proofs.ReleasesClose.{released_stay, released_told}
use Rattle.shard_laws.proofs.Stays.{closes_stay}
use Rattle.session_laws.specs.Frames.{nth_line}
use Rattle.shard_event_laws.specs.Events.{WasAsked}
use Rattle.shard_event_laws.specs.Known.{Known}
use Rattle.txn_state_laws.specs.Framed.{AllFramed}
use Rattle.txn_state_laws.specs.Justified.{IsJust, AllJust, SnapshotIs, ReleaseIs}
use Rattle.txn_state_laws.specs.Orderly.{AllOrderly, AllInOrder}
use Rattle.txn_state_laws.specs.Replied.{Replied}
use Rattle.txn_state_laws.proofs.Grows.{line_first, line_last}
use Rattle.txn_state_laws.proofs.Replies.{Quiet, quiet_reply, serves_reply, ReplyComes, was, comes}
use Rattle.txn_state_laws.proofs.Serves.{quiet_shard, served_keeps, served_here}

-- what was answered is closed
abbrev pub AnsweredAt : State → Type 0
AnsweredAt s = (shard read_time least : ℕ) (keys : List Key) (skip : Bool) (versions : List (Key × Version)) (skipped : List Skipped)
    → Replied s (Shard shard) (request.Snapshot read_time least keys skip) (reply.Values versions skipped)
    → (key : Key) (v : Version) (time : ℕ) → IsTrue (has_key keys key) → version_in versions key ≡ Some v → time ≤ read_time → EachOf (IsBefore time) skipped → v.time ≤ time
    → ClosesAt (shard_at s shard) key time v

-- who was told so has given its locks back
abbrev pub ReleasedAt : State → Type 0
ReleasedAt s = (shard : ℕ) (a : Attempt) (time : ℕ) (last : Bool) → Replied s (Shard shard) (request.Release a time last) reply.Released
    → has_attempt (shard_at s shard).released a ≡ true

-- where shards stay
pub answered_stays : (at : Reading) (s t : State) → Known at s → Quiet s t → AnsweredAt s → AnsweredAt t
answered_stays at s t known x h shard read_time least keys skip versions skipped e key v time k g l b m =
    subst (λ (sh : ShardState). ClosesAt sh key time v) (sym (quiet_shard s t x shard))
    (h shard read_time least keys skip versions skipped (quiet_reply at s t known x shard (request.Snapshot read_time least keys skip) (reply.Values versions skipped) e) key v time k g l b m)

-- and who was told so is in the list still
pub released_stays : (at : Reading) (s t : State) → Known at s → Quiet s t → ReleasedAt s → ReleasedAt t
released_stays at s t known x h shard a time last e =
    subst (λ (sh : ShardState). has_attempt sh.released a ≡ true) (sym (quiet_shard s t x shard))
    (h shard a time last (quiet_reply at s t known x shard (request.Release a time last) reply.Released e))

-- where a shard serves a request
module _ (c : Config) (at : Reading) (s : State) (m shard : ℕ) (q : Request) (known : Known at s) (framed : AllFramed c s) (just : AllJust s) (orderly : AllOrderly c s) (ordered : AllInOrder s) (asked : WasAsked s m shard q) where
  -- what is closed stays closed
  pub closed_served : (n : ℕ) (key : Key) (time : ℕ) (v : Version) → ClosesAt (shard_at s n) key time v → ClosesAt (shard_at (serves_shard s m shard at.latest q) n) key time v
  closed_served n key time v = served_keeps (λ (sh : ShardState). ClosesAt sh key time v) s m shard at.latest q n (closes_stay (shard_at s shard) at.latest q (orderly.orderly shard) (ordered.each m shard q asked) key time v)

  -- a snapshot is asked of a shard of the file
  asked_inside : (read_time least : ℕ) (keys : List Key) (skip : Bool) → q ≡ request.Snapshot read_time least keys skip → (1 ≤ shard) × (shard ≤ length s.shards)
  asked_inside read_time least keys skip e = by_reason (subst (IsJust s (message_at s.net m).envelope.owner shard) e (just.each m shard q asked))
    where
      by_reason : SnapshotIs s (message_at s.net m).envelope.owner shard read_time least keys skip → (1 ≤ shard) × (shard ≤ length s.shards)
      by_reason x =
          let f = framed.snap (message_at s.net m).envelope.owner x.snap x.under_way in
          let on : (nth_line x.snap.lines x.is_line.place).shard ≡ shard = ap (λ l. l.shard) x.is_line.at ∙ x.on in
          (subst (λ (n : ℕ). 1 ≤ n) on (f.lines.first x.is_line.place x.is_line.inside), subst (λ (n : ℕ). n ≤ length s.shards) on (subst (λ (n : ℕ). (nth_line x.snap.lines x.is_line.place).shard ≤ n) (sym framed.shards) (f.lines.last x.is_line.place x.is_line.inside)))

  -- and so is a release
  release_inside : (a : Attempt) (time : ℕ) (last : Bool) → q ≡ request.Release a time last → (1 ≤ shard) × (shard ≤ length s.shards)
  release_inside a time last e = by_reason (subst (IsJust s (message_at s.net m).envelope.owner shard) e (just.each m shard q asked))
    where
      by_reason : ReleaseIs s shard a time last → (1 ≤ shard) × (shard ≤ length s.shards)
      by_reason x =
          let lines = (framed.txn a.call x.txn x.of.under_way).lines in
          (line_first c x.txn lines shard x.line x.is_line, subst (λ (n : ℕ). shard ≤ n) (sym framed.shards) (line_last c x.txn lines shard x.line x.is_line))

  -- an answer was given before, or it closes what it shows
  pub answered_served : AnsweredAt s → AnsweredAt (serves_shard s m shard at.latest q)
  answered_served h n read_time least keys skip versions skipped e key v time k g l b u = by_reply (serves_reply at s m shard at.latest q known asked n (request.Snapshot read_time least keys skip) (reply.Values versions skipped) e)
    where
      by_reply : ReplyComes s shard at.latest q n (request.Snapshot read_time least keys skip) (reply.Values versions skipped) → ClosesAt (shard_at (serves_shard s m shard at.latest q) n) key time v
      by_reply (was f) = closed_served n key time v (h n read_time least keys skip versions skipped f key v time k g l b u)
      by_reply (comes same asks says) =
          let i = asked_inside read_time least keys skip (sym asks) in
          let told : shard_reply (shard_at s shard) at.latest (request.Snapshot read_time least keys skip) ≡ reply.Values versions skipped = ap (shard_reply (shard_at s shard) at.latest) asks ∙ sym says in
          let closed = answer_closes (shard_at s shard) at.latest read_time least keys skip versions skipped (orderly.orderly shard) told key v time k g l b u in
          subst (λ (j : ℕ). ClosesAt (shard_at (serves_shard s m shard at.latest q) j) key time v) (sym same)
          (subst (λ (sh : ShardState). ClosesAt sh key time v) (ap (shard_after (shard_at s shard) at.latest) asks ∙ sym (served_here s m shard at.latest q i.0 i.1)) closed)

  -- who is told so was told before, or has given its locks back now
  pub released_served : ReleasedAt s → ReleasedAt (serves_shard s m shard at.latest q)
  released_served h n a time last e = by_reply (serves_reply at s m shard at.latest q known asked n (request.Release a time last) reply.Released e)
    where
      by_reply : ReplyComes s shard at.latest q n (request.Release a time last) reply.Released → has_attempt (shard_at (serves_shard s m shard at.latest q) n).released a ≡ true
      by_reply (was f) = served_keeps (λ (sh : ShardState). has_attempt sh.released a ≡ true) s m shard at.latest q n (released_stay (shard_at s shard) at.latest q a) (h n a time last f)
      by_reply (comes same asks says) =
          let i = release_inside a time last (sym asks) in
          let told : shard_reply (shard_at s shard) at.latest (request.Release a time last) ≡ reply.Released = ap (shard_reply (shard_at s shard) at.latest) asks ∙ sym says in
          let there = released_told (shard_at s shard) at.latest time last a told in
          subst (λ (j : ℕ). has_attempt (shard_at (serves_shard s m shard at.latest q) j).released a ≡ true) (sym same)
          (subst (λ (sh : ShardState). has_attempt sh.released a ≡ true) (ap (shard_after (shard_at s shard) at.latest) asks ∙ sym (served_here s m shard at.latest q i.0 i.1)) there)
