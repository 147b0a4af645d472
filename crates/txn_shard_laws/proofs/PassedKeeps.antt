-- What answered snapshots may have missed, as every event keeps it.
use Rattle.std.proofs.Common.{◌≡◌, ◌⊎◌, inl, inr, ℕ, ◌≤◌, Bool, List, length, sym, ap, ◌∙◌, subst, Some}
use Rattle.std.specs.Prelude.{IsTrue}
use Rattle.truetime.specs.Reading.{Reading}
use Rattle.rss_names.specs.declared.service.Key.{Key}
use Rattle.rss_names.specs.declared.service.Target.TheVariants.{Shard}
use Rattle.pipeline_lang.specs.declared.config.Config.{Config}
use Rattle.rss_wire.specs.Messages.{message_at}
use Rattle.rss_wire.specs.declared.messages.Reply.TheVariants as reply
use Rattle.rss_wire.specs.declared.messages.Request.TheVariants.{Snapshot}
use Rattle.rss_wire.specs.declared.messages.Skipped.{Skipped}
use Rattle.rss_wire.specs.declared.messages.Version.{Version}
use Rattle.rss_tables.specs.Lines.{Line, version_in}
use Rattle.rss_tables.specs.Locks.{has_key}
use Rattle.rss_tables.specs.ShardRow.{shard_after, shard_reply}
use Rattle.rss_tables.specs.Versions.{versions_of}
use Rattle.rss_machine.specs.Moves.{ticks}
use Rattle.rss_machine.specs.State.{State, start, shard_at}
use Rattle.shard_laws.proofs.Rising.{each_more}
use Rattle.session_laws.specs.Frames.{nth_line}
use Rattle.shard_event_laws.specs.Events.{WasAsked}
use Rattle.txn_state_laws.specs.Decided.{AllDecided}
use Rattle.txn_state_laws.specs.Framed.{AllFramed, LinesFit}
use Rattle.txn_state_laws.specs.Justified.{AllJust, SnapshotIs}
use Rattle.txn_state_laws.specs.Onward.{Between}
use Rattle.txn_state_laws.specs.Orderly.{AllOrderly, AllInOrder}
use Rattle.txn_state_laws.specs.Passed.{AllPassed, EndsLater, IsPassedRightly, KeyPassed}
use Rattle.txn_state_laws.specs.Replied.{Replied}
use Rattle.txn_state_laws.proofs.Grows.{DecisionsStay}
use Rattle.txn_state_laws.proofs.Replies.{Quiet, Serves, event_does, quiet_reply, served_reply, reply_asked, ReplyComes, was, comes}
use Rattle.txn_state_laws.proofs.Serves.{ShardGoes, stays, serves, goes, served_there, serves_at, decisions_stay}
use Rattle.txn_state_laws.proofs.Starts.{nothing_replied, replied_ticks}
use Rattle.txn_shard_laws.proofs.Shown.{answer_shown}
use Rattle.txn_shard_laws.proofs.PassedServes.{key_serves, key_stays, passed_by_shard, seen_passed}

-- a shard that a snapshot asks is one of the list
record IsInside (s : State) (n : ℕ) : Type 0 where
  first : 1 ≤ n
  last : n ≤ length s.shards

snapshot_inside : (c : Config) (s : State) → AllFramed c s → (o n read_time least : ℕ) (keys : List Key) (skip : Bool) → SnapshotIs s o n read_time least keys skip → IsInside s n
snapshot_inside c s framed o n read_time least keys skip p = record {
  first = subst (λ (shard : ℕ). 1 ≤ shard) on (lines.first p.is_line.place p.is_line.inside);
  last = subst (λ (long : ℕ). n ≤ long) (sym framed.shards) (subst (λ (shard : ℕ). shard ≤ length c.shard_services) on (lines.last p.is_line.place p.is_line.inside));
}
  where
    lines : LinesFit c p.snap.lines
    lines = (framed.snap o p.snap p.under_way).lines

    on : (nth_line p.snap.lines p.is_line.place).shard ≡ n
    on = ap (λ (l : Line). l.shard) p.is_line.at ∙ p.on

-- an answer to a snapshot, for a key that it asked for
record IsAnswerOf (keys : List Key) (versions : List (Key × Version)) (key : Key) (v : Version) : Type 0 where
  asked : IsTrue (has_key keys key)
  shown : version_in versions key ≡ Some v

-- an old answer
record OldAnswer (s : State) (n read_time : ℕ) (key : Key) (v : Version) : Type 0 where
  inside : IsInside s n
  passed : KeyPassed s n read_time key v

old_answer : (c : Config) (at : Reading) (s t : State) → Between c at s t → AllJust s → AllPassed s → (n read_time least : ℕ) (keys : List Key) (skip : Bool) (versions : List (Key × Version)) (skipped : List Skipped) → Replied s (Shard n) (Snapshot read_time least keys skip) (reply.Values versions skipped) → (key : Key) (v : Version) → IsAnswerOf keys versions key v → OldAnswer s n read_time key v
old_answer c at s t b just passed n read_time least keys skip versions skipped r key v a =
    let asked : WasAsked s (message_at s.net r.message).envelope.exchange n (Snapshot read_time least keys skip) = reply_asked s b.known.sound r.message n (Snapshot read_time least keys skip) (reply.Values versions skipped) r.is in
    record {
      inside = snapshot_inside c s b.framed (message_at s.net (message_at s.net r.message).envelope.exchange).envelope.owner n read_time least keys skip (just.each (message_at s.net r.message).envelope.exchange n (Snapshot read_time least keys skip) asked);
      passed = passed.each n read_time least keys skip versions skipped r key v a.asked a.shown;
    }

-- what is answered now is shown rightly
shown_now : (c : Config) (at : Reading) (s t : State) → Between c at s t → AllJust s → AllOrderly c s → (x : Serves s t at.latest) (n read_time least : ℕ) (keys : List Key) (skip : Bool) (versions : List (Key × Version)) (skipped : List Skipped) → n ≡ x.shard → Snapshot read_time least keys skip ≡ x.request
    → reply.Values versions skipped ≡ shard_reply (shard_at s x.shard) at.latest x.request → (key : Key) (v : Version) → IsAnswerOf keys versions key v → KeyPassed t n read_time key v
shown_now c at s t b just orderly x n read_time least keys skip versions skipped e f g key v a =
    subst (λ (shard : ℕ). KeyPassed t shard read_time key v) (sym e)
    (passed_by_shard t x.shard read_time key v (shard_after (shard_at s x.shard) at.latest (Snapshot read_time least keys skip)) after
    (seen_passed t (shard_after (shard_at s x.shard) at.latest (Snapshot read_time least keys skip)) read_time key v
    (answer_shown (shard_at s x.shard) at.latest read_time least keys skip versions skipped (orderly.orderly x.shard) (ap (shard_reply (shard_at s x.shard) at.latest) f ∙ sym g) key v a.asked a.shown)))
  where
    asked : WasAsked s x.message x.shard (Snapshot read_time least keys skip)
    asked = subst (WasAsked s x.message x.shard) (sym f) x.asked

    inside : IsInside s x.shard
    inside = snapshot_inside c s b.framed (message_at s.net x.message).envelope.owner x.shard read_time least keys skip (just.each x.message x.shard (Snapshot read_time least keys skip) asked)

    after : shard_at t x.shard ≡ shard_after (shard_at s x.shard) at.latest (Snapshot read_time least keys skip)
    after = served_there s t at.latest x inside.first inside.last ∙ ap (shard_after (shard_at s x.shard) at.latest) (sym f)

-- each event keeps what answered snapshots may have missed
pub passed_keeps : (c : Config) (at : Reading) (s t : State) → Between c at s t → AllJust s → AllDecided s → AllDecided t → AllOrderly c s → AllInOrder s → AllPassed s → AllPassed t
passed_keeps c at s t b just decided decided' orderly in_order passed = record {
  each = λ n read_time least keys skip versions skipped r key v k g.
      by_does n read_time least keys skip versions skipped key v record { asked = k; shown = g } r (event_does c at s t b.event);
}
  where
    stay : DecisionsStay s t
    stay = decisions_stay c at s t b.event

    by_shard : (n read_time : ℕ) (key : Key) (v : Version) → OldAnswer s n read_time key v → ShardGoes s t at.latest n → KeyPassed t n read_time key v
    by_shard n read_time key v h (stays e) = key_stays c at s t b stay decided decided' n e read_time key v h.passed
    by_shard n read_time key v h (serves x) = key_serves c at s t b stay decided decided' orderly n h.inside.first x.request (serves_at s t at.latest n just in_order x) read_time key v h.passed

    old : (n read_time least : ℕ) (keys : List Key) (skip : Bool) (versions : List (Key × Version)) (skipped : List Skipped) (key : Key) (v : Version) → IsAnswerOf keys versions key v → Replied s (Shard n) (Snapshot read_time least keys skip) (reply.Values versions skipped) → KeyPassed t n read_time key v
    old n read_time least keys skip versions skipped key v a r = by_shard n read_time key v (old_answer c at s t b just passed n read_time least keys skip versions skipped r key v a) (goes s t at.latest (event_does c at s t b.event) n)

    by_reply : (x : Serves s t at.latest) (n read_time least : ℕ) (keys : List Key) (skip : Bool) (versions : List (Key × Version)) (skipped : List Skipped) (key : Key) (v : Version) → IsAnswerOf keys versions key v → ReplyComes s x.shard at.latest x.request n (Snapshot read_time least keys skip) (reply.Values versions skipped) → KeyPassed t n read_time key v
    by_reply x n read_time least keys skip versions skipped key v a (was r) = old n read_time least keys skip versions skipped key v a r
    by_reply x n read_time least keys skip versions skipped key v a (comes e f g) = shown_now c at s t b just orderly x n read_time least keys skip versions skipped e f g key v a

    by_does : (n read_time least : ℕ) (keys : List Key) (skip : Bool) (versions : List (Key × Version)) (skipped : List Skipped) (key : Key) (v : Version) → IsAnswerOf keys versions key v → Replied t (Shard n) (Snapshot read_time least keys skip) (reply.Values versions skipped) → Quiet s t ⊎ Serves s t at.latest → KeyPassed t n read_time key v
    by_does n read_time least keys skip versions skipped key v a r (inl h) = old n read_time least keys skip versions skipped key v a (quiet_reply at s t b.known h n (Snapshot read_time least keys skip) (reply.Values versions skipped) r)
    by_does n read_time least keys skip versions skipped key v a r (inr x) = by_reply x n read_time least keys skip versions skipped key v a (served_reply at s t at.latest b.known x n (Snapshot read_time least keys skip) (reply.Values versions skipped) r)

-- before the first step nothing was answered
pub passed_start : (c : Config) → AllPassed (start c)
passed_start c = record {
  each = λ n read_time least keys skip versions skipped r. absurd (nothing_replied c _ _ _ r);
}

-- where a step is counted, nothing else changes
rightly_ticks : (s : State) (at : Reading) (read_time : ℕ) (v u : Version) → IsPassedRightly s read_time v u → IsPassedRightly (ticks s at) read_time v u
rightly_ticks s at read_time v u (inl l) = inl l
rightly_ticks s at read_time v u (inr (inl l)) = inr (inl l)
rightly_ticks s at read_time v u (inr (inr h)) =
    let e : EndsLater (ticks s at) read_time u = record { txn = h.txn; under_way = h.under_way; committed = h.committed; unended = h.unended } in
    inr (inr e)

key_ticks : (s : State) (at : Reading) (n read_time : ℕ) (key : Key) (v : Version) → KeyPassed s n read_time key v → KeyPassed (ticks s at) n read_time key v
key_ticks s at n read_time key v h = record {
  floor = h.floor;
  entries = h.entries;
  versions = each_more (IsPassedRightly s read_time v) (IsPassedRightly (ticks s at) read_time v) (rightly_ticks s at read_time v) (versions_of (shard_at s n).store key) h.versions;
}

pub passed_ticks : (s : State) (at : Reading) → AllPassed s → AllPassed (ticks s at)
passed_ticks s at passed = record {
  each = λ n read_time least keys skip versions skipped r key v k g.
      key_ticks s at n read_time key v
      (passed.each n read_time least keys skip versions skipped (replied_ticks s at (Shard n) (Snapshot read_time least keys skip) (reply.Values versions skipped) r) key v k g);
}
