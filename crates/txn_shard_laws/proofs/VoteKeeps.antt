-- What becomes of each vote, as every event keeps it.
use Rattle.std.proofs.Common.{◌≡◌, ◌⊎◌, inl, inr, ℕ, ◌≤◌, List, length, sym, ap, ◌∙◌, subst}
use Rattle.truetime.specs.Reading.{Reading}
use Rattle.rss_names.specs.declared.attempt.Attempt.{Attempt}
use Rattle.rss_names.specs.declared.service.Key.{Key}
use Rattle.rss_names.specs.declared.service.Target.TheVariants.{Shard}
use Rattle.pipeline_lang.specs.declared.config.Config.{Config}
use Rattle.rss_wire.specs.Messages.{message_at}
use Rattle.rss_wire.specs.declared.messages.Outcome.{Outcome}
use Rattle.rss_wire.specs.declared.messages.Outcome.TheVariants.{Committed, Aborted}
use Rattle.rss_wire.specs.declared.messages.Reply.TheVariants as reply
use Rattle.rss_wire.specs.declared.messages.Request.TheVariants.{Prepare}
use Rattle.rss_tables.specs.ShardRow.{Shard as ShardState, shard_after, shard_reply}
use Rattle.rss_machine.specs.Moves.{ticks}
use Rattle.rss_machine.specs.State.{State, start, shard_at}
use Rattle.shard_laws.specs.Fitting.{IsPreparedAt}
use Rattle.shard_laws.proofs.Prepares.{prepared_told}
use Rattle.shard_event_laws.specs.Events.{WasAsked}
use Rattle.txn_state_laws.specs.Decided.{AllDecided}
use Rattle.txn_state_laws.specs.Framed.{AllFramed, LinesFit}
use Rattle.txn_state_laws.specs.Justified.{AllJust, Kept, PrepareIs}
use Rattle.txn_state_laws.specs.Onward.{Between}
use Rattle.txn_state_laws.specs.Orderly.{AllOrderly, AllInOrder}
use Rattle.txn_state_laws.specs.Replied.{Replied}
use Rattle.txn_state_laws.specs.Voted.{AllVoted, VoteIs, LineApplied, prepared, aborted, applied}
use Rattle.txn_state_laws.proofs.Grows.{DecisionsStay, line_first, line_last}
use Rattle.txn_state_laws.proofs.Replies.{Quiet, Serves, event_does, quiet_reply, served_reply, reply_asked, ReplyComes, was, comes}
use Rattle.txn_state_laws.proofs.Serves.{ShardGoes, stays, serves, goes, served_there, serves_at, decisions_stay}
use Rattle.txn_state_laws.proofs.Starts.{nothing_replied, replied_ticks, attempt_ticks}
use Rattle.txn_shard_laws.proofs.VoteServes.{vote_serves, vote_stays}

-- a shard on which an attempt asks to be prepared is one of the list
pub record IsInside (s : State) (n : ℕ) : Type 0 where
  pub first : 1 ≤ n
  pub last : n ≤ length s.shards

prepare_inside : (c : Config) (s : State) → AllFramed c s → (n : ℕ) (a : Attempt) (least earliest_end : ℕ) (writes : List (Key × ℕ)) → PrepareIs s n a least earliest_end writes → IsInside s n
prepare_inside c s framed n a least earliest_end writes p =
    let lines : LinesFit c p.txn.lines = (framed.txn a.call p.txn p.of.under_way).lines in
    record {
      first = line_first c p.txn lines n p.line p.is_line;
      last = subst (λ (long : ℕ). n ≤ long) (sym framed.shards) (line_last c p.txn lines n p.line p.is_line);
    }

-- an old vote
record OldVote (s : State) (n : ℕ) (a : Attempt) (time : ℕ) : Type 0 where
  inside : IsInside s n
  vote : VoteIs s n a time

old_vote : (c : Config) (at : Reading) (s t : State) → Between c at s t → AllJust s → AllVoted s → (n : ℕ) (a : Attempt) (least earliest_end : ℕ) (writes : List (Key × ℕ)) (time : ℕ) → Replied s (Shard n) (Prepare a least earliest_end writes) (reply.Prepared time) → OldVote s n a time
old_vote c at s t b just voted n a least earliest_end writes time r = record {
  inside = prepare_inside c s b.framed n a least earliest_end writes (just.each (message_at s.net r.message).envelope.exchange n (Prepare a least earliest_end writes) (reply_asked s b.known.sound r.message n (Prepare a least earliest_end writes) (reply.Prepared time) r.is));
  vote = voted.each n a least earliest_end writes time r;
}

-- an attempt that is told now that it is prepared is so
told_now : (c : Config) (at : Reading) (s t : State) → Between c at s t → AllJust s → (v : Serves s t at.latest) (n : ℕ) (a : Attempt) (least earliest_end : ℕ) (writes : List (Key × ℕ)) (time : ℕ) → n ≡ v.shard → Prepare a least earliest_end writes ≡ v.request
    → reply.Prepared time ≡ shard_reply (shard_at s v.shard) at.latest v.request → IsPreparedAt (shard_at t n) a time
told_now c at s t b just v n a least earliest_end writes time e f g =
    subst (λ (shard : ℕ). IsPreparedAt (shard_at t shard) a time) (sym e)
    (subst (λ (sh : ShardState). IsPreparedAt sh a time) (sym after)
    (prepared_told (shard_at s v.shard) at.latest a least earliest_end writes time (ap (shard_reply (shard_at s v.shard) at.latest) f ∙ sym g)))
  where
    asked : WasAsked s v.message v.shard (Prepare a least earliest_end writes)
    asked = subst (WasAsked s v.message v.shard) (sym f) v.asked

    inside : IsInside s v.shard
    inside = prepare_inside c s b.framed v.shard a least earliest_end writes (just.each v.message v.shard (Prepare a least earliest_end writes) asked)

    after : shard_at t v.shard ≡ shard_after (shard_at s v.shard) at.latest (Prepare a least earliest_end writes)
    after = served_there s t at.latest v inside.first inside.last ∙ ap (shard_after (shard_at s v.shard) at.latest) (sym f)

-- each event keeps what becomes of votes
pub voted_keeps : (c : Config) (at : Reading) (s t : State) → Between c at s t → AllJust s → AllDecided s → AllDecided t → AllOrderly c s → AllInOrder s → AllVoted s → AllVoted t
voted_keeps c at s t b just decided decided' orderly in_order voted = record { each = λ n a least earliest_end writes time r. by_does n a least earliest_end writes time r (event_does c at s t b.event) }
  where
    stay : DecisionsStay s t
    stay = decisions_stay c at s t b.event

    by_shard : (n : ℕ) (a : Attempt) (time : ℕ) → OldVote s n a time → ShardGoes s t at.latest n → VoteIs t n a time
    by_shard n a time h (stays e) = vote_stays c at s t b stay decided decided' n e a time h.vote
    by_shard n a time h (serves v) = vote_serves c at s t b stay decided decided' orderly n h.inside.first v.request (serves_at s t at.latest n just in_order v) a time h.vote

    old : (n : ℕ) (a : Attempt) (least earliest_end : ℕ) (writes : List (Key × ℕ)) (time : ℕ) → Replied s (Shard n) (Prepare a least earliest_end writes) (reply.Prepared time) → VoteIs t n a time
    old n a least earliest_end writes time r = by_shard n a time (old_vote c at s t b just voted n a least earliest_end writes time r) (goes s t at.latest (event_does c at s t b.event) n)

    by_reply : (v : Serves s t at.latest) (n : ℕ) (a : Attempt) (least earliest_end : ℕ) (writes : List (Key × ℕ)) (time : ℕ) → ReplyComes s v.shard at.latest v.request n (Prepare a least earliest_end writes) (reply.Prepared time) → VoteIs t n a time
    by_reply v n a least earliest_end writes time (was r) = old n a least earliest_end writes time r
    by_reply v n a least earliest_end writes time (comes e f g) = prepared (told_now c at s t b just v n a least earliest_end writes time e f g)

    by_does : (n : ℕ) (a : Attempt) (least earliest_end : ℕ) (writes : List (Key × ℕ)) (time : ℕ) → Replied t (Shard n) (Prepare a least earliest_end writes) (reply.Prepared time) → Quiet s t ⊎ Serves s t at.latest → VoteIs t n a time
    by_does n a least earliest_end writes time r (inl h) = old n a least earliest_end writes time (quiet_reply at s t b.known h n (Prepare a least earliest_end writes) (reply.Prepared time) r)
    by_does n a least earliest_end writes time r (inr v) = by_reply v n a least earliest_end writes time (served_reply at s t at.latest b.known v n (Prepare a least earliest_end writes) (reply.Prepared time) r)

-- before the first step nobody was told anything
pub voted_start : (c : Config) → AllVoted (start c)
voted_start c = record {
  each = λ n a least earliest_end writes time r. absurd (nothing_replied c _ _ _ r);
}

-- where a step is counted, nothing else changes
kept_ticks : (s : State) (at : Reading) (a : Attempt) (outcome : Outcome) → Kept s a outcome → Kept (ticks s at) a outcome
kept_ticks s at a outcome k = record { txn = k.txn; of = attempt_ticks s at a k.txn k.of; kept = k.kept }

applied_ticks : (s : State) (at : Reading) (n : ℕ) (a : Attempt) (time : ℕ) → LineApplied s n a time → LineApplied (ticks s at) n a time
applied_ticks s at n a time l = record {
  txn = l.txn;
  of = attempt_ticks s at a l.txn l.of;
  present = l.present;
  line = l.line;
  is_line = l.is_line;
  applied = l.applied;
}

vote_ticks : (s : State) (at : Reading) (n : ℕ) (a : Attempt) (time : ℕ) → VoteIs s n a time → VoteIs (ticks s at) n a time
vote_ticks s at n a time (prepared v) = prepared v
vote_ticks s at n a time (aborted k) = aborted (kept_ticks s at a Aborted k)
vote_ticks s at n a time (applied commit_time k l g line) = applied commit_time (kept_ticks s at a (Committed commit_time) k) l g (applied_ticks s at n a commit_time line)

pub voted_ticks : (s : State) (at : Reading) → AllVoted s → AllVoted (ticks s at)
voted_ticks s at voted = record {
  each = λ n a least earliest_end writes time r.
      vote_ticks s at n a time
      (voted.each n a least earliest_end writes time (replied_ticks s at (Shard n) (Prepare a least earliest_end writes) (reply.Prepared time) r));
}
