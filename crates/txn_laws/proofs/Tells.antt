-- What a shard has replied stays true.
use Rattle.std.proofs.Common.{◌≡◌, ◌⊎◌, inl, inr, ℕ, ◌≤◌, Bool, true, false, List, [], Some, refl, sym, ap, ◌∙◌, subst, arith}
use Rattle.std.specs.Prelude.{if◌then◌else◌}
use Rattle.rss_names.specs.declared.attempt.Attempt.{Attempt}
use Rattle.pipeline_lang.specs.declared.config.Config.{Config}
use Rattle.rss_wire.specs.declared.messages.Outcome.{Outcome}
use Rattle.rss_wire.specs.declared.messages.Request.{Request}
use Rattle.rss_wire.specs.declared.messages.Request.TheVariants.{Lock, Prepare, Decide, Inquire, Release, Snapshot}
use Rattle.rss_wire.specs.declared.messages.Reply.{Reply}
use Rattle.rss_wire.specs.declared.messages.Reply.TheVariants as reply
use Rattle.rss_tables.specs.Attempts.{has_attempt}
use Rattle.rss_tables.specs.Locks.{LockHolder}
use Rattle.rss_tables.specs.Prepared.{prepared_of}
use Rattle.rss_tables.specs.ShardRow.{Shard, decision_in, shard_after, shard_reply}
use Rattle.rss_machine.specs.Run.{run}
use Rattle.rss_machine.specs.State.{State, start, shard_at}
use Rattle.rss_machine.specs.declared.step.Step.{Step}
use Rattle.world_laws.proofs.Runs.{run_is, run_ends}
use Rattle.shard_laws.specs.Served.{served, IsReached}
use Rattle.shard_laws.specs.Entries.{held_by, prepared_by, holder_of}
use Rattle.shard_laws.specs.Locked.{IsGone}
use Rattle.shard_laws.specs.Later.{HoldsOrIsGone, IsPreparedOrGone}
use Rattle.shard_laws.specs.Fitting.{IsPreparedAt}
use Rattle.shard_laws.proofs.Entries.{found_at}
use Rattle.shard_laws.proofs.Lists.{prepared_is}
use Rattle.shard_laws.proofs.Fits.{reached_after, prepared_told, decided_told, inquired_told}
use Rattle.shard_laws.proofs.Laters.{held_later, prepared_later, decision_later, gone_later, floor_later, answered_floor}
use Rattle.shard_laws.proofs.Released.{released_gone}
use Rattle.shard_laws.proofs.Replies.{granted}
use Rattle.txn_laws.specs.Given.{IsShardReply, RepliesGiven}
use Rattle.txn_laws.specs.Told.{Holds, RepliesTell}
use Rattle.txn_laws.proofs.Gives.{replies_given}

-- who has locks holds them later, or is done with
holds_later : (sh : Shard) → IsReached sh → (rs : List (ℕ × Request)) (a : Attempt) (h : LockHolder) → holder_of sh.locks.holders a ≡ Some h → Holds (served sh rs) a ⊎ IsGone (served sh rs) a
holds_later sh x rs a h e = by_fate (held_later sh x rs h (ap (holder_of sh.locks.holders) same ∙ e))
  where
    same : h.attempt ≡ a
    same = found_at held_by sh.locks.holders a h e

    by_fate : HoldsOrIsGone (served sh rs) h → Holds (served sh rs) a ⊎ IsGone (served sh rs) a
    by_fate (inl f) = inl record { holder = h; there = ap (holder_of (served sh rs).locks.holders) (sym same) ∙ f }
    by_fate (inr g) = inr (subst (IsGone (served sh rs)) same g)

prepared_stays : (sh : Shard) → IsReached sh → (rs : List (ℕ × Request)) (a : Attempt) (time : ℕ) → IsPreparedAt sh a time → IsPreparedAt (served sh rs) a time ⊎ IsGone (served sh rs) a
prepared_stays sh x rs a time e = by_fate (prepared_later sh x rs e.entry (ap (prepared_of sh.prepared) same ∙ e.there))
  where
    same : e.entry.attempt ≡ a
    same = found_at prepared_by sh.prepared a e.entry (sym (prepared_is sh.prepared a) ∙ e.there)

    by_fate : IsPreparedOrGone (served sh rs) e.entry → IsPreparedAt (served sh rs) a time ⊎ IsGone (served sh rs) a
    by_fate (inl f) = inl record { entry = e.entry; there = ap (prepared_of (served sh rs).prepared) (sym same) ∙ f; at = e.at }
    by_fate (inr g) = inr (subst (IsGone (served sh rs)) same g)

-- who is told that it has released has done so
released_told : (sh : Shard) (latest : ℕ) (a : Attempt) (time : ℕ) (last : Bool) → shard_reply sh latest (Release a time last) ≡ reply.Released → has_attempt (shard_after sh latest (Release a time last)).released a ≡ true
unfolding shard_reply
released_told sh latest a time last e = by_test (has_attempt (shard_after sh latest (Release a time last)).released a) refl
  where
    by_test : (b : Bool) → has_attempt (shard_after sh latest (Release a time last)).released a ≡ b → has_attempt (shard_after sh latest (Release a time last)).released a ≡ true
    by_test true f = f
    by_test false f = absurd (let x : ◌≡◌ {A = Reply} reply.Wounded reply.Released = sym (ap (λ (t : Bool). if t then reply.Released else reply.Wounded) f) ∙ e in cc)

-- who asks for a decision changes nothing
inquired_after : (sh : Shard) (latest : ℕ) (a : Attempt) (outcome : Outcome) → shard_reply sh latest (Inquire a) ≡ reply.Outcome outcome → decision_in (shard_after sh latest (Inquire a)).decisions a ≡ Some outcome
unfolding shard_after
inquired_after sh latest a outcome e = inquired_told sh latest a outcome e

module _ (u s : State) (g : RepliesGiven u s) where
  -- what holds right after the reply, and of what comes of it, holds now
  carried : (P : Shard → Type 0) (m shard : ℕ) (q : Request) (r : Reply) → IsShardReply s m shard q r → ((sh : Shard) (latest : ℕ) → IsReached sh → r ≡ shard_reply sh latest q → (rs : List (ℕ × Request)) → P (served (shard_after sh latest q) rs)) → P (shard_at s shard)
  carried P m shard q r x f = let w = g.each m shard q r x in subst P w.by (f w.before w.latest w.reached w.reply w.requests)

  tell : RepliesTell s
  tell = record {
    granted = λ m shard a coordinator reads writes shown x. carried (λ (v : Shard). Holds v a ⊎ IsGone v a) m shard _ _ x
        (λ sh latest y e rs. (let q = granted sh latest a coordinator reads writes shown (sym e) in holds_later (shard_after sh latest (Lock a coordinator reads writes)) (reached_after sh y latest (Lock a coordinator reads writes)) rs a q.holder q.holds));
    prepared = λ m shard a least earliest_end writes time x. carried (λ (v : Shard). IsPreparedAt v a time ⊎ IsGone v a) m shard _ _ x
        (λ sh latest y e rs. prepared_stays (shard_after sh latest (Prepare a least earliest_end writes)) (reached_after sh y latest (Prepare a least earliest_end writes)) rs a time (prepared_told sh latest a least earliest_end writes time (sym e)));
    decided = λ m shard a commit time outcome x. carried (λ (v : Shard). decision_in v.decisions a ≡ Some outcome) m shard _ _ x
        (λ sh latest y e rs. decision_later (shard_after sh latest (Decide a commit time)) rs a outcome (decided_told sh latest a commit time outcome (sym e)));
    inquired = λ m shard a outcome x. carried (λ (v : Shard). decision_in v.decisions a ≡ Some outcome) m shard _ _ x
        (λ sh latest y e rs. decision_later (shard_after sh latest (Inquire a)) rs a outcome (inquired_after sh latest a outcome (sym e)));
    released = λ m shard a time last x. carried (λ (v : Shard). IsGone v a) m shard _ _ x
        (λ sh latest y e rs. gone_later (shard_after sh latest (Release a time last)) rs a (released_gone (shard_after sh latest (Release a time last)) (reached_after sh y latest (Release a time last)) a (released_told sh latest a time last (sym e))));
    answered = λ m shard read_time least keys skip versions skipped x. carried (λ (v : Shard). read_time ≤ v.floor) m shard _ _ x
        (λ sh latest y e rs. (let f = answered_floor sh latest read_time least keys skip versions skipped (sym e) in let h = floor_later (shard_after sh latest (Snapshot read_time least keys skip)) rs in omega (arith, f, h)));
  }

pub replies_tell : (c : Config) (steps : List Step) (s : State) → run c steps ≡ Some s → RepliesTell s
replies_tell c steps s e = tell (start c) s (replies_given c [] steps (start c) s (run_is c [] (start c) (run_ends c (start c))) e)
