-- Each placed call was shown, of each key that it reads, what the last transaction before it wrote.
use Rattle.std.proofs.Common.{◌≡◌, ◌⊎◌, inl, inr, ℕ, ◌<◌, ◌≤◌, Bool, true, false, List, refl, ap, ◌∙◌, arith}
use Rattle.std.specs.Prelude.{IsTrue}
use Rattle.std.proofs.lemmas.Bool.{cases_lt}
use Rattle.rss_names.specs.declared.service.Key.{Key}
use Rattle.pipeline_lang.specs.Config.{home_of}
use Rattle.pipeline_lang.specs.declared.config.Config.{Config}
use Rattle.rss_wire.specs.declared.messages.Version.{Version}
use Rattle.rss_tables.specs.Lines.{Line, shown_on}
use Rattle.rss_tables.specs.Locks.{has_key}
use Rattle.rss_tables.specs.Versions.{opening_version}
use Rattle.rss_tables.specs.declared.phases.TxnPhase.{TxnPhase}
use Rattle.rss_tables.specs.declared.phases.TxnPhase.TheVariants as phase
use Rattle.rss_machine.specs.Places.{txn_key, key_lt}
use Rattle.rss_machine.specs.State.{State, shard_at}
use Rattle.rss_machine.specs.Times.{step_of_time}
use Rattle.txn_state_laws.specs.Closed.{WasWritten}
use Rattle.txn_state_laws.specs.Decided.{CommitsAt}
use Rattle.txn_state_laws.specs.Told.{is_past_guard, freeing_time}
use Rattle.world_laws.proofs.StepsOfTimes.{above_rises}
use Rattle.txn_line_laws.specs.Line.{PlacedTxn, commits, fails, reads, TxnWrites, writer_key, WriterBefore, BeforeWriters, TxnsLegal}
use Rattle.txn_line_laws.proofs.CommitReads.{commit_seen}
use Rattle.txn_line_laws.proofs.Facts.{Facts, commit_known, commit_is}
use Rattle.txn_line_laws.proofs.Keys.{earlier_key, writer_first}
use Rattle.txn_line_laws.proofs.Readers.{snap_seen, failed_seen}
use Rattle.txn_line_laws.proofs.Sees.{Sees, StandsAgainst, is_earlier, is_shown, is_later, stands_against, seen_version, seen_before}
use Rattle.txn_line_laws.proofs.Stands.{writer_stands}

pub rises : (s : State) (a b : ℕ) → a ≤ b → step_of_time s a ≤ step_of_time s b
rises s a b l = above_rises 1 a b s.moments l

-- who asked for its commit found that its guard holds
pub commits_past_guard : (p : TxnPhase) (time : ℕ) → CommitsAt p time → is_past_guard p ≡ true
commits_past_guard phase.Locking time f = absurd f
commits_past_guard phase.Preparing time f = absurd f
commits_past_guard (phase.Freeing other) time f = absurd f
commits_past_guard (phase.FreeingLast other) time f = absurd f
commits_past_guard (phase.Deciding other) time f = refl
commits_past_guard phase.Undoing time f = absurd f
commits_past_guard (phase.Waiting other) time f = refl
commits_past_guard (phase.Committed other) time f = refl
commits_past_guard (phase.Failed other) time f = absurd f

module _ (c : Config) (s : State) (h : Facts c s) where
  module _ (o time : ℕ) (only_reads : Bool) (key : Key) (v : Version) (first : 1 ≤ home_of c key.index) (y : Sees (shard_at s (home_of c key.index)) key o time v) (strict : only_reads ≡ false → v.time < time) where
    against : (w value t : ℕ) → TxnWrites s w key value t → (w ≡ o → ⊥) → StandsAgainst w value t time v
    against w value t x n = stands_against (shard_at s (home_of c key.index)) (h.orderly.orderly (home_of c key.index)).reached key o time v y w value t n (writer_stands c s h w value t key x)

    opening : v ≡ opening_version → BeforeWriters s o time only_reads key v
    opening e = record { opening = e; others = λ w value t x n. by_place w value t x (against w value t x n) }
      where
        by_place : (w value t : ℕ) → TxnWrites s w key value t → StandsAgainst w value t time v → key_lt (txn_key s o only_reads time) (writer_key s w t) ≡ true
        by_place w value t x (is_earlier l) = absurd (let f = ap (λ (u : Version). u.time) e in omega (arith, l, f))
        by_place w value t x (is_shown f) = absurd (let n = (h.framed.txn w x.txn x.under_way).numbered in let g = ap (λ (u : Version). u.writer) (f ∙ e) in omega (arith, n, g))
        by_place w value t x (is_later l) = earlier_key s o w time t only_reads false (rises s time t (omega (arith, l))) l

    written : WasWritten s key v → WriterBefore s o time only_reads key v
    written w = record {
      written = record { txn = w.txn; under_way = w.under_way; committed = commit_is c s h v.writer v.time w.txn w.under_way w.committed; writes = w.writes };
      before = by_time (cases_lt v.time time) only_reads refl;
      others = λ a value t x n m. by_place a value t n (against a value t x m);
    }
      where
        by_time : (v.time < time) ⊎ (time ≤ v.time) → (b : Bool) → only_reads ≡ b → key_lt (writer_key s v.writer v.time) (txn_key s o b time) ≡ true
        by_time (inl l) b e = earlier_key s v.writer o v.time time false b (rises s v.time time (omega (arith, l))) l
        by_time (inr l) false e = absurd (let k = strict e in omega (arith, k, l))
        by_time (inr l) true e = let k = seen_before (shard_at s (home_of c key.index)) key o time v y in let q : v.time ≡ time = omega (arith, k, l) in
            ap (λ (n : ℕ). key_lt (writer_key s v.writer n) (txn_key s o true time)) q ∙ writer_first s v.writer o time

        by_place : (a value t : ℕ) → (a ≡ v.writer → ⊥) → StandsAgainst a value t time v → (key_lt (writer_key s a t) (writer_key s v.writer v.time) ≡ true) ⊎ (key_lt (txn_key s o only_reads time) (writer_key s a t) ≡ true)
        by_place a value t n (is_earlier l) = inl (earlier_key s a v.writer t v.time false false (rises s t v.time (omega (arith, l))) l)
        by_place a value t n (is_shown e) = absurd (n (ap (λ (u : Version). u.writer) e))
        by_place a value t n (is_later l) = inr (earlier_key s o a time t only_reads false (rises s time t (omega (arith, l))) l)

    rightly : BeforeWriters s o time only_reads key v ⊎ WriterBefore s o time only_reads key v
    rightly = by_version (seen_version (shard_at s (home_of c key.index)) key o time v (WasWritten s key) (h.closed.written (home_of c key.index) key first) y)
      where
        by_version : (v ≡ opening_version) ⊎ WasWritten s key v → BeforeWriters s o time only_reads key v ⊎ WriterBefore s o time only_reads key v
        by_version (inl e) = inl (opening e)
        by_version (inr w) = inr (written w)

  not_both : true ≡ false → ⊥
  not_both e = cc

  shown_rightly : (o time : ℕ) (only_reads : Bool) (keys : List Key) (lines : List Line) → PlacedTxn s o time only_reads keys lines → (key : Key) → IsTrue (has_key keys key) → BeforeWriters s o time only_reads key (shown_on lines key) ⊎ WriterBefore s o time only_reads key (shown_on lines key)
  shown_rightly o _ _ _ _ (commits x time e f) key g = let d = commit_seen c s h o time x key e (commit_known c s h o time x e f) g in rightly o time false key (shown_on x.lines key) d.seen.first d.seen.sees (λ q. d.below)
  shown_rightly o _ _ _ _ (fails x time e p) key g = let d = failed_seen c s h o time x key e p g in rightly o time true key (shown_on x.lines key) d.first d.sees (λ q. absurd (not_both q))
  shown_rightly o _ _ _ _ (reads x time e p) key g = let d = snap_seen c s h o time x key e p g in rightly o time true key (shown_on x.lines key) d.first d.sees (λ q. absurd (not_both q))

  pub txns_legal : TxnsLegal s
  txns_legal = record {
    shown = shown_rightly;
    held = λ o time x e f. let k = commit_known c s h o time x e f in (h.told.knows o x e).held (commits_past_guard x.phase time k.at);
    failed = λ o time x e p. ((h.told.knows o x e).failed time (ap freeing_time p)).0;
  }
