-- Snapshots are fresh, as every event keeps it.
use Rattle.std.proofs.Common.{◌≡◌, inl, inr, ℕ, zero, suc, ◌<◌, ◌≤◌, true, false, List, Some, refl, sym, ap, ◌∙◌, subst, arith}
use Rattle.std.proofs.lemmas.Bool.{true≢false}
use Rattle.truetime.specs.Reading.{Reading}
use Rattle.rss_names.specs.declared.service.Key.{Key}
use Rattle.pipeline_lang.specs.declared.config.Config.{Config}
use Rattle.rss_tables.specs.Locks.{has_key}
use Rattle.rss_tables.specs.SnapshotSession.{SnapSession}
use Rattle.rss_tables.specs.TransactionSession.{txn_end}
use Rattle.rss_tables.specs.declared.phases.SnapPhase.{SnapPhase}
use Rattle.rss_tables.specs.declared.phases.SnapPhase.TheVariants.{First, Second, Done}
use Rattle.rss_machine.specs.Moves.{ticks}
use Rattle.rss_machine.specs.State.{State, start, owner_at}
use Rattle.rss_machine.specs.declared.session.Session.TheVariants as session
use Rattle.shard_event_laws.specs.Facts.{is_with_shards}
use Rattle.shard_event_laws.proofs.Clocks.{event_clock}
use Rattle.txn_state_laws.specs.Dated.{AllDated}
use Rattle.txn_state_laws.specs.Decided.{AllDecided}
use Rattle.txn_state_laws.specs.Fresh.{HasWritten, AllFresh}
use Rattle.txn_state_laws.specs.Onward.{Between, SnapOnward, SnapComes, from_snap, anew_snap}
use Rattle.txn_state_laws.specs.Orderly.{AllOrderly}
use Rattle.txn_state_laws.specs.Passed.{AllPassed}
use Rattle.txn_state_laws.specs.Told.{snap_time}
use Rattle.txn_state_laws.specs.Voted.{AllVoted}
use Rattle.txn_shard_laws.proofs.FreshOwners.{is_there, EndedBefore, ended_before, SnapMoves, snap_moves}
use Rattle.txn_shard_laws.proofs.FreshRounds.{no_time, same_time, heard_late}

-- an event, and what is known of it
module _ (c : Config) (at : Reading) (s t : State) (b : Between c at s t) (decided : AllDecided s) (orderly : AllOrderly c s) (voted : AllVoted s) (passed : AllPassed s) (dated : AllDated s) (dated' : AllDated t) (fresh : AllFresh s) where
  -- a snapshot whose time is known after the event, and a transaction that had ended before it began
  module _ (o time w written : ℕ) (y : SnapSession) (key : Key) (under : (owner_at t o).session ≡ session.Snapshot y) (known : snap_time y.phase ≡ Some time) (h : HasWritten t w written key) (late : (owner_at t w).dates.ended < (owner_at t o).dates.begun) (asked : has_key y.keys key ≡ true) where
    -- it had ended before the event, and the snapshot was under way
    module _ (was : HasWritten s w written key) (ended : (owner_at t w).dates.ended ≡ (owner_at s w).dates.ended) (x : SnapSession) (before : (owner_at s o).session ≡ session.Snapshot x) (onward : SnapOnward x y) where
      late_before : (owner_at s w).dates.ended < (owner_at s o).dates.begun
      late_before =
          let begun = (b.onward.owners o (is_there s o (ap is_with_shards before))).1 in
          omega (arith, late, ended, begun)

      asked_before : has_key x.keys key ≡ true
      asked_before = ap (λ (keys : List Key). has_key keys key) (sym onward.same.keys) ∙ asked

      -- its time was known before
      was_known : (known_time : ℕ) → snap_time x.phase ≡ Some known_time → written ≤ time
      was_known known_time e =
          subst (λ (n : ℕ). written ≤ n) (same_time known_time time (sym (onward.later known_time e) ∙ known))
          (fresh.each o known_time w written x key before e was late_before asked_before)

      by_move : (read_time : ℕ) → x.phase ≡ First read_time → SnapMoves s o x y → written ≤ time
      by_move read_time e (inl same) = absurd (no_time read_time time y.phase (same ∙ e) known)
      by_move read_time e (inr heard) = heard_late c at s t b decided orderly voted passed dated o w written read_time x key before e was late_before asked_before y time heard known

      by_phase : (p : SnapPhase) → x.phase ≡ p → written ≤ time
      by_phase (First read_time) e = by_move read_time e (snap_moves s t o x y before under c at b.event)
      by_phase (Second known_time) e = was_known known_time (ap snap_time e)
      by_phase (Done known_time) e = was_known known_time (ap snap_time e)

    by_start : HasWritten s w written key → (owner_at t w).dates.ended ≡ (owner_at s w).dates.ended → SnapComes (owner_at s o).session y → written ≤ time
    by_start was ended (from_snap x before onward) = by_phase was ended x before onward x.phase refl
    by_start was ended (anew_snap read_time idle p) = absurd (no_time read_time time y.phase p known)

    by_end : EndedBefore s w h.txn (owner_at t w).dates.ended → written ≤ time
    by_end (inl e) = by_start record { txn = h.txn; under_way = e.0; committed = h.committed; value = h.value; writes = h.writes } e.1 (b.onward.snap_from o y under)
    by_end (inr now) =
        let begun = dated'.begun o in
        let steps = (event_clock c at s t b.event).steps in
        absurd (omega (arith, now, begun, steps, late))

    fresh_then : written ≤ time
    fresh_then = by_end (ended_before s t w h.txn written h.under_way (ap txn_end h.committed) c at b.event)

-- each event keeps snapshots fresh
pub fresh_keeps : (c : Config) (at : Reading) (s t : State) → Between c at s t → AllDecided s → AllOrderly c s → AllVoted s → AllPassed s → AllDated s → AllDated t → AllFresh s → AllFresh t
fresh_keeps c at s t b decided orderly voted passed dated dated' fresh = record {
  each = λ o time w written y key under known h late asked. fresh_then c at s t b decided orderly voted passed dated dated' fresh o time w written y key under known h late asked;
}

-- nobody has a snapshot under way before the first step
nobody : (c : Config) (o : ℕ) → is_with_shards (owner_at (start c) o).session ≡ false
nobody c zero = refl
nobody c (suc o) = refl

-- snapshots are fresh before the first step
pub fresh_start : (c : Config) → AllFresh (start c)
fresh_start c = record { each = λ o time w written x key under known h late asked. absurd (true≢false (sym (ap is_with_shards under) ∙ nobody c o)) }

-- a step that is counted leaves them so
pub fresh_ticks : (s : State) (at : Reading) → AllFresh s → AllFresh (ticks s at)
fresh_ticks s at fresh = record {
  each = λ o time w written x key under known h late asked.
      fresh.each o time w written x key under known record { txn = h.txn; under_way = h.under_way; committed = h.committed; value = h.value; writes = h.writes } late asked;
}
