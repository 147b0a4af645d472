-- Each version stays what a committed transaction wrote, and each new one is.
use Rattle.std.proofs.Common.{◌≡◌, ◌⊎◌, inl, inr, ℕ, ◌+◌, ◌-◌, ◌<◌, ◌≤◌, true, List, length, Some, refl, sym, ap, ◌∙◌, subst, arith}
use Rattle.truetime.specs.Reading.{Reading}
use Rattle.rss_names.specs.declared.attempt.Attempt.{Attempt}
use Rattle.rss_names.specs.declared.service.Key.{Key}
use Rattle.pipeline_lang.specs.declared.config.Config.{Config}
use Rattle.rss_wire.specs.Messages.{message_at}
use Rattle.rss_wire.specs.declared.messages.Outcome.TheVariants.{Committed}
use Rattle.rss_wire.specs.declared.messages.Request.{Request}
use Rattle.rss_wire.specs.declared.messages.Request.TheVariants.{Commit}
use Rattle.rss_wire.specs.declared.messages.Version.{Version}
use Rattle.rss_tables.specs.Lines.{coordinator_of}
use Rattle.rss_tables.specs.Locks.{has_key}
use Rattle.rss_tables.specs.Prepared.{PreparedWriter, prepared_of}
use Rattle.rss_tables.specs.ShardRow.{Shard as ShardState, decision_in, shard_after}
use Rattle.rss_tables.specs.TransactionSession.{TxnSession, attempt_of, computed}
use Rattle.rss_tables.specs.Versions.{versions_of}
use Rattle.rss_tables.specs.declared.phases.TxnPhase.TheVariants as phase
use Rattle.rss_tables.proofs.ShardLaws.{first-decision}
use Rattle.rss_machine.specs.Moves.{serves_shard}
use Rattle.rss_machine.specs.State.{State, owner_at, shard_at}
use Rattle.shard_laws.specs.Closed.{EachOf}
use Rattle.shard_laws.specs.Committed.{written_value}
use Rattle.shard_laws.proofs.Rising.{each_more}
use Rattle.shard_laws.proofs.Wrote.{versions_from, some_value}
use Rattle.session_laws.proofs.Shown.{written_on}
use Rattle.shard_event_laws.specs.Events.{WasAsked}
use Rattle.txn_state_laws.specs.Closed.{WasWritten}
use Rattle.txn_state_laws.specs.Decided.{CommitsAt, DecidedIs, AllDecided}
use Rattle.txn_state_laws.specs.Framed.{AllFramed}
use Rattle.txn_state_laws.specs.Justified.{IsJust, AllJust, Kept, PreparesNow, may_be_prepared}
use Rattle.txn_state_laws.specs.Onward.{AllOnward, TxnGoesOn}
use Rattle.txn_state_laws.specs.Orderly.{AllOrderly, PreparedIs}
use Rattle.txn_state_laws.proofs.Commits.{commits_prepared}
use Rattle.txn_state_laws.proofs.Grows.{txn_is, one_txn, attempt_is, coordinator_same, coordinator_first}
use Rattle.txn_state_laws.proofs.Replies.{Quiet}
use Rattle.txn_state_laws.proofs.Serves.{quiet_shard, served_at, served_keeps, same_place}

-- each version is what a committed transaction wrote
abbrev pub WrittenAt : State → Type 0
WrittenAt s = (shard : ℕ) (key : Key) → 1 ≤ shard → EachOf (WasWritten s key) (versions_of (shard_at s shard).store key)

-- WHERE SHARDS STAY

module _ (c : Config) (s t : State) (stay : Quiet s t) (onward : AllOnward s t) (framed : AllFramed c s) (decided : AllDecided s) (decided_after : AllDecided t) where
  -- a committed attempt stays the present one, and has computed what it had
  written_goes : (key : Key) (v : Version) → WasWritten s key v → WasWritten t key v
  written_goes key v e = by_session (onward.txn v.writer e.txn e.under_way)
    where
      x : TxnSession
      x = e.txn

      call : x.call ≡ v.writer
      call = (framed.txn v.writer x e.under_way).call

      first : 1 ≤ coordinator_of x.lines
      first = coordinator_first c x.lines (framed.txn v.writer x e.under_way).lines

      -- it was prepared
      decision : DecidedIs s (coordinator_of x.lines) (attempt_of x) (Committed v.time)
      decision = decided.at (coordinator_of x.lines) (attempt_of x) (Committed v.time) first e.committed

      same : decision.txn ≡ x
      same = txn_is decision.txn x (sym decision.of.under_way ∙ ap (λ (o : ℕ). (owner_at s o).session) call ∙ e.under_way)

      prepared : may_be_prepared x.phase ≡ true
      prepared = commits_prepared x.phase v.time (subst (λ (z : TxnSession). CommitsAt z.phase v.time) same (decision.committed v.time refl).1)

      by_session : TxnGoesOn x (owner_at t v.writer).session → WasWritten t key v
      by_session g = by_number g.onward.later
        where
          kept : decision_in (shard_at t (coordinator_of x.lines)).decisions (attempt_of x) ≡ Some (Committed v.time)
          kept = ap (λ (sh : ShardState). decision_in sh.decisions (attempt_of x)) (quiet_shard s t stay (coordinator_of x.lines)) ∙ e.committed

          -- what is committed is the present attempt still
          not_anew : g.txn.k ≡ x.k + 1 → ⊥
          not_anew k =
              let d = decided_after.at (coordinator_of x.lines) (attempt_of x) (Committed v.time) first kept in
              let now = txn_is d.txn g.txn (sym d.of.under_way ∙ ap (λ (o : ℕ). (owner_at t o).session) call ∙ g.under_way) in
              let present : x.k ≡ g.txn.k = subst (λ (z : TxnSession). x.k ≡ z.k) now (d.committed v.time refl).0 in
              omega (arith, k, present)

          by_number : (g.txn.k ≡ x.k) ⊎ ((g.txn.k ≡ x.k + 1) × (g.txn.phase ≡ phase.Locking)) → WasWritten t key v
          by_number (inl k) =
              let attempt : attempt_of g.txn ≡ attempt_of x = attempt_is g.txn (attempt_of x) g.onward.same.call (sym k) in
              record {
                txn = g.txn;
                under_way = g.under_way;
                committed = ap (λ (n : ℕ). decision_in (shard_at t n).decisions (attempt_of g.txn)) (coordinator_same g.txn.lines x.lines g.onward.same.frames)
                    ∙ ap (decision_in (shard_at t (coordinator_of x.lines)).decisions) attempt ∙ kept;
                writes = ap (λ (writes : List (Key × ℕ)). written_value writes key) ((g.onward.attempt k).prepared prepared).2 ∙ e.writes;
              }
          by_number (inr k) = absurd (not_anew k.0)

  -- so each version stays one that was written
  pub written_grows : WrittenAt s → WrittenAt t
  written_grows h n key i = subst (λ (sh : ShardState). EachOf (WasWritten t key) (versions_of sh.store key)) (sym (quiet_shard s t stay n))
      (each_more (WasWritten s key) (WasWritten t key) (written_goes key) (versions_of (shard_at s n).store key) (h n key i))

-- WHERE A SHARD SERVES

module _ (c : Config) (at : Reading) (s : State) (m shard : ℕ) (q : Request) (framed : AllFramed c s) (just : AllJust s) (decided : AllDecided s) (orderly : AllOrderly c s) (asked : WasAsked s m shard q) where
  -- decisions stay
  decision_stays : (n : ℕ) (a : Attempt) (time : ℕ) → decision_in (shard_at s n).decisions a ≡ Some (Committed time) → decision_in (shard_at (serves_shard s m shard at.latest q) n).decisions a ≡ Some (Committed time)
  decision_stays n a time = served_keeps (λ (sh : ShardState). decision_in sh.decisions a ≡ Some (Committed time)) s m shard at.latest q n (first-decision (shard_at s shard) at.latest q a (Committed time))

  -- what was written stays so
  written_stays : (key : Key) (v : Version) → WasWritten s key v → WasWritten (serves_shard s m shard at.latest q) key v
  written_stays key v e = record {
    txn = e.txn;
    under_way = e.under_way;
    committed = decision_stays (coordinator_of e.txn.lines) (attempt_of e.txn) v.time e.committed;
    writes = e.writes;
  }

  -- a commit writes what its transaction has computed
  commit_written : (n : ℕ) (key : Key) → 1 ≤ n → n - 1 ≡ shard - 1 → (p : PreparedWriter) (time value : ℕ) → q ≡ Commit p.attempt time → prepared_of (shard_at s shard).prepared p.attempt ≡ Some p → written_value p.writes key ≡ Some value
      → WasWritten (serves_shard s m shard at.latest q) key record { value = value; time = time; writer = p.attempt.call }
  commit_written n key i place p time value e f g = record {
    txn = x;
    under_way = keeps.of.under_way;
    committed = decision_stays (coordinator_of x.lines) (attempt_of x) time (ap (decision_in (shard_at s (coordinator_of x.lines)).decisions) attempt ∙ keeps.kept);
    writes = sym (ap (λ (z : TxnSession). written_value (computed z) key) same_entry) ∙ sym (written_on entry.line (computed entry.txn) key has) ∙ ap (λ (writes : List (Key × ℕ)). written_value writes key) (sym now.writes_are) ∙ g;
  }
    where
      keeps : Kept s p.attempt (Committed time)
      keeps = subst (IsJust s (message_at s.net m).envelope.owner shard) e (just.each m shard q asked)

      x : TxnSession
      x = keeps.txn

      decision : DecidedIs s (coordinator_of x.lines) p.attempt (Committed time)
      decision = decided.at (coordinator_of x.lines) p.attempt (Committed time) (coordinator_first c x.lines (framed.txn p.attempt.call x keeps.of.under_way).lines) keeps.kept

      present : p.attempt.k ≡ x.k
      present = subst (λ (z : TxnSession). p.attempt.k ≡ z.k) (one_txn s p.attempt decision.txn x decision.of keeps.of) (decision.committed time refl).0

      attempt : attempt_of x ≡ p.attempt
      attempt = attempt_is x p.attempt (framed.txn p.attempt.call x keeps.of.under_way).call present

      entry : PreparedIs s n p.attempt p
      entry = orderly.prepared n p.attempt p i (ap (λ (sh : ShardState). prepared_of sh.prepared p.attempt) (same_place s n shard place) ∙ f)

      same_entry : entry.txn ≡ x
      same_entry = one_txn s p.attempt entry.txn x entry.of keeps.of

      now : PreparesNow entry.txn entry.line p.earliest_end p.writes
      now = entry.now (present ∙ ap (λ (z : TxnSession). z.k) (sym same_entry))

      has : has_key entry.line.writes key ≡ true
      has = entry.fits key (some_value p.writes key value g)

  -- and each version is
  pub written_serves : WrittenAt s → WrittenAt (serves_shard s m shard at.latest q)
  written_serves h n key i = by_place (served_at s m shard at.latest q n)
    where
      before : EachOf (WasWritten (serves_shard s m shard at.latest q) key) (versions_of (shard_at s n).store key)
      before = each_more (WasWritten s key) (WasWritten (serves_shard s m shard at.latest q) key) (written_stays key) (versions_of (shard_at s n).store key) (h n key i)

      by_place : ((shard_at (serves_shard s m shard at.latest q) n ≡ shard_after (shard_at s shard) at.latest q) × (n - 1 ≡ shard - 1) × (shard - 1 < length s.shards)) ⊎ (shard_at (serves_shard s m shard at.latest q) n ≡ shard_at s n) → EachOf (WasWritten (serves_shard s m shard at.latest q) key) (versions_of (shard_at (serves_shard s m shard at.latest q) n).store key)
      by_place (inl e) = subst (λ (sh : ShardState). EachOf (WasWritten (serves_shard s m shard at.latest q) key) (versions_of sh.store key)) (sym e.0)
          (versions_from (shard_at s shard) at.latest q (orderly.orderly shard) (WasWritten (serves_shard s m shard at.latest q) key) key
          (subst (λ (sh : ShardState). EachOf (WasWritten (serves_shard s m shard at.latest q) key) (versions_of sh.store key)) (same_place s n shard e.1) before)
          (commit_written n key i e.1))
      by_place (inr e) = subst (λ (sh : ShardState). EachOf (WasWritten (serves_shard s m shard at.latest q) key) (versions_of sh.store key)) (sym e) before
