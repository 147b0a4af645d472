-- Who is placed of a transaction service, and by which time.
use Rattle.std.proofs.Common.{◌≡◌, ◌⊎◌, inl, inr, ℕ, Bool, true, List, Some, None, Option, refl, ap, ◌∙◌, subst}
use Rattle.rss_names.specs.declared.service.Key.{Key}
use Rattle.pipeline_lang.specs.declared.config.Config.{Config}
use Rattle.rss_tables.specs.Lines.{Line}
use Rattle.rss_tables.specs.SnapshotSession.{SnapSession, snap_end}
use Rattle.rss_tables.specs.TransactionSession.{TxnSession, txn_end}
use Rattle.rss_tables.specs.declared.phases.SnapPhase.{SnapPhase}
use Rattle.rss_tables.specs.declared.phases.SnapPhase.TheVariants.{First, Second, Done}
use Rattle.rss_tables.specs.declared.phases.TxnPhase.{TxnPhase}
use Rattle.rss_tables.specs.declared.phases.TxnPhase.TheVariants as phase
use Rattle.rss_machine.specs.Places.{commit_of, txn_key, txn_key_of, session_key, session_time, first_time, failed_time, is_absent}
use Rattle.rss_machine.specs.State.{State, owner_at}
use Rattle.rss_machine.specs.declared.session.Session.TheVariants as session
use Rattle.rss_machine.specs.declared.state.OwnerFate.TheVariants.{Ended}
use Rattle.txn_state_laws.specs.Decided.{CommitsAt, known_commit}
use Rattle.txn_line_laws.specs.Line.{PlacedTxn, commits, fails, reads, TxnsPlaced}
use Rattle.txn_line_laws.proofs.Facts.{Facts, commit_known, commit_is}

none_end : (n : ℕ) → ◌≡◌ {A = Option ℕ} None (Some n) → ⊥
none_end n f = cc

-- a transaction's key, by what it has under way and its commit
pub txn_keyed : (s : State) (o : ℕ) (x : TxnSession) (m : Option ℕ) → (owner_at s o).session ≡ session.Transaction x → commit_of s x ≡ m → session_key s o (owner_at s o).session ≡ txn_key_of s o (is_absent m) (first_time m (failed_time x.phase))
txn_keyed s o x m e f =
    ap (session_key s o) e
    ∙ (ap (λ (t : Option ℕ). txn_key_of s o (is_absent (commit_of s x)) t) (ap (session_time s) e)
    ∙ ap (λ (n : Option ℕ). txn_key_of s o (is_absent n) (first_time n (failed_time x.phase))) f)

pub snap_keyed : (s : State) (o : ℕ) (x : SnapSession) → (owner_at s o).session ≡ session.Snapshot x → session_key s o (owner_at s o).session ≡ txn_key_of s o true (snap_end x.phase)
snap_keyed s o x e = ap (session_key s o) e ∙ ap (λ (t : Option ℕ). txn_key_of s o true t) (ap (session_time s) e)

not_failed : (p : TxnPhase) (time t : ℕ) → p ≡ phase.Failed t → CommitsAt p time → ⊥
not_failed p time t e f = subst (λ (q : TxnPhase). CommitsAt q time) e f

pub snap_done : (p : SnapPhase) (time : ℕ) → snap_end p ≡ Some time → p ≡ Done time
snap_done (Done other) time e = ap (λ (n : ℕ). Done n) (same e)
  where
    same : Some other ≡ Some time → other ≡ time
    same f = cc
snap_done (First other) time e = absurd (none_end time e)
snap_done (Second other) time e = absurd (none_end time e)

-- a transaction that has ended is committed, or its guard failed
pub txn_done : (p : TxnPhase) (time : ℕ) → txn_end p ≡ Some time → (p ≡ phase.Committed time) ⊎ (p ≡ phase.Failed time)
txn_done (phase.Committed other) time e = inl (ap (λ (n : ℕ). phase.Committed n) (same e))
  where
    same : Some other ≡ Some time → other ≡ time
    same f = cc
txn_done (phase.Failed other) time e = inr (ap (λ (n : ℕ). phase.Failed n) (same e))
  where
    same : Some other ≡ Some time → other ≡ time
    same f = cc
txn_done phase.Locking time e = absurd (none_end time e)
txn_done phase.Preparing time e = absurd (none_end time e)
txn_done (phase.Freeing other) time e = absurd (none_end time e)
txn_done (phase.FreeingLast other) time e = absurd (none_end time e)
txn_done (phase.Deciding other) time e = absurd (none_end time e)
txn_done (phase.Waiting other) time e = absurd (none_end time e)
txn_done phase.Undoing time e = absurd (none_end time e)

module _ (c : Config) (s : State) (h : Facts c s) where
  -- a transaction whose guard failed has no commit time
  pub no_commit : (o time : ℕ) (x : TxnSession) → (owner_at s o).session ≡ session.Transaction x → x.phase ≡ phase.Failed time → commit_of s x ≡ None
  no_commit o time x e p = by_commit (commit_of s x) refl
    where
      by_commit : (m : Option ℕ) → commit_of s x ≡ m → commit_of s x ≡ None
      by_commit None f = f
      by_commit (Some t) f = absurd (not_failed x.phase t time p (commit_known c s h o t x e f).at)

  keyed : (o time : ℕ) (only_reads : Bool) (keys : List Key) (lines : List Line) → PlacedTxn s o time only_reads keys lines → session_key s o (owner_at s o).session ≡ Some (txn_key s o only_reads time)
  keyed o _ _ _ _ (commits x time e f) = txn_keyed s o x (Some time) e f
  keyed o _ _ _ _ (fails x time e p) = txn_keyed s o x None e (no_commit o time x e p) ∙ ap (λ (q : TxnPhase). txn_key_of s o true (failed_time q)) p
  keyed o _ _ _ _ (reads x time e p) = snap_keyed s o x e ∙ ap (λ (q : SnapPhase). txn_key_of s o true (snap_end q)) p

  ended : (o : ℕ) (x : TxnSession) → (owner_at s o).session ≡ session.Transaction x → (owner_at s o).fate ≡ Ended → (time : ℕ) × ((commit_of s x ≡ Some time) ⊎ (x.phase ≡ phase.Failed time))
  ended o x e f = let t = h.dated.ended o x e f in (t.0, by_phase t.0 (txn_done x.phase t.0 t.1))
    where
      by_phase : (time : ℕ) → (x.phase ≡ phase.Committed time) ⊎ (x.phase ≡ phase.Failed time) → (commit_of s x ≡ Some time) ⊎ (x.phase ≡ phase.Failed time)
      by_phase time (inl p) = inl (commit_is c s h o time x e (h.decided.known o time x e (ap known_commit p)))
      by_phase time (inr p) = inr p

  pub txns_placed : TxnsPlaced s
  txns_placed = record {
    keyed = keyed;
    ended = ended;
    snap_ended = λ o x e f. let t = h.dated.snap_ended o x e f in (t.0, snap_done x.phase t.0 t.1);
  }
