-- The times of transactions and snapshots behind each turn.
use Rattle.std.proofs.Common.{◌≡◌, ℕ, ◌<◌, ◌≤◌, Bool, true, false, List, [], ◌∷◌, Option, Some, None, refl, sym, ap, ◌∙◌, subst, arith}
use Rattle.std.specs.Prelude.{nat_lt, max}
use Rattle.std.specs.List.{filter}
use Rattle.std.proofs.lemmas.Bool.{cond_both, ltb-true, true≢false}
use Rattle.truetime.specs.Reading.{Reading}
use Rattle.rss_wire.specs.declared.messages.Outcome.TheVariants.{Committed}
use Rattle.rss_wire.specs.declared.messages.Reply.{Reply}
use Rattle.rss_tables.specs.Lines.{Line}
use Rattle.rss_tables.specs.SnapshotSession.{SnapSession, must_ask_again, second_round, snapshot_time}
use Rattle.rss_tables.specs.Turns.{Turn, quiet}
use Rattle.rss_tables.specs.TransactionSession.{TxnSession, goes_to_free, failing_time, is_committed, is_decided, txn_end, txn_passes, wait_of, waiting_time}
use Rattle.rss_tables.specs.declared.phases.SnapPhase.{SnapPhase}
use Rattle.rss_tables.specs.declared.phases.SnapPhase.TheVariants.{First, Second, Done}
use Rattle.rss_tables.specs.declared.phases.TxnPhase.{TxnPhase}
use Rattle.rss_tables.specs.declared.phases.TxnPhase.TheVariants as phase
use Rattle.session_laws.specs.Cases as case
use Rattle.session_laws.specs.Cases.{TxnTurn, answered, shown_line}
use Rattle.session_laws.specs.SnapCases as snap_case
use Rattle.session_laws.specs.SnapCases.{SnapTurn, snap_answered, told_line}
use Rattle.txn_state_laws.specs.Told.{freeing_time}

-- the times of a transaction that began at this moment, against it and the begin of the reading
pub record TxnTimes (at : Reading) (begun : ℕ) (y : TxnSession) : Type 0 where
  pub freeing : (time : ℕ) → freeing_time y.phase ≡ Some time → begun ≤ time
  pub committed : (time : ℕ) → y.phase ≡ phase.Committed time → (time < at.earliest) × (y.earliest_end < at.earliest)

-- the read time of a snapshot that began at this moment
pub record SnapTimes (begun : ℕ) (y : SnapSession) : Type 0 where
  pub reading : (time : ℕ) → y.phase ≡ First time → begun ≤ time

some_same : (a b : ℕ) → ◌≡◌ {A = Option ℕ} (Some a) (Some b) → a ≡ b
some_same a b e = cc

none_some : {A : Type 0} (b : ℕ) → ◌≡◌ {A = Option ℕ} None (Some b) → A
none_some b e = absurd cc

committed_same : (a b : ℕ) → ◌≡◌ {A = TxnPhase} (phase.Committed a) (phase.Committed b) → a ≡ b
committed_same a b e = cc

module _ (at : Reading) (begun : ℕ) where
  -- a phase with neither a time for locks that are given back nor an end
  plain_times : (y : TxnSession) → freeing_time y.phase ≡ None → txn_end y.phase ≡ None → TxnTimes at begun y
  plain_times y e f = record { freeing = λ time g. none_some time (sym e ∙ g); committed = λ time g. none_some time (sym f ∙ ap txn_end g) }

  -- a phase with such a time
  free_times : (y : TxnSession) (time : ℕ) → freeing_time y.phase ≡ Some time → begun ≤ time → TxnTimes at begun y
  free_times y time e l = record {
    freeing = λ other g. subst (λ (n : ℕ). begun ≤ n) (some_same time other (sym e ∙ g)) l;
    committed = λ other g. none_some time (sym (ap freeing_time g) ∙ e);
  }

  -- the commit, once its time has passed
  commit_times : (y : TxnSession) (time : ℕ) → y.phase ≡ phase.Committed time → nat_lt (max time y.earliest_end) at.earliest ≡ true → TxnTimes at begun y
  commit_times y time e l = record {
    freeing = λ other g. none_some other (sym (ap freeing_time e) ∙ g);
    committed = λ other g. let q : max time y.earliest_end < at.earliest = ltb-true (max time y.earliest_end) at.earliest l in let i : time ≡ other = committed_same time other (sym e ∙ g) in (omega (arith, q, i), omega (arith, q));
  }

  module _ (x : TxnSession) (was : (time : ℕ) → freeing_time x.phase ≡ Some time → begun ≤ time) (unended : (time : ℕ) → x.phase ≡ phase.Committed time → ⊥) where
    -- the phase stays
    pub phase_times : (y : TxnSession) → y.phase ≡ x.phase → TxnTimes at begun y
    phase_times y e = record { freeing = λ time g. was time (ap freeing_time (sym e) ∙ g); committed = λ time g. absurd (unended time (sym e ∙ g)) }

    -- the guard fails
    fail_times : (u : TxnSession) (time : ℕ) (lines : List Line) → begun ≤ time → TxnTimes at begun (goes_to_free u time lines).after
    fail_times u time [] l = free_times (goes_to_free u time []).after time refl l
    fail_times u time (m ∷ lines) l = free_times (goes_to_free u time (m ∷ lines)).after time refl l

    -- a commit that comes
    decided_times : (time : ℕ) → TxnTimes at begun (is_decided x at (Committed time)).after
    decided_times time = cond_both (nat_lt (wait_of x time) at.earliest) (is_committed x time) (quiet (record x { phase = phase.Waiting time })) (λ (turn : Turn TxnSession). TxnTimes at begun turn.after)
        (λ e. commit_times (is_committed x time).after time refl e)
        (λ e. plain_times (record x { phase = phase.Waiting time }) refl refl)

    -- each case of a reply
    pub turn_times : begun ≤ at.latest → (l : Line) (r : Reply) (turn : Turn TxnSession) → TxnTurn x l at r turn → TxnTimes at begun turn.after
    turn_times h l _ _ (case.granted shown p s f) = phase_times _ refl
    turn_times h l _ _ (case.prepares shown p s f g) = plain_times _ refl refl
    turn_times h l _ _ (case.frees shown p s f g) = fail_times (answered x (shown_line l shown)) (failing_time (answered x (shown_line l shown)) at) _ (omega (arith, h))
    turn_times h l _ _ (case.prepared time p s f) = phase_times _ refl
    turn_times h l _ _ (case.decides time p s f) = plain_times _ refl refl
    turn_times h l _ _ (case.released time p s f) = phase_times _ refl
    turn_times h l _ _ (case.frees_last time p s f) = free_times _ time refl (was time (ap freeing_time p))
    turn_times h l _ _ (case.fails time p s) = free_times _ time refl (was time (ap freeing_time p))
    turn_times h l _ _ (case.wounded p s) = plain_times _ refl refl
    turn_times h l _ _ (case.commits d time p s e) = commit_times (is_committed x time).after time refl e
    turn_times h l _ _ (case.waits d time p s e) = plain_times _ refl refl
    turn_times h l _ _ (case.aborts p s) = plain_times _ refl refl
    turn_times h l _ _ (case.undone time p s) = decided_times time
    turn_times h l _ _ (case.blocked holder holders p s) = phase_times _ refl
    turn_times h l _ _ (case.resolves holder outcome s) = phase_times _ refl
    turn_times h l _ _ (case.sleeps holder s) = phase_times _ refl
    turn_times h l _ _ (case.asks holder outcome s) = phase_times _ refl

    -- the time that it waited for has passed
    pub pass_times : (p : TxnPhase) (time : ℕ) → waiting_time x p ≡ Some time → nat_lt time at.earliest ≡ true → TxnTimes at begun (txn_passes x p).after
    pass_times (phase.Waiting d) time e f = commit_times (is_committed x d).after d refl (ap (λ (n : ℕ). nat_lt n at.earliest) (some_same (wait_of x d) time e) ∙ f)
    pass_times phase.Locking time e f = none_some time e
    pass_times phase.Preparing time e f = none_some time e
    pass_times (phase.Freeing d) time e f = none_some time e
    pass_times (phase.FreeingLast d) time e f = none_some time e
    pass_times (phase.Deciding d) time e f = none_some time e
    pass_times phase.Undoing time e f = none_some time e
    pass_times (phase.Committed d) time e f = none_some time e
    pass_times (phase.Failed d) time e f = none_some time e

-- whether a snapshot is in its first round
abbrev is_first : SnapPhase → Bool
is_first (First time) = true
is_first (Second time) = false
is_first (Done time) = false

-- past its first round a snapshot has no read time
later_time : {A : Type 0} (p : SnapPhase) (later : is_first p ≡ false) (time : ℕ) → p ≡ First time → A
later_time p later time e = absurd (true≢false (sym (ap is_first e) ∙ later))

module _ (begun : ℕ) (x : SnapSession) (was : (time : ℕ) → x.phase ≡ First time → begun ≤ time) where
  -- the phase stays
  pub read_times : (y : SnapSession) → y.phase ≡ x.phase → SnapTimes begun y
  read_times y e = record { reading = λ time g. was time (sym e ∙ g) }

  -- or it is a later one
  later_times : (y : SnapSession) → is_first y.phase ≡ false → SnapTimes begun y
  later_times y e = record { reading = λ time g. later_time y.phase e time g }

  round_times : (u : SnapSession) (time : ℕ) (lines : List Line) → SnapTimes begun (second_round u time lines).after
  round_times u time [] = later_times (second_round u time []).after refl
  round_times u time (l ∷ lines) = later_times (second_round u time (l ∷ lines)).after refl

  -- each case of a reply
  pub snap_turn_times : (l : Line) (r : Reply) (turn : Turn SnapSession) → SnapTurn x l r turn → SnapTimes begun turn.after
  snap_turn_times l _ _ (snap_case.shown versions skipped s f) = read_times _ refl
  snap_turn_times l _ _ (snap_case.first_done read_time versions skipped p s f) =
      let u = snap_answered x (told_line l versions skipped) in round_times u (snapshot_time u) (filter (must_ask_again (snapshot_time u)) u.lines)
  snap_turn_times l _ _ (snap_case.second_done time versions skipped p s f) = later_times _ refl
  snap_turn_times l _ _ (snap_case.blocked holder holders s) = read_times _ refl
  snap_turn_times l _ _ (snap_case.resolves holder outcome s) = read_times _ refl
  snap_turn_times l _ _ (snap_case.sleeps holder s) = read_times _ refl
  snap_turn_times l _ _ (snap_case.asks holder outcome s) = read_times _ refl
