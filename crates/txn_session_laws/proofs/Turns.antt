-- A transaction goes on with each turn.
use Rattle.std.proofs.Common.{◌≡◌, ◌⊎◌, inl, inr, ℕ, ◌<◌, ◌+◌, true, List, [], ◌∷◌, length, map, refl, sym, ap, ◌∙◌, subst, arith}
use Rattle.std.specs.Prelude.{if◌then◌else◌}
use Rattle.std.proofs.lemmas.Bool.{cond_both}
use Rattle.truetime.specs.Reading.{Reading}
use Rattle.rss_wire.specs.declared.messages.Outcome.TheVariants as outcomes
use Rattle.rss_wire.specs.declared.messages.Reply.{Reply}
use Rattle.rss_wire.specs.declared.messages.Reply.TheVariants as reply
use Rattle.rss_tables.specs.Lines.{Line, with_line, in_state, all_awaiting, only_awaiting, coordinator_of, is_answered}
use Rattle.rss_tables.specs.Turns.{Turn}
use Rattle.rss_tables.specs.TransactionSession.{TxnSession, leads, goes_to_free, txn_wakes, txn_passes}
use Rattle.rss_tables.specs.declared.lines.LineState.{LineState}
use Rattle.rss_tables.specs.declared.lines.LineState.TheVariants.{Awaiting, Answered}
use Rattle.rss_tables.specs.declared.phases.TxnPhase.{TxnPhase}
use Rattle.rss_tables.specs.declared.phases.TxnPhase.TheVariants as phase
use Rattle.session_laws.specs.Cases.{answered, shown_line, timed_line, TxnTurn, granted, prepares, frees, prepared, decides, released, frees_last, fails, wounded, commits, waits, aborts, undone, blocked, resolves, sleeps, asks}
use Rattle.session_laws.specs.Frames.{nth_line, IsLine, AreApartShards, SameTxn}
use Rattle.session_laws.proofs.LineLaws.{length_with_line}
use Rattle.txn_state_laws.specs.Justified.{may_be_prepared, may_be_committed}
use Rattle.txn_state_laws.specs.Onward.{TxnOnward}
use Rattle.txn_state_laws.specs.Told.{has_granted}
use Rattle.txn_session_laws.proofs.Alike.{ShowAlike, TimesAlike, with_line_nth, show_with_line, times_with_line, show_later, times_later, show_mapped, times_mapped, show_itself, times_itself}
use Rattle.txn_session_laws.proofs.Phases.{PhaseOnward, attempt_onward, same_phase, from_locking, from_preparing, from_freeing, from_last, to_committed, to_waiting, from_waiting, from_wounded, wounded_not_committed}
use Rattle.txn_session_laws.proofs.Never.{no}

-- how lines change all at once
pub show_only : (shard : ℕ) (lines : List Line) → ShowAlike (only_awaiting shard lines) lines
show_only shard lines = show_mapped _ lines (λ l. refl)

pub times_only : (shard : ℕ) (lines : List Line) → TimesAlike (only_awaiting shard lines) lines
times_only shard lines = times_mapped _ lines (λ l. refl)

pub show_all : (lines : List Line) → ShowAlike (all_awaiting lines) lines
show_all lines = show_mapped _ lines (λ l. refl)

pub show_others : (t : TxnSession) (lines : List Line) → ShowAlike (map (λ (m : Line). if leads t m then m else in_state m Awaiting) lines) lines
show_others t lines = show_mapped _ lines (λ l. cond_both (leads t l) l (in_state l Awaiting) (λ (m : Line). m.shown ≡ l.shown) (λ e. refl) (λ e. refl))

-- a phase in which nothing is prepared or committed
locking_unprepared : (p : TxnPhase) → p ≡ phase.Locking → may_be_prepared p ≡ true → ⊥
locking_unprepared p e m = no (ap may_be_prepared (sym e) ∙ m)

locking_uncommitted : (p : TxnPhase) → p ≡ phase.Locking → may_be_committed p ≡ true → ⊥
locking_uncommitted p e m = no (ap may_be_committed (sym e) ∙ m)

preparing_uncommitted : (p : TxnPhase) → p ≡ phase.Preparing → may_be_committed p ≡ true → ⊥
preparing_uncommitted p e m = no (ap may_be_committed (sym e) ∙ m)

-- the attempt stays, and all lines show the same and keep their times
alike_onward : (x y : TxnSession) → SameTxn x y → y.k ≡ x.k → y.earliest_end ≡ x.earliest_end → PhaseOnward x.phase y.phase → ShowAlike y.lines x.lines → (may_be_committed x.phase ≡ true → TimesAlike y.lines x.lines) → TxnOnward x y
alike_onward x y s k e p shows times = attempt_onward x y record {
  same = s;
  k = k;
  phases = p;
  ends = λ m. e;
  prepared = λ m. shows;
  shown = λ i h g. inr (shows.shown i h);
  times = times;
}

-- a transaction that locks: what its lines that were granted their locks show stays
locking_onward : (x y : TxnSession) → SameTxn x y → y.k ≡ x.k → x.phase ≡ phase.Locking → ((i : ℕ) → i < length x.lines → is_answered (nth_line x.lines i).state ≡ true → (nth_line y.lines i).shown ≡ (nth_line x.lines i).shown) → TxnOnward x y
locking_onward x y s k p shows = attempt_onward x y record {
  same = s;
  k = k;
  phases = from_locking x.phase y.phase p;
  ends = λ m. absurd (locking_unprepared x.phase p m);
  prepared = λ m. absurd (locking_unprepared x.phase p m);
  shown = λ i h g. inr (shows i h (ap (λ (q : TxnPhase). has_granted q (nth_line x.lines i).state) (sym p) ∙ g));
  times = λ m. absurd (locking_uncommitted x.phase p m);
}

module _ (t : TxnSession) (l : Line) (i : IsLine t.lines l) (apart : AreApartShards t.lines) where
  -- a line that awaits is shown something; the others show what they showed
  shown_stays : (new : Line) → new.shard ≡ l.shard → l.state ≡ Awaiting → (u : List Line) → ShowAlike u (with_line t.lines new) → (j : ℕ) → j < length t.lines → is_answered (nth_line t.lines j).state ≡ true → (nth_line u j).shown ≡ (nth_line t.lines j).shown
  shown_stays new e s u more j h a = more.shown j (subst (λ (n : ℕ). j < n) (sym (length_with_line t.lines new)) h) ∙ by_place (with_line_nth t.lines l new i apart e j h)
    where
      by_place : ((nth_line (with_line t.lines new) j ≡ new) × (nth_line t.lines j ≡ l)) ⊎ ((nth_line (with_line t.lines new) j ≡ nth_line t.lines j) × ((nth_line t.lines j).shard ≡ l.shard → ⊥)) → (nth_line (with_line t.lines new) j).shown ≡ (nth_line t.lines j).shown
      by_place (inl g) = no (ap is_answered (sym s) ∙ ap (λ (m : Line). is_answered m.state) (sym g.1) ∙ a)
      by_place (inr g) = ap (λ (m : Line). m.shown) g.0

  -- only the state of the line changes
  pub state_onward : (state : LineState) → SameTxn t (record t { lines = with_line t.lines (in_state l state) }) → TxnOnward t (record t { lines = with_line t.lines (in_state l state) })
  state_onward state s = alike_onward t (record t { lines = with_line t.lines (in_state l state) }) s refl refl (same_phase t.phase)
      (show_with_line t.lines l (in_state l state) i apart refl refl) (λ m. times_with_line t.lines l (in_state l state) i apart refl refl)

  frees_onward : (u : TxnSession) → u.k ≡ t.k → t.phase ≡ phase.Locking → l.state ≡ Awaiting → (new : Line) → new.shard ≡ l.shard → u.lines ≡ with_line t.lines new → (time : ℕ) (others : List Line) → SameTxn t (goes_to_free u time others).after → TxnOnward t (goes_to_free u time others).after
  frees_onward u k p s new e r time [] same = locking_onward t (goes_to_free u time []).after same k p (shown_stays new e s (only_awaiting (coordinator_of u.lines) u.lines) (rw r (show_only (coordinator_of (with_line t.lines new)) (with_line t.lines new))))
  frees_onward u k p s new e r time (m ∷ others) same = locking_onward t (goes_to_free u time (m ∷ others)).after same k p (shown_stays new e s (goes_to_free u time (m ∷ others)).after.lines (subst (λ (lines : List Line). ShowAlike (goes_to_free u time (m ∷ others)).after.lines lines) r (show_others u u.lines)))

  -- whatever the line hears
  pub turn_onward : (at : Reading) (r : Reply) (turn : Turn TxnSession) → ((time : ℕ) → t.phase ≡ phase.Undoing → r ≡ reply.Decided (outcomes.Committed time) → ⊥) → TxnTurn t l at r turn → SameTxn t turn.after → TxnOnward t turn.after
  turn_onward at _ _ never (granted shown p s e) same = locking_onward t _ same refl p (shown_stays (in_state (shown_line l shown) Answered) refl s _ (show_itself _))
  turn_onward at _ _ never (prepares shown p s e g) same = locking_onward t _ same refl p (shown_stays (in_state (shown_line l shown) Answered) refl s _ (show_all _))
  turn_onward at _ _ never (frees shown p s e g) same = frees_onward (answered t (shown_line l shown)) refl p s (in_state (shown_line l shown) Answered) refl refl _ _ same
  turn_onward at _ _ never (prepared time p s e) same = alike_onward t _ same refl refl (same_phase t.phase) (show_with_line t.lines l (in_state (timed_line l time) Answered) i apart refl refl) (λ m. absurd (preparing_uncommitted t.phase p m))
  turn_onward at _ _ never (decides time p s e) same = alike_onward t _ same refl refl (from_preparing t.phase _ p)
      (show_later _ (with_line t.lines (in_state (timed_line l time) Answered)) t.lines (show_only _ _) (show_with_line t.lines l (in_state (timed_line l time) Answered) i apart refl refl)) (λ m. absurd (preparing_uncommitted t.phase p m))
  turn_onward at _ _ never (released time p s e) same = state_onward Answered same
  turn_onward at _ _ never (frees_last time p s e) same = alike_onward t _ same refl refl (from_freeing t.phase time p)
      (show_later _ (with_line t.lines (in_state l Answered)) t.lines (show_only _ _) (show_with_line t.lines l (in_state l Answered) i apart refl refl))
      (λ m. times_later _ (with_line t.lines (in_state l Answered)) t.lines (times_only _ _) (times_with_line t.lines l (in_state l Answered) i apart refl refl))
  turn_onward at _ _ never (fails time p s) same = alike_onward t _ same refl refl (from_last t.phase time p)
      (show_with_line t.lines l (in_state l Answered) i apart refl refl) (λ m. times_with_line t.lines l (in_state l Answered) i apart refl refl)
  turn_onward at _ _ never (wounded p s) same = alike_onward t _ same refl refl (from_wounded t.phase p) (show_only _ _) (λ m. absurd (wounded_not_committed t.phase p m))
  turn_onward at _ _ never (commits d time p s e) same = alike_onward t _ same refl refl (to_committed t.phase d time p) (show_itself t.lines) (λ m. times_itself t.lines)
  turn_onward at _ _ never (waits d time p s e) same = alike_onward t _ same refl refl (to_waiting t.phase d time p) (show_itself t.lines) (λ m. times_itself t.lines)
  turn_onward at _ _ never (aborts p s) same = record { same = same; later = inr (refl, refl); attempt = λ e. absurd (let a : t.k + 1 ≡ t.k = e in omega (arith, a)) }
  turn_onward at _ _ never (undone time p s) same = absurd (never time p refl)
  turn_onward at _ _ never (blocked holder holders p s) same = state_onward _ same
  turn_onward at _ _ never (resolves holder outcome s) same = state_onward _ same
  turn_onward at _ _ never (sleeps holder s) same = state_onward _ same
  turn_onward at _ _ never (asks holder outcome s) same = state_onward _ same

  pub wake_onward : SameTxn t (txn_wakes t l).after → TxnOnward t (txn_wakes t l).after
  wake_onward same = state_onward _ same

pub same_onward : (t : TxnSession) → SameTxn t t → TxnOnward t t
same_onward t same = alike_onward t t same refl refl (same_phase t.phase) (show_itself t.lines) (λ m. times_itself t.lines)

-- the time of a commit passes
pub pass_onward : (t : TxnSession) → SameTxn t (txn_passes t t.phase).after → TxnOnward t (txn_passes t t.phase).after
pass_onward t = by_phase t.phase refl
  where
    by_phase : (p : TxnPhase) → t.phase ≡ p → SameTxn t (txn_passes t p).after → TxnOnward t (txn_passes t p).after
    by_phase (phase.Waiting time) e same = alike_onward t (record t { phase = phase.Committed time }) same refl refl (from_waiting t.phase time e) (show_itself t.lines) (λ m. times_itself t.lines)
    by_phase phase.Locking e same = same_onward t same
    by_phase phase.Preparing e same = same_onward t same
    by_phase (phase.Freeing time) e same = same_onward t same
    by_phase (phase.FreeingLast time) e same = same_onward t same
    by_phase (phase.Deciding time) e same = same_onward t same
    by_phase phase.Undoing e same = same_onward t same
    by_phase (phase.Committed time) e same = same_onward t same
    by_phase (phase.Failed time) e same = same_onward t same
