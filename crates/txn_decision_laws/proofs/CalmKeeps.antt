-- Behind the phase of locks no line of a transaction has anybody in its way: so it stays through every event.
use Rattle.std.proofs.Common.{◌≡◌, ◌⊎◌, inl, inr, ℕ, suc, ◌<◌, ◌≤◌, Bool, true, false, List, [], ◌∷◌, map, length, Some, refl, sym, ap, ◌∙◌, subst, arith}
use Rattle.std.specs.Prelude.{nat_lt, if◌then◌else◌}
use Rattle.std.proofs.lemmas.Bool.{true≢false, cond_both}
use Rattle.truetime.specs.Reading.{Reading}
use Rattle.pipeline_lang.specs.declared.config.Config.{Config}
use Rattle.rss_wire.specs.declared.messages.Outcome.TheVariants.{Committed}
use Rattle.rss_wire.specs.declared.messages.Reply.{Reply}
use Rattle.rss_tables.specs.Lines.{Line, with_line, in_state, all_awaiting, only_awaiting, all_answered, is_answered, coordinator_of, woken_state}
use Rattle.rss_tables.specs.TransactionSession.{TxnSession, leads, goes_to_free, is_decided, is_committed, wait_of, txn_wakes, txn_passes}
use Rattle.rss_tables.specs.Turns.{Turn, quiet}
use Rattle.rss_tables.specs.declared.lines.LineState.{LineState}
use Rattle.rss_tables.specs.declared.lines.LineState.TheVariants.{Awaiting, Answered, Inquiring, Resolving, Asleep, Dropped}
use Rattle.rss_tables.specs.declared.phases.TxnPhase.{TxnPhase}
use Rattle.rss_tables.specs.declared.phases.TxnPhase.TheVariants as phase
use Rattle.rss_machine.specs.Effect.{waking_line}
use Rattle.rss_machine.specs.Enabling.{can_wake}
use Rattle.rss_machine.specs.State.{State, owner_at}
use Rattle.rss_machine.specs.declared.session.Session.TheVariants as session
use Rattle.world_laws.proofs.Looks.{some_is, none_is_not}
use Rattle.session_laws.specs.Cases.{answered, shown_line, timed_line, other_lines, TxnTurn, granted, prepares, frees, prepared, decides, released, frees_last, fails, wounded, commits, waits, aborts, undone, blocked, resolves, sleeps, asks}
use Rattle.session_laws.specs.Frames.{IsLine, nth_line}
use Rattle.session_laws.proofs.LineLaws.{length_mapped, nth_map, length_with_line, nth_with_line_cases, nth_all_awaiting_each, length_only_awaiting, nth_only_awaiting_cases, answered_nth}
use Rattle.txn_state_laws.specs.Awaited.{AnswersHeard}
use Rattle.txn_state_laws.specs.Onward.{Between, TxnComes, from, anew}
use Rattle.txn_decision_laws.specs.Calm.{is_calm, is_locking, IsCalm, AllCalm}
use Rattle.txn_decision_laws.proofs.Learnt.{heard_turn}
use Rattle.txn_decision_laws.proofs.Turned.{TxnGoes, goes_not, goes_hearing, goes_waking, goes_passing, txn_goes}

-- lines that are all calm
abbrev pub AreCalm : List Line → Type 0
AreCalm lines = (place : ℕ) → place < length lines → is_calm (nth_line lines place).state ≡ true

not_locking : (p : TxnPhase) (A : Type 0) → p ≡ phase.Locking → is_locking p ≡ false → A
not_locking p A e n = absurd (true≢false (sym (ap is_locking e) ∙ n))

awaiting_calm : (lines : List Line) → AreCalm (all_awaiting lines)
awaiting_calm lines place l = ap (λ (m : Line). is_calm m.state) (nth_all_awaiting_each lines place)

only_calm : (shard : ℕ) (lines : List Line) → AreCalm (only_awaiting shard lines)
only_calm shard lines place l = by_case (nth_only_awaiting_cases shard lines place (subst (λ (n : ℕ). place < n) (length_only_awaiting shard lines) l))
  where
    by_case : ((nth_line (only_awaiting shard lines) place ≡ record (nth_line lines place) { state = Awaiting }) × ((nth_line lines place).shard ≡ shard))
        ⊎ ((nth_line (only_awaiting shard lines) place ≡ record (nth_line lines place) { state = Dropped }) × ((nth_line lines place).shard ≡ shard → ⊥)) → is_calm (nth_line (only_awaiting shard lines) place).state ≡ true
    by_case (inl p) = ap (λ (m : Line). is_calm m.state) p.0
    by_case (inr p) = ap (λ (m : Line). is_calm m.state) p.0

answered_calm : (z : LineState) → is_answered z ≡ true → is_calm z ≡ true
answered_calm Answered e = refl
answered_calm Awaiting e = refl
answered_calm Dropped e = refl
answered_calm (Inquiring holder) e = absurd (true≢false (sym e))
answered_calm (Resolving holder outcome) e = absurd (true≢false (sym e))
answered_calm (Asleep holder) e = absurd (true≢false (sym e))

free_calm : (u : TxnSession) (time : ℕ) (others : List Line) → all_answered u.lines ≡ true → IsCalm (goes_to_free u time others).after
free_calm u time [] e = λ n. (only_calm (coordinator_of u.lines) u.lines)
free_calm u time (l ∷ others) e = λ n. calm
  where
    calm : AreCalm (map (λ (m : Line). if leads u m then m else in_state m Awaiting) u.lines)
    calm place i =
        let j : place < length u.lines = subst (λ (n : ℕ). place < n) (length_mapped (λ (m : Line). if leads u m then m else in_state m Awaiting) u.lines) i in
        ap (λ (m : Line). is_calm m.state) (nth_map (λ (m : Line). if leads u m then m else in_state m Awaiting) u.lines place j)
        ∙ cond_both (leads u (nth_line u.lines place)) (nth_line u.lines place) (in_state (nth_line u.lines place) Awaiting) (λ (m : Line). is_calm m.state ≡ true)
        (λ q. answered_calm (nth_line u.lines place).state (answered_nth u.lines e place j)) (λ q. refl)

with_calm : (lines : List Line) (new : Line) → is_calm new.state ≡ true → AreCalm lines → AreCalm (with_line lines new)
with_calm lines new e h place i = by_case (nth_with_line_cases lines new place)
  where
    by_case : ((nth_line (with_line lines new) place ≡ new) × ((nth_line lines place).shard ≡ new.shard) × (place < length lines))
        ⊎ ((nth_line (with_line lines new) place ≡ nth_line lines place) × (((nth_line lines place).shard ≡ new.shard → ⊥) ⊎ (length lines ≤ place))) → is_calm (nth_line (with_line lines new) place).state ≡ true
    by_case (inl p) = ap (λ (m : Line). is_calm m.state) p.0 ∙ e
    by_case (inr p) = ap (λ (m : Line). is_calm m.state) p.0 ∙ h place (subst (λ (n : ℕ). place < n) (length_with_line lines new) i)

-- a line that is calm is none that asks, passes on or sleeps
line_calm : (lines : List Line) (l : Line) → AreCalm lines → IsLine lines l → is_calm l.state ≡ true
line_calm lines l h i = ap (λ (m : Line). is_calm m.state) (sym i.at) ∙ h i.place i.inside

never : (x : TxnSession) (l : Line) (z : LineState) (A : Type 0) → IsCalm x → IsLine x.lines l → l.state ≡ z → is_calm z ≡ false → is_locking x.phase ≡ false → A
never x l z A h i e f n = absurd (true≢false (sym (line_calm x.lines l (h n) i) ∙ (ap is_calm e ∙ f)))

decided_calm : (x : TxnSession) (at : Reading) (time : ℕ) → AreCalm x.lines → IsCalm (is_decided x at (Committed time)).after
decided_calm x at time h = cond_both (nat_lt (wait_of x time) at.earliest) (is_committed x time) (quiet (record x { phase = phase.Waiting time })) (λ (u : Turn TxnSession). IsCalm u.after)
    (λ e n. h) (λ e n. h)

-- whatever a line hears
turn_calm : (x : TxnSession) (l : Line) (at : Reading) (r : Reply) (turn : Turn TxnSession) → IsCalm x → IsLine x.lines l → TxnTurn x l at r turn → IsCalm turn.after
turn_calm x l at _ _ h i (granted shown p s e) = λ n. not_locking x.phase _ p n
turn_calm x l at _ _ h i (prepares shown p s e g) = λ n. (awaiting_calm (answered x (shown_line l shown)).lines)
turn_calm x l at _ _ h i (frees shown p s e g) = free_calm (answered x (shown_line l shown)) _ (other_lines (answered x (shown_line l shown))) e
turn_calm x l at _ _ h i (prepared time p s e) = λ n. with_calm x.lines (in_state (timed_line l time) Answered) refl (h n)
turn_calm x l at _ _ h i (decides time p s e) = λ n. (only_calm _ (answered x (timed_line l time)).lines)
turn_calm x l at _ _ h i (released time p s e) = λ n. with_calm x.lines (in_state l Answered) refl (h n)
turn_calm x l at _ _ h i (frees_last time p s e) = λ n. (only_calm _ (answered x l).lines)
turn_calm x l at _ _ h i (fails time p s) = λ n. (with_calm x.lines (in_state l Answered) refl (h (ap is_locking p)))
turn_calm x l at _ _ h i (wounded p s) = λ n. (only_calm _ x.lines)
turn_calm x l at _ _ h i (commits d time p s e) = λ n. (h (ap is_locking p))
turn_calm x l at _ _ h i (waits d time p s e) = λ n. (h (ap is_locking p))
turn_calm x l at _ _ h i (aborts p s) = λ n. not_locking phase.Locking _ refl n
turn_calm x l at _ _ h i (undone time p s) = decided_calm x at time (h (ap is_locking p))
turn_calm x l at _ _ h i (blocked holder holders p s) = λ n. not_locking x.phase _ p n
turn_calm x l at _ _ h i (resolves holder outcome s) = λ n. never x l (Inquiring holder) _ h i s refl n
turn_calm x l at _ _ h i (sleeps holder s) = λ n. never x l (Inquiring holder) _ h i s refl n
turn_calm x l at _ _ h i (asks holder outcome s) = λ n. never x l (Resolving holder outcome) _ h i s refl n

-- the line that wakes is one of these
waking_is : (s : State) (lines : List Line) (l : Line) → waking_line s lines ≡ Some l → IsLine lines l
waking_is s [] l e = absurd (none_is_not l e)
waking_is s (m ∷ lines) l e = by_test (can_wake s m) e (waking_is s lines l)
  where
    by_test : (b : Bool) → (if b then Some m else waking_line s lines) ≡ Some l → (waking_line s lines ≡ Some l → IsLine lines l) → IsLine (m ∷ lines) l
    by_test true f ih = record { place = 0; inside = omega arith; at = some_is m l f }
    by_test false f ih = let p = ih f in record { place = suc p.place; inside = (let i = p.inside in omega (arith, i)); at = p.at }

woken_calm : (z : LineState) → is_calm z ≡ true → is_calm (woken_state z) ≡ true
woken_calm Awaiting e = refl
woken_calm Answered e = refl
woken_calm Dropped e = refl
woken_calm (Inquiring holder) e = absurd (true≢false (sym e))
woken_calm (Resolving holder outcome) e = absurd (true≢false (sym e))
woken_calm (Asleep holder) e = absurd (true≢false (sym e))

wake_calm : (s : State) (x : TxnSession) (l : Line) → IsCalm x → waking_line s x.lines ≡ Some l → IsCalm (txn_wakes x l).after
wake_calm s x l h w n = with_calm x.lines (in_state l (woken_state l.state)) (woken_calm l.state (line_calm x.lines l (h n) (waking_is s x.lines l w))) (h n)

pass_calm : (x : TxnSession) (p : TxnPhase) → x.phase ≡ p → IsCalm x → IsCalm (txn_passes x p).after
pass_calm x (phase.Waiting time) e h = λ n. (h (ap is_locking e))
pass_calm x phase.Locking e h = h
pass_calm x phase.Preparing e h = h
pass_calm x (phase.Freeing time) e h = h
pass_calm x (phase.FreeingLast time) e h = h
pass_calm x (phase.Deciding time) e h = h
pass_calm x phase.Undoing e h = h
pass_calm x (phase.Committed time) e h = h
pass_calm x (phase.Failed time) e h = h

-- within an event
goes_calm : (at : Reading) (s : State) → AnswersHeard s → (o : ℕ) (x y : TxnSession) → (owner_at s o).session ≡ session.Transaction x → IsCalm x → TxnGoes at s o x y → IsCalm y
goes_calm at s a o x y e h (goes_not g) = subst IsCalm (sym g) h
goes_calm at s a o x y e h (goes_hearing slot r k g) =
    let w = a.txn o slot x r e k in
    subst IsCalm (sym g) (turn_calm x (nth_line x.lines w.place) at r _ h record { place = w.place; inside = w.inside; at = refl } (heard_turn at s a o slot x r e k w))
goes_calm at s a o x y e h (goes_waking l w g) = subst IsCalm (sym g) (wake_calm s x l h w)
goes_calm at s a o x y e h (goes_passing time w q g) = subst IsCalm (sym g) (pass_calm x x.phase refl h)

pub calm_keeps : (c : Config) (at : Reading) (s t : State) → Between c at s t → AllCalm s → AllCalm t
calm_keeps c at s t b h = record { each = λ o y f. by_before o y f (b.onward.txn_from o y f) }
  where
    by_before : (o : ℕ) (y : TxnSession) → (owner_at t o).session ≡ session.Transaction y → TxnComes (owner_at s o).session y → IsCalm y
    by_before o y f (anew e n p) = λ n. not_locking y.phase _ p n
    by_before o y f (from x e w) = goes_calm at s b.heard o x y e (h.each o x e) (txn_goes c at s t o x y e f b.event)
