-- What a transaction learns of its decision within an event: a commit that it knows of is kept, and so is the abort
-- behind which its next attempt begins.
use Rattle.std.proofs.Common.{◌≡◌, ℕ, ◌+◌, List, [], ◌∷◌, Some, None, refl, sym, ap, ◌∙◌, subst, arith}
use Rattle.std.specs.Prelude.{nat_lt}
use Rattle.std.proofs.lemmas.Bool.{cond_both}
use Rattle.truetime.specs.Reading.{Reading}
use Rattle.pipeline_lang.specs.declared.config.Config.{Config}
use Rattle.rss_wire.specs.declared.messages.Outcome.{Outcome}
use Rattle.rss_wire.specs.declared.messages.Outcome.TheVariants.{Committed, Aborted}
use Rattle.rss_wire.specs.declared.messages.Reply.{Reply}
use Rattle.rss_wire.specs.declared.messages.Reply.TheVariants as reply
use Rattle.rss_tables.specs.Lines.{Line, line_at}
use Rattle.rss_tables.specs.Outs.{slot_shard}
use Rattle.rss_tables.specs.TransactionSession.{TxnSession, attempt_of, txn_hears, txn_passes, goes_to_free, is_decided, is_committed, wait_of}
use Rattle.rss_tables.specs.Turns.{Turn, quiet}
use Rattle.rss_tables.specs.declared.phases.TxnPhase.{TxnPhase}
use Rattle.rss_tables.specs.declared.phases.TxnPhase.TheVariants as phase
use Rattle.rss_machine.specs.State.{State, owner_at}
use Rattle.rss_machine.specs.declared.session.Session.TheVariants as session
use Rattle.world_laws.proofs.Looks.{none_is_not, some_is}
use Rattle.session_laws.specs.Awaits.{txn_awaits}
use Rattle.session_laws.specs.Cases.{answered, shown_line, other_lines, TxnTurn, granted, prepares, frees, prepared, decides, released, frees_last, fails, wounded, commits, waits, aborts, undone, blocked, resolves, sleeps, asks}
use Rattle.session_laws.specs.Frames.{nth_line}
use Rattle.session_laws.proofs.TxnCases.{txn_case}
use Rattle.shard_event_laws.specs.Events.{Hears}
use Rattle.txn_state_laws.specs.Awaited.{AnswersHeard, LineHears}
use Rattle.txn_state_laws.specs.Decided.{AllDecided, known_commit}
use Rattle.txn_state_laws.specs.Framed.{AllFramed}
use Rattle.txn_state_laws.specs.Justified.{Kept}
use Rattle.txn_decision_laws.proofs.Heard.{attempt_now, decision_heard}
use Rattle.txn_decision_laws.proofs.Turned.{TxnGoes, goes_not, goes_hearing, goes_waking, goes_passing}

-- what is kept of what a transaction has learnt
pub record Learnt (s : State) (x y : TxnSession) : Type 0 where
  pub known : (time : ℕ) → known_commit y.phase ≡ Some time → Kept s (attempt_of x) (Committed time)
  pub next : y.k ≡ x.k + 1 → Kept s (attempt_of x) Aborted

-- it stays in its attempt
not_next : (m n : ℕ) (A : Type 0) → n ≡ m → n ≡ m + 1 → A
not_next m n A e f = absurd (omega (arith, e, f))

-- what is known of it before
abbrev pub IsKnown : State → TxnSession → Type 0
IsKnown s x = (time : ℕ) → known_commit x.phase ≡ Some time → Kept s (attempt_of x) (Committed time)

-- it learns nothing
pub learns_nothing : (s : State) (x y : TxnSession) → IsKnown s x → y.k ≡ x.k → known_commit y.phase ≡ known_commit x.phase → Learnt s x y
learns_nothing s x y h e f = record { known = λ time g. h time (sym f ∙ g); next = λ g. not_next x.k y.k _ e g }

-- it knows of no commit
knows_none : (s : State) (x y : TxnSession) → y.k ≡ x.k → known_commit y.phase ≡ None → Learnt s x y
knows_none s x y e f = record { known = λ time g. absurd (none_is_not time (sym f ∙ g)); next = λ g. not_next x.k y.k _ e g }

-- it learns of a commit
learns_commit : (s : State) (x y : TxnSession) (time : ℕ) → y.k ≡ x.k → known_commit y.phase ≡ Some time → Kept s (attempt_of x) (Committed time) → Learnt s x y
learns_commit s x y time e f k = record {
  known = λ other g. subst (λ (n : ℕ). Kept s (attempt_of x) (Committed n)) (some_is time other (sym f ∙ g)) k;
  next = λ g. not_next x.k y.k _ e g;
}

-- it learns of an abort
learns_abort : (s : State) (x y : TxnSession) → known_commit y.phase ≡ None → Kept s (attempt_of x) Aborted → Learnt s x y
learns_abort s x y f k = record { known = λ time g. absurd (none_is_not time (sym f ∙ g)); next = λ g. k }

freeing_knows_none : (s : State) (x u : TxnSession) (time : ℕ) (others : List Line) → u.k ≡ x.k → Learnt s x (goes_to_free u time others).after
freeing_knows_none s x u time [] e = knows_none s x _ e refl
freeing_knows_none s x u time (l ∷ others) e = knows_none s x _ e refl

decided_learns : (s : State) (x : TxnSession) (at : Reading) (outcome : Outcome) → Kept s (attempt_of x) outcome → Learnt s x (is_decided x at outcome).after
decided_learns s x at (Committed time) k =
    cond_both (nat_lt (wait_of x time) at.earliest) (is_committed x time) (quiet (record x { phase = phase.Waiting time })) (λ (u : Turn TxnSession). Learnt s x u.after)
    (λ e. learns_commit s x (is_committed x time).after time refl refl k)
    (λ e. learns_commit s x (record x { phase = phase.Waiting time }) time refl refl k)
decided_learns s x at Aborted k = learns_abort s x (is_decided x at Aborted).after refl k

-- whatever a line hears
pub turn_learns : (s : State) (x : TxnSession) (l : Line) (at : Reading) (r : Reply) (turn : Turn TxnSession) → IsKnown s x → ((outcome : Outcome) → r ≡ reply.Decided outcome → Kept s (attempt_of x) outcome) → TxnTurn x l at r turn → Learnt s x turn.after
turn_learns s x l at _ _ h k (granted shown p i e) = learns_nothing s x _ h refl refl
turn_learns s x l at _ _ h k (prepares shown p i e g) = knows_none s x _ refl refl
turn_learns s x l at _ _ h k (frees shown p i e g) = freeing_knows_none s x (answered x (shown_line l shown)) _ (other_lines (answered x (shown_line l shown))) refl
turn_learns s x l at _ _ h k (prepared time p i e) = learns_nothing s x _ h refl refl
turn_learns s x l at _ _ h k (decides time p i e) = knows_none s x _ refl refl
turn_learns s x l at _ _ h k (released time p i e) = learns_nothing s x _ h refl refl
turn_learns s x l at _ _ h k (frees_last time p i e) = knows_none s x _ refl refl
turn_learns s x l at _ _ h k (fails time p i) = knows_none s x _ refl refl
turn_learns s x l at _ _ h k (wounded p i) = knows_none s x _ refl refl
turn_learns s x l at _ _ h k (commits d time p i e) = learns_commit s x _ time refl refl (k (Committed time) refl)
turn_learns s x l at _ _ h k (waits d time p i e) = learns_commit s x _ time refl refl (k (Committed time) refl)
turn_learns s x l at _ _ h k (aborts p i) = decided_learns s x at Aborted (k Aborted refl)
turn_learns s x l at _ _ h k (undone time p i) = decided_learns s x at (Committed time) (k (Committed time) refl)
turn_learns s x l at _ _ h k (blocked holder holders p i) = learns_nothing s x _ h refl refl
turn_learns s x l at _ _ h k (resolves holder outcome i) = learns_nothing s x _ h refl refl
turn_learns s x l at _ _ h k (sleeps holder i) = learns_nothing s x _ h refl refl
turn_learns s x l at _ _ h k (asks holder outcome i) = learns_nothing s x _ h refl refl

passing_learns : (s : State) (x : TxnSession) (p : TxnPhase) → x.phase ≡ p → IsKnown s x → Learnt s x (txn_passes x p).after
passing_learns s x (phase.Waiting time) e h = learns_commit s x _ time refl refl (h time (ap known_commit e))
passing_learns s x phase.Locking e h = learns_nothing s x x h refl refl
passing_learns s x phase.Preparing e h = learns_nothing s x x h refl refl
passing_learns s x (phase.Freeing time) e h = learns_nothing s x x h refl refl
passing_learns s x (phase.FreeingLast time) e h = learns_nothing s x x h refl refl
passing_learns s x (phase.Deciding time) e h = learns_nothing s x x h refl refl
passing_learns s x phase.Undoing e h = learns_nothing s x x h refl refl
passing_learns s x (phase.Committed time) e h = learns_nothing s x x h refl refl
passing_learns s x (phase.Failed time) e h = learns_nothing s x x h refl refl

-- what a transaction knows of is kept
pub is_known : (c : Config) (s : State) → AllFramed c s → AllDecided s → (o : ℕ) (x : TxnSession) → (owner_at s o).session ≡ session.Transaction x → IsKnown s x
is_known c s f d o x e time g = record { txn = x; of = attempt_now c s o x (f.txn o x e) e; kept = d.known o time x e g }

-- the turn of the line that hears a reply
pub heard_turn : (at : Reading) (s : State) → AnswersHeard s → (o slot : ℕ) (x : TxnSession) (r : Reply) → (owner_at s o).session ≡ session.Transaction x → Hears s o slot r
    → (w : LineHears s slot x.lines (txn_awaits x x.phase) r) → TxnTurn x (nth_line x.lines w.place) at r (txn_hears x (line_at x.lines (slot_shard slot)) at r)
heard_turn at s a o slot x r e h w =
    let l : Line = nth_line x.lines w.place in
    subst (λ (z : Line). TxnTurn x l at r (txn_hears x z at r)) (sym w.found) (txn_case x l at w.target w.asked r w.awaited w.fits)

-- within an event
pub learnt : (c : Config) (at : Reading) (s : State) → AllFramed c s → AnswersHeard s → AllDecided s → (o : ℕ) (x y : TxnSession) → (owner_at s o).session ≡ session.Transaction x → TxnGoes at s o x y → Learnt s x y
learnt c at s f a d o x y e (goes_not g) = subst (Learnt s x) (sym g) (learns_nothing s x x (is_known c s f d o x e) refl refl)
learnt c at s f a d o x y e (goes_hearing slot r h g) = subst (Learnt s x) (sym g)
    (turn_learns s x _ at r _ (is_known c s f d o x e) (λ outcome q. decision_heard c at s f a d o slot x outcome e (subst (Hears s o slot) q h))
    (heard_turn at s a o slot x r e h (a.txn o slot x r e h)))
learnt c at s f a d o x y e (goes_waking l w g) = subst (Learnt s x) (sym g) (learns_nothing s x _ (is_known c s f d o x e) refl refl)
learnt c at s f a d o x y e (goes_passing time w q g) = subst (Learnt s x) (sym g) (passing_learns s x x.phase refl (is_known c s f d o x e))
