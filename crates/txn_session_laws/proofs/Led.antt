-- The phases in which the coordinator alone is asked: its line awaits, and the others are dropped.
use Rattle.std.proofs.Common.{◌≡◌, ◌⊎◌, inl, inr, ℕ, ◌<◌, Bool, true, false, List, [], ◌∷◌, length, refl, sym, ap, ◌∙◌, subst, arith}
use Rattle.std.specs.Prelude.{◌==◌, nat_lt, if◌then◌else◌}
use Rattle.std.proofs.lemmas.Bool.{true≢false, cond_both, eq-eqb}
use Rattle.truetime.specs.Reading.{Reading}
use Rattle.rss_wire.specs.declared.messages.Holder.{Holder}
use Rattle.rss_wire.specs.declared.messages.Outcome.{Outcome}
use Rattle.rss_wire.specs.declared.messages.Reply.{Reply}
use Rattle.rss_tables.specs.Lines.{Line, coordinator_of, line_at, only_awaiting}
use Rattle.rss_tables.specs.TransactionSession.{TxnSession, leads, txn_request, goes_to_free, wait_of, is_committed, txn_wakes, txn_passes}
use Rattle.rss_tables.specs.Turns.{Turn, quiet}
use Rattle.rss_tables.specs.declared.lines.LineState.TheVariants.{Awaiting, Inquiring, Resolving, Asleep, Dropped}
use Rattle.rss_tables.specs.declared.phases.TxnPhase.{TxnPhase}
use Rattle.rss_tables.specs.declared.phases.TxnPhase.TheVariants as phase
use Rattle.session_laws.specs.Cases.{answered, shown_line, timed_line, TxnTurn, granted, prepares, frees, prepared, decides, released, frees_last, fails, wounded, commits, waits, aborts, undone, blocked, resolves, sleeps, asks}
use Rattle.session_laws.specs.Frames.{nth_line, IsLine}
use Rattle.session_laws.proofs.LineLaws.{length_only_awaiting, nth_only_awaiting}
use Rattle.txn_session_laws.specs.Standing.{is_led, TxnLed}
use Rattle.txn_session_laws.proofs.Requests.{IsAskedAs}

-- where one line awaits, the coordinator stays
only_coordinator : (lines : List Line) → coordinator_of (only_awaiting (coordinator_of lines) lines) ≡ coordinator_of lines
only_coordinator [] = refl
only_coordinator (l ∷ lines) = refl

-- each line awaits where it leads
only_state : (lines : List Line) (place : ℕ) → place < length (only_awaiting (coordinator_of lines) lines)
    → (nth_line (only_awaiting (coordinator_of lines) lines) place).state ≡ (if (nth_line (only_awaiting (coordinator_of lines) lines) place).shard == coordinator_of (only_awaiting (coordinator_of lines) lines) then Awaiting else Dropped)
only_state lines place h =
    let e : nth_line (only_awaiting (coordinator_of lines) lines) place ≡ record (nth_line lines place) { state = if (nth_line lines place).shard == coordinator_of lines then Awaiting else Dropped } =
    nth_only_awaiting (coordinator_of lines) lines place (subst (λ (n : ℕ). place < n) (length_only_awaiting (coordinator_of lines) lines) h) in
    ap (λ (l : Line). l.state) e
    ∙ ap (λ (n : ℕ). if n == coordinator_of lines then Awaiting else Dropped) (sym (ap (λ (l : Line). l.shard) e))
    ∙ ap (λ (n : ℕ). if (nth_line (only_awaiting (coordinator_of lines) lines) place).shard == n then Awaiting else Dropped) (sym (only_coordinator lines))

-- the coordinator's line is the first, and awaits
only_first : (lines : List Line) → 0 < length lines → (line_at (only_awaiting (coordinator_of lines) lines) (coordinator_of lines) ≡ nth_line (only_awaiting (coordinator_of lines) lines) 0) × ((nth_line (only_awaiting (coordinator_of lines) lines) 0).state ≡ Awaiting)
only_first [] h = absurd (omega (arith, h))
only_first (l ∷ lines) h = (rw (eq-eqb l.shard l.shard refl) refl, rw (eq-eqb l.shard l.shard refl) refl)

pub only_asked : (y : TxnSession) (lines : List Line) → y.lines ≡ only_awaiting (coordinator_of lines) lines → 0 < length lines → IsAskedAs y (line_at y.lines (coordinator_of lines))
only_asked y lines e h = record {
  place = 0;
  inside = subst (λ (ls : List Line). 0 < length ls) (sym e) (subst (λ (n : ℕ). 0 < n) (sym (length_only_awaiting (coordinator_of lines) lines)) h);
  shard = ap (λ (l : Line). l.shard) (sym first);
  state = ap (λ (ls : List Line). (nth_line ls 0).state) e ∙ (only_first lines h).1;
  request = ap (txn_request y y.phase) (sym first);
}
  where
    first : line_at y.lines (coordinator_of lines) ≡ nth_line y.lines 0
    first = ap (λ (ls : List Line). line_at ls (coordinator_of lines)) e ∙ (only_first lines h).0 ∙ ap (λ (ls : List Line). nth_line ls 0) (sym e)

pub only_led : (y : TxnSession) (lines : List Line) → y.lines ≡ only_awaiting (coordinator_of lines) lines → TxnLed y
only_led y lines e = record {
  each = λ p place h. subst (λ (ls : List Line). place < length ls → (nth_line ls place).state ≡ (if (nth_line ls place).shard == coordinator_of ls then Awaiting else Dropped)) (sym e) (only_state lines place) h;
}

-- a line of such a phase awaits or is dropped
pub led_line : (x : TxnSession) (l : Line) → TxnLed x → is_led x.phase ≡ true → IsLine x.lines l → (l.state ≡ Awaiting) × (leads x l ≡ true) ⊎ (l.state ≡ Dropped)
led_line x l led p is = by_lead (leads x l) refl (subst (λ (m : Line). m.state ≡ (if leads x m then Awaiting else Dropped)) is.at (led.each p is.place is.inside))
  where
    by_lead : (b : Bool) → leads x l ≡ b → l.state ≡ (if leads x l then Awaiting else Dropped) → (l.state ≡ Awaiting) × (leads x l ≡ true) ⊎ (l.state ≡ Dropped)
    by_lead true f e = inl (e ∙ ap (λ (b : Bool). if b then Awaiting else Dropped) f, f)
    by_lead false f e = inr (e ∙ ap (λ (b : Bool). if b then Awaiting else Dropped) f)

-- it does not ask for another's decision, nor sleep
led_inquires : {A : Type 0} (x : TxnSession) (l : Line) (holder : Holder) → TxnLed x → IsLine x.lines l → is_led x.phase ≡ true → l.state ≡ Inquiring holder → A
led_inquires x l holder led is p e = by_state (led_line x l led p is)
  where
    by_state : {A : Type 0} → (l.state ≡ Awaiting) × (leads x l ≡ true) ⊎ (l.state ≡ Dropped) → A
    by_state (inl f) = let g = f.0 in absurd cc
    by_state (inr f) = absurd cc

led_resolves : {A : Type 0} (x : TxnSession) (l : Line) (holder : Holder) (outcome : Outcome) → TxnLed x → IsLine x.lines l → is_led x.phase ≡ true → l.state ≡ Resolving holder outcome → A
led_resolves x l holder outcome led is p e = by_state (led_line x l led p is)
  where
    by_state : {A : Type 0} → (l.state ≡ Awaiting) × (leads x l ≡ true) ⊎ (l.state ≡ Dropped) → A
    by_state (inl f) = let g = f.0 in absurd cc
    by_state (inr f) = absurd cc

pub led_sleeps : {A : Type 0} (x : TxnSession) (l : Line) (holder : Holder) → TxnLed x → IsLine x.lines l → is_led x.phase ≡ true → l.state ≡ Asleep holder → A
led_sleeps x l holder led is p e = by_state (led_line x l led p is)
  where
    by_state : {A : Type 0} → (l.state ≡ Awaiting) × (leads x l ≡ true) ⊎ (l.state ≡ Dropped) → A
    by_state (inl f) = let g = f.0 in absurd cc
    by_state (inr f) = absurd cc

-- in another phase nothing is to be shown
pub not_led : (y : TxnSession) (p : TxnPhase) → y.phase ≡ p → is_led p ≡ false → TxnLed y
not_led y p e n = record { each = λ q. absurd (true≢false (sym q ∙ ap is_led e ∙ n)) }

-- the phase behind such a one, with the same lines
led_stays : (x : TxnSession) (p : TxnPhase) → TxnLed x → is_led x.phase ≡ true → TxnLed (record x { phase = p })
led_stays x p led q = record { each = λ r place h. led.each q place h }

free_led : (x : TxnSession) (time : ℕ) (others : List Line) → TxnLed (goes_to_free x time others).after
free_led x time [] = only_led _ x.lines refl
free_led x time (l ∷ others) = not_led _ (phase.Freeing time) refl refl

undone_led : (x : TxnSession) (at : Reading) (time : ℕ) → TxnLed x → is_led x.phase ≡ true → TxnLed (if nat_lt (wait_of x time) at.earliest then is_committed x time else quiet (record x { phase = phase.Waiting time })).after
undone_led x at time led q = cond_both (nat_lt (wait_of x time) at.earliest) (is_committed x time) (quiet (record x { phase = phase.Waiting time })) (λ (turn : Turn TxnSession). TxnLed turn.after)
    (λ e. not_led _ (phase.Committed time) refl refl) (λ e. led_stays x (phase.Waiting time) led q)

-- whatever a line hears
pub led_turn : (x : TxnSession) (l : Line) (at : Reading) (r : Reply) (turn : Turn TxnSession) → TxnLed x → IsLine x.lines l → TxnTurn x l at r turn → TxnLed turn.after
led_turn x l at _ _ led is (granted shown p s e) = not_led _ phase.Locking p refl
led_turn x l at _ _ led is (prepares shown p s e g) = not_led _ phase.Preparing refl refl
led_turn x l at _ _ led is (frees shown p s e g) = free_led (answered x (shown_line l shown)) _ _
led_turn x l at _ _ led is (prepared time p s e) = not_led _ phase.Preparing p refl
led_turn x l at _ _ led is (decides time p s e) = only_led _ (answered x (timed_line l time)).lines refl
led_turn x l at _ _ led is (released time p s e) = not_led _ (phase.Freeing time) p refl
led_turn x l at _ _ led is (frees_last time p s e) = only_led _ (answered x l).lines refl
led_turn x l at _ _ led is (fails time p s) = not_led _ (phase.Failed time) refl refl
led_turn x l at _ _ led is (wounded p s) = only_led _ x.lines refl
led_turn x l at _ _ led is (commits d time p s e) = not_led _ (phase.Committed time) refl refl
led_turn x l at _ _ led is (waits d time p s e) = led_stays x (phase.Waiting time) led (ap is_led p)
led_turn x l at _ _ led is (aborts p s) = not_led _ phase.Locking refl refl
led_turn x l at _ _ led is (undone time p s) = undone_led x at time led (ap is_led p)
led_turn x l at _ _ led is (blocked holder holders p s) = not_led _ phase.Locking p refl
led_turn x l at _ _ led is (resolves holder outcome s) = record { each = λ q. led_inquires x l holder led is q s }
led_turn x l at _ _ led is (sleeps holder s) = record { each = λ q. led_inquires x l holder led is q s }
led_turn x l at _ _ led is (asks holder outcome s) = record { each = λ q. led_resolves x l holder outcome led is q s }

-- a line wakes, and a time passes
pub led_wake : (x : TxnSession) (l : Line) (holder : Holder) → TxnLed x → IsLine x.lines l → l.state ≡ Asleep holder → TxnLed (txn_wakes x l).after
led_wake x l holder led is s = record { each = λ q. led_sleeps x l holder led is q s }

pub led_pass : (x : TxnSession) (p : TxnPhase) → TxnLed x → TxnLed (txn_passes x p).after
led_pass x (phase.Waiting time) led = not_led _ (phase.Committed time) refl refl
led_pass x phase.Locking led = led
led_pass x phase.Preparing led = led
led_pass x (phase.Freeing time) led = led
led_pass x (phase.FreeingLast time) led = led
led_pass x (phase.Deciding time) led = led
led_pass x phase.Undoing led = led
led_pass x (phase.Committed time) led = led
led_pass x (phase.Failed time) led = led
