-- What a transaction and its lines know, part by part.
use Rattle.std.proofs.Common.{◌≡◌, ◌⊎◌, inl, inr, ℕ, ◌<◌, ◌≤◌, true, false, List, length, Some, None, refl, sym, ap, ◌∙◌, subst}
use Rattle.std.proofs.lemmas.Bool.{eqb-true}
use Rattle.rss_tables.specs.Lines.{Line, with_line, coordinator_of}
use Rattle.rss_tables.specs.TransactionSession.{TxnSession, computed, leads, guard_of, values_shown, greatest_prepared}
use Rattle.rss_tables.specs.declared.phases.TxnPhase.{TxnPhase}
use Rattle.rss_tables.specs.declared.phases.TxnPhase.TheVariants as phase
use Rattle.rss_machine.specs.State.{State}
use Rattle.session_laws.specs.Frames.{Frame, frame_of, nth_line, IsLine, AreApartShards, SameTxn}
use Rattle.session_laws.proofs.Frames.{with_line_frames}
use Rattle.session_laws.proofs.LineLaws.{length_with_line}
use Rattle.txn_state_laws.specs.Told.{has_granted, has_voted, freeing_time, has_released, is_past_guard, LineTold, TxnKnows}
use Rattle.txn_session_laws.proofs.Alike.{ShowAlike, values_alike, greatest_alike, with_line_nth}
use Rattle.txn_session_laws.proofs.ToldLines.{told_same}
use Rattle.txn_session_laws.proofs.Never.{no, none}

-- what all lines of a transaction were told, and what it knows
pub record Told (s : State) (x : TxnSession) : Type 0 where
  pub lines : (place : ℕ) → place < length x.lines → LineTold s x (nth_line x.lines place)
  pub knows : TxnKnows x

-- the sessions behind and before a part of a turn
pub same_between : (x u y : TxnSession) → SameTxn x u → SameTxn x y → SameTxn u y
same_between x u y a b = record { call = b.call ∙ sym a.call; reads = b.reads ∙ sym a.reads; guard = b.guard ∙ sym a.guard; writes = b.writes ∙ sym a.writes; least = b.least ∙ sym a.least; margin = b.margin ∙ sym a.margin; frames = b.frames ∙ sym a.frames }

pub same_line : (x : TxnSession) (l new : Line) → IsLine x.lines l → AreApartShards x.lines → frame_of new ≡ frame_of l → SameTxn x (record x { lines = with_line x.lines new })
same_line x l new i apart e = record { call = refl; reads = refl; guard = refl; writes = refl; least = refl; margin = refl; frames = with_line_frames x.lines l new i apart e }

-- a line that was told nothing
pub nothing_told : (s : State) (y : TxnSession) (m : Line) → has_granted y.phase m.state ≡ false → has_voted y.phase m.state ≡ false → freeing_time y.phase ≡ None → LineTold s y m
nothing_told s y m g v f = record { granted = λ e. no (sym g ∙ e); voted = λ e. no (sym v ∙ e); released = λ time e a. none time (sym f ∙ e) }

-- where one line is replaced, its frame stays
pub line_told : (s : State) (x y : TxnSession) (l new : Line) → IsLine x.lines l → AreApartShards x.lines → frame_of new ≡ frame_of l → y.lines ≡ with_line x.lines new → LineTold s y new
    → ((place : ℕ) → place < length x.lines → ((nth_line x.lines place).shard ≡ l.shard → ⊥) → LineTold s y (nth_line x.lines place)) → (place : ℕ) → place < length y.lines → LineTold s y (nth_line y.lines place)
line_told s x y l new i apart f e told others place h = by_place (with_line_nth x.lines l new i apart (ap (λ (g : Frame). g.shard) f) place inside)
  where
    inside : place < length x.lines
    inside = subst (λ (n : ℕ). place < n) (ap length e ∙ length_with_line x.lines new) h

    at : nth_line y.lines place ≡ nth_line (with_line x.lines new) place
    at = ap (λ (lines : List Line). nth_line lines place) e

    by_place : ((nth_line (with_line x.lines new) place ≡ new) × (nth_line x.lines place ≡ l)) ⊎ ((nth_line (with_line x.lines new) place ≡ nth_line x.lines place) × ((nth_line x.lines place).shard ≡ l.shard → ⊥)) → LineTold s y (nth_line y.lines place)
    by_place (inl g) = subst (LineTold s y) (sym (at ∙ g.0)) told
    by_place (inr g) = subst (LineTold s y) (sym (at ∙ g.0)) (others place inside g.1)

-- the lines that do not hear keep what they were told
pub others_told : (s : State) (x y : TxnSession) (m : Line) → SameTxn x y → y.k ≡ x.k → y.phase ≡ x.phase → y.earliest_end ≡ x.earliest_end → (has_voted x.phase m.state ≡ true → computed y ≡ computed x) → LineTold s x m → LineTold s y m
others_told s x y m same k p n c h = told_same s x y m m same k refl (λ e. (now_granted e, refl)) (λ e. (now_voted e, refl, n, c (now_voted e))) (λ time e a. (sym (ap freeing_time p) ∙ e, now_released a)) h
  where
    now_granted : has_granted y.phase m.state ≡ true → has_granted x.phase m.state ≡ true
    now_granted e = sym (ap (λ (q : TxnPhase). has_granted q m.state) p) ∙ e

    now_voted : has_voted y.phase m.state ≡ true → has_voted x.phase m.state ≡ true
    now_voted e = sym (ap (λ (q : TxnPhase). has_voted q m.state) p) ∙ e

    now_released : has_released y.phase (leads x m) m.state ≡ true → has_released x.phase (leads x m) m.state ≡ true
    now_released e = sym (ap (λ (q : TxnPhase). has_released q (leads x m) m.state) p) ∙ e

-- two lines that lead are of one shard
pub lead_one : (x : TxnSession) (l m : Line) → leads x l ≡ true → leads x m ≡ true → m.shard ≡ l.shard
lead_one x l m a b = eqb-true m.shard (coordinator_of x.lines) b ∙ sym (eqb-true l.shard (coordinator_of x.lines) a)

-- what a transaction knows stays
pub knows_same : (x y : TxnSession) → SameTxn x y → ShowAlike y.lines x.lines → (is_past_guard y.phase ≡ true → is_past_guard x.phase ≡ true) → ((time : ℕ) → freeing_time y.phase ≡ Some time → freeing_time x.phase ≡ Some time)
    → ((time : ℕ) → y.phase ≡ phase.Deciding time → time ≡ greatest_prepared y.lines) → TxnKnows x → TxnKnows y
knows_same x y same shows held failed deciding h = record {
  held = λ e. guards ∙ h.held (held e);
  failed = λ time e. let f = h.failed time (failed time e) in (guards ∙ f.0, subst (λ (n : ℕ). n ≤ time) (sym same.least) f.1, subst (λ (n : ℕ). n ≤ time) (sym (greatest_alike y.lines x.lines shows)) f.2);
  deciding = deciding;
}
  where
    guards : guard_of y.guard (values_shown y) ≡ guard_of x.guard (values_shown x)
    guards = ap (λ (values : List ℕ). guard_of y.guard values) (values_alike x y same shows) ∙ ap (λ guard. guard_of guard (values_shown x)) same.guard

pub nothing_known : (y : TxnSession) → is_past_guard y.phase ≡ false → freeing_time y.phase ≡ None → TxnKnows y
nothing_known y p f = record {
  held = λ e. no (sym p ∙ e);
  failed = λ time e. none time (sym f ∙ e);
  deciding = λ time e. no (sym p ∙ ap is_past_guard e);
}
