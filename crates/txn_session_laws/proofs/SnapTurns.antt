-- A snapshot goes on with each turn.
use Rattle.std.proofs.Common.{◌≡◌, ◌⊎◌, inl, inr, ℕ, List, [], ◌∷◌, Some, refl, sym, subst}
use Rattle.std.specs.List.{filter}
use Rattle.rss_wire.specs.declared.messages.Reply.{Reply}
use Rattle.rss_tables.specs.Lines.{Line}
use Rattle.rss_tables.specs.Turns.{Turn}
use Rattle.rss_tables.specs.SnapshotSession.{SnapSession, second_round, snapshot_time, must_ask_again, snap_wakes}
use Rattle.rss_tables.specs.declared.phases.SnapPhase.{SnapPhase}
use Rattle.rss_tables.specs.declared.phases.SnapPhase.TheVariants.{First, Second, Done}
use Rattle.session_laws.specs.Frames.{SameSnap}
use Rattle.session_laws.specs.SnapCases.{snap_answered, told_line, SnapTurn, shown, first_done, second_done, blocked, resolves, sleeps, asks}
use Rattle.txn_state_laws.specs.Onward.{SnapOnward}
use Rattle.txn_state_laws.specs.Told.{snap_time}
use Rattle.txn_session_laws.proofs.Never.{none}

-- what a phase keeps of the one before it
pub record SnapPhaseOnward (p q : SnapPhase) : Type 0 where
  pub first : (read_time : ℕ) → p ≡ First read_time → (q ≡ First read_time) ⊎ ((time : ℕ) × (snap_time q ≡ Some time))
  pub later : (time : ℕ) → snap_time p ≡ Some time → snap_time q ≡ Some time

same_phase : (p : SnapPhase) → SnapPhaseOnward p p
same_phase p = record { first = λ t e. inl e; later = λ t e. e }

first_on : (read_time time : ℕ) (q : SnapPhase) → snap_time q ≡ Some time → SnapPhaseOnward (First read_time) q
first_on read_time time q e = record { first = λ t f. inr (time, e); later = λ t f. none t f }

from_first : (p q : SnapPhase) (read_time time : ℕ) → p ≡ First read_time → snap_time q ≡ Some time → SnapPhaseOnward p q
from_first p q read_time time e f = subst (λ (x : SnapPhase). SnapPhaseOnward x q) (sym e) (first_on read_time time q f)

second_on : (time : ℕ) → SnapPhaseOnward (Second time) (Done time)
second_on time = record { first = λ t e. absurd cc; later = λ t e. e }

from_second : (p : SnapPhase) (time : ℕ) → p ≡ Second time → SnapPhaseOnward p (Done time)
from_second p time e = subst (λ (x : SnapPhase). SnapPhaseOnward x (Done time)) (sym e) (second_on time)

phase_onward : (x y : SnapSession) → SameSnap x y → SnapPhaseOnward x.phase y.phase → SnapOnward x y
phase_onward x y s p = record { same = s; first = p.first; later = p.later }

-- the second round, or the end of the first one, has the snapshot time
pub round_time : (t : SnapSession) (time : ℕ) (again : List Line) → snap_time (second_round t time again).after.phase ≡ Some time
round_time t time [] = refl
round_time t time (l ∷ again) = refl

round_onward : (t u : SnapSession) (read_time time : ℕ) (again : List Line) → t.phase ≡ First read_time → SameSnap t (second_round u time again).after → SnapOnward t (second_round u time again).after
round_onward t u read_time time again p same = phase_onward t (second_round u time again).after same (from_first t.phase (second_round u time again).after.phase read_time time p (round_time u time again))

first_onward : (t u : SnapSession) (read_time : ℕ) → t.phase ≡ First read_time → SameSnap t (second_round u (snapshot_time u) (filter (must_ask_again (snapshot_time u)) u.lines)).after → SnapOnward t (second_round u (snapshot_time u) (filter (must_ask_again (snapshot_time u)) u.lines)).after
first_onward t u read_time p same = round_onward t u read_time (snapshot_time u) (filter (must_ask_again (snapshot_time u)) u.lines) p same

pub same_snap_onward : (t : SnapSession) → SameSnap t t → SnapOnward t t
same_snap_onward t s = phase_onward t t s (same_phase t.phase)

-- whatever the line hears
pub snap_turn_onward : (t : SnapSession) (l : Line) (r : Reply) (turn : Turn SnapSession) → SnapTurn t l r turn → SameSnap t turn.after → SnapOnward t turn.after
snap_turn_onward t l _ _ (shown versions skipped s e) same = phase_onward t _ same (same_phase t.phase)
snap_turn_onward t l _ _ (first_done read_time versions skipped p s e) same = first_onward t (snap_answered t (told_line l versions skipped)) read_time p same
snap_turn_onward t l _ _ (second_done time versions skipped p s e) same = phase_onward t _ same (from_second t.phase time p)
snap_turn_onward t l _ _ (blocked holder holders s) same = phase_onward t _ same (same_phase t.phase)
snap_turn_onward t l _ _ (resolves holder outcome s) same = phase_onward t _ same (same_phase t.phase)
snap_turn_onward t l _ _ (sleeps holder s) same = phase_onward t _ same (same_phase t.phase)
snap_turn_onward t l _ _ (asks holder outcome s) same = phase_onward t _ same (same_phase t.phase)

pub snap_wake_onward : (t : SnapSession) (l : Line) → SameSnap t (snap_wakes t l).after → SnapOnward t (snap_wakes t l).after
snap_wake_onward t l same = phase_onward t _ same (same_phase t.phase)
