-- From which phase an attempt goes on to which, and what it keeps then.
use Rattle.std.proofs.Common.{◌≡◌, ◌⊎◌, inl, inr, ℕ, ◌<◌, true, length, Some, refl, sym, subst}
use Rattle.rss_tables.specs.TransactionSession.{TxnSession}
use Rattle.rss_tables.specs.declared.phases.TxnPhase.{TxnPhase}
use Rattle.rss_tables.specs.declared.phases.TxnPhase.TheVariants as phase
use Rattle.session_laws.specs.Cases.{may_be_wounded}
use Rattle.session_laws.specs.Frames.{SameTxn, nth_line}
use Rattle.txn_state_laws.specs.Decided.{known_commit}
use Rattle.txn_state_laws.specs.Justified.{may_be_prepared, may_be_committed}
use Rattle.txn_state_laws.specs.Onward.{AttemptOnward, TxnOnward}
use Rattle.txn_state_laws.specs.Told.{has_granted, freeing_time}
use Rattle.txn_session_laws.proofs.Alike.{ShowAlike, TimesAlike, computed_alike, prepared_alike}
use Rattle.txn_session_laws.proofs.Never.{no, none}

-- a phase keeps what the one before it had asked for and knew
pub record PhaseOnward (p q : TxnPhase) : Type 0 where
  pub prepared : may_be_prepared p ≡ true → may_be_prepared q ≡ true
  pub committed : may_be_committed p ≡ true → may_be_committed q ≡ true
  pub known : (time : ℕ) → known_commit p ≡ Some time → known_commit q ≡ Some time
  pub freeing : (time : ℕ) → freeing_time p ≡ Some time → (freeing_time q ≡ Some time) ⊎ (q ≡ phase.Undoing)
  pub undoing : p ≡ phase.Undoing → q ≡ phase.Undoing

-- each step from a phase to a phase
pub same_phase : (p : TxnPhase) → PhaseOnward p p
same_phase p = record { prepared = λ e. e; committed = λ e. e; known = λ time e. e; freeing = λ time e. inl e; undoing = λ e. e }

locking_on : (q : TxnPhase) → PhaseOnward phase.Locking q
locking_on q = record { prepared = λ e. no e; committed = λ e. no e; known = λ time e. none time e; freeing = λ time e. none time e; undoing = λ e. absurd cc }

pub from_locking : (p q : TxnPhase) → p ≡ phase.Locking → PhaseOnward p q
from_locking p q e = subst (λ (x : TxnPhase). PhaseOnward x q) (sym e) (locking_on q)

preparing_on : (time : ℕ) → PhaseOnward phase.Preparing (phase.Deciding time)
preparing_on time = record { prepared = λ e. refl; committed = λ e. no e; known = λ t e. none t e; freeing = λ t e. none t e; undoing = λ e. absurd cc }

pub from_preparing : (p : TxnPhase) (time : ℕ) → p ≡ phase.Preparing → PhaseOnward p (phase.Deciding time)
from_preparing p time e = subst (λ (x : TxnPhase). PhaseOnward x (phase.Deciding time)) (sym e) (preparing_on time)

freeing_on : (time : ℕ) → PhaseOnward (phase.Freeing time) (phase.FreeingLast time)
freeing_on time = record { prepared = λ e. no e; committed = λ e. no e; known = λ t e. none t e; freeing = λ t e. inl e; undoing = λ e. absurd cc }

pub from_freeing : (p : TxnPhase) (time : ℕ) → p ≡ phase.Freeing time → PhaseOnward p (phase.FreeingLast time)
from_freeing p time e = subst (λ (x : TxnPhase). PhaseOnward x (phase.FreeingLast time)) (sym e) (freeing_on time)

last_on : (time : ℕ) → PhaseOnward (phase.FreeingLast time) (phase.Failed time)
last_on time = record { prepared = λ e. no e; committed = λ e. no e; known = λ t e. none t e; freeing = λ t e. inl e; undoing = λ e. absurd cc }

pub from_last : (p : TxnPhase) (time : ℕ) → p ≡ phase.FreeingLast time → PhaseOnward p (phase.Failed time)
from_last p time e = subst (λ (x : TxnPhase). PhaseOnward x (phase.Failed time)) (sym e) (last_on time)

deciding_committed : (d time : ℕ) → PhaseOnward (phase.Deciding d) (phase.Committed time)
deciding_committed d time = record { prepared = λ e. refl; committed = λ e. refl; known = λ t e. none t e; freeing = λ t e. none t e; undoing = λ e. absurd cc }

deciding_waiting : (d time : ℕ) → PhaseOnward (phase.Deciding d) (phase.Waiting time)
deciding_waiting d time = record { prepared = λ e. refl; committed = λ e. refl; known = λ t e. none t e; freeing = λ t e. none t e; undoing = λ e. absurd cc }

pub to_committed : (p : TxnPhase) (d time : ℕ) → p ≡ phase.Deciding d → PhaseOnward p (phase.Committed time)
to_committed p d time e = subst (λ (x : TxnPhase). PhaseOnward x (phase.Committed time)) (sym e) (deciding_committed d time)

pub to_waiting : (p : TxnPhase) (d time : ℕ) → p ≡ phase.Deciding d → PhaseOnward p (phase.Waiting time)
to_waiting p d time e = subst (λ (x : TxnPhase). PhaseOnward x (phase.Waiting time)) (sym e) (deciding_waiting d time)

waiting_on : (time : ℕ) → PhaseOnward (phase.Waiting time) (phase.Committed time)
waiting_on time = record { prepared = λ e. refl; committed = λ e. refl; known = λ t e. e; freeing = λ t e. none t e; undoing = λ e. absurd cc }

pub from_waiting : (p : TxnPhase) (time : ℕ) → p ≡ phase.Waiting time → PhaseOnward p (phase.Committed time)
from_waiting p time e = subst (λ (x : TxnPhase). PhaseOnward x (phase.Committed time)) (sym e) (waiting_on time)

-- an attempt that learns that it was wounded
pub from_wounded : (p : TxnPhase) → may_be_wounded p ≡ true → PhaseOnward p phase.Undoing
from_wounded phase.Locking w = locking_on phase.Undoing
from_wounded phase.Preparing w = record { prepared = λ e. refl; committed = λ e. no e; known = λ t e. none t e; freeing = λ t e. none t e; undoing = λ e. refl }
from_wounded (phase.Freeing time) w = record { prepared = λ e. refl; committed = λ e. no e; known = λ t e. none t e; freeing = λ t e. inr refl; undoing = λ e. refl }
from_wounded (phase.FreeingLast time) w = record { prepared = λ e. refl; committed = λ e. no e; known = λ t e. none t e; freeing = λ t e. inr refl; undoing = λ e. refl }
from_wounded (phase.Deciding time) w = no w
from_wounded phase.Undoing w = no w
from_wounded (phase.Waiting time) w = no w
from_wounded (phase.Committed time) w = no w
from_wounded (phase.Failed time) w = no w

pub wounded_not_committed : (p : TxnPhase) → may_be_wounded p ≡ true → may_be_committed p ≡ true → ⊥
wounded_not_committed phase.Locking w c = no c
wounded_not_committed phase.Preparing w c = no c
wounded_not_committed (phase.Freeing time) w c = no c
wounded_not_committed (phase.FreeingLast time) w c = no c
wounded_not_committed (phase.Deciding time) w c = no w
wounded_not_committed phase.Undoing w c = no w
wounded_not_committed (phase.Waiting time) w c = no w
wounded_not_committed (phase.Committed time) w c = no w
wounded_not_committed (phase.Failed time) w c = no w

-- one attempt of a transaction, earlier and later
pub record OneAttempt (x y : TxnSession) : Type 0 where
  pub same : SameTxn x y
  pub k : y.k ≡ x.k
  pub phases : PhaseOnward x.phase y.phase
  pub ends : may_be_prepared x.phase ≡ true → y.earliest_end ≡ x.earliest_end
  pub prepared : may_be_prepared x.phase ≡ true → ShowAlike y.lines x.lines
  pub shown : (i : ℕ) → i < length x.lines → has_granted x.phase (nth_line x.lines i).state ≡ true → (y.phase ≡ phase.Undoing) ⊎ ((nth_line y.lines i).shown ≡ (nth_line x.lines i).shown)
  pub times : may_be_committed x.phase ≡ true → TimesAlike y.lines x.lines

attempt_goes : (x y : TxnSession) → OneAttempt x y → AttemptOnward x y
attempt_goes x y h = record {
  prepared = λ e. (h.phases.prepared e, h.ends e, computed_alike x y h.same (h.prepared e));
  committed = λ e. (h.phases.committed e, prepared_alike y.lines x.lines (h.times e));
  timed = λ i a e. (h.times e).timed i a;
  known = h.phases.known;
  freeing = h.phases.freeing;
  undoing = h.phases.undoing;
  shown = h.shown;
}

pub attempt_onward : (x y : TxnSession) → OneAttempt x y → TxnOnward x y
attempt_onward x y h = record { same = h.same; later = inl h.k; attempt = λ e. attempt_goes x y h }
