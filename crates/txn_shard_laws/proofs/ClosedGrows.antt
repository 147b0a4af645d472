-- How attempts and lines go on from one moment to the next.
use Rattle.std.proofs.Common.{◌≡◌, ◌⊎◌, inl, inr, ℕ, ◌+◌, ◌≤◌, true, Some, refl, sym, ap, ◌∙◌, subst, arith}
use Rattle.rss_names.specs.declared.attempt.Attempt.{Attempt}
use Rattle.rss_tables.specs.TransactionSession.{TxnSession}
use Rattle.rss_tables.specs.declared.lines.LineState.{LineState}
use Rattle.rss_tables.specs.declared.phases.TxnPhase.{TxnPhase}
use Rattle.rss_tables.specs.declared.phases.TxnPhase.TheVariants as phase
use Rattle.rss_machine.specs.Session.{Session}
use Rattle.rss_machine.specs.State.{State, owner_at}
use Rattle.rss_machine.specs.declared.session.Session.TheVariants as session
use Rattle.world_laws.proofs.Looks.{none_is_not}
use Rattle.session_laws.specs.Frames.{SameTxn}
use Rattle.txn_state_laws.specs.Framed.{OfAttempt}
use Rattle.txn_state_laws.specs.Onward.{AttemptOnward, TxnComes, from, anew, AllOnward}
use Rattle.txn_state_laws.specs.Told.{freeing_time, has_granted}
use Rattle.txn_state_laws.proofs.Grows.{AttemptGrows, attempt_grows, txn_is}
use Rattle.txn_shard_laws.specs.Unreleased.{IsAttempt}

-- who has nothing under way has no transaction
idle_not : (v : Session) (x : TxnSession) → v ≡ session.Idle → v ≡ session.Transaction x → ⊥
idle_not v x e f = let z : session.Idle ≡ session.Transaction x = sym e ∙ f in cc

-- an attempt stays one
pub attempt_stays : (s t : State) (a : Attempt) → AllOnward s t → IsAttempt s a → IsAttempt t a
attempt_stays s t a n e = let g : AttemptGrows t a e.txn = attempt_grows s t n a e.txn e.of in record { txn = g.txn; of = g.of }

-- the present attempt of a transaction was that of the transaction before
pub record CameOf (s : State) (a : Attempt) (y : TxnSession) : Type 0 where
  pub txn : TxnSession
  pub of : OfAttempt s a txn
  pub present : a.k ≡ txn.k
  pub same : SameTxn txn y
  pub onward : AttemptOnward txn y

-- where it was an attempt before
pub came_of : (s t : State) (a : Attempt) (y : TxnSession) → AllOnward s t → IsAttempt s a → OfAttempt t a y → a.k ≡ y.k → CameOf s a y
came_of s t a y n e f p = by_before (n.txn_from a.call y f.under_way)
  where
    by_before : TxnComes (owner_at s a.call).session y → CameOf s a y
    by_before (anew i k h) = absurd (idle_not (owner_at s a.call).session e.txn i e.of.under_way)
    by_before (from x g o) = by_number o.later
      where
        last : a.k ≤ x.k
        last = subst (λ (z : TxnSession). a.k ≤ z.k) (txn_is e.txn x (sym e.of.under_way ∙ g)) e.of.last

        by_number : (y.k ≡ x.k) ⊎ ((y.k ≡ x.k + 1) × (y.phase ≡ phase.Locking)) → CameOf s a y
        by_number (inl k) = record { txn = x; of = record { under_way = g; first = f.first; last = last }; present = p ∙ k; same = o.same; onward = o.attempt k }
        by_number (inr k) = let h = k.0 in absurd (omega (arith, last, p, h))

-- an attempt that gives its locks back is not being undone
pub not_undone : (x : TxnPhase) (time : ℕ) → freeing_time x ≡ Some time → x ≡ phase.Undoing → ⊥
not_undone x time e u = none_is_not time (sym (ap freeing_time u) ∙ e)

-- all its lines were granted
pub freeing_granted : (x : TxnPhase) (state : LineState) (time : ℕ) → freeing_time x ≡ Some time → has_granted x state ≡ true
freeing_granted (phase.Freeing other) state time e = refl
freeing_granted (phase.FreeingLast other) state time e = refl
freeing_granted (phase.Failed other) state time e = refl
freeing_granted phase.Locking state time e = absurd (none_is_not time e)
freeing_granted phase.Preparing state time e = absurd (none_is_not time e)
freeing_granted (phase.Deciding other) state time e = absurd (none_is_not time e)
freeing_granted phase.Undoing state time e = absurd (none_is_not time e)
freeing_granted (phase.Waiting other) state time e = absurd (none_is_not time e)
freeing_granted (phase.Committed other) state time e = absurd (none_is_not time e)
