-- What goes on from one state to the next: attempts of transactions, their lines, and decisions that are kept.
use Rattle.std.proofs.Common.{◌≡◌, ◌⊎◌, inl, inr, ℕ, ◌+◌, ◌≤◌, Some, ap, ◌∙◌, arith}
use Rattle.truetime.specs.Reading.{Reading}
use Rattle.rss_names.specs.declared.attempt.Attempt.{Attempt}
use Rattle.pipeline_lang.specs.declared.config.Config.{Config}
use Rattle.rss_wire.specs.declared.messages.Outcome.{Outcome}
use Rattle.rss_tables.specs.Lines.{coordinator_of}
use Rattle.rss_tables.specs.ShardRow.{decision_in}
use Rattle.rss_tables.specs.SnapshotSession.{SnapSession}
use Rattle.rss_tables.specs.TransactionSession.{TxnSession}
use Rattle.rss_tables.specs.declared.phases.TxnPhase.TheVariants as phase
use Rattle.rss_machine.specs.State.{State, owner_at, shard_at}
use Rattle.rss_machine.specs.declared.session.Session.TheVariants as session
use Rattle.txn_state_laws.specs.Framed.{OfAttempt}
use Rattle.txn_state_laws.specs.Justified.{Kept}
use Rattle.txn_state_laws.specs.Onward.{TxnOnward, TxnGoesOn, SnapGoesOn, Between}
use Rattle.txn_state_laws.proofs.Grows.{AttemptGrows, coordinator_same}
use Rattle.txn_state_laws.proofs.Serves.{decisions_stay}

-- DECISIONS AND SESSIONS

-- transactions and snapshots go on, and decisions that are kept stay
pub record Grows (s t : State) : Type 0 where
  pub txn : (o : ℕ) (x : TxnSession) → (owner_at s o).session ≡ session.Transaction x → TxnGoesOn x (owner_at t o).session
  pub snap : (o : ℕ) (x : SnapSession) → (owner_at s o).session ≡ session.Snapshot x → SnapGoesOn x (owner_at t o).session
  pub decisions : (shard : ℕ) (a : Attempt) (outcome : Outcome) → decision_in (shard_at s shard).decisions a ≡ Some outcome → decision_in (shard_at t shard).decisions a ≡ Some outcome

pub grows : (c : Config) (at : Reading) (s t : State) → Between c at s t → Grows s t
grows c at s t b = record { txn = b.onward.txn; snap = b.onward.snap; decisions = (decisions_stay c at s t b.event).each }

-- the coordinator of a transaction stays the same
pub coordinator_grows : (x y : TxnSession) → TxnOnward x y → coordinator_of y.lines ≡ coordinator_of x.lines
coordinator_grows x y w = coordinator_same y.lines x.lines w.same.frames

-- ATTEMPTS

-- the number of the present attempt never falls
pub number_grows : (x y : TxnSession) → TxnOnward x y → x.k ≤ y.k
number_grows x y w = by_number w.later
  where
    by_number : (y.k ≡ x.k) ⊎ ((y.k ≡ x.k + 1) × (y.phase ≡ phase.Locking)) → x.k ≤ y.k
    by_number (inl e) = omega (arith, e)
    by_number (inr e) = let f = e.0 in omega (arith, f)

-- an attempt that is the present one afterwards was it before, where there was one
pub present_before : (x y : TxnSession) (k : ℕ) → TxnOnward x y → k ≤ x.k → k ≡ y.k → (k ≡ x.k) × (y.k ≡ x.k)
present_before x y k w l e =
    let m = number_grows x y w in
    (omega (arith, l, e, m), omega (arith, l, e, m))

pub attempt_grown : (s t : State) → Grows s t → (a : Attempt) (x : TxnSession) → OfAttempt s a x → AttemptGrows t a x
attempt_grown s t g a x h =
    let w : TxnGoesOn x (owner_at t a.call).session = g.txn a.call x h.under_way in
    record {
      txn = w.txn;
      of = record { under_way = w.under_way; first = h.first; last = (let l = h.last in let m = number_grows x w.txn w.onward in omega (arith, l, m)) };
      onward = w.onward;
    }

-- KEPT DECISIONS

-- a decision that is kept stays so
pub kept_grown : (s t : State) → Grows s t → (a : Attempt) (o : Outcome) → Kept s a o → Kept t a o
kept_grown s t g a o h =
    let w = attempt_grown s t g a h.txn h.of in
    record {
      txn = w.txn;
      of = w.of;
      kept = ap (λ (n : ℕ). decision_in (shard_at t n).decisions a) (coordinator_grows h.txn w.txn w.onward) ∙ g.decisions (coordinator_of h.txn.lines) a o h.kept;
    }

pub kept_grows : (c : Config) (at : Reading) (s t : State) → Between c at s t → (a : Attempt) (o : Outcome) → Kept s a o → Kept t a o
kept_grows c at s t b = kept_grown s t (grows c at s t b)
