-- What is new at a shard was asked for.
use Rattle.std.proofs.Common.{◌≡◌, ◌⊎◌, inl, inr, ℕ, List, [], ◌∷◌, ◌++◌, Some, refl, sym, ap, ◌∙◌, subst, arith}
use Rattle.rss_names.specs.declared.attempt.Attempt.{Attempt}
use Rattle.pipeline_lang.specs.declared.config.Config.{Config}
use Rattle.rss_wire.specs.declared.messages.Outcome.TheVariants.{Committed}
use Rattle.rss_wire.specs.declared.messages.Request.{Request}
use Rattle.rss_tables.specs.Locks.{LockHolder}
use Rattle.rss_tables.specs.Prepared.{PreparedWriter, prepared_of}
use Rattle.rss_tables.specs.ShardRow.{Shard, decision_in, shard_after}
use Rattle.rss_machine.specs.Run.{run}
use Rattle.rss_machine.specs.State.{State, shard_at}
use Rattle.rss_machine.specs.declared.step.Step.{Step}
use Rattle.shard_laws.specs.Served.{served, IsReached}
use Rattle.shard_laws.specs.Entries.{holder_of}
use Rattle.shard_laws.specs.Closed.{EachOf}
use Rattle.shard_laws.specs.Changes.{IsGranted, IsPreparedBy, IsCommittedBy}
use Rattle.shard_laws.proofs.Decided.{decided_from}
use Rattle.shard_laws.proofs.Fits.{reached_after}
use Rattle.shard_laws.proofs.Laters.{granted_by_request, prepared_by_request}
use Rattle.txn_laws.specs.Serving.{WasSentTo}
use Rattle.txn_laws.specs.Asked.{LocksAsked, PrepareAsked, CommitAsked, NewWasAsked}
use Rattle.txn_laws.proofs.Serves.{serves_on, reached_run}

module _ (t : State) (shard moment : ℕ) where
  held_new : (sh : Shard) → IsReached sh → (rs : List (ℕ × Request)) → EachOf (WasSentTo t shard moment) rs → (h : LockHolder) → holder_of (served sh rs).locks.holders h.attempt ≡ Some h → (holder_of sh.locks.holders h.attempt ≡ Some h) ⊎ LocksAsked t shard moment h
  held_new sh x [] e h i = inl i
  held_new sh x (r ∷ rs) e h i = by_rest (held_new (shard_after sh r.0 r.1) (reached_after sh x r.0 r.1) rs e.1 h i)
    where
      by_first : (holder_of sh.locks.holders h.attempt ≡ Some h) ⊎ IsGranted sh r.1 h → (holder_of sh.locks.holders h.attempt ≡ Some h) ⊎ LocksAsked t shard moment h
      by_first (inl f) = inl f
      by_first (inr g) = inr record { request = r; sent = e.0; asks = g.asks }

      by_rest : (holder_of (shard_after sh r.0 r.1).locks.holders h.attempt ≡ Some h) ⊎ LocksAsked t shard moment h → (holder_of sh.locks.holders h.attempt ≡ Some h) ⊎ LocksAsked t shard moment h
      by_rest (inl f) = by_first (granted_by_request sh x r.0 r.1 h f)
      by_rest (inr g) = inr g

  prepared_new : (sh : Shard) → IsReached sh → (rs : List (ℕ × Request)) → EachOf (WasSentTo t shard moment) rs → (p : PreparedWriter) → prepared_of (served sh rs).prepared p.attempt ≡ Some p → (prepared_of sh.prepared p.attempt ≡ Some p) ⊎ PrepareAsked t shard moment p
  prepared_new sh x [] e p i = inl i
  prepared_new sh x (r ∷ rs) e p i = by_rest (prepared_new (shard_after sh r.0 r.1) (reached_after sh x r.0 r.1) rs e.1 p i)
    where
      by_first : (prepared_of sh.prepared p.attempt ≡ Some p) ⊎ IsPreparedBy sh r.0 r.1 p → (prepared_of sh.prepared p.attempt ≡ Some p) ⊎ PrepareAsked t shard moment p
      by_first (inl f) = inl f
      by_first (inr g) = inr record { request = r; sent = e.0; least = g.least; asks = g.asks; above_least = g.above_least; not_before = (let a = g.not_before in let b = e.0.not_before in omega (arith, a, b)) }

      by_rest : (prepared_of (shard_after sh r.0 r.1).prepared p.attempt ≡ Some p) ⊎ PrepareAsked t shard moment p → (prepared_of sh.prepared p.attempt ≡ Some p) ⊎ PrepareAsked t shard moment p
      by_rest (inl f) = by_first (prepared_by_request sh x r.0 r.1 p f)
      by_rest (inr g) = inr g

  committed_new : (sh : Shard) (rs : List (ℕ × Request)) → EachOf (WasSentTo t shard moment) rs → (a : Attempt) (time : ℕ) → decision_in (served sh rs).decisions a ≡ Some (Committed time) → (decision_in sh.decisions a ≡ Some (Committed time)) ⊎ CommitAsked t shard moment a time
  committed_new sh [] e a time i = inl i
  committed_new sh (r ∷ rs) e a time i = by_rest (committed_new (shard_after sh r.0 r.1) rs e.1 a time i)
    where
      by_first : (decision_in sh.decisions a ≡ Some (Committed time)) ⊎ IsCommittedBy r.0 r.1 a time → (decision_in sh.decisions a ≡ Some (Committed time)) ⊎ CommitAsked t shard moment a time
      by_first (inl f) = inl f
      by_first (inr g) = inr record { request = r; sent = e.0; asked = g.asked; asks = g.asks; at_least = (let a = g.at in omega (arith, a)); not_before = (let a = g.at in let b = e.0.not_before in omega (arith, a, b)) }

      by_rest : (decision_in (shard_after sh r.0 r.1).decisions a ≡ Some (Committed time)) ⊎ CommitAsked t shard moment a time → (decision_in sh.decisions a ≡ Some (Committed time)) ⊎ CommitAsked t shard moment a time
      by_rest (inl f) = by_first (decided_from sh r.0 r.1 a (Committed time) f)
      by_rest (inr g) = inr g

  all_new : (s : State) → IsReached (shard_at s shard) → s.moment ≡ moment → (rs : List (ℕ × Request)) → EachOf (WasSentTo t shard moment) rs → served (shard_at s shard) rs ≡ shard_at t shard → NewWasAsked s t shard
  all_new s x m rs e b = record {
    held = λ h i. subst (λ (n : ℕ). (holder_of (shard_at s shard).locks.holders h.attempt ≡ Some h) ⊎ LocksAsked t shard n h) (sym m) (held_new (shard_at s shard) x rs e h (ap (λ (w : Shard). holder_of w.locks.holders h.attempt) b ∙ i));
    prepared = λ p i. subst (λ (n : ℕ). (prepared_of (shard_at s shard).prepared p.attempt ≡ Some p) ⊎ PrepareAsked t shard n p) (sym m) (prepared_new (shard_at s shard) x rs e p (ap (λ (w : Shard). prepared_of w.prepared p.attempt) b ∙ i));
    committed = λ a time i. subst (λ (n : ℕ). (decision_in (shard_at s shard).decisions a ≡ Some (Committed time)) ⊎ CommitAsked t shard n a time) (sym m) (committed_new (shard_at s shard) rs e a time (ap (λ (w : Shard). decision_in w.decisions a) b ∙ i));
  }

pub new_asked : (c : Config) (steps more : List Step) (s t : State) → run c steps ≡ Some s → run c (steps ++ more) ≡ Some t → (shard : ℕ) → NewWasAsked s t shard
new_asked c steps more s t e f shard = let x = serves_on c steps more s t e f shard in all_new t shard s.moment s (reached_run c steps s e shard) refl x.requests x.each x.by
