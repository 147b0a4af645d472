-- Who has given locks back, after every event.
use Rattle.std.proofs.Common.{◌≡◌, ◌⊎◌, inl, inr, ℕ, ◌-◌, ◌<◌, Bool, true, length, Some, IsTrue, sym, ap, ◌∙◌, subst}
use Rattle.truetime.specs.Reading.{Reading}
use Rattle.rss_names.specs.declared.attempt.Attempt.{Attempt}
use Rattle.rss_wire.specs.declared.messages.Request.{Request}
use Rattle.rss_wire.specs.declared.messages.Request.TheVariants.{Release}
use Rattle.rss_tables.specs.Attempts.{has_attempt}
use Rattle.rss_tables.specs.ShardRow.{Shard as ShardState, can_release, shard_after}
use Rattle.rss_tables.specs.TransactionSession.{TxnSession}
use Rattle.rss_tables.specs.declared.phases.TxnPhase.TheVariants as phase
use Rattle.rss_machine.specs.Moves.{serves_shard}
use Rattle.rss_machine.specs.State.{State, shard_at}
use Rattle.shard_laws.proofs.ReleasesClose.{released_from}
use Rattle.shard_event_laws.specs.Events.{WasAsked}
use Rattle.txn_state_laws.specs.Framed.{OfAttempt}
use Rattle.txn_state_laws.specs.Justified.{AllJust, ReleaseIs}
use Rattle.txn_state_laws.specs.Onward.{AllOnward}
use Rattle.txn_state_laws.specs.Told.{freeing_time}
use Rattle.txn_shard_laws.specs.Unreleased.{MayHaveReleased, IsAttempt, AllUnreleased}
use Rattle.txn_state_laws.proofs.Grows.{one_txn}
use Rattle.txn_state_laws.proofs.Replies.{Quiet}
use Rattle.txn_state_laws.proofs.Serves.{quiet_shard, served_at, same_place}
use Rattle.txn_shard_laws.proofs.ClosedGrows.{attempt_stays, CameOf, came_of}

-- WHERE SHARDS STAY

-- who has given locks back had done so
pub had_released : (s t : State) → Quiet s t → (n : ℕ) (a : Attempt) → has_attempt (shard_at t n).released a ≡ true → has_attempt (shard_at s n).released a ≡ true
had_released s t stay n a e = ap (λ (sh : ShardState). has_attempt sh.released a) (sym (quiet_shard s t stay n)) ∙ e

module _ (s t : State) (stay : Quiet s t) (onward : AllOnward s t) (unreleased : AllUnreleased s) where
  -- an attempt in the list was one before, so a new attempt is not there
  pub unreleased_grows : AllUnreleased t
  unreleased_grows = record {
    known = λ n a e. attempt_stays s t a onward (unreleased.known n a (had_released s t stay n a e));
    phases = λ n a y e f p. later n a y (had_released s t stay n a e) f p;
  }
    where
      later : (n : ℕ) (a : Attempt) (y : TxnSession) → has_attempt (shard_at s n).released a ≡ true → OfAttempt t a y → a.k ≡ y.k → MayHaveReleased y.phase
      later n a y e f p = by_phase (unreleased.phases n a came.txn e came.of came.present)
        where
          came : CameOf s a y
          came = came_of s t a y onward (unreleased.known n a e) f p

          by_later : (time : ℕ) → (freeing_time y.phase ≡ Some time) ⊎ (y.phase ≡ phase.Undoing) → MayHaveReleased y.phase
          by_later time (inl g) = inl (time, g)
          by_later time (inr g) = inr g

          by_phase : MayHaveReleased came.txn.phase → MayHaveReleased y.phase
          by_phase (inl g) = by_later g.0 (came.onward.freeing g.0 g.1)
          by_phase (inr g) = inr (came.onward.undoing g)

-- WHERE A SHARD SERVES

-- why a release was asked for
pub release_is : (s : State) (m shard : ℕ) (a : Attempt) (time : ℕ) (last : Bool) → AllJust s → WasAsked s m shard (Release a time last) → ReleaseIs s shard a time last
release_is s m shard a time last just asked = just.each m shard (Release a time last) asked

-- attempts are what they were
pub attempt_then : (at : Reading) (s : State) (m shard : ℕ) (q : Request) (a : Attempt) (x : TxnSession) → OfAttempt (serves_shard s m shard at.latest q) a x → OfAttempt s a x
attempt_then at s m shard q a x e = record { under_way = e.under_way; first = e.first; last = e.last }

module _ (at : Reading) (s : State) (m shard : ℕ) (q : Request) (just : AllJust s) (asked : WasAsked s m shard q) (unreleased : AllUnreleased s) where
  -- who has given locks back after it
  joined : (n : ℕ) (a : Attempt) → has_attempt (shard_at (serves_shard s m shard at.latest q) n).released a ≡ true → (has_attempt (shard_at s n).released a ≡ true) ⊎ ((time : ℕ) × (last : Bool) × (q ≡ Release a time last))
  joined n a e = by_place (served_at s m shard at.latest q n)
    where
      by_case : n - 1 ≡ shard - 1 → (has_attempt (shard_at s shard).released a ≡ true) ⊎ ((time : ℕ) × (last : Bool) × (q ≡ Release a time last) × IsTrue (can_release (shard_at s shard) a)) → (has_attempt (shard_at s n).released a ≡ true) ⊎ ((time : ℕ) × (last : Bool) × (q ≡ Release a time last))
      by_case p (inl f) = inl (ap (λ (sh : ShardState). has_attempt sh.released a) (same_place s n shard p) ∙ f)
      by_case p (inr f) = inr (f.0, f.1, f.2)

      by_place : ((shard_at (serves_shard s m shard at.latest q) n ≡ shard_after (shard_at s shard) at.latest q) × (n - 1 ≡ shard - 1) × (shard - 1 < length s.shards)) ⊎ (shard_at (serves_shard s m shard at.latest q) n ≡ shard_at s n) → (has_attempt (shard_at s n).released a ≡ true) ⊎ ((time : ℕ) × (last : Bool) × (q ≡ Release a time last))
      by_place (inl f) = by_case f.1 (released_from (shard_at s shard) at.latest q a (ap (λ (sh : ShardState). has_attempt sh.released a) (sym f.0) ∙ e))
      by_place (inr f) = inl (ap (λ (sh : ShardState). has_attempt sh.released a) (sym f) ∙ e)

  -- attempts go on
  attempt_now : (a : Attempt) → IsAttempt s a → IsAttempt (serves_shard s m shard at.latest q) a
  attempt_now a e = record { txn = e.txn; of = record { under_way = e.of.under_way; first = e.of.first; last = e.of.last } }

  -- who joins the list asked to give its locks back
  pub unreleased_serves : AllUnreleased (serves_shard s m shard at.latest q)
  unreleased_serves = record {
    known = λ n a e. attempt_now a (by_known n a (joined n a e));
    phases = λ n a x e f p. by_phase n a x (attempt_then at s m shard q a x f) p (joined n a e);
  }
    where
      by_known : (n : ℕ) (a : Attempt) → (has_attempt (shard_at s n).released a ≡ true) ⊎ ((time : ℕ) × (last : Bool) × (q ≡ Release a time last)) → IsAttempt s a
      by_known n a (inl e) = unreleased.known n a e
      by_known n a (inr e) = let x = release_is s m shard a e.0 e.1 just (subst (WasAsked s m shard) e.2 asked) in record { txn = x.txn; of = x.of }

      by_release : (a : Attempt) (x : TxnSession) (time : ℕ) (last : Bool) → OfAttempt s a x → a.k ≡ x.k → ReleaseIs s shard a time last → MayHaveReleased x.phase
      by_release a x time last f p r = by_now (subst (λ (z : TxnSession). a.k ≡ z.k → (freeing_time z.phase ≡ Some time) ⊎ (z.phase ≡ phase.Undoing)) (one_txn s a r.txn x r.of f) r.now p)
        where
          by_now : (freeing_time x.phase ≡ Some time) ⊎ (x.phase ≡ phase.Undoing) → MayHaveReleased x.phase
          by_now (inl g) = inl (time, g)
          by_now (inr g) = inr g

      by_phase : (n : ℕ) (a : Attempt) (x : TxnSession) → OfAttempt s a x → a.k ≡ x.k → (has_attempt (shard_at s n).released a ≡ true) ⊎ ((time : ℕ) × (last : Bool) × (q ≡ Release a time last)) → MayHaveReleased x.phase
      by_phase n a x f p (inl e) = unreleased.phases n a x e f p
      by_phase n a x f p (inr e) = by_release a x e.0 e.1 f p (release_is s m shard a e.0 e.1 just (subst (WasAsked s m shard) e.2 asked))
