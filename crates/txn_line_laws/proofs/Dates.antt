-- Placed calls against the steps in which they begin, enter and end, and against what they cover and what had ended before.
use Rattle.std.proofs.Common.{◌≡◌, ◌⊎◌, inl, inr, ℕ, ◌<◌, ◌≤◌, Bool, true, false, List, Some, None, refl, sym, ap, ◌∙◌, subst, arith}
use Rattle.std.specs.Prelude.{IsTrue}
use Rattle.std.proofs.lemmas.Bool.{cases_lt}
use Rattle.rss_names.specs.declared.service.Key.{Key}
use Rattle.pipeline_lang.specs.declared.config.Config.{Config}
use Rattle.rss_model.specs.declared.op.Op.{Op}
use Rattle.rss_model.specs.declared.op.Op.TheVariants as op
use Rattle.rss_tables.specs.Lines.{Line}
use Rattle.rss_tables.specs.Locks.{has_key}
use Rattle.rss_tables.specs.TransactionSession.{TxnSession, attempt_of, txn_end, writes_on, computed}
use Rattle.rss_tables.specs.declared.phases.TxnPhase.{TxnPhase}
use Rattle.rss_tables.specs.declared.phases.TxnPhase.TheVariants as phase
use Rattle.rss_machine.specs.Calls.{least_for}
use Rattle.rss_machine.specs.Places.{commit_of, txn_key, key_lt}
use Rattle.rss_machine.specs.Session.{service_of}
use Rattle.rss_machine.specs.State.{State, owner_at}
use Rattle.rss_machine.specs.declared.session.OwnerKind.TheVariants as kind
use Rattle.rss_machine.specs.declared.session.Session.TheVariants as session
use Rattle.rss_machine.specs.declared.state.OwnerFate.TheVariants.{Ended}
use Rattle.session_laws.specs.Frames.{nth_line}
use Rattle.session_laws.proofs.Shown.{greatest_prepared_above}
use Rattle.txn_state_laws.specs.Dated.{begun_moment}
use Rattle.txn_state_laws.specs.Decided.{CommitsAt}
use Rattle.txn_state_laws.specs.Told.{freeing_time, snap_time}
use Rattle.fence_laws.proofs.StepsOf.{step_after, step_by}
use Rattle.txn_shard_laws.proofs.InOrder.{voted_of}
use Rattle.txn_line_laws.specs.Line.{PlacedTxn, commits, fails, reads, TxnWrites, writer_key, TxnsInside, TxnsEnter, TxnsCovered, TxnsFresh}
use Rattle.txn_line_laws.proofs.Facts.{Facts, CommitKnown, commit_known}
use Rattle.txn_line_laws.proofs.Keys.{earlier_key, writer_first, reader_first}
use Rattle.txn_line_laws.proofs.Legal.{rises}

-- a transaction that has ended committed is in the phase of its commit time
pub ended_commit : (p : TxnPhase) (time t : ℕ) → txn_end p ≡ Some t → CommitsAt p time → p ≡ phase.Committed time
ended_commit (phase.Committed other) time t e f = ap (λ (n : ℕ). phase.Committed n) f
ended_commit (phase.Failed other) time t e f = absurd f
ended_commit phase.Locking time t e f = absurd f
ended_commit phase.Preparing time t e f = absurd f
ended_commit (phase.Freeing other) time t e f = absurd f
ended_commit (phase.FreeingLast other) time t e f = absurd f
ended_commit phase.Undoing time t e f = absurd f
ended_commit (phase.Deciding other) time t e f = absurd (none_is e)
  where
    none_is : None ≡ Some t → ⊥
    none_is g = cc
ended_commit (phase.Waiting other) time t e f = absurd (none_is e)
  where
    none_is : None ≡ Some t → ⊥
    none_is g = cc

same_call : (x y : Op) → kind.Calling x ≡ kind.Calling y → x ≡ y
same_call x y e = cc

module _ (c : Config) (s : State) (h : Facts c s) where
  -- what the vote of a committed transaction says of its time: it is above the least time, and not before the begin
  pub commit_times : (o time : ℕ) (x : TxnSession) → (owner_at s o).session ≡ session.Transaction x → commit_of s x ≡ Some time → (x.least < time) × (begun_moment s o ≤ time)
  commit_times o time x e f =
      let k : CommitKnown s x time = commit_known c s h o time x e f in
      let g = h.framed.txn o x e in
      let v = (h.told.txn o 0 x e g.lines.some).voted (voted_of x.phase time (nth_line x.lines 0).state k.at) in
      let d = h.dated.voted (nth_line x.lines 0).shard (attempt_of x) x.least x.earliest_end (writes_on (nth_line x.lines 0) (computed x)) (nth_line x.lines 0).prepare_time v in
      let a = greatest_prepared_above x.lines 0 g.lines.some in
      let b = k.upto in
      let u = d.1 in
      let w : begun_moment s o ≤ (nth_line x.lines 0).prepare_time = subst (λ (n : ℕ). begun_moment s n ≤ (nth_line x.lines 0).prepare_time) g.call d.0 in
      (omega (arith, a, b, u), omega (arith, a, b, w))

  pub ended_committed : (o time : ℕ) (x : TxnSession) → (owner_at s o).session ≡ session.Transaction x → commit_of s x ≡ Some time → (owner_at s o).fate ≡ Ended → x.phase ≡ phase.Committed time
  ended_committed o time x e f d = let t = h.dated.ended o x e d in ended_commit x.phase time t.0 t.1 (commit_known c s h o time x e f).at

  pub txns_inside : TxnsInside s
  txns_inside = record {
    after = λ o time x e f. step_after s time (owner_at s o).dates.begun h.rises (h.dated.begun o) (commit_times o time x e f).1;
    by_end = λ o time x e f d. let g = h.dated.committed o time x e (ended_committed o time x e f d) in step_by s time (owner_at s o).dates.ended h.rises g.2 g.0;
  }

  -- the least time of a call
  at_least : (o time : ℕ) (only_reads : Bool) (keys : List Key) (lines : List Line) (x : Op) → PlacedTxn s o time only_reads keys lines → (owner_at s o).kind ≡ kind.Calling x → least_for s o (service_of x) ≤ time
  at_least o _ _ _ _ y (commits x time e f) k =
      let g = h.framed.txn o x e in
      let a = (commit_times o time x e f).0 in
      let b : x.least ≡ least_for s o (service_of y) = g.least ∙ ap (λ (z : Op). least_for s o (service_of z)) (same_call (op.Txn x.reads x.guard x.writes) y (sym g.of_kind ∙ k)) in
      omega (arith, a, b)
  at_least o _ _ _ _ y (fails x time e p) k =
      let g = h.framed.txn o x e in
      let a = ((h.told.knows o x e).failed time (ap freeing_time p)).1 in
      let b : x.least ≡ least_for s o (service_of y) = g.least ∙ ap (λ (z : Op). least_for s o (service_of z)) (same_call (op.Txn x.reads x.guard x.writes) y (sym g.of_kind ∙ k)) in
      omega (arith, a, b)
  at_least o _ _ _ _ y (reads x time e p) k =
      let g = h.framed.snap o x e in
      let a = (h.told.snap_knows o x e).later time (ap snap_time p) in
      let b : x.least ≡ least_for s o (service_of y) = g.least ∙ ap (λ (z : Op). least_for s o (service_of z)) (same_call (op.Snap x.keys) y (sym g.of_kind ∙ k)) in
      omega (arith, a, b)

  above_least : (o time : ℕ) (only_reads : Bool) (keys : List Key) (lines : List Line) (x : Op) → PlacedTxn s o time only_reads keys lines → only_reads ≡ false → (owner_at s o).kind ≡ kind.Calling x → least_for s o (service_of x) < time
  above_least o _ _ _ _ y (commits x time e f) q k =
      let g = h.framed.txn o x e in
      let a = (commit_times o time x e f).0 in
      let b : x.least ≡ least_for s o (service_of y) = g.least ∙ ap (λ (z : Op). least_for s o (service_of z)) (same_call (op.Txn x.reads x.guard x.writes) y (sym g.of_kind ∙ k)) in
      omega (arith, a, b)
  above_least o _ _ _ _ y (fails x time e p) q k = absurd (no q)
    where
      no : true ≡ false → ⊥
      no f = cc
  above_least o _ _ _ _ y (reads x time e p) q k = absurd (no q)
    where
      no : true ≡ false → ⊥
      no f = cc

  pub txns_enter : TxnsEnter s
  txns_enter = record {
    after = λ o time r keys lines x p k w z.
        let a = h.entered.raised o x k w z in
        let b = at_least o time r keys lines x p k in
        step_after s time (owner_at s o).dates.entered h.rises (h.entered.entered o) (omega (arith, a, b));
  }

  covered : (a b t time : ℕ) (r q : Bool) (keys others : List Key) (lines more : List Line) (x : Op) → PlacedTxn s a t r keys lines → PlacedTxn s b time q others more → (owner_at s b).kind ≡ kind.Calling x → a < b → t ≤ least_for s b (service_of x) → key_lt (txn_key s a r t) (txn_key s b q time) ≡ true
  covered a b t time r q keys others lines more x p d k l u = by_time (cases_lt t time) r q refl refl
    where
      least : least_for s b (service_of x) ≤ time
      least = at_least b time q others more x d k

      same : time ≤ t → t ≡ time
      same m = omega (arith, m, u, least)

      by_time : (t < time) ⊎ (time ≤ t) → (i j : Bool) → r ≡ i → q ≡ j → key_lt (txn_key s a i t) (txn_key s b j time) ≡ true
      by_time (inl m) i j e f = earlier_key s a b t time i j (rises s t time (omega (arith, m))) m
      by_time (inr m) i false e f = absurd (let g = above_least b time q others more x d f k in omega (arith, g, m, u))
      by_time (inr m) false true e f = ap (λ (n : ℕ). key_lt (txn_key s a false n) (txn_key s b true time)) (same m) ∙ writer_first s a b time
      by_time (inr m) true true e f = ap (λ (n : ℕ). key_lt (txn_key s a true n) (txn_key s b true time)) (same m) ∙ reader_first s a b time l

  pub txns_covered : TxnsCovered s
  txns_covered = record {
    least = at_least;
    above = λ o time keys lines x p k. above_least o time false keys lines x p refl k;
    before = covered;
  }

  -- what had ended before a call began
  had_ended : (o w value t : ℕ) (key : Key) → TxnWrites s w key value t → (owner_at s w).fate ≡ Ended → (owner_at s w).dates.ended < (owner_at s o).dates.begun → t < begun_moment s o
  had_ended o w value t key x d l =
      let g = h.dated.committed w t x.txn x.under_way (ended_committed w t x.txn x.under_way x.committed d) in
      let a = g.0 in
      let r = h.rises.rise (owner_at s w).dates.ended (owner_at s o).dates.begun (omega (arith, l)) (h.dated.begun o) in
      omega (arith, a, r)

  fresh_for : (o time w value t : ℕ) (only_reads : Bool) (keys : List Key) (lines : List Line) (key : Key) → PlacedTxn s o time only_reads keys lines → only_reads ≡ true → IsTrue (has_key keys key) → TxnWrites s w key value t
      → (owner_at s w).fate ≡ Ended → (owner_at s w).dates.ended < (owner_at s o).dates.begun → key_lt (writer_key s w t) (txn_key s o true time) ≡ true
  fresh_for o _ w value t _ _ _ key (commits x time e f) q g y d l = absurd (no q)
    where
      no : false ≡ true → ⊥
      no z = cc
  fresh_for o _ w value t _ _ _ key (fails x time e p) q g y d l =
      let a = had_ended o w value t key y d l in
      let b = h.dated.freeing o time x e (ap freeing_time p) in
      earlier_key s w o t time false true (rises s t time (omega (arith, a, b))) (omega (arith, a, b))
  fresh_for o _ w value t _ _ _ key (reads x time e p) q g y d l = by_time (cases_lt t time)
    where
      upto : t ≤ time
      upto = h.fresh.each o time w t x key e (ap snap_time p) (record { txn = y.txn; under_way = y.under_way; committed = ended_committed w t y.txn y.under_way y.committed d; value = value; writes = y.writes }) l g

      by_time : (t < time) ⊎ (time ≤ t) → key_lt (writer_key s w t) (txn_key s o true time) ≡ true
      by_time (inl m) = earlier_key s w o t time false true (rises s t time (omega (arith, m))) m
      by_time (inr m) = let same : t ≡ time = omega (arith, m, upto) in ap (λ (n : ℕ). key_lt (writer_key s w n) (txn_key s o true time)) same ∙ writer_first s w o time

  pub txns_fresh : TxnsFresh s
  txns_fresh = record { after = λ o time w value t keys lines key p g y d l. fresh_for o time w value t true keys lines key p refl g y d l }
