-- Times fit true moments before the first step, and where a step is counted.
use Rattle.std.proofs.Common.{◌≡◌, ℕ, zero, suc, ◌+◌, ◌-◌, ◌≤◌, List, [], ◌∷◌, ◌++◌, length, get_or, refl, sym, ap, ◌∙◌, arith}
use Rattle.truetime.specs.Reading.{Reading}
use Rattle.truetime.specs.TrueMoment.{moment_after}
use Rattle.pipeline_lang.specs.declared.config.Config.{Config}
use Rattle.rss_tables.specs.SnapshotSession.{SnapSession}
use Rattle.rss_tables.specs.TransactionSession.{TxnSession}
use Rattle.rss_machine.specs.Moves.{ticks}
use Rattle.rss_machine.specs.Session.{Session}
use Rattle.rss_machine.specs.State.{State, start, no_owner, owner_at, shard_at}
use Rattle.rss_machine.specs.declared.session.Session.TheVariants as session
use Rattle.world_laws.proofs.Looks.{looks}
use Rattle.shard_event_laws.specs.Known.{moment_at}
use Rattle.txn_state_laws.specs.Dated.{AllDated, begun_moment, ended_moment}
use Rattle.txn_state_laws.proofs.Starts.{opens, nobody_prepared, nothing_replied, replied_ticks}

-- nobody is there
pub nobody : (c : Config) (o : ℕ) → owner_at (start c) o ≡ no_owner
nobody c zero = refl
nobody c (suc o) = refl

idle_txn : (x : TxnSession) → ◌≡◌ {A = Session} session.Idle (session.Transaction x) → ⊥
idle_txn x e = cc

idle_snap : (x : SnapSession) → ◌≡◌ {A = Session} session.Idle (session.Snapshot x) → ⊥
idle_snap x e = cc

no_txn : {A : Type 0} (c : Config) (o : ℕ) (x : TxnSession) → (owner_at (start c) o).session ≡ session.Transaction x → A
no_txn c o x e = absurd (idle_txn x (ap (λ w. w.session) (sym (nobody c o)) ∙ e))

no_snap : {A : Type 0} (c : Config) (o : ℕ) (x : SnapSession) → (owner_at (start c) o).session ≡ session.Snapshot x → A
no_snap c o x e = absurd (idle_snap x (ap (λ w. w.session) (sym (nobody c o)) ∙ e))

-- times fit before the first step
pub dated_start : (c : Config) → AllDated (start c)
dated_start c = record {
  begun = λ o. let e = ap (λ w. w.dates.begun) (nobody c o) in omega (arith, e);
  prepared = λ shard a p first e. absurd (nobody_prepared (shard_at (start c) shard) a p (opens c shard) e);
  voted = λ shard a least earliest_end writes time x. absurd (nothing_replied c _ _ _ x);
  freeing = λ o time x e f. no_txn c o x e;
  reading = λ o time x e f. no_snap c o x e;
  committed = λ o time x e f. no_txn c o x e;
  over = λ o time x e f. no_txn c o x e;
  snap_over = λ o time x e f. no_snap c o x e;
  ended = λ o x e f. no_txn c o x e;
  snap_ended = λ o x e f. no_snap c o x e;
}

-- the moments of steps that were counted stay
old_moment : (ms : List ℕ) (x i : ℕ) → i ≤ length ms → get_or (0 ∷ (ms ++ x ∷ [])) i 0 ≡ get_or (0 ∷ ms) i 0
old_moment ms x i l = grind (arith, looks, l)

pub moment_stays : (s : State) (at : Reading) → length s.moments ≡ s.steps → (i : ℕ) → i ≤ s.steps → moment_at (ticks s at) i ≡ moment_at s i
moment_stays s at n i l = old_moment s.moments (moment_after s.moment at) i (omega (arith, n, l))

-- times fit where a step is counted
pub dated_ticks : (s : State) (at : Reading) → length s.moments ≡ s.steps → AllDated s → AllDated (ticks s at)
dated_ticks s at n h = record {
  begun = λ o. let b = h.begun o in omega (arith, b);
  prepared = λ shard a p first e. let q = h.prepared shard a p first e in let m = begins a.call in omega (arith, q, m);
  voted = λ shard a least earliest_end writes time x. let q = h.voted shard a least earliest_end writes time (replied_ticks s at _ _ _ x) in let m = begins a.call in let f = q.0 in (omega (arith, f, m), q.1);
  freeing = λ o time x e f. let q = h.freeing o time x e f in let m = begins o in omega (arith, q, m);
  reading = λ o time x e f. let q = h.reading o time x e f in let m = begins o in omega (arith, q, m);
  committed = λ o time x e f.
      let q = h.committed o time x e f in
      let l = q.2 in
      let m : ended_moment (ticks s at) o ≡ ended_moment s o = moment_stays s at n (owner_at s o).dates.ended l in
      let u = q.0 in
      let v = q.1 in
      (omega (arith, u, m), omega (arith, v, m), omega (arith, l));
  over = λ o time x e f. h.over o time x e f;
  snap_over = λ o time x e f. h.snap_over o time x e f;
  ended = λ o x e f. h.ended o x e f;
  snap_ended = λ o x e f. h.snap_ended o x e f;
}
  where
    begins : (o : ℕ) → begun_moment (ticks s at) o ≡ begun_moment s o
    begins o = moment_stays s at n (owner_at s o).dates.begun (h.begun o)
