-- The times of one owner against true moments: of what it has under way, with its dates and its fate.
use Rattle.std.proofs.Common.{◌≡◌, ◌⊎◌, inl, inr, ℕ, ◌<◌, ◌≤◌, true, false, List, ◌∷◌, get_or, Option, Some, None, sym, ap, ◌∙◌, subst}
use Rattle.std.proofs.lemmas.Bool.{true≢false}
use Rattle.rss_names.specs.declared.attempt.Attempt.{Attempt}
use Rattle.rss_tables.specs.SnapshotSession.{SnapSession, snap_end}
use Rattle.rss_tables.specs.TransactionSession.{TxnSession, txn_end}
use Rattle.rss_tables.specs.declared.phases.SnapPhase.TheVariants.{First}
use Rattle.rss_tables.specs.declared.phases.TxnPhase.TheVariants as phase
use Rattle.rss_machine.specs.Session.{Session}
use Rattle.rss_machine.specs.Standing.{is_running}
use Rattle.rss_machine.specs.State.{State, Owner, owner_at}
use Rattle.rss_machine.specs.declared.session.Session.TheVariants as session
use Rattle.rss_machine.specs.declared.state.Dates.{Dates}
use Rattle.rss_machine.specs.declared.state.OwnerFate.{OwnerFate}
use Rattle.rss_machine.specs.declared.state.OwnerFate.TheVariants.{Ended}
use Rattle.shard_event_laws.specs.Facts.{StaysWith, is_with_shards}
use Rattle.txn_state_laws.specs.Dated.{AllDated}
use Rattle.txn_state_laws.specs.Told.{freeing_time}

-- the true moment after a step, by the moments of all steps
abbrev pub moment_in : List ℕ → ℕ → ℕ
moment_in ms step = get_or (0 ∷ ms) step 0

-- a transaction of an owner with these dates and this fate
pub record TxnDated (ms : List ℕ) (n : ℕ) (d : Dates) (f : OwnerFate) (x : TxnSession) : Type 0 where
  pub freeing : (time : ℕ) → freeing_time x.phase ≡ Some time → moment_in ms d.begun ≤ time
  pub committed : (time : ℕ) → x.phase ≡ phase.Committed time → (time < moment_in ms d.ended) × (x.earliest_end < moment_in ms d.ended) × (d.ended ≤ n)
  pub over : (time : ℕ) → txn_end x.phase ≡ Some time → f ≡ Ended
  pub ended : f ≡ Ended → (time : ℕ) × (txn_end x.phase ≡ Some time)

-- a snapshot of such an owner
pub record SnapDated (ms : List ℕ) (n : ℕ) (d : Dates) (f : OwnerFate) (x : SnapSession) : Type 0 where
  pub reading : (time : ℕ) → x.phase ≡ First time → moment_in ms d.begun ≤ time
  pub over : (time : ℕ) → snap_end x.phase ≡ Some time → f ≡ Ended
  pub ended : f ≡ Ended → (time : ℕ) × (snap_end x.phase ≡ Some time)

-- what an owner has under way
pub record SessionDated (ms : List ℕ) (n : ℕ) (d : Dates) (f : OwnerFate) (x : Session) : Type 0 where
  pub txn : (y : TxnSession) → x ≡ session.Transaction y → TxnDated ms n d f y
  pub snap : (y : SnapSession) → x ≡ session.Snapshot y → SnapDated ms n d f y

abbrev pub IsDated : State → Owner → Type 0
IsDated s w = SessionDated s.moments s.steps w.dates w.fate w.session

-- each owner of a state whose times fit
pub owner_dated : (s : State) → AllDated s → (o : ℕ) → IsDated s (owner_at s o)
owner_dated s h o = record {
  txn = λ y e. record {
    freeing = λ time f. h.freeing o time y e f;
    committed = λ time f. h.committed o time y e f;
    over = λ time f. h.over o time y e f;
    ended = λ f. h.ended o y e f;
  };
  snap = λ y e. record {
    reading = λ time f. h.reading o time y e f;
    over = λ time f. h.snap_over o time y e f;
    ended = λ f. h.snap_ended o y e f;
  };
}

-- who runs has not ended
pub runs_unended : {A : Type 0} (f : OwnerFate) → is_running f ≡ true → f ≡ Ended → A
runs_unended f r e = absurd (true≢false (sym r ∙ ap is_running e))

-- sessions that are the same, and those that are not
same_txn : (x y : TxnSession) → ◌≡◌ {A = Session} (session.Transaction x) (session.Transaction y) → x ≡ y
same_txn x y e = cc

same_snap : (x y : SnapSession) → ◌≡◌ {A = Session} (session.Snapshot x) (session.Snapshot y) → x ≡ y
same_snap x y e = cc

no_snap : (x : TxnSession) (y : SnapSession) → ◌≡◌ {A = Session} (session.Transaction x) (session.Snapshot y) → ⊥
no_snap x y e = cc

no_txn : (x : SnapSession) (y : TxnSession) → ◌≡◌ {A = Session} (session.Snapshot x) (session.Transaction y) → ⊥
no_txn x y e = cc

settles_no_txn : (a : Attempt) (shards : List ℕ) (y : TxnSession) → ◌≡◌ {A = Session} (session.Settling a shards) (session.Transaction y) → ⊥
settles_no_txn a shards y e = cc

settles_no_snap : (a : Attempt) (shards : List ℕ) (y : SnapSession) → ◌≡◌ {A = Session} (session.Settling a shards) (session.Snapshot y) → ⊥
settles_no_snap a shards y e = cc

-- an answer is not none
no_time : {A : Type 0} (time : ℕ) → ◌≡◌ {A = Option ℕ} None (Some time) → A
no_time time e = absurd cc

module _ (ms : List ℕ) (n : ℕ) (d : Dates) (f : OwnerFate) where
  pub of_txn : (x : TxnSession) → TxnDated ms n d f x → SessionDated ms n d f (session.Transaction x)
  of_txn x h = record { txn = λ y e. subst (TxnDated ms n d f) (same_txn x y e) h; snap = λ y e. absurd (no_snap x y e) }

  pub of_snap : (x : SnapSession) → SnapDated ms n d f x → SessionDated ms n d f (session.Snapshot x)
  of_snap x h = record { txn = λ y e. absurd (no_txn x y e); snap = λ y e. subst (SnapDated ms n d f) (same_snap x y e) h }

  -- nothing is under way with shards
  pub of_none : (x : Session) → is_with_shards x ≡ false → SessionDated ms n d f x
  of_none x e = record { txn = λ y g. absurd (true≢false (sym (ap is_with_shards g) ∙ e)); snap = λ y g. absurd (true≢false (sym (ap is_with_shards g) ∙ e)) }

  -- or what a stub settles
  pub of_stub : (a : Attempt) (shards : List ℕ) → SessionDated ms n d f (session.Settling a shards)
  of_stub a shards = record { txn = λ y e. absurd (settles_no_txn a shards y e); snap = λ y e. absurd (settles_no_snap a shards y e) }

  -- who runs in a phase without an end
  pub txn_runs : (x : TxnSession) → is_running f ≡ true → txn_end x.phase ≡ None → ((time : ℕ) → freeing_time x.phase ≡ Some time → moment_in ms d.begun ≤ time) → SessionDated ms n d f (session.Transaction x)
  txn_runs x r e g = of_txn x (record {
    freeing = g;
    committed = λ time i. no_time time (sym e ∙ ap txn_end i);
    over = λ time i. no_time time (sym e ∙ i);
    ended = λ i. runs_unended f r i;
  })

  pub snap_runs : (x : SnapSession) → is_running f ≡ true → snap_end x.phase ≡ None → ((time : ℕ) → x.phase ≡ First time → moment_in ms d.begun ≤ time) → SessionDated ms n d f (session.Snapshot x)
  snap_runs x r e g = of_snap x (record { reading = g; over = λ time i. no_time time (sym e ∙ i); ended = λ i. runs_unended f r i })

-- who had ended stays so
stays_ended : (steps : ℕ) (v w : Owner) → StaysWith steps v w → v.fate ≡ Ended → (w.fate ≡ Ended) × (w.dates.ended ≡ v.dates.ended)
stays_ended steps v w x e = by_fate x.fate
  where
    by_fate : ((w.fate ≡ v.fate) × (w.dates.ended ≡ v.dates.ended)) ⊎ ((is_running v.fate ≡ true) × (is_running w.fate ≡ false) × (w.dates.ended ≡ steps)) → (w.fate ≡ Ended) × (w.dates.ended ≡ v.dates.ended)
    by_fate (inl h) = (h.0 ∙ e, h.1)
    by_fate (inr h) = runs_unended v.fate h.0 e

-- an owner that goes on with what it has, or is closed before it has ended
pub stays_dated : (steps : ℕ) (v w : Owner) → StaysWith steps v w → (ms : List ℕ) (n : ℕ) → SessionDated ms n v.dates v.fate v.session → SessionDated ms n w.dates w.fate w.session
stays_dated steps v w x ms n h = record { txn = λ y e. of_session_txn y (h.txn y (sym x.session ∙ e)); snap = λ y e. of_session_snap y (h.snap y (sym x.session ∙ e)) }
  where
    of_session_txn : (y : TxnSession) → TxnDated ms n v.dates v.fate y → TxnDated ms n w.dates w.fate y
    of_session_txn y g = record {
      freeing = λ time e. subst (λ (b : ℕ). moment_in ms b ≤ time) (sym x.begun) (g.freeing time e);
      committed = λ time e. subst (λ (b : ℕ). (time < moment_in ms b) × (y.earliest_end < moment_in ms b) × (b ≤ n)) (sym (stays_ended steps v w x (g.over time (ap txn_end e))).1) (g.committed time e);
      over = λ time e. (stays_ended steps v w x (g.over time e)).0;
      ended = λ e. g.ended (x.unended e);
    }

    of_session_snap : (y : SnapSession) → SnapDated ms n v.dates v.fate y → SnapDated ms n w.dates w.fate y
    of_session_snap y g = record {
      reading = λ time e. subst (λ (b : ℕ). moment_in ms b ≤ time) (sym x.begun) (g.reading time e);
      over = λ time e. (stays_ended steps v w x (g.over time e)).0;
      ended = λ e. g.ended (x.unended e);
    }
