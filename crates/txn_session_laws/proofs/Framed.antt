-- What is known of transactions and snapshots in one state, carried to another.
use Rattle.std.proofs.Common.{◌≡◌, ◌⊎◌, inl, inr, ℕ, ◌≤◌, true, false, List, length, map, get_or, Option, Some, refl, sym, ap, ◌∙◌, subst, arith}
use Rattle.std.proofs.lemmas.Bool.{true≢false}
use Rattle.std.proofs.lemmas.Simd.{map-map}
use Rattle.rss_names.specs.declared.attempt.Attempt.{Attempt}
use Rattle.rss_names.specs.declared.service.Key.{Key}
use Rattle.causal_context.specs.Seen.{Seen}
use Rattle.causal_context.specs.LeastTimes.{least_of}
use Rattle.pipeline_lang.specs.Config.{home_of}
use Rattle.pipeline_lang.specs.declared.config.Config.{Config}
use Rattle.pipeline_lang.specs.declared.script.Compare.{Compare}
use Rattle.pipeline_lang.specs.declared.script.Expr.{Expr}
use Rattle.rss_model.specs.declared.op.Op.{Op}
use Rattle.rss_model.specs.declared.op.Op.TheVariants as op
use Rattle.rss_tables.specs.Lines.{Line, shards_of}
use Rattle.rss_tables.specs.SnapshotSession.{SnapSession}
use Rattle.rss_tables.specs.TransactionSession.{TxnSession}
use Rattle.rss_machine.specs.Calls.{least_for}
use Rattle.rss_machine.specs.Session.{Session, service_of}
use Rattle.rss_machine.specs.State.{State, Owner, owner_at, no_owner}
use Rattle.rss_machine.specs.declared.session.OwnerKind.TheVariants as kind
use Rattle.rss_machine.specs.declared.session.Session.TheVariants as session
use Rattle.session_laws.specs.Frames.{Frame, frame_of, frames_of, SameTxn, SameSnap}
use Rattle.session_laws.proofs.Keeps.{txn_frames_stay, snap_frames_stay, same_txn, same_snap}
use Rattle.shard_event_laws.specs.Facts.{is_with_shards, Aside, OneOwner, IsLeft}
use Rattle.txn_laws.specs.Files.{NamesKeys, OpNamed}
use Rattle.txn_state_laws.specs.Framed.{TxnFramed, SnapFramed, StubFramed, AllFramed}
use Rattle.txn_session_laws.proofs.Named.{scripted_named, lines_fit_stay}
use Rattle.txn_session_laws.proofs.FramedOwners.{one_cases, Stands, stays_with, stays_without, is_new, is_none, aside_cases}

-- the same operation
txn_op : (reads reads' : List Key) (guard guard' : Option (Compare ℕ)) (writes writes' : List (Key × Expr ℕ)) → reads ≡ reads' → guard ≡ guard' → writes ≡ writes' → op.Txn reads guard writes ≡ op.Txn reads' guard' writes'
txn_op reads reads' guard guard' writes writes' a b c = cc

-- an owner of the same kind and with the same copy has a transaction that is the same, in the same attempt or a later one
pub txn_later : (c : Config) (s t : State) (o : ℕ) (x y : TxnSession) → (owner_at t o).kind ≡ (owner_at s o).kind → (owner_at t o).works.copy ≡ (owner_at s o).works.copy → SameTxn x y → x.k ≤ y.k → TxnFramed c s o x → TxnFramed c t o y
txn_later c s t o x y of_kind copy same k f =
    let e : op.Txn x.reads x.guard x.writes ≡ op.Txn y.reads y.guard y.writes = txn_op x.reads y.reads x.guard y.guard x.writes y.writes (sym same.reads) (sym same.guard) (sym same.writes) in
    record {
      numbered = f.numbered;
      of_kind = of_kind ∙ f.of_kind ∙ ap (λ (z : Op). kind.Calling z) e;
      call = same.call ∙ f.call;
      attempts = (let a = f.attempts in omega (arith, a, k));
      frames = txn_frames_stay (home_of c) x y same f.frames;
      lines = lines_fit_stay c y.lines x.lines same.frames f.lines;
      least = same.least ∙ f.least ∙ ap (λ (seen : Seen). least_of seen.least (service_of (op.Txn x.reads x.guard x.writes))) (sym copy) ∙ ap (λ (z : Op). least_for t o (service_of z)) e;
    }

pub snap_later : (c : Config) (s t : State) (o : ℕ) (x y : SnapSession) → (owner_at t o).kind ≡ (owner_at s o).kind → (owner_at t o).works.copy ≡ (owner_at s o).works.copy → SameSnap x y → SnapFramed c s o x → SnapFramed c t o y
snap_later c s t o x y of_kind copy same f =
    let e : op.Snap x.keys ≡ op.Snap y.keys = ap (λ (keys : List Key). op.Snap keys) (sym same.keys) in
    record {
      numbered = f.numbered;
      of_kind = of_kind ∙ f.of_kind ∙ ap (λ (z : Op). kind.Calling z) e;
      call = same.call ∙ f.call;
      frames = snap_frames_stay (home_of c) x y same f.frames;
      lines = lines_fit_stay c y.lines x.lines same.frames f.lines;
      least = same.least ∙ f.least ∙ ap (λ (seen : Seen). least_of seen.least (service_of (op.Snap x.keys))) (sym copy) ∙ ap (λ (z : Op). least_for t o (service_of z)) e;
    }

-- a transaction goes on, with its shards, in the same attempt or a later one
pub record GoesOn (x : TxnSession) (now : Session) : Type 0 where
  pub txn : TxnSession
  pub under_way : now ≡ session.Transaction txn
  pub attempts : x.k ≤ txn.k
  pub shards : shards_of txn.lines ≡ shards_of x.lines

-- what stubs settle goes on with it
pub stub_later : (s t : State) (a : Attempt) (shards : List ℕ) → ((o : ℕ) (x : TxnSession) → (owner_at s o).session ≡ session.Transaction x → GoesOn x (owner_at t o).session) → StubFramed s a shards → StubFramed t a shards
stub_later s t a shards goes f =
    let g : GoesOn f.txn (owner_at t a.call).session = goes a.call f.txn f.of.under_way in
    record {
      txn = g.txn;
      of = record { under_way = g.under_way; first = f.of.first; last = (let b = f.of.last in let d = g.attempts in omega (arith, b, d)) };
      shards_are = f.shards_are ∙ sym g.shards;
    }

-- a transaction that is the same has its shards
pub same_goes : (x y : TxnSession) → SameTxn x y → x.k ≤ y.k → GoesOn x (session.Transaction y)
same_goes x y same k = record { txn = y; under_way = refl; attempts = k; shards = shards_same y.lines x.lines same.frames }
  where
    shards_same : (u v : List Line) → frames_of u ≡ frames_of v → shards_of u ≡ shards_of v
    shards_same u v e = sym (map-map (λ (f : Frame). f.shard) frame_of u) ∙ ap (λ (fs : List Frame). map (λ (f : Frame). f.shard) fs) e ∙ map-map (λ (f : Frame). f.shard) frame_of v

-- each owner goes on as it is
pub txn_stays : (x : TxnSession) (now : Session) → now ≡ session.Transaction x → GoesOn x now
txn_stays x now e = record { txn = x; under_way = e; attempts = omega arith; shards = refl }

pub txn_framed_at : (c : Config) (s t : State) (o : ℕ) (x : TxnSession) → owner_at t o ≡ owner_at s o → TxnFramed c s o x → TxnFramed c t o x
txn_framed_at c s t o x e f = txn_later c s t o x x (ap (λ (w : Owner). w.kind) e) (ap (λ (w : Owner). w.works.copy) e) (same_txn x) (omega arith) f

pub snap_framed_at : (c : Config) (s t : State) (o : ℕ) (x : SnapSession) → owner_at t o ≡ owner_at s o → SnapFramed c s o x → SnapFramed c t o x
snap_framed_at c s t o x e f = snap_later c s t o x x (ap (λ (w : Owner). w.kind) e) (ap (λ (w : Owner). w.works.copy) e) (same_snap x) f

-- where owners stay
pub framed_stays : (c : Config) (s t : State) → length t.shards ≡ length s.shards → t.owners ≡ s.owners → AllFramed c s → AllFramed c t
framed_stays c s t n e h = record {
  shards = n ∙ h.shards;
  txn = λ o x f. txn_framed_at c s t o x (same o) (h.txn o x (ap (λ (w : Owner). w.session) (sym (same o)) ∙ f));
  snap = λ o x f. snap_framed_at c s t o x (same o) (h.snap o x (ap (λ (w : Owner). w.session) (sym (same o)) ∙ f));
  stub = λ o a shards f. stub_later s t a shards (λ i x g. txn_stays x (owner_at t i).session (ap (λ (w : Owner). w.session) (same i) ∙ g)) (h.stub o a shards (ap (λ (w : Owner). w.kind) (sym (same o)) ∙ f));
  settles = λ o a shards f. ap (λ (w : Owner). w.kind) (same o) ∙ h.settles o a shards (ap (λ (w : Owner). w.session) (sym (same o)) ∙ f);
  ops = λ o x f. h.ops o x (ap (λ (w : Owner). w.kind) (sym (same o)) ∙ f);
}
  where
    same : (o : ℕ) → owner_at t o ≡ owner_at s o
    same o = ap (λ (owners : List Owner). get_or owners o no_owner) e

-- where one owner changes, whose kind stays
pub framed_one : (c : Config) (s t : State) (o : ℕ) (w : Owner) → t.shards ≡ s.shards → OneOwner s t o w → w.kind ≡ (owner_at s o).kind
    → ((x : TxnSession) → w.session ≡ session.Transaction x → TxnFramed c t o x)
    → ((x : SnapSession) → w.session ≡ session.Snapshot x → SnapFramed c t o x)
    → ((a : Attempt) (shards : List ℕ) → w.session ≡ session.Settling a shards → (owner_at s o).kind ≡ kind.Stubbing (Some (a, shards)))
    → ((x : TxnSession) → (owner_at s o).session ≡ session.Transaction x → GoesOn x w.session)
    → AllFramed c s → AllFramed c t
framed_one c s t o w n one k txn snap settles goes h = record {
  shards = ap length n ∙ h.shards;
  txn = λ i x e. txn_at i x (one_cases s t o w one i) e;
  snap = λ i x e. snap_at i x (one_cases s t o w one i) e;
  stub = λ i a shards e. stub_later s t a shards (λ j x. goes_at j x (one_cases s t o w one j)) (h.stub i a shards (sym (kind_at i (one_cases s t o w one i)) ∙ e));
  settles = λ i a shards e. kind_at i (one_cases s t o w one i) ∙ settles_at i a shards (one_cases s t o w one i) e;
  ops = λ i x e. h.ops i x (sym (kind_at i (one_cases s t o w one i)) ∙ e);
}
  where
    kind_at : (i : ℕ) → ((owner_at t i ≡ w) × (i ≡ o)) ⊎ (owner_at t i ≡ owner_at s i) → (owner_at t i).kind ≡ (owner_at s i).kind
    kind_at i (inl e) = ap (λ (v : Owner). v.kind) e.0 ∙ k ∙ ap (λ (j : ℕ). (owner_at s j).kind) (sym e.1)
    kind_at i (inr e) = ap (λ (v : Owner). v.kind) e

    txn_at : (i : ℕ) (x : TxnSession) → ((owner_at t i ≡ w) × (i ≡ o)) ⊎ (owner_at t i ≡ owner_at s i) → (owner_at t i).session ≡ session.Transaction x → TxnFramed c t i x
    txn_at i x (inl e) f = subst (λ (j : ℕ). TxnFramed c t j x) (sym e.1) (txn x (ap (λ (v : Owner). v.session) (sym e.0) ∙ f))
    txn_at i x (inr e) f = txn_framed_at c s t i x e (h.txn i x (ap (λ (v : Owner). v.session) (sym e) ∙ f))

    snap_at : (i : ℕ) (x : SnapSession) → ((owner_at t i ≡ w) × (i ≡ o)) ⊎ (owner_at t i ≡ owner_at s i) → (owner_at t i).session ≡ session.Snapshot x → SnapFramed c t i x
    snap_at i x (inl e) f = subst (λ (j : ℕ). SnapFramed c t j x) (sym e.1) (snap x (ap (λ (v : Owner). v.session) (sym e.0) ∙ f))
    snap_at i x (inr e) f = snap_framed_at c s t i x e (h.snap i x (ap (λ (v : Owner). v.session) (sym e) ∙ f))

    settles_at : (i : ℕ) (a : Attempt) (shards : List ℕ) → ((owner_at t i ≡ w) × (i ≡ o)) ⊎ (owner_at t i ≡ owner_at s i) → (owner_at t i).session ≡ session.Settling a shards → (owner_at s i).kind ≡ kind.Stubbing (Some (a, shards))
    settles_at i a shards (inl e) f = ap (λ (j : ℕ). (owner_at s j).kind) e.1 ∙ settles a shards (ap (λ (v : Owner). v.session) (sym e.0) ∙ f)
    settles_at i a shards (inr e) f = h.settles i a shards (ap (λ (v : Owner). v.session) (sym e) ∙ f)

    goes_at : (i : ℕ) (x : TxnSession) → ((owner_at t i ≡ w) × (i ≡ o)) ⊎ (owner_at t i ≡ owner_at s i) → (owner_at s i).session ≡ session.Transaction x → GoesOn x (owner_at t i).session
    goes_at i x (inl e) f = subst (λ (v : Owner). GoesOn x v.session) (sym e.0) (goes x (ap (λ (j : ℕ). (owner_at s j).session) (sym e.1) ∙ f))
    goes_at i x (inr e) f = txn_stays x (owner_at t i).session (ap (λ (v : Owner). v.session) e ∙ f)

-- where nothing happens to transactions and snapshots
pub not_with : (now x : Session) → is_with_shards now ≡ false → is_with_shards x ≡ true → now ≡ x → ⊥
not_with now x n y e = true≢false (sym y ∙ ap is_with_shards (sym e) ∙ n)

pub framed_aside : (c : Config) (s t : State) → NamesKeys c → Aside c s t → AllFramed c s → AllFramed c t
framed_aside c s t names aside h = record {
  shards = ap length aside.same.shards ∙ h.shards;
  txn = λ o x e. txn_at o x (aside_cases c s t aside o) e;
  snap = λ o x e. snap_at o x (aside_cases c s t aside o) e;
  stub = λ o a shards e. stub_later s t a shards goes (stub_at o a shards (aside_cases c s t aside o) e);
  settles = λ o a shards e. settles_at o a shards (aside_cases c s t aside o) e;
  ops = λ o x e. op_at o x (aside_cases c s t aside o) e;
}
  where
    txn_at : (o : ℕ) (x : TxnSession) → Stands c s t o → (owner_at t o).session ≡ session.Transaction x → TxnFramed c t o x
    txn_at o x (stays_with b g) e = txn_later c s t o x x g.kind g.copy (same_txn x) (omega arith) (h.txn o x (sym g.session ∙ e))
    txn_at o x (stays_without b g) e = absurd (not_with (owner_at t o).session (session.Transaction x) g.none refl e)
    txn_at o x (is_new b g) e = absurd (not_with (owner_at t o).session (session.Transaction x) g.none refl e)
    txn_at o x (is_none b g) e = absurd (not_with (owner_at t o).session (session.Transaction x) (ap (λ (w : Owner). is_with_shards w.session) g) refl e)

    snap_at : (o : ℕ) (x : SnapSession) → Stands c s t o → (owner_at t o).session ≡ session.Snapshot x → SnapFramed c t o x
    snap_at o x (stays_with b g) e = snap_later c s t o x x g.kind g.copy (same_snap x) (h.snap o x (sym g.session ∙ e))
    snap_at o x (stays_without b g) e = absurd (not_with (owner_at t o).session (session.Snapshot x) g.none refl e)
    snap_at o x (is_new b g) e = absurd (not_with (owner_at t o).session (session.Snapshot x) g.none refl e)
    snap_at o x (is_none b g) e = absurd (not_with (owner_at t o).session (session.Snapshot x) (ap (λ (w : Owner). is_with_shards w.session) g) refl e)

    settles_at : (o : ℕ) (a : Attempt) (shards : List ℕ) → Stands c s t o → (owner_at t o).session ≡ session.Settling a shards → (owner_at t o).kind ≡ kind.Stubbing (Some (a, shards))
    settles_at o a shards (stays_with b g) e = g.kind ∙ h.settles o a shards (sym g.session ∙ e)
    settles_at o a shards (stays_without b g) e = absurd (not_with (owner_at t o).session (session.Settling a shards) g.none refl e)
    settles_at o a shards (is_new b g) e = absurd (not_with (owner_at t o).session (session.Settling a shards) g.none refl e)
    settles_at o a shards (is_none b g) e = absurd (not_with (owner_at t o).session (session.Settling a shards) (ap (λ (w : Owner). is_with_shards w.session) g) refl e)

    op_at : (o : ℕ) (x : Op) → Stands c s t o → (owner_at t o).kind ≡ kind.Calling x → OpNamed c x
    op_at o x (stays_with b g) e = h.ops o x (sym g.kind ∙ e)
    op_at o x (stays_without b g) e = h.ops o x (sym g.kind ∙ e)
    op_at o x (is_new b g) e = scripted_named c (owner_at t o).stage x names (g.made x e)
    op_at o x (is_none b g) e = absurd (fences_not x (ap (λ (w : Owner). w.kind) (sym g) ∙ e))
      where
        fences_not : (x : Op) → kind.Fencing ≡ kind.Calling x → ⊥
        fences_not x e = cc

    left_at : (a : Attempt) (shards : List ℕ) → IsLeft s a shards → StubFramed s a shards
    left_at a shards g = record {
      txn = g.txn;
      of = record {
        under_way = ap (λ (i : ℕ). (owner_at s i).session) (ap (λ (b : Attempt). b.call) g.attempt_is ∙ (h.txn g.owner g.txn g.under_way).call) ∙ g.under_way;
        first = subst (λ (b : Attempt). 1 ≤ b.k) (sym g.attempt_is) (h.txn g.owner g.txn g.under_way).attempts;
        last = subst (λ (b : Attempt). b.k ≤ g.txn.k) (sym g.attempt_is) (omega arith);
      };
      shards_are = g.shards_are;
    }

    stub_at : (o : ℕ) (a : Attempt) (shards : List ℕ) → Stands c s t o → (owner_at t o).kind ≡ kind.Stubbing (Some (a, shards)) → StubFramed s a shards
    stub_at o a shards (stays_with b g) e = h.stub o a shards (sym g.kind ∙ e)
    stub_at o a shards (stays_without b g) e = h.stub o a shards (sym g.kind ∙ e)
    stub_at o a shards (is_new b g) e = left_at a shards (g.left a shards e)
    stub_at o a shards (is_none b g) e = absurd (fences_not (Some (a, shards)) (ap (λ (w : Owner). w.kind) (sym g) ∙ e))
      where
        fences_not : (x : Option (Attempt × List ℕ)) → kind.Fencing ≡ kind.Stubbing x → ⊥
        fences_not x e = cc

    goes : (o : ℕ) (x : TxnSession) → (owner_at s o).session ≡ session.Transaction x → GoesOn x (owner_at t o).session
    goes o x e = by_stands (aside_cases c s t aside o)
      where
        by_stands : Stands c s t o → GoesOn x (owner_at t o).session
        by_stands (stays_with b g) = txn_stays x (owner_at t o).session (g.session ∙ e)
        by_stands (stays_without b g) = absurd (not_with (owner_at s o).session (session.Transaction x) b refl e)
        by_stands (is_new b g) = absurd (not_with (owner_at s o).session (session.Transaction x) (ap (λ (w : Owner). is_with_shards w.session) b) refl e)
        by_stands (is_none b g) = absurd (not_with (owner_at s o).session (session.Transaction x) (ap (λ (w : Owner). is_with_shards w.session) b) refl e)
