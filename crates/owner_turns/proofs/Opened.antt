-- A call begins the session that was made for it.
use Rattle.std.proofs.Common.{◌≡◌, ℕ, ◌+◌, ◌==◌, Bool, true, false, List, [], ◌∷◌, ◌++◌, length, Option, Some, None, refl, sym, ap, subst, ◌∙◌}
use Rattle.std.specs.Prelude.{max}
use Rattle.truetime.specs.Reading.{Reading}
use Rattle.causal_context.specs.LeastTimes.{least_of}
use Rattle.causal_context.specs.Seen.{Seen}
use Rattle.causal_context.specs.declared.dep.Dep.{Dep}
use Rattle.pipeline_lang.specs.Config.{home_of, body_of}
use Rattle.pipeline_lang.specs.declared.config.Config.{Config}
use Rattle.rss_names.specs.declared.service.ServiceId.{ServiceId}
use Rattle.rss_model.specs.declared.op.Op.{Op}
use Rattle.rss_model.specs.declared.op.Op.TheVariants as op
use Rattle.rss_tables.specs.TransactionSession.{TxnSession, written_keys, opening_txn, txn_starts}
use Rattle.rss_tables.specs.SnapshotSession.{SnapSession, opening_snapshot, snap_starts}
use Rattle.rss_tables.specs.Lines.{lines_of}
use Rattle.rss_tables.specs.declared.register_session.RegWork.{RegWork}
use Rattle.rss_machine.specs.Session.{service_of}
use Rattle.rss_machine.specs.State.{Owner}
use Rattle.rss_machine.specs.declared.session.OwnerKind.{OwnerKind}
use Rattle.rss_machine.specs.declared.session.OwnerKind.TheVariants as kind
use Rattle.rss_machine.specs.declared.session.Session.TheVariants as session
use Rattle.turn_laws.specs.Turns.{OwnerTurn, goes_with, launched, register_launch, fix_turn}
use Rattle.two_phase.specs.Session.{SessionView as TxnView}
use Rattle.snapshot_reads.specs.Session.{SessionView as SnapView}
use Rattle.owner_sessions.specs.declared.called.Called.{Called}
use Rattle.owner_sessions.specs.Parts.{txn_in, snap_in}
use Rattle.owner_turns.specs.declared.aim.Aim.{Aim}
use Rattle.owner_turns.specs.declared.aim.Aim.TheVariants as aim
use Rattle.owner_turns.proofs.Places.{filled}
use Rattle.owner_turns.specs.Going.{SpareView, OpensKind, OpensTxn, OpensSnap, aim_of, launches, starts_register}

same_txn : {a b : ServiceId} → aim.Txn a ≡ aim.Txn b → a ≡ b
same_txn e = cc

same_snap : {a b : ServiceId} → aim.Snap a ≡ aim.Snap b → a ≡ b
same_snap e = cc

pub txn_opens : (c : Config) (o step : ℕ) (at : Reading) (w : Owner) (k : OwnerKind) (id : ServiceId) (s : SpareView) (t : TxnView) (x : Called) → aim_of k ≡ aim.Txn id → OpensKind c at w.works.copy s k → s.txn ≡ Some t → x.call ≡ o → x.least ≡ least_of w.works.copy.least id → x.margin ≡ (body_of c w.stage).earliest_end → launches c o step at k w ≡ goes_with (launched step (session.Transaction (txn_in k x t)) w) (txn_starts (txn_in k x t)).outs
txn_opens c o step at w (kind.Calling (op.Txn reads guard writes)) id s t x a h e call least margin =
    let p = subst (OpensTxn (lines_of (home_of c) reads (written_keys writes))) e h in
    let q : x.least ≡ least_of w.works.copy.least (service_of (op.Txn reads guard writes)) = least ∙ ap (λ (i : ServiceId). least_of w.works.copy.least i) (sym (same_txn a)) in
    let k1 = p.0 in let k2 = p.1 in let k3 = p.2 in let k4 = p.3 in
    let all : txn_in (kind.Calling (op.Txn reads guard writes)) x t ≡ opening_txn (home_of c) o reads guard writes (least_of w.works.copy.least (service_of (op.Txn reads guard writes))) (body_of c w.stage).earliest_end = cc in
    sym (ap (λ (y : TxnSession). goes_with (launched step (session.Transaction y) w) (txn_starts y).outs) all)
txn_opens c o step at w (kind.Calling (op.Read key)) id s t x a h e call least margin = cc
txn_opens c o step at w (kind.Calling (op.Write key value)) id s t x a h e call least margin = cc
txn_opens c o step at w (kind.Calling (op.Snap keys)) id s t x a h e call least margin = cc
txn_opens c o step at w kind.Fencing id s t x a h e call least margin = cc
txn_opens c o step at w (kind.Stubbing unsettled) id s t x a h e call least margin = cc

pub txn_made : (c : Config) (at : Reading) (seen : Seen) (k : OwnerKind) (id : ServiceId) (s : SpareView) → aim_of k ≡ aim.Txn id → OpensKind c at seen s k → s.txn ≡ None → ⊥
txn_made c at seen (kind.Calling (op.Txn reads guard writes)) id s a h e = subst (OpensTxn (lines_of (home_of c) reads (written_keys writes))) e h
txn_made c at seen (kind.Calling (op.Read key)) id s a h e = cc
txn_made c at seen (kind.Calling (op.Write key value)) id s a h e = cc
txn_made c at seen (kind.Calling (op.Snap keys)) id s a h e = cc
txn_made c at seen kind.Fencing id s a h e = cc
txn_made c at seen (kind.Stubbing unsettled) id s a h e = cc

pub snap_opens : (c : Config) (o step : ℕ) (at : Reading) (w : Owner) (k : OwnerKind) (id : ServiceId) (s : SpareView) (t : SnapView) (x : Called) → aim_of k ≡ aim.Snap id → OpensKind c at w.works.copy s k → s.snap ≡ Some t → x.call ≡ o → x.least ≡ least_of w.works.copy.least id → launches c o step at k w ≡ goes_with (launched step (session.Snapshot (snap_in k x t)) w) (snap_starts (snap_in k x t)).outs
snap_opens c o step at w (kind.Calling (op.Snap keys)) id s t x a h e call least =
    let p = subst (OpensSnap (lines_of (home_of c) keys []) (max at.latest (least_of w.works.copy.least (service_of (op.Snap keys))))) e h in
    let q : x.least ≡ least_of w.works.copy.least (service_of (op.Snap keys)) = least ∙ ap (λ (i : ServiceId). least_of w.works.copy.least i) (sym (same_snap a)) in
    let k1 = p.0 in let k2 = p.1 in
    let all : snap_in (kind.Calling (op.Snap keys)) x t ≡ opening_snapshot (home_of c) o keys (least_of w.works.copy.least (service_of (op.Snap keys))) at = cc in
    sym (ap (λ (y : SnapSession). goes_with (launched step (session.Snapshot y) w) (snap_starts y).outs) all)
snap_opens c o step at w (kind.Calling (op.Read key)) id s t x a h e call least = cc
snap_opens c o step at w (kind.Calling (op.Write key value)) id s t x a h e call least = cc
snap_opens c o step at w (kind.Calling (op.Txn reads guard writes)) id s t x a h e call least = cc
snap_opens c o step at w kind.Fencing id s t x a h e call least = cc
snap_opens c o step at w (kind.Stubbing unsettled) id s t x a h e call least = cc

pub snap_made : (c : Config) (at : Reading) (seen : Seen) (k : OwnerKind) (id : ServiceId) (s : SpareView) → aim_of k ≡ aim.Snap id → OpensKind c at seen s k → s.snap ≡ None → ⊥
snap_made c at seen (kind.Calling (op.Snap keys)) id s a h e = subst (OpensSnap (lines_of (home_of c) keys []) (max at.latest (least_of seen.least (service_of (op.Snap keys))))) e h
snap_made c at seen (kind.Calling (op.Read key)) id s a h e = cc
snap_made c at seen (kind.Calling (op.Write key value)) id s a h e = cc
snap_made c at seen (kind.Calling (op.Txn reads guard writes)) id s a h e = cc
snap_made c at seen kind.Fencing id s a h e = cc
snap_made c at seen (kind.Stubbing unsettled) id s a h e = cc

pub starts_none : (c : Config) (o step : ℕ) (work : RegWork) (id : ServiceId) (deps : List Dep) (w : Owner) → (length deps == 0) ≡ true → starts_register c o step work id deps w ≡ register_launch c o step work id w
starts_none c o step work id [] w e = refl
starts_none c o step work id (dep ∷ deps) w e = absurd (filled (length deps) e)

pub starts_some : (c : Config) (o step : ℕ) (work : RegWork) (id : ServiceId) (deps : List Dep) (w : Owner) → (length deps == 0) ≡ false → starts_register c o step work id deps w ≡ fix_turn c o id w
starts_some c o step work id [] w e = cc
starts_some c o step work id (dep ∷ deps) w e = refl

pub ruleset opens_txn = (txn_opens, txn_made)

pub ruleset opens_snap = (snap_opens, snap_made)

pub ruleset starts_by = (starts_none, starts_some)
