-- A session that is told of the call of its owner is the tables' session of that owner.
use Rattle.std.proofs.Common.{◌≡◌, ℕ, List, sym, ap, ◌∙◌, refl}
use Rattle.rss_machine.specs.declared.session.OwnerKind.{OwnerKind}
use Rattle.two_phase.specs.Session.{SessionView as TxnView, txn_of}
use Rattle.two_phase.specs.declared.txn.Txn.{Txn}
use Rattle.snapshot_reads.specs.Session.{SessionView as SnapView, snap_of}
use Rattle.snapshot_reads.specs.declared.snap.Snap.{Snap}
use Rattle.owner_sessions.specs.declared.called.Called.{Called}
use Rattle.owner_sessions.specs.Parts.{txn_in, snap_in, TellsTxn, TellsSnap}

pub told_txn : (x : Txn) (k : OwnerKind) (c : Called) (t : TxnView) → TellsTxn x k c → txn_of x t ≡ txn_in k c t
told_txn x k c t h = let a = h.call in let b = h.reads in let d = h.guard in let e = h.writes in let f = h.least in let g = h.margin in cc

pub told_snap : (x : Snap) (k : OwnerKind) (c : Called) (t : SnapView) → TellsSnap x k c → snap_of x t ≡ snap_in k c t
told_snap x k c t h = let a = h.call in let b = h.keys in let d = h.least in cc

pub ruleset told = (told_txn, told_snap)
