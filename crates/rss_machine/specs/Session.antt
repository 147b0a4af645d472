-- What an owner has under way with replicas or shards, and how a call's operation leads to it.
use Rattle.std.specs.Prelude.{ℕ, Bool, true, false, List, [], ◌∷◌, Option, Some, None}
use Rattle.rss_names.specs.declared.service.Key.{Key}
use Rattle.rss_names.specs.declared.service.ServiceId.{ServiceId}
use Rattle.rss_names.specs.declared.service.ServiceId.TheVariants as service
use Rattle.rss_names.specs.declared.attempt.Attempt.{Attempt}
use Rattle.pipeline_lang.specs.declared.script.Expr.{Expr}
use Rattle.rss_model.specs.declared.op.Op.{Op}
use Rattle.rss_model.specs.declared.op.Op.TheVariants.{Read, Write, Snap, Txn}
use Rattle.rss_tables.specs.RegisterSession.{RegSession}
use Rattle.rss_tables.specs.TransactionSession.{TxnSession, txn_end, attempt_of}
use Rattle.rss_tables.specs.SnapshotSession.{SnapSession, snap_end}
use Rattle.rss_tables.specs.Lines.{shards_of}
use Rattle.rss_machine.specs.declared.session.Session.{Session as Under}
use Rattle.rss_machine.specs.declared.session.Session.TheVariants.{Idle, Fixing, Register, Transaction, Snapshot, Settling}

-- what an owner has under way, over the sessions of the tables
abbrev pub Session : Type 0
Session = Under RegSession TxnSession SnapSession

-- the service of the first of these keys
abbrev pub first_service : List Key → ServiceId
first_service [] = service.Txn 0
first_service (key ∷ keys) = key.service

-- the service of the first key written
abbrev pub written_service : List (Key × Expr ℕ) → ServiceId
written_service [] = service.Txn 0
written_service (write ∷ writes) = write.0.service

-- the service that an operation calls; all its keys are of one
abbrev pub service_of : Op → ServiceId
service_of (Read key) = key.service
service_of (Write key value) = key.service
service_of (Snap keys) = first_service keys
service_of (Txn reads guard writes) = written_service writes

-- the attempt that a transaction under way leaves behind, with its shards, where its stage dies
abbrev pub left_unsettled : Session → Option (Attempt × List ℕ)
left_unsettled (Transaction t) = Some (attempt_of t, shards_of t.lines)
left_unsettled Idle = None
left_unsettled (Fixing r) = None
left_unsettled (Register r) = None
left_unsettled (Snapshot t) = None
left_unsettled (Settling attempt shards) = None
