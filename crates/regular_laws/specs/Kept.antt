-- Which keys the calls of transaction services have.
use Rattle.std.specs.Prelude.{◌≡◌, ℕ, ⊤, false, List, [], ◌∷◌, Some, Contains}
use Rattle.rss_names.specs.declared.service.Key.{Key}
use Rattle.rss_names.specs.declared.service.ServiceId.TheVariants.{Txn}
use Rattle.pipeline_lang.specs.Config.{statement_at}
use Rattle.pipeline_lang.specs.declared.config.Config.{Config}
use Rattle.rss_model.specs.CallStatement.{op_of_statement}
use Rattle.rss_model.specs.Operation.{reads_of, writes_of}
use Rattle.rss_model.specs.declared.op.Op.{Op}
use Rattle.rss_model.specs.declared.op.Op.TheVariants as op
use Rattle.rss_tables.specs.Locks.{has_key}
use Rattle.rss_machine.specs.Session.{service_of}
use Rattle.rss_machine.specs.State.{State, owner_at}
use Rattle.rss_machine.specs.declared.session.OwnerKind.TheVariants as kind

-- each of these keys is there once
abbrev pub AreOnce : List Key → Type 0
AreOnce [] = ⊤
AreOnce (key ∷ keys) = (has_key keys key ≡ false) × AreOnce keys

-- an operation reads and writes keys of its own transaction service alone, and writes none twice
pub record IsOfService (x : Op) : Type 0 where
  pub number : ℕ
  pub service : service_of x ≡ Txn number
  pub reads : (key : Key) → Contains (reads_of x) key → key.service ≡ Txn number
  pub writes : (key : Key) → Contains (writes_of x) key → key.service ≡ Txn number
  pub once : AreOnce (writes_of x)

-- snapshots and transactions do
abbrev pub IsKept : Op → Type 0
IsKept (op.Read key) = ⊤
IsKept (op.Write key value) = ⊤
IsKept (op.Snap keys) = IsOfService (op.Snap keys)
IsKept (op.Txn reads guard writes) = IsOfService (op.Txn reads guard writes)

pub record CallsKept (s : State) : Type 0 where
  pub each : (o : ℕ) (x : Op) → (owner_at s o).kind ≡ kind.Calling x → IsKept x

-- so does every operation that a statement of the file makes
pub record OpsKept (c : Config) : Type 0 where
  pub each : (n place : ℕ) (variables : List ℕ) (x : Op) → op_of_statement (statement_at c n place) variables ≡ Some x → IsKept x
