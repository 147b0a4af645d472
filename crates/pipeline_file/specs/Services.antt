-- The services of a file, and what belongs to which.
use Rattle.std.specs.Prelude.{ℕ, ◌+◌, Bool, true, false, List, [], ◌∷◌, ◌++◌, codes}
use Rattle.std.specs.List.{filter}
use Rattle.rss_names.specs.declared.service.ServiceId.{ServiceId}
use Rattle.rss_names.specs.declared.service.ServiceId.TheVariants as id
use Rattle.pipeline_lang.specs.declared.config.ServiceDef.{ServiceDef}
use Rattle.pipeline_tables.specs.declared.tables.FileTables.{FileTables}
use Rattle.pipeline_tables.specs.declared.tables.ServiceTable.{ServiceTable}
use Rattle.pipeline_tables.specs.declared.tables.ServiceKind.{ServiceKind}
use Rattle.pipeline_tables.specs.declared.tables.ServiceKind.TheVariants.{Txn, Reg}
use Rattle.pipeline_tables.specs.declared.tables.ShardTable.{ShardTable}

-- one owner for each of these names
unfoldable pub for_each : {A : Type 0} → A → List (List ℕ) → List A
for_each owner [] = []
for_each owner (name ∷ names) = owner ∷ for_each owner names

-- a service of a kind, where the next one of kind txn, or reg, has this number; replicas mean nothing to kind txn
abbrev pub of_kind : ℕ → ℕ → ServiceTable → ServiceKind → ServiceDef
of_kind txn reg t Txn = record { name = t.name; id = id.Txn txn; replicas = 0 }
of_kind txn reg t Reg = record { name = t.name; id = id.Reg reg; replicas = t.replicas }

-- the service that a table adds
abbrev pub further_one : ℕ → ℕ → ServiceTable → ServiceDef
further_one txn reg t = of_kind txn reg t t.kind

-- the next number of kind txn behind a service
abbrev pub next_txn : ℕ → ServiceKind → ℕ
next_txn txn Txn = txn + 1
next_txn txn Reg = txn

-- the next number of kind reg behind a service
abbrev pub next_reg : ℕ → ServiceKind → ℕ
next_reg reg Txn = reg
next_reg reg Reg = reg + 1

-- the services that tables add, in file order
unfoldable pub further_from : ℕ → ℕ → List ServiceTable → List ServiceDef
further_from txn reg [] = []
further_from txn reg (t ∷ ts) = further_one txn reg t ∷ further_from (next_txn txn t.kind) (next_reg reg t.kind) ts

-- the service of each register that tables add
unfoldable pub owners_from : ℕ → ℕ → List ServiceTable → List ServiceId
owners_from txn reg [] = []
owners_from txn reg (t ∷ ts) = for_each (further_one txn reg t).id t.registers ++ owners_from (next_txn txn t.kind) (next_reg reg t.kind) ts

-- the service of each register: the root's belong to `reg`
unfoldable pub register_services : FileTables → List ServiceId
register_services t = for_each (id.Reg 1) t.root.registers ++ owners_from 2 2 t.services

-- whether a service is of a kind
abbrev pub is_of : ServiceKind → ServiceId → Bool
is_of Txn (id.Txn n) = true
is_of Txn (id.Reg n) = false
is_of Reg (id.Txn n) = false
is_of Reg (id.Reg n) = true

-- the services of a kind
abbrev pub those_of : ServiceKind → List ServiceDef → List ServiceDef
those_of kind services = filter (λ d. is_of kind d.id) services

-- all services: `txn` and those of its kind, then `reg` and those of its kind
unfoldable pub services_of : FileTables → List ServiceDef
services_of t =
    record { name = codes "txn"; id = id.Txn 1; replicas = 0 } ∷ those_of Txn (further_from 2 2 t.services)
    ++ record { name = codes "reg"; id = id.Reg 1; replicas = t.root.replicas } ∷ those_of Reg (further_from 2 2 t.services)

-- the shard of each key; the first shard has this number
unfoldable pub homes_from : ℕ → List ShardTable → List ℕ
homes_from n [] = []
homes_from n (s ∷ ss) = for_each n s.keys ++ homes_from (n + 1) ss
