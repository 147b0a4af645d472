-- Files whose scripts name their registers, and whose register services are numbered in order.
use Rattle.std.specs.Prelude.{◌≡◌, ℕ, ◌+◌, ⊤, List, [], ◌∷◌}
use Rattle.rss_names.specs.declared.service.ServiceId.{ServiceId}
use Rattle.rss_names.specs.declared.service.ServiceId.TheVariants.{Txn, Reg}
use Rattle.pipeline_lang.specs.declared.config.Config.{Config}
use Rattle.pipeline_lang.specs.declared.config.ServiceDef.{ServiceDef}
use Rattle.world_laws.specs.Registers.{NamesRegisters}

-- a service is the one of this number, where it is a register service
abbrev pub IsNext : ServiceId → ℕ → Type 0
IsNext (Txn k) n = ⊤
IsNext (Reg k) n = k ≡ n

-- the number of the next register service behind a service
abbrev pub next_number : ServiceId → ℕ → ℕ
next_number (Txn k) n = n
next_number (Reg k) n = n + 1

-- register services are numbered in order from a number on
abbrev pub AreNumbered : ℕ → List ServiceDef → Type 0
AreNumbered n [] = ⊤
AreNumbered n (d ∷ services) = IsNext d.id n × AreNumbered (next_number d.id n) services

-- the scripts of a file name its registers, and its register services are numbered in order from 1
pub record IsInOrder (c : Config) : Type 0 where
  pub names : NamesRegisters c
  pub services : AreNumbered 1 c.services
