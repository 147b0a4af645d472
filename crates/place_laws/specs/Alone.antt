-- Files whose stages keep to themselves, each at one register service.
use Rattle.std.specs.Prelude.{◌≡◌, ℕ, ⊤, Bool, true, false, List, [], ◌∷◌}
use Rattle.std.specs.List.{list_all}
use Rattle.rss_names.specs.declared.service.Key.{Key}
use Rattle.rss_names.specs.declared.service.ServiceId.{ServiceId}
use Rattle.rss_names.specs.declared.service.ServiceId.TheVariants.{Reg}
use Rattle.rss_names.specs.Services.{same_service}
use Rattle.pipeline_lang.specs.Config.{statement_at}
use Rattle.pipeline_lang.specs.declared.config.Body.{Body}
use Rattle.pipeline_lang.specs.declared.config.Config.{Config}
use Rattle.pipeline_lang.specs.declared.script.Statement.{Statement}
use Rattle.pipeline_lang.specs.declared.script.Statement.TheVariants as statement

-- a statement that reads and writes registers of a service alone, and has nothing to do with other stages
abbrev pub KeepsTo : ServiceId → Statement ℕ Key ℕ ℕ → Type 0
KeepsTo id (statement.Read variable key) = key.service ≡ id
KeepsTo id (statement.Write key value) = key.service ≡ id
KeepsTo id (statement.Let variable value) = ⊤
KeepsTo id (statement.Repeat times) = ⊤
KeepsTo id (statement.When test) = ⊤
KeepsTo id statement.End = ⊤
KeepsTo id statement.Exit = ⊤
KeepsTo id (statement.Snap pairs) = ⊥
KeepsTo id (statement.Txn reads guard writes) = ⊥
KeepsTo id (statement.Spawn child) = ⊥
KeepsTo id (statement.Wait child) = ⊥
KeepsTo id (statement.Put p value) = ⊥
KeepsTo id (statement.Take variable p) = ⊥
KeepsTo id (statement.Close p) = ⊥
KeepsTo id statement.Fence = ⊥

-- each stage keeps to the registers of one service
pub record KeepsToServices (c : Config) : Type 0 where
  pub service : ℕ → ServiceId
  pub statements : (n place : ℕ) → KeepsTo (service n) (statement_at c n place)

-- whether a statement is such
abbrev pub keeps_to : ServiceId → Statement ℕ Key ℕ ℕ → Bool
keeps_to id (statement.Read variable key) = same_service key.service id
keeps_to id (statement.Write key value) = same_service key.service id
keeps_to id (statement.Let variable value) = true
keeps_to id (statement.Repeat times) = true
keeps_to id (statement.When test) = true
keeps_to id statement.End = true
keeps_to id statement.Exit = true
keeps_to id (statement.Snap pairs) = false
keeps_to id (statement.Txn reads guard writes) = false
keeps_to id (statement.Spawn child) = false
keeps_to id (statement.Wait child) = false
keeps_to id (statement.Put p value) = false
keeps_to id (statement.Take variable p) = false
keeps_to id (statement.Close p) = false
keeps_to id statement.Fence = false

-- the service of the register that a statement reads or writes, or else this one
abbrev pub service_or : ServiceId → Statement ℕ Key ℕ ℕ → ServiceId
service_or id (statement.Read variable key) = key.service
service_or id (statement.Write key value) = key.service
service_or id (statement.Let variable value) = id
service_or id (statement.Repeat times) = id
service_or id (statement.When test) = id
service_or id statement.End = id
service_or id statement.Exit = id
service_or id (statement.Snap pairs) = id
service_or id (statement.Txn reads guard writes) = id
service_or id (statement.Spawn child) = id
service_or id (statement.Wait child) = id
service_or id (statement.Put p value) = id
service_or id (statement.Take variable p) = id
service_or id (statement.Close p) = id
service_or id statement.Fence = id

-- the service of the first register that a script reads or writes; where it does neither, one that is not there
abbrev pub service_in : List (Statement ℕ Key ℕ ℕ) → ServiceId
service_in [] = Reg 0
service_in (x ∷ script) = service_or (service_in script) x

-- whether a script keeps to the service of its first register, and whether each script does
abbrev pub is_alone : List (Statement ℕ Key ℕ ℕ) → Bool
is_alone script = list_all (keeps_to (service_in script)) script

abbrev pub are_alone : List Body → Bool
are_alone bodies = list_all (λ (body : Body). is_alone body.script) bodies
