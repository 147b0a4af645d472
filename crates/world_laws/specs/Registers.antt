-- The registers of a file, and scripts that name no others.
use Rattle.std.specs.Prelude.{◌≡◌, ℕ, ◌<◌, ◌≤◌, List, [], ◌∷◌, length}
use Rattle.std.specs.List.{All}
use Rattle.rss_names.specs.declared.service.Key.{Key}
use Rattle.rss_names.specs.declared.service.ServiceId.TheVariants.{Reg}
use Rattle.pipeline_lang.specs.Config.{service_of_register, statement_at}
use Rattle.pipeline_lang.specs.declared.config.Config.{Config}
use Rattle.pipeline_lang.specs.declared.script.Statement.{Statement}
use Rattle.pipeline_lang.specs.declared.script.Statement.TheVariants as statement

-- a register of the file: its number is in the table of registers, with its service, which is a
-- register service
pub record IsRegister (c : Config) (key : Key) : Type 0 where
  pub there : key.index < length c.registers
  pub kept_by : service_of_register c key.index ≡ key.service
  pub number : ℕ
  pub is : key.service ≡ Reg number
  pub first : 1 ≤ number
  pub last : number ≤ 8

-- the registers that a statement names
abbrev pub statement_registers : Statement ℕ Key ℕ ℕ → List Key
statement_registers (statement.Read variable key) = key ∷ []
statement_registers (statement.Write key value) = key ∷ []
statement_registers (statement.Snap pairs) = []
statement_registers (statement.Txn reads guard writes) = []
statement_registers (statement.Let variable value) = []
statement_registers (statement.Spawn child) = []
statement_registers (statement.Wait child) = []
statement_registers (statement.Put p value) = []
statement_registers (statement.Take variable p) = []
statement_registers (statement.Close p) = []
statement_registers statement.Fence = []
statement_registers (statement.Repeat times) = []
statement_registers (statement.When test) = []
statement_registers statement.End = []
statement_registers statement.Exit = []

-- each register that a script names is one of the file
pub record NamesRegisters (c : Config) : Type 0 where
  pub statements : (n place : ℕ) → All (IsRegister c) (statement_registers (statement_at c n place))
