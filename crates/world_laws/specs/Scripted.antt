-- What calls, fence statements and messages are of the scripts that make them.
use Rattle.std.specs.Prelude.{◌≡◌, ℕ, ◌<◌, Bool, true, false, List, length, Some}
use Rattle.rss_names.specs.declared.service.Key.{Key}
use Rattle.pipeline_lang.specs.declared.config.Config.{Config}
use Rattle.pipeline_lang.specs.declared.script.Statement.{Statement}
use Rattle.pipeline_lang.specs.declared.script.Statement.TheVariants as statement
use Rattle.pipeline_lang.specs.Config.{statement_at}
use Rattle.rss_model.specs.CallStatement.{op_of_statement}
use Rattle.rss_model.specs.History.{entry_at}
use Rattle.rss_model.specs.declared.history.Entry.TheVariants.{Get}
use Rattle.rss_model.specs.declared.history.Token.{Token}
use Rattle.rss_model.specs.declared.op.Op.{Op}
use Rattle.rss_machine.specs.State.{State, owner_at}
use Rattle.rss_machine.specs.declared.session.OwnerKind.TheVariants as kind

-- a stage's script has a statement that makes this call, where its variables have some values
pub record IsScripted (c : Config) (stage : ℕ) (x : Op) : Type 0 where
  pub place : ℕ
  pub variables : List ℕ
  pub makes : op_of_statement (statement_at c stage place) variables ≡ Some x

-- whether a statement gets a message of another stage, or has one get it
abbrev pub hands_over : Statement ℕ Key ℕ ℕ → Bool
hands_over (statement.Spawn child) = true
hands_over (statement.Wait child) = true
hands_over (statement.Take variable p) = true
hands_over (statement.Read variable key) = false
hands_over (statement.Write key value) = false
hands_over (statement.Snap pairs) = false
hands_over (statement.Txn reads guard writes) = false
hands_over (statement.Let variable value) = false
hands_over (statement.Put p value) = false
hands_over (statement.Close p) = false
hands_over statement.Fence = false
hands_over (statement.Repeat times) = false
hands_over (statement.When test) = false
hands_over statement.End = false
hands_over statement.Exit = false

-- some script has a statement that hands a message over
pub record HandsOver (c : Config) : Type 0 where
  pub stage : ℕ
  pub place : ℕ
  pub hands : hands_over (statement_at c stage place) ≡ true

-- a stage's script has a fence statement
pub record HasFence (c : Config) (stage : ℕ) : Type 0 where
  pub place : ℕ
  pub is_fence : statement_at c stage place ≡ statement.Fence

-- calls, fence statements and messages are of the scripts
pub record AreScripted (c : Config) (s : State) : Type 0 where
  pub calls : (o : ℕ) (x : Op) → (owner_at s o).kind ≡ kind.Calling x → IsScripted c (owner_at s o).stage x
  pub fences : (o : ℕ) → 0 < o → o < length s.owners → (owner_at s o).kind ≡ kind.Fencing → HasFence c (owner_at s o).stage
  pub gets : (i n : ℕ) (token : Token) → entry_at s.history i ≡ Get n token → HandsOver c
