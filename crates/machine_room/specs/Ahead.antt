-- What a stage's next statement needs, in short.
use Rattle.std.specs.Prelude.{◌≡◌, ℕ, Some}
use Rattle.causal_context.specs.Seen.{nothing_seen}
use Rattle.pipeline_lang.specs.declared.script.Statement.TheVariants as statement
use Rattle.truetime.specs.Reading.{Reading}
use Rattle.rss_model.specs.CallStatement.{op_of_statement}
use Rattle.rss_model.specs.Cursor.{NumberedStatement}
use Rattle.rss_model.specs.declared.op.Op.{Op}
use Rattle.rss_machine.specs.Standing.{exit_context}
use Rattle.world_parts.specs.Parts.{stage_in}
use Rattle.world_stages.specs.Readies.{IsReady, IsReadyFor}
use Rattle.world_machine.specs.declared.machine.Machine.{Machine}
use Rattle.machine_room.specs.declared.statements.Ahead.{Ahead}
use Rattle.machine_room.specs.declared.statements.Ahead.TheVariants as next
use Rattle.world_machine.specs.Beginning.{CallRoom, FenceStart}
use Rattle.world_machine.specs.Machine.{state_of}

-- a call, a fence statement, a wait for a child, or what concerns its stage and pipes alone
abbrev pub ahead_of : NumberedStatement → Ahead
ahead_of (statement.Read variable key) = next.Call
ahead_of (statement.Write key value) = next.Call
ahead_of (statement.Snap pairs) = next.Call
ahead_of (statement.Txn pairs guard writes) = next.Call
ahead_of statement.Fence = next.Fence
ahead_of (statement.Wait child) = next.Wait child
ahead_of (statement.Let variable value) = next.Other
ahead_of (statement.Spawn child) = next.Other
ahead_of (statement.Put p value) = next.Other
ahead_of (statement.Take variable p) = next.Other
ahead_of (statement.Close p) = next.Other
ahead_of (statement.Repeat times) = next.Other
ahead_of (statement.When test) = next.Other
ahead_of statement.End = next.Other
ahead_of statement.Exit = next.Other

-- room for the call of a statement
pub record CallIn (m : Machine) (at : Reading) (step n : ℕ) (st : NumberedStatement) : Type 0 where
  pub operation : Op
  pub made : m.op ≡ Some operation
  pub same : op_of_statement st (stage_in m.staging.staging n).cursor.variables ≡ Some operation
  pub room : CallRoom m.config at m.staging m.traffic step n operation
  pub ready : IsReady m.staging 1 (stage_in m.staging.staging n).context 1

-- room for a statement that is this
abbrev pub AheadIn : Machine → Reading → ℕ → ℕ → NumberedStatement → Ahead → Type 0
AheadIn m at step n st next.Call = CallIn m at step n st
AheadIn m at step n st next.Fence = FenceStart m.config at m.staging m.traffic step n
AheadIn m at step n st (next.Wait child) = IsReadyFor m.config m.staging n (exit_context (state_of m) child) st
AheadIn m at step n st next.Other = IsReadyFor m.config m.staging n nothing_seen st
