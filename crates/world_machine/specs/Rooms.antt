-- What a step of each kind needs room for: it takes no memory then.
use Rattle.std.specs.Prelude.{◌≡◌, ℕ, Bool, true, false, ◌≤◌, ⊤, Option}
use Rattle.causal_context.specs.Seen.{Seen, nothing_seen}
use Rattle.pipeline_lang.specs.declared.script.Statement.TheVariants as statement
use Rattle.truetime.specs.Reading.{Reading}
use Rattle.rss_model.specs.Cursor.{NumberedStatement}
use Rattle.rss_machine.specs.Standing.{exit_context}
use Rattle.rss_machine.specs.State.{State, Owner, opening_owner}
use Rattle.rss_machine.specs.declared.session.OwnerKind.TheVariants as kind
use Rattle.rss_tables.specs.Works.{no_works}
use Rattle.world_parts.specs.Halves.{unsettled_in}
use Rattle.world_parts.specs.Parts.{Traffic, stage_in}
use Rattle.world_stages.specs.Readies.{IsReadyFor}
use Rattle.world_stages.specs.View.{StagingView}
use Rattle.world_traffic.specs.View.{TrafficView}
use Rattle.world_machine.specs.declared.machine.Machine.{Machine}
use Rattle.world_machine.specs.Beginning.{NextIs, CanBegin, CanFence}
use Rattle.world_machine.specs.Machine.{state_of}

-- the context that lies with the exit of the child that a statement waits for
abbrev pub exit_seen : State → NumberedStatement → Seen
exit_seen s (statement.Wait child) = exit_context s child
exit_seen s (statement.Let variable value) = nothing_seen
exit_seen s (statement.Read variable key) = nothing_seen
exit_seen s (statement.Write key value) = nothing_seen
exit_seen s (statement.Snap pairs) = nothing_seen
exit_seen s (statement.Txn pairs guard writes) = nothing_seen
exit_seen s (statement.Spawn child) = nothing_seen
exit_seen s (statement.Put p value) = nothing_seen
exit_seen s (statement.Take variable p) = nothing_seen
exit_seen s (statement.Close p) = nothing_seen
exit_seen s statement.Fence = nothing_seen
exit_seen s (statement.Repeat times) = nothing_seen
exit_seen s (statement.When test) = nothing_seen
exit_seen s statement.End = nothing_seen
exit_seen s statement.Exit = nothing_seen

-- what is made ready for a call or a fence statement
abbrev pub IsMade : Machine → ℕ → Reading → NumberedStatement → Type 0
IsMade m n at (statement.Read variable key) = CanBegin m n at
IsMade m n at (statement.Write key value) = CanBegin m n at
IsMade m n at (statement.Snap pairs) = CanBegin m n at
IsMade m n at (statement.Txn pairs guard writes) = CanBegin m n at
IsMade m n at statement.Fence = CanFence m n at
IsMade m n at (statement.Let variable value) = ⊤
IsMade m n at (statement.Spawn child) = ⊤
IsMade m n at (statement.Wait child) = ⊤
IsMade m n at (statement.Put p value) = ⊤
IsMade m n at (statement.Take variable p) = ⊤
IsMade m n at (statement.Close p) = ⊤
IsMade m n at (statement.Repeat times) = ⊤
IsMade m n at (statement.When test) = ⊤
IsMade m n at statement.End = ⊤
IsMade m n at statement.Exit = ⊤

-- whether this is a fence statement, of which the copy of its end lies ready
abbrev pub is_fence : NumberedStatement → Bool
is_fence statement.Fence = true
is_fence (statement.Let variable value) = false
is_fence (statement.Read variable key) = false
is_fence (statement.Write key value) = false
is_fence (statement.Snap pairs) = false
is_fence (statement.Txn pairs guard writes) = false
is_fence (statement.Spawn child) = false
is_fence (statement.Wait child) = false
is_fence (statement.Put p value) = false
is_fence (statement.Take variable p) = false
is_fence (statement.Close p) = false
is_fence (statement.Repeat times) = false
is_fence (statement.When test) = false
is_fence statement.End = false
is_fence statement.Exit = false

-- a statement of a stage
pub record StatementRoom (m : Machine) (n : ℕ) (at : Reading) (st : NumberedStatement) : Type 0 where
  pub ready : is_fence st ≡ false → IsReadyFor m.config m.staging n (exit_seen (state_of m) st) st
  pub made : IsMade m n at st

-- the stub of a stage that has seen this, and whose owner this is
abbrev pub stub_owner : Traffic → ℕ → ℕ → Option ℕ → Seen → Owner
stub_owner t step n owner seen = opening_owner n (kind.Stubbing (unsettled_in t owner)) false (no_works seen) step

-- the death of a stage: its stub, and one entry
pub record DeathIn (v : StagingView) (t : TrafficView) (step n : ℕ) : Type 0 where
  pub entries : 1 ≤ v.room
  pub owner : NextIs t (stub_owner t.traffic step n (stage_in v.staging n).owner (stage_in v.staging n).context)

abbrev pub DeathRoom : Machine → ℕ → Type 0
DeathRoom m n = DeathIn m.staging m.traffic m.clock.steps n
