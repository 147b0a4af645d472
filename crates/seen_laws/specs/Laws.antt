-- The form of contexts in every run.
use Rattle.std.specs.Prelude.{◌≡◌, ℕ, ◌≤◌, ◌⊎◌, true, List, length, Some}
use Rattle.std.specs.List.{All}
use Rattle.causal_context.specs.Forms.{IsSeen}
use Rattle.causal_context.specs.Seen.{Seen}
use Rattle.pipeline_lang.specs.declared.config.Config.{Config}
use Rattle.rss_tables.specs.Pipes.{Chunk, fenced_mark}
use Rattle.rss_machine.specs.Run.{run, readings_of}
use Rattle.rss_machine.specs.Standing.{is_running}
use Rattle.rss_machine.specs.State.{State, stage_at, owner_at, pipe_at}
use Rattle.rss_machine.specs.declared.step.Step.{Step}
use Rattle.world_laws.specs.Calls.{is_stub}
use Rattle.world_laws.specs.Laws.{IsOrdered}
use Rattle.world_laws.specs.Numbered.{are_numbered}
use Rattle.world_laws.specs.Shapes.{IsSoundFile}

-- a context in its orders, with no more dependencies than the file has registers
pub record HasForm (c : Config) (seen : Seen) : Type 0 where
  pub orders : IsSeen seen
  pub few : length seen.deps ≤ length c.registers

-- contexts of stages, of owners that run and of stubs, of chunks and of end marks
pub record HaveForm (c : Config) (s : State) : Type 0 where
  pub stages : (n : ℕ) → HasForm c (stage_at s n).context
  pub copies : (o : ℕ) → (is_running (owner_at s o).fate ≡ true) ⊎ (is_stub (owner_at s o).kind ≡ true) → HasForm c (owner_at s o).works.copy
  pub chunks : (p : ℕ) → All (λ (chunk : Chunk). HasForm c chunk.context) (pipe_at s p).chunks
  pub marks : (p number : ℕ) (seen : Seen) → (pipe_at s p).mark ≡ fenced_mark number seen → HasForm c seen

-- in every run they have it
abbrev pub ContextsHaveForm : Type 0
ContextsHaveForm = (c : Config) (steps : List Step) (s : State) → IsSoundFile c → All IsOrdered (readings_of steps) → are_numbered steps ≡ true → run c steps ≡ Some s → HaveForm c s
