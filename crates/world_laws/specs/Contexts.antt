-- Where dependencies stand: in the contexts of stages, of the chunks and end marks of pipes, and of the
-- copies that owners go through their works with.
use Rattle.std.specs.Prelude.{List, []}
use Rattle.std.specs.List.{All}
use Rattle.causal_context.specs.declared.dep.Dep.{Dep}
use Rattle.rss_tables.specs.Pipes.{Pipe, Chunk, EndMark, no_mark, fenced_mark, bare_mark}
use Rattle.rss_machine.specs.State.{State, Stage, Owner}

-- the dependencies that lie with an end mark
abbrev pub mark_deps : EndMark → List Dep
mark_deps no_mark = []
mark_deps (fenced_mark number seen) = seen.deps
mark_deps bare_mark = []

-- each dependency of a stage, of a copy, and of a pipe
abbrev pub StageHolds : (Dep → Type 0) → Stage → Type 0
StageHolds G stage = All G stage.context.deps

abbrev pub CopyHolds : (Dep → Type 0) → Owner → Type 0
CopyHolds G owner = All G owner.works.copy.deps

abbrev pub ChunkHolds : (Dep → Type 0) → Chunk → Type 0
ChunkHolds G chunk = All G chunk.context.deps

pub record PipeHolds (G : Dep → Type 0) (pipe : Pipe) : Type 0 where
  pub chunks : All (ChunkHolds G) pipe.chunks
  pub mark : All G (mark_deps pipe.mark)

-- each dependency of a state
pub record AllDeps (G : Dep → Type 0) (s : State) : Type 0 where
  pub stages : All (StageHolds G) s.stages
  pub pipes : All (PipeHolds G) s.pipes
  pub copies : All (CopyHolds G) s.owners
