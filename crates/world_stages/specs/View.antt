-- The stages, the pipes and the history as contracts see them.
use Rattle.std.specs.Prelude.{ℕ, ◌-◌, List, get_or}
use Rattle.pipeline_stage.specs.CopiesView.{CopiesView}
use Rattle.rss_tables.specs.Pipes.{Pipe, opening_pipe}
use Rattle.rss_machine.specs.State.{Stage, no_stage}
use Rattle.world_parts.specs.Parts.{Staging}

-- the part of the state, for how many more entries there is room, and the spare copies of a context
pub record StagingView : Type 0 where
  pub staging : Staging
  pub room : ℕ
  pub spare : CopiesView

-- the stage and the pipe of a number among these
abbrev pub stage_of : List Stage → ℕ → Stage
stage_of stages n = get_or stages (n - 1) no_stage

abbrev pub pipe_of : List Pipe → ℕ → Pipe
pipe_of pipes p = get_or pipes (p - 1) opening_pipe
