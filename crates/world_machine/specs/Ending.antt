-- What the end of an owner's turn needs.
use Rattle.std.specs.Prelude.{ℕ, ◌+◌, ◌<◌, ◌≤◌, ◌^◌, ⊤, length}
use Rattle.causal_context.specs.Seen.{Seen, fenced_outside}
use Rattle.pipeline_lang.specs.declared.config.Config.{Config}
use Rattle.pipeline_stage.specs.CopiesView.{AreCopies}
use Rattle.rss_machine.specs.Calls.{fenced_context}
use Rattle.turn_laws.specs.Turns.{TurnEnd, goes, replied, fence_over, stub_over}
use Rattle.world_parts.specs.Parts.{stage_in, owner_in}
use Rattle.world_stages.specs.Readies.{IsReady, HasNumbers}
use Rattle.world_stages.specs.View.{StagingView}
use Rattle.world_machine.specs.declared.machine.Machine.{Machine}

-- a fence statement of a stage with this copy: the spare copy is what the stage has seen then
pub record FenceRoom (v : StagingView) (n : ℕ) (copy : Seen) : Type 0 where
  pub spare : AreCopies v.spare (fenced_context (stage_in v.staging n).context copy) 1
  pub position : (stage_in v.staging n).cursor.position + 1 < 2 ^ 64

-- a stub with this copy: a copy for each pipe, of what its stage has seen then
pub record StubRoom (c : Config) (v : StagingView) (copy : Seen) : Type 0 where
  pub ready : IsReady v (length c.pipe_ends + 1) (fenced_outside copy) (length c.pipe_ends + 1)
  pub pipes : length c.pipe_ends ≤ 16
  pub numbers : HasNumbers v.staging 0

-- what an end needs, of an owner of this stage with this copy
abbrev pub EndRoom : Config → StagingView → ℕ → Seen → TurnEnd → Type 0
EndRoom c v n copy goes = ⊤
EndRoom c v n copy (replied shown seen) = 1 ≤ v.room
EndRoom c v n copy fence_over = FenceRoom v n copy
EndRoom c v n copy stub_over = StubRoom c v copy

abbrev pub CanEnd : Machine → ℕ → TurnEnd → Type 0
CanEnd m o end = EndRoom m.config m.staging (owner_in m.traffic.traffic o).stage (owner_in m.traffic.traffic o).works.copy end
