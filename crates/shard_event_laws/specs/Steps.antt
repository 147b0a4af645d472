-- A step as a list of events.
use Rattle.std.specs.Prelude.{◌≡◌, List, Some, None}
use Rattle.truetime.specs.Reading.{Reading}
use Rattle.pipeline_lang.specs.declared.config.Config.{Config}
use Rattle.rss_machine.specs.Effect.{stepped}
use Rattle.rss_machine.specs.Moves.{ticks}
use Rattle.rss_machine.specs.Refusal.{refusal}
use Rattle.rss_machine.specs.Run.{run, readings_of}
use Rattle.rss_machine.specs.State.{State}
use Rattle.rss_machine.specs.declared.step.Step.{Step}
use Rattle.std.proofs.Common.{All}
use Rattle.world_laws.specs.Laws.{IsOrdered}
use Rattle.shard_event_laws.specs.Events.{Event}
use Rattle.shard_event_laws.specs.Known.{Known}

-- events lead from a state to another, one after the other
pub data Happens (c : Config) (at : Reading) (s : State) : State → Type 0 where
  nothing : Happens c at s s
  then : (u t : State) → Happens c at s u → Known at u → Event c at u t → Happens c at s t

-- what a step does, once it is counted, is such events, and leads to a state that is known; readings begin no later than they end
abbrev pub StepsAreEvents : Type 0
StepsAreEvents =
    (c : Config) (steps : List Step) (s : State) (next : Step) → All IsOrdered (readings_of steps) → IsOrdered next.at → run c steps ≡ Some s → refusal c s next ≡ None → Happens c next.at (ticks s next.at) (stepped c s next) × Known next.at (stepped c s next)
