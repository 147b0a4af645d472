-- The laws of this crate.
use Rattle.std.specs.Prelude.{◌≡◌, ℕ, List, length, Some}
use Rattle.truetime.specs.Reading.{Reading}
use Rattle.rss_names.specs.declared.service.ServiceId.{ServiceId}
use Rattle.pipeline_lang.specs.declared.config.Config.{Config}
use Rattle.rss_wire.specs.declared.messages.Request.{Request}
use Rattle.rss_machine.specs.Moves.{ticks, serves_replica, notes_served}
use Rattle.rss_machine.specs.Run.{run}
use Rattle.rss_machine.specs.State.{State}
use Rattle.rss_machine.specs.declared.step.Step.{Step}
use Rattle.order_laws.specs.CallsBehind.{CallsBehind}
use Rattle.coupling_laws.specs.Calls.{IsView}
use Rattle.context_moves.specs.Covering.{Covering}
use Rattle.world_laws.specs.Served.{CallsServed}
use Rattle.context_moves.specs.Views.{view_of}

-- in every run whose calls are of the file's services, what is known of calls keeps to what views keep to
abbrev pub StatesAreViews : Type 0
StatesAreViews = (c : Config) (steps : List Step) (s : State) → CallsServed c s → run c steps ≡ Some s → IsView (view_of c s)

-- contexts cover the same calls once a step is counted
abbrev pub CountedStepsKeepCovering : Type 0
CountedStepsKeepCovering = (c : Config) (b : CallsBehind) (s : State) (at : Reading) → length s.moments ≡ s.steps → Covering c (view_of c s) b s → Covering c (view_of c (ticks s at)) b (ticks s at)

-- a state in which a replica has served a request, with what is noted of it
abbrev pub served : State → ℕ → ServiceId → ℕ → Request → ℕ → State
served s m service replica r o = notes_served (serves_replica s m service replica r) o service r

-- and once a replica has served a request
abbrev pub ServedRequestsKeepCovering : Type 0
ServedRequestsKeepCovering =
    (c : Config) (b : CallsBehind) (s : State) (m : ℕ) (service : ServiceId) (replica : ℕ) (r : Request) (o : ℕ) → Covering c (view_of c s) b s
    → Covering c (view_of c (served s m service replica r o)) b (served s m service replica r o)
