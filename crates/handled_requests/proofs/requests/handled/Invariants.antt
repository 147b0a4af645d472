use Rattle.std.proofs.Common.{◌≡◌, ◌++◌, drop}
use Rattle.rss_machine.specs.Run.{steps_of}
use Rattle.rss_names.specs.declared.service.Target.TheVariants.{Replica}
use Rattle.handled_requests.specs.Handled.{handled_by}
use Rattle.handled_requests.proofs.requests.handled.Given as goal

abbrev pub invariant-loop-logged : goal.invariant-loop-logged
invariant-loop-logged l =
    l.requests.items ++ handled_by l.world.state.net (Replica l.service l.replica) (steps_of (drop l.logged-index l.logged-items))
    ≡ handled_by l.world.state.net (Replica l.service l.replica) (steps_of l.world.log)
