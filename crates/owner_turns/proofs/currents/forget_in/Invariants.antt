use Rattle.std.proofs.Common.{◌≡◌, ◌++◌, map, take, drop}
use Rattle.rss_names.specs.declared.service.Target.TheVariants.{Replica}
use Rattle.rss_machine.specs.Slots.{unless_with}
use Rattle.owner_turns.proofs.currents.forget_in.Given as goal

-- the places so far are without the replica, and the others as they were
abbrev pub invariant-loop-place : goal.invariant-loop-place
invariant-loop-place l =
    l.currents ≡ map (unless_with l.net.messages (Replica l.service l.replica)) (take l.place l.fn.currents) ++ drop l.place l.fn.currents
