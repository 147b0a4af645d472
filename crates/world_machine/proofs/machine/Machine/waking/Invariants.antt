use Rattle.std.proofs.Common.{◌≡◌, drop}
use Rattle.std.specs.List.{list_any}
use Rattle.rss_machine.specs.Effect.{waking_line}
use Rattle.rss_machine.specs.Enabling.{can_wake}
use Rattle.turn_laws.specs.Turns.{lines_in}
use Rattle.world_machine.specs.Machine.{state_of}
use Rattle.world_machine.proofs.machine.Machine.waking.Given as goal

-- no line so far can wake
abbrev pub invariant-loop-line : goal.invariant-loop-line
invariant-loop-line l =
    (waking_line (state_of l.self) (lines_in l.owner.row.session) ≡ waking_line (state_of l.self) (drop l.line (lines_in l.owner.row.session)))
    × (list_any (can_wake (state_of l.self)) (lines_in l.owner.row.session) ≡ list_any (can_wake (state_of l.self)) (drop l.line (lines_in l.owner.row.session)))
