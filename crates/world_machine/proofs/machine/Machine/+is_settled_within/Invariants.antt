use Rattle.world_machine.proofs.machine.Machine.+is_settled_within.Given as goal

abbrev pub decreases-is_settled_within : goal.decreases-is_settled_within
decreases-is_settled_within l = l.left
