use Rattle.world_turns.proofs.endings.+any_possible.Given as goal

abbrev pub decreases-any_possible : goal.decreases-any_possible
decreases-any_possible l = l.left
