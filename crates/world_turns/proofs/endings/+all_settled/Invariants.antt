use Rattle.world_turns.proofs.endings.+all_settled.Given as goal

abbrev pub decreases-all_settled : goal.decreases-all_settled
decreases-all_settled l = l.left
