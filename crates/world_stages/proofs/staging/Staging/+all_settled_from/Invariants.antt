use Rattle.world_stages.proofs.staging.Staging.+all_settled_from.Given as goal

abbrev pub decreases-all_settled_from : goal.decreases-all_settled_from
decreases-all_settled_from l = l.left
