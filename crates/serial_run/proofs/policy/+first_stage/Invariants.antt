use Rattle.serial_run.proofs.policy.+first_stage.Given as goal

abbrev pub decreases-first_stage : goal.decreases-first_stage
decreases-first_stage l = l.left
