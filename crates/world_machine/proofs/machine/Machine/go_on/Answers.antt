use Rattle.world_machine.proofs.machine.Machine.go_on.Goals as goal

pub act_owner-requires : goal.act_owner-requires
act_owner-requires c = record { can = c.requires.owned c.in-Some.owner c.in-Some.is }
