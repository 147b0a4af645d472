use Rattle.std.proofs.Common.{sym, subst, ◌∙◌}
use Rattle.owner_turns.specs.Whole.{OwnerView}
use Rattle.owner_turns.specs.Going.{OpensKind}
use Rattle.owner_turns.proofs.Through.{opens_snap, opens_txn}
use Rattle.owner_turns.proofs.owner.Owner.works_over.Goals as goal

pub launch_snap-requires-clause-opens : goal.launch_snap-requires-clause-opens
launch_snap-requires-clause-opens c =
    subst (λ (w : OwnerView). OpensKind c.args.now.now.config.now c.args.at w.row.works.copy c.args.spare.now w.row.kind) (sym c.enter_first-in-Snap.ensures)
    (opens_snap c.args.now.now.config.now c.args.now.now.step c.args.at c.args.self.now.row c.args.spare.now c.in-Snap.id (sym c.aim.ensures.aim ∙ c.in-Snap.is) c.requires.start)

pub launch_txn-requires-clause-opens : goal.launch_txn-requires-clause-opens
launch_txn-requires-clause-opens c =
    subst (λ (w : OwnerView). OpensKind c.args.now.now.config.now c.args.at w.row.works.copy c.args.spare.now w.row.kind) (sym c.enter_first-in-Txn.ensures)
    (opens_txn c.args.now.now.config.now c.args.now.now.step c.args.at c.args.self.now.row c.args.spare.now c.in-Txn.id (sym c.aim.ensures.aim ∙ c.in-Txn.is) c.requires.start)
