use Rattle.std.proofs.Common.{sym, subst, length}
use Rattle.owner_sessions.specs.Boxed.{HasBoxRoom}
use Rattle.owner_turns.specs.Whole.{OwnerView}
use Rattle.owner_turns.specs.Going.{HasStart}
use Rattle.owner_turns.proofs.Through.{passed_start, passed_box}
use Rattle.owner_turns.proofs.owner.Owner.go_through.Goals as goal

pub go_on-requires-clause-start : goal.go_on-requires-clause-start
go_on-requires-clause-start c =
    subst (λ (w : OwnerView). HasStart c.args.now.now.config.now c.args.at w.row.works.copy w.row.kind c.args.spare.now) (sym c.pass-next.ensures.works)
    (passed_start c.args.now.now.config.now c.args.at c.args.self.now.row c.args.spare.now c.requires.start)

pub go_on-requires-clause-room : goal.go_on-requires-clause-room
go_on-requires-clause-room c =
    subst (λ (w : OwnerView). HasBoxRoom c.args.out.now (length w.row.works.copy.deps)) (sym c.pass-next.ensures.works)
    (passed_box c.args.at c.args.self.now.row c.args.out.now c.requires.room)
