use Rattle.std.proofs.Common.{sym, subst, length}
use Rattle.owner_sessions.specs.Boxed.{HasBoxRoom}
use Rattle.rss_machine.specs.State.{Owner}
use Rattle.owner_turns.specs.Going.{HasStart}
use Rattle.owner_turns.proofs.Through.{ended_start, ended_box}
use Rattle.owner_turns.proofs.owner.Owner.end_work.Goals as goal

pub go_through-requires-clause-start : goal.go_through-requires-clause-start
go_through-requires-clause-start c =
    subst (λ (w : Owner). HasStart c.args.now.now.config.now c.args.at w.works.copy w.kind c.args.spare.now) (sym c.end_first.ensures)
    (ended_start c.args.now.now.config.now c.args.at c.args.self.now.row c.args.spare.now c.requires.start)

pub go_through-requires-clause-room : goal.go_through-requires-clause-room
go_through-requires-clause-room c =
    subst (λ (w : Owner). HasBoxRoom c.args.out.now (length w.works.copy.deps)) (sym c.end_first.ensures)
    (ended_box c.args.self.now.row c.args.out.now c.requires.room)
