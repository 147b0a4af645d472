use Rattle.world_report.proofs.Lines.{place_here}
use Rattle.world_report.proofs.calls.put_entry.Goals as goal

pub put_begun-requires-clause-place : goal.put_begun-requires-clause-place
put_begun-requires-clause-place c =
    place_here c.args.w.now.state c.number.result c.held_at.result c.args.placed.now c.args.order.now c.requires.order c.requires.placed c.held_at.ensures
