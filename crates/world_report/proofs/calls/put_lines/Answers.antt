use Rattle.world_report.proofs.Lines.{new_walk}
use Rattle.world_report.proofs.calls.put_lines.Goals as goal

pub put_each-requires-clause-walk : goal.put_each-requires-clause-walk
put_each-requires-clause-walk c = new_walk c.in_ok-calls.calls c.args.order.now c.new-walk.result c.new-walk.ensures.place c.new-walk.ensures.rows
