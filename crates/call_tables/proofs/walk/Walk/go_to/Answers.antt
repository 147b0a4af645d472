use Rattle.call_tables.proofs.Going.{first_walk}
use Rattle.call_tables.proofs.walk.Walk.go_to.Goals as goal

pub go_ahead-requires-clause-stands : goal.go_ahead-requires-clause-stands
go_ahead-requires-clause-stands c = first_walk c.args.calls.now c.args.order.now c.begin.new.self c.begin.ensures.place c.begin.ensures.rows
