use Rattle.std.proofs.Common.{sym}
use Rattle.plain_walk.proofs.Begun.{begun_if, begun_unless}
use Rattle.plain_walk.proofs.entries.begin_at.Goals as goal

pub returns-in_ok-in_mode : goal.returns-in_ok-in_mode
returns-in_ok-in_mode c =
    begun_if c.args.walk.now c.in_ok-in_mode.field-0 c.args.statement.now c.args.call c.args.op.now
    (sym c.if-makes.ensures) c.in_ok-in_mode.ensures

pub returns-else-makes : goal.returns-else-makes
returns-else-makes c =
    begun_unless c.args.walk.now c.args.statement.now c.args.call c.args.op.now (sym c.if-makes.ensures)
