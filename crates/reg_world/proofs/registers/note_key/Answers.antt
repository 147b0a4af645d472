use Rattle.std.proofs.Common.{get_or}
use Rattle.reg_world.proofs.Noting.{marks-noted, ready-noted, ready-same}
use Rattle.reg_world.proofs.registers.note_key.Goals as goal

pub returns-then-place-registers-clause-notes : goal.returns-then-place-registers-clause-notes
returns-then-place-registers-clause-notes c =
    marks-noted c.args.service.now c.args.registers.now c.args.key c.args.step c.index-registers-place.result c.note.new.self c.majority_stamp.result c.if-place-registers.true c.majority_stamp.ensures c.note.ensures

pub returns-then-place-registers-clause-ready : goal.returns-then-place-registers-clause-ready
returns-then-place-registers-clause-ready c =
    ready-noted c.args.service.now c.args.registers.now c.args.key c.args.step (get_or c.args.registers.now c.args.key.index c.index-registers-place.result).marks c.note.new.self c.majority_stamp.result c.if-place-registers.true c.majority_stamp.ensures c.note.ensures

pub returns-else-place-registers-clause-ready : goal.returns-else-place-registers-clause-ready
returns-else-place-registers-clause-ready c = ready-same c.args.service.now c.args.registers.now
