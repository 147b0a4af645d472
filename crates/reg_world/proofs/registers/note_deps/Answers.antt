use Rattle.std.proofs.Common.{arith}
use Rattle.reg_world.specs.Rows.{marks_of}
use Rattle.reg_world.proofs.Noting.{ready-behind, notes-behind}
use Rattle.reg_world.proofs.registers.note_deps.Goals as goal

pub loop-dep-preserved : goal.loop-dep-preserved
loop-dep-preserved c = record {
  notes = notes-behind c.args.service.now c.args.step c.args.deps.now c.loop-dep.dep-index _ (marks_of c.loop-dep.registers) (marks_of c.note_key.new.registers) _ (omega (arith, c.loop-dep-test.true)) c.note_key.ensures.notes c.loop-dep.invariant.notes;
  ready = ready-behind c.args.service.now c.loop-dep.registers c.note_key.new.registers c.args.deps.now c.loop-dep.dep-index c.note_key.ensures.ready c.loop-dep.invariant.ready;
}
