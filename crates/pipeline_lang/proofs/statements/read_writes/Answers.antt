use Rattle.pipeline_lang.specs.Statements.{written_at}
use Rattle.pipeline_lang.proofs.Parts.{adds_stop, adds_last, adds_more, written_short}
use Rattle.pipeline_lang.proofs.statements.read_writes.Goals as goal

pub returns-in-Err : goal.returns-in-Err
returns-in-Err c = adds_stop written_at c.args.line.now c.loop-stop.writes.items c.add_written.new.writes.items c.loop-stop.line c.add_written.new.line c.in-Err.stop c.loop-stop.invariant c.in-Err.ensures

pub returns-then-not-takes : goal.returns-then-not-takes
returns-then-not-takes c =
    let e = adds_last written_at c.args.line.now c.loop-stop.writes.items c.add_written.new.writes.items c.loop-stop.line c.add_written.new.line c.takes.new.self tt c.takes.result c.loop-stop.invariant c.in-Ok.ensures c.takes.ensures.found c.takes.ensures.after c.if-not-takes.true in
    rw c.from_vec.ensures e

pub loop-stop-smaller : goal.loop-stop-smaller
loop-stop-smaller c = (adds_more written_at c.args.line.now c.loop-stop.writes.items c.add_written.new.writes.items c.loop-stop.line c.add_written.new.line c.takes.new.self tt c.takes.result (λ x. written_short c.loop-stop.line x c.add_written.new.line) c.loop-stop.invariant c.in-Ok.ensures c.takes.ensures.found c.takes.ensures.after c.if-not-takes.false).1

pub loop-stop-preserved : goal.loop-stop-preserved
loop-stop-preserved c = (adds_more written_at c.args.line.now c.loop-stop.writes.items c.add_written.new.writes.items c.loop-stop.line c.add_written.new.line c.takes.new.self tt c.takes.result (λ x. written_short c.loop-stop.line x c.add_written.new.line) c.loop-stop.invariant c.in-Ok.ensures c.takes.ensures.found c.takes.ensures.after c.if-not-takes.false).0
