use Rattle.history_text.specs.Operations.{write_at}
use Rattle.history_text.proofs.Parts.{adds_stop, adds_last, adds_more, write_short}
use Rattle.history_text.proofs.operations.read_writes.Goals as goal

pub returns-in-Err : goal.returns-in-Err
returns-in-Err c = adds_stop (write_at c.args.config.now) c.args.line.now c.loop-stop.writes.items c.add_write.new.writes.items c.loop-stop.line c.add_write.new.line c.in-Err.stop c.loop-stop.invariant c.in-Err.ensures

pub returns-then-not-takes : goal.returns-then-not-takes
returns-then-not-takes c =
    let e = adds_last (write_at c.args.config.now) c.args.line.now c.loop-stop.writes.items c.add_write.new.writes.items c.loop-stop.line c.add_write.new.line c.takes.new.self tt c.takes.result c.loop-stop.invariant c.in-Ok.ensures c.takes.ensures.found c.takes.ensures.after c.if-not-takes.true in
    rw c.from_vec.ensures e

pub loop-stop-smaller : goal.loop-stop-smaller
loop-stop-smaller c = (adds_more (write_at c.args.config.now) c.args.line.now c.loop-stop.writes.items c.add_write.new.writes.items c.loop-stop.line c.add_write.new.line c.takes.new.self tt c.takes.result (λ x. write_short c.args.config.now c.loop-stop.line x c.add_write.new.line) c.loop-stop.invariant c.in-Ok.ensures c.takes.ensures.found c.takes.ensures.after c.if-not-takes.false).1

pub loop-stop-preserved : goal.loop-stop-preserved
loop-stop-preserved c = (adds_more (write_at c.args.config.now) c.args.line.now c.loop-stop.writes.items c.add_write.new.writes.items c.loop-stop.line c.add_write.new.line c.takes.new.self tt c.takes.result (λ x. write_short c.args.config.now c.loop-stop.line x c.add_write.new.line) c.loop-stop.invariant c.in-Ok.ensures c.takes.ensures.found c.takes.ensures.after c.if-not-takes.false).0
