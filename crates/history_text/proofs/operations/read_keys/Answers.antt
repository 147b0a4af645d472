use Rattle.history_text.specs.Operations.{key_at}
use Rattle.history_text.proofs.Parts.{adds_stop, adds_last, adds_more, key_short}
use Rattle.history_text.proofs.operations.read_keys.Goals as goal

pub returns-in-Err : goal.returns-in-Err
returns-in-Err c = adds_stop (key_at c.args.config.now) c.args.line.now c.loop-stop.keys.items c.add_key.new.keys.items c.loop-stop.line c.add_key.new.line c.in-Err.stop c.loop-stop.invariant c.in-Err.ensures

pub returns-then-not-takes : goal.returns-then-not-takes
returns-then-not-takes c =
    let e = adds_last (key_at c.args.config.now) c.args.line.now c.loop-stop.keys.items c.add_key.new.keys.items c.loop-stop.line c.add_key.new.line c.takes.new.self tt c.takes.result c.loop-stop.invariant c.in-Ok.ensures c.takes.ensures.found c.takes.ensures.after c.if-not-takes.true in
    rw c.from_vec.ensures e

pub loop-stop-smaller : goal.loop-stop-smaller
loop-stop-smaller c = (adds_more (key_at c.args.config.now) c.args.line.now c.loop-stop.keys.items c.add_key.new.keys.items c.loop-stop.line c.add_key.new.line c.takes.new.self tt c.takes.result (λ x. key_short c.args.config.now c.loop-stop.line x c.add_key.new.line) c.loop-stop.invariant c.in-Ok.ensures c.takes.ensures.found c.takes.ensures.after c.if-not-takes.false).1

pub loop-stop-preserved : goal.loop-stop-preserved
loop-stop-preserved c = (adds_more (key_at c.args.config.now) c.args.line.now c.loop-stop.keys.items c.add_key.new.keys.items c.loop-stop.line c.add_key.new.line c.takes.new.self tt c.takes.result (λ x. key_short c.args.config.now c.loop-stop.line x c.add_key.new.line) c.loop-stop.invariant c.in-Ok.ensures c.takes.ensures.found c.takes.ensures.after c.if-not-takes.false).0
