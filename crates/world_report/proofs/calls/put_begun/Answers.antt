use Rattle.world_report.proofs.Lines.{ended_line, placed_line}
use Rattle.world_report.proofs.calls.put_begun.Goals as goal

pub returns-in-Some-clause-line : goal.returns-in-Some-clause-line
returns-in-Some-clause-line c =
    let b = c.args.begun.now in
    ended_line c.args.config.now c.args.calls.now c.args.order.now b.call b.stage b.op.now b.place b.fate c.args.out.now.items c.put_call.new.out.items
    c.as_slice.result.now c.in-Some.reply.now c.in_ok-put_call.ensures c.in-Some.ensures c.as_slice.ensures

pub returns-in_ok-put_call-in-Some-place-clause-line :
    goal.returns-in_ok-put_call-in-Some-place-clause-line
returns-in_ok-put_call-in-Some-place-clause-line c =
    let b = c.args.begun.now in
    placed_line c.args.config.now c.args.calls.now c.args.order.now b.call b.stage c.in-Some-place.place b.op.now b.place b.fate c.args.out.now.items c.put_call-in-Some-place.new.out.items
    c.as_slice-in-Some-place.result.now c.in_ok-shown-in-Some-place.shown.items c.in_ok-put_call-in-Some-place.ensures c.in_ok-shown-in-Some-place.ensures.shown
    c.as_slice-in-Some-place.ensures.value c.in-Some-place.is c.in_default.ensures
