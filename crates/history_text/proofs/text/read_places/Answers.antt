use Rattle.std.proofs.Common.{sym, ◌∙◌}
use Rattle.history_text.proofs.Lines.{place_done, place_left}
use Rattle.history_text.proofs.text.read_places.Goals as goal

pub returns-then-is_empty : goal.returns-then-is_empty
returns-then-is_empty c =
    c.loop-more.invariant.read
    ∙ place_done c.loop-more.number c.loop-more.calls.items c.loop-more.rest.now c.split_line.result.0.now c.split_line.result.1 c.split_line.ensures.lines c.in-None.is (sym c.is_empty.ensures ∙ c.if-is_empty.true)

pub returns-in-None : goal.returns-in-None
returns-in-None c =
    c.loop-more.invariant.read
    ∙ place_left c.loop-more.number c.loop-more.calls.items c.loop-more.rest.now c.split_line.result.0.now c.split_line.result.1 c.split_line.ensures.lines c.in-None.is (sym c.is_empty.ensures ∙ c.if-is_empty.false)
