use Rattle.std.proofs.Common.{sym, ◌∙◌, arith}
use Rattle.history_text.proofs.Missing.{shows_none, shows_end}
use Rattle.history_text.proofs.following.shows.Goals as goal

pub returns-in-None : goal.returns-in-None
returns-in-None c =
    sym (c.loop-key.invariant ∙ shows_none c.loop-key.left.now c.args.keys.now c.loop-key.key-index c.in-None.ensures.cases c.loop-key-test.true)

pub returns : goal.returns
returns c =
    c.is_empty.ensures
    ∙ sym (c.loop-key.invariant ∙ shows_end c.loop-key.left.now c.args.keys.now c.loop-key.key-index (omega (arith, c.loop-key-test.false)))
