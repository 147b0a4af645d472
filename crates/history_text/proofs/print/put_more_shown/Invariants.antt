use Rattle.std.proofs.Common.{◌≡◌, ◌++◌, drop}
use Rattle.history_text.specs.Spelling.{more_text}
use Rattle.history_text.specs.Spelling.{shown_text}
use Rattle.history_text.proofs.print.put_more_shown.Given as goal

abbrev pub invariant-loop-shown : goal.invariant-loop-shown
invariant-loop-shown l = l.text.items ++ more_text (shown_text l.config) (drop l.shown-index l.reply) ≡ l.fn.text.items ++ more_text (shown_text l.config) l.fn.reply
