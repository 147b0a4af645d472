use Rattle.std.proofs.Common.{◌≡◌, ◌++◌, List, ◌∷◌, drop}
use Rattle.rss_model.specs.declared.op.Shown.{Shown}
use Rattle.history_text.specs.Entries.{more_shown_at}
use Rattle.history_text.proofs.Parts.{after}
use Rattle.history_text.proofs.entries.read_more_shown.Given as goal

-- what was added so far, and what the keys left are still to show
abbrev pub invariant-loop-key : goal.invariant-loop-key
invariant-loop-key l = (made : List Shown)
    × (l.reply.items ≡ l.fn.reply.items ++ made)
    × (more_shown_at l.config l.keys l.fn.line ≡ after made (more_shown_at l.config (drop l.key-index l.keys) l.line))
