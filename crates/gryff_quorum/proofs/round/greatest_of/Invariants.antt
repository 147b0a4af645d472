use Rattle.std.proofs.Common.{◌≡◌, None, drop}
use Rattle.rss_tables.specs.Round.{greatest_after}
use Rattle.gryff_quorum.proofs.round.greatest_of.Given as goal

abbrev pub invariant-loop-reply : goal.invariant-loop-reply
invariant-loop-reply l = greatest_after None l.heard ≡ greatest_after l.best (drop l.reply-index l.heard)
