use Rattle.std.proofs.Common.{◌≡◌, drop}
use Rattle.rss_tables.specs.Round.{all_agree}
use Rattle.gryff_quorum.proofs.round.agree.Given as goal

abbrev pub invariant-loop-reply : goal.invariant-loop-reply
invariant-loop-reply l = all_agree l.cell l.heard ≡ all_agree l.cell (drop l.reply-index l.heard)
