use Rattle.std.proofs.Common.{◌≡◌, ◌+◌, ◌≤◌, drop}
use Rattle.rss_tables.specs.Round.{count_heard}
use Rattle.gryff_quorum.proofs.round.number_heard.Given as goal

abbrev pub invariant-loop-reply : goal.invariant-loop-reply
invariant-loop-reply l = record {
  counted : l.number + count_heard (drop l.reply-index l.heard) ≡ count_heard l.heard;
  few : l.number ≤ l.reply-index;
}
