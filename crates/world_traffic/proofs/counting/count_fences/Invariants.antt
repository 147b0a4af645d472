use Rattle.std.proofs.Common.{◌≡◌, drop, length}
use Rattle.rss_machine.specs.Moves.{counts_fences}
use Rattle.world_traffic.specs.View.{CountsFit}
use Rattle.world_traffic.proofs.counting.count_fences.Given as goal

-- what was counted, with what is still to be counted, is the whole
abbrev pub invariant-loop-at : goal.invariant-loop-at
invariant-loop-at l = record {
  whole : counts_fences (drop l.at l.fences) l.planned ≡ counts_fences l.fences l.fn.planned;
  fits : CountsFit (length (drop l.at l.fences)) l.planned;
}
