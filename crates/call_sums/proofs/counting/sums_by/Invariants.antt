use Rattle.std.proofs.Common.{◌≡◌, ◌≤◌, drop}
use Rattle.rss_machine.specs.ReportText.{sums_of}
use Rattle.call_sums.specs.Sums.{told}
use Rattle.call_sums.proofs.Adding.{added, AtMost}
use Rattle.call_sums.proofs.counting.sums_by.Given as goal

-- what was counted and what is left are the whole, and each count is at most the entries seen
abbrev pub invariant-loop-entry : goal.invariant-loop-entry
invariant-loop-entry l = record {
  whole : added (told l.sums) (sums_of l.history (drop l.entry-index l.history)) ≡ sums_of l.history l.history;
  few : AtMost (told l.sums) l.entry-index;
}
