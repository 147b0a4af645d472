use Rattle.std.proofs.Common.{◌≡◌, ◌+◌, ◌≤◌, drop}
use Rattle.rss_tables.specs.Round.{count_cut}
use Rattle.session_stub.proofs.losses.number_cut.Given as goal

abbrev pub invariant-loop-is_cut : goal.invariant-loop-is_cut
invariant-loop-is_cut l = record {
  counted : l.number + count_cut (drop l.is_cut-index l.cut) ≡ count_cut l.cut;
  few : l.number ≤ l.is_cut-index;
}
