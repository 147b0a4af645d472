use Rattle.std.proofs.Common.{◌≡◌, ◌≤◌, ◌+◌, ◌++◌, ◌||◌, drop}
use Rattle.rss_tables.specs.SnapshotSession.{snap_asks}
use Rattle.snapshot_reads.specs.Session.{snap_of, passed_of, has_lines}
use Rattle.snapshot_reads.proofs.session.Session.ask_all_passed.Given as goal

abbrev pub invariant-loop-at : goal.invariant-loop-at
invariant-loop-at l = record {
  sent : l.out.outs ++ snap_asks (snap_of l.op l.self) (passed_of l.time (drop l.at l.self.lines)) ≡ l.fn.out.outs ++ snap_asks (snap_of l.op l.self) (passed_of l.time l.self.lines);
  asked : (l.asked || has_lines (passed_of l.time (drop l.at l.self.lines))) ≡ has_lines (passed_of l.time l.self.lines);
  room : l.fn.out.room ≤ l.out.room + l.at;
  keys : l.fn.out.keys ≤ l.out.keys + l.at;
}
