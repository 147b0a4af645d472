use Rattle.std.proofs.Common.{◌≡◌, ◌≤◌, ◌+◌, ◌++◌, drop}
use Rattle.rss_tables.specs.SnapshotSession.{snap_asks}
use Rattle.snapshot_reads.specs.Session.{snap_of}
use Rattle.snapshot_reads.proofs.session.Session.start.Given as goal

-- what was asked, with what is still asked, is the whole
abbrev pub invariant-loop-at : goal.invariant-loop-at
invariant-loop-at l = record {
  sent : l.out.outs ++ snap_asks (snap_of l.op l.self) (drop l.at l.self.lines) ≡ l.fn.out.outs ++ snap_asks (snap_of l.op l.self) l.self.lines;
  room : l.fn.out.room ≤ l.out.room + l.at;
  keys : l.fn.out.keys ≤ l.out.keys + l.at;
}
