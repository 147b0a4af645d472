use Rattle.std.proofs.Common.{◌≡◌, ◌++◌, drop}
use Rattle.rss_machine.specs.Places.{places_of}
use Rattle.rss_machine.specs.ReportText.{call_lines}
use Rattle.call_tables.specs.Along.{IsWalk}
use Rattle.world_report.proofs.calls.put_each.Given as goal

abbrev pub invariant-loop-entry : goal.invariant-loop-entry
invariant-loop-entry l = record {
  lines : l.fn.out.items ++ call_lines l.w.config l.w.state (places_of l.w.state) l.w.state.history
      ≡ l.out.items ++ call_lines l.w.config l.w.state (places_of l.w.state) (drop l.entry-index l.history);
  walk : IsWalk l.calls l.order l.walk;
}
