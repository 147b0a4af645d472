use Rattle.std.proofs.Common.{◌≡◌, ◌+◌, ◌-◌, ◌++◌, length}
use Rattle.rss_machine.specs.ReportText.{stage_lines}
use Rattle.world_report.proofs.stages.put_stages.Given as goal

abbrev pub invariant-loop-before : goal.invariant-loop-before
invariant-loop-before l =
    l.fn.out.items ++ stage_lines l.w.config l.w.state 1 (length l.w.state.stages)
    ≡ l.out.items ++ stage_lines l.w.config l.w.state (l.before + 1) (length l.w.state.stages - l.before)
