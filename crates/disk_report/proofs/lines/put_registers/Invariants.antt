use Rattle.std.proofs.Common.{◌≡◌, ◌++◌, drop}
use Rattle.disk_report.specs.Text.{register_lines}
use Rattle.disk_report.proofs.lines.put_registers.Given as goal

abbrev pub invariant-loop-index : goal.invariant-loop-index
invariant-loop-index l =
    l.fn.out.items ++ register_lines l.config 0 l.registers
    ≡ l.out.items ++ register_lines l.config l.index (drop l.index l.registers)
