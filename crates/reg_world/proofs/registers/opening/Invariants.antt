use Rattle.std.proofs.Common.{◌≡◌, replicate, []}
use Rattle.reg_world.specs.Rows.{marks_of}
use Rattle.reg_world.proofs.registers.opening.Given as goal

-- so many registers are there
abbrev pub invariant-loop-register : goal.invariant-loop-register
invariant-loop-register l = marks_of l.rows.items ≡ replicate l._register []
