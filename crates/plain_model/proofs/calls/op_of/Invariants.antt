use Rattle.std.proofs.Common.{◌≡◌, drop}
use Rattle.plain_model.specs.Found.{found_op}
use Rattle.plain_model.proofs.calls.op_of.Given as goal

-- the call is not among the entries that were passed
abbrev pub invariant-loop-entry : goal.invariant-loop-entry
invariant-loop-entry l = found_op (drop l.entry-index l.h) l.call ≡ found_op l.h l.call
