use Rattle.std.proofs.Common.{◌≡◌, drop}
use Rattle.plain_model.specs.Orders.{reads_one_of}
use Rattle.plain_model.proofs.realtime.reads_one_of.Given as goal

-- what is left of the list answers for the whole
abbrev pub invariant-loop-write : goal.invariant-loop-write
invariant-loop-write l = reads_one_of l.op (drop l.write-index l.writes) ≡ reads_one_of l.op l.writes
