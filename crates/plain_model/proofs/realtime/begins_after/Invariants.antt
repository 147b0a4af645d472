use Rattle.std.proofs.Common.{◌≡◌, drop}
use Rattle.std.specs.Prelude.{false}
use Rattle.plain_model.specs.Orders.{begins_after}
use Rattle.plain_model.proofs.realtime.begins_after.Given as goal

-- what is left of the list answers for the whole
abbrev pub invariant-loop-entry : goal.invariant-loop-entry
invariant-loop-entry l = begins_after l.a l.b l.ended (drop l.entry-index l.h) ≡ begins_after l.a l.b false l.h
