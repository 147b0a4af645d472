use Rattle.std.proofs.Common.{◌≡◌, drop}
use Rattle.plain_model.specs.Orders.{keeps_order}
use Rattle.plain_model.proofs.regularity.keeps_order.Given as goal

-- what is left of the list answers for the whole
abbrev pub invariant-loop-place : goal.invariant-loop-place
invariant-loop-place l = keeps_order l.h l.causality (drop l.place l.c) ≡ keeps_order l.h l.causality l.c
