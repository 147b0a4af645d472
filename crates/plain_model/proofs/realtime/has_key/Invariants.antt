use Rattle.std.proofs.Common.{◌≡◌, drop}
use Rattle.plain_model.specs.Orders.{has_key}
use Rattle.plain_model.proofs.realtime.has_key.Given as goal

-- what is left of the list answers for the whole
abbrev pub invariant-loop-listed : goal.invariant-loop-listed
invariant-loop-listed l = has_key (drop l.listed-index l.keys) l.key ≡ has_key l.keys l.key
