use Rattle.std.proofs.Common.{◌≡◌, drop}
use Rattle.plain_model.specs.Orders.{placeable}
use Rattle.rss_check.proofs.places.are_placeable.Given as goal

-- what is left of the list answers for the whole
abbrev pub invariant-loop-call : goal.invariant-loop-call
invariant-loop-call l = placeable l.h (drop l.call-index l.c) ≡ placeable l.h l.c
