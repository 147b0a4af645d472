use Rattle.std.proofs.Common.{◌≡◌, drop}
use Rattle.history_index.specs.Following.{writes_within}
use Rattle.history_text.proofs.following.are_writes_within.Given as goal

abbrev pub invariant-loop-write : goal.invariant-loop-write
invariant-loop-write l = writes_within l.reads l.writes ≡ writes_within l.reads (drop l.write-index l.writes)
