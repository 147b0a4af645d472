use Rattle.std.proofs.Common.{◌≡◌, drop}
use Rattle.plain_script.specs.Standing.{is_listed}
use Rattle.plain_script.proofs.told.is_listed.Given as goal

-- what is left of the list answers for the whole
abbrev pub invariant-loop-other : goal.invariant-loop-other
invariant-loop-other l = is_listed (drop l.other-index l.told) l.one ≡ is_listed l.told l.one
