use Rattle.std.proofs.Common.{◌≡◌, drop}
use Rattle.plain_script.specs.Standing.{with_tellings}
use Rattle.plain_script.proofs.told.add_tellings.Given as goal

-- what was added and what is left are all
abbrev pub invariant-loop-walk : goal.invariant-loop-walk
invariant-loop-walk l = with_tellings l.config l.giver l.pipe l.number l.told.items (drop l.walk-index l.walks) ≡ with_tellings l.config l.giver l.pipe l.number l.fn.told.items l.walks
