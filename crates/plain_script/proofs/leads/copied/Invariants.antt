use Rattle.std.proofs.Common.{◌≡◌, ◌++◌, drop}
use Rattle.plain_script.proofs.leads.copied.Given as goal

-- what was copied and what is left are all
abbrev pub invariant-loop-walk : goal.invariant-loop-walk
invariant-loop-walk l = l.copies.items ++ drop l.walk-index l.walks ≡ l.walks
