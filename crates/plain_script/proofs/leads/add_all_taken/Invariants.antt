use Rattle.std.proofs.Common.{◌≡◌, ◌++◌, drop}
use Rattle.std.specs.List.{flat_map}
use Rattle.plain_script.specs.Standing.{taken_by}
use Rattle.plain_script.proofs.leads.add_all_taken.Given as goal

-- what was added and what is left are all
abbrev pub invariant-loop-one : goal.invariant-loop-one
invariant-loop-one l = l.next.items ++ flat_map (taken_by l.config l.stage l.entry l.walk) (drop l.one-index l.told) ≡ l.fn.next.items ++ flat_map (taken_by l.config l.stage l.entry l.walk) l.told
