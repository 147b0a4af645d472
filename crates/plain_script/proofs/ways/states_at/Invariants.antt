use Rattle.std.proofs.Common.{◌≡◌, ◌++◌, drop}
use Rattle.std.specs.List.{flat_map}
use Rattle.plain_script.specs.Standing.{way}
use Rattle.plain_script.proofs.ways.states_at.Given as goal

-- what was added and what is left are all
abbrev pub invariant-loop-base : goal.invariant-loop-base
invariant-loop-base l = l.walks.items ++ flat_map (way l.config l.h l.stage) (drop l.base-index l.bases) ≡ flat_map (way l.config l.h l.stage) l.bases
