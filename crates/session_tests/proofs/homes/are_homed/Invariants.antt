use Rattle.std.proofs.Common.{drop}
use Rattle.shard_lines.specs.Flat.{AreHomed}
use Rattle.session_tests.proofs.homes.are_homed.Given as goal

-- where the keys that are left have homes, all have
abbrev pub invariant-loop-key : goal.invariant-loop-key
invariant-loop-key l = AreHomed l.homes (drop l.key-index l.keys) → AreHomed l.homes l.keys
