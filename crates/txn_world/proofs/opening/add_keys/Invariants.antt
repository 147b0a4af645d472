use Rattle.std.proofs.Common.{◌≡◌, ◌++◌, drop}
use Rattle.rss_machine.specs.State.{keys_from}
use Rattle.txn_world.proofs.opening.add_keys.Given as goal

abbrev pub invariant-loop-at : goal.invariant-loop-at
invariant-loop-at l = l.keys.items ++ keys_from l.service l.number (drop l.at l.homes) l.at ≡ keys_from l.service l.number l.homes 0
