use Rattle.std.proofs.Common.{◌≡◌, ◌+◌, ◌++◌, drop}
use Rattle.rss_machine.specs.Places.{numbered as numbered_from}
use Rattle.rss_witness.proofs.numbering.numbered.Given as goal

-- what is numbered and what is left to number are the whole
abbrev pub invariant-loop-before : goal.invariant-loop-before
invariant-loop-before l = l.places.items ++ numbered_from (l.before + 1) (drop l.before l.calls) ≡ numbered_from 1 l.calls
