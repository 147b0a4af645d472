use Rattle.std.proofs.Common.{◌≡◌, drop}
use Rattle.turn_laws.specs.Turns.{lines_in}
use Rattle.owner_turns.specs.Asked.{awaited_in}
use Rattle.owner_turns.proofs.owner.Owner.awaits.Given as goal

-- no line so far is asleep
abbrev pub invariant-loop-line : goal.invariant-loop-line
invariant-loop-line l = awaited_in (lines_in l.self.row.session) ≡ awaited_in (drop l.line (lines_in l.self.row.session))
