use Rattle.std.proofs.Common.{◌≡◌, ℕ, ◌<◌, false}
use Rattle.input_parts.specs.Split.{is_mark}
use Rattle.input_parts.proofs.marking.mark.Given as goal

abbrev pub invariant-loop-at : goal.invariant-loop-at
invariant-loop-at l = (k : ℕ) → k < l.at → is_mark l.input k ≡ false
