use Rattle.std.proofs.Common.{ℕ, ◌<◌, ◌≤◌}
use Rattle.rss_check.specs.Verdicts.{StraysFromScript}
use Rattle.rss_check.proofs.scripts.first_stray.Given as goal

-- no stage so far strays
abbrev pub invariant-loop-number : goal.invariant-loop-number
invariant-loop-number l = record {
  first : 1 ≤ l.number;
  none : (stage : ℕ) → stage < l.number → StraysFromScript l.config l.h stage → ⊥;
}
