use Rattle.std.proofs.Common.{◌-◌, ◌≡◌, ℕ, ◌+◌, ◌*◌, ◌^◌, ◌<◌, ◌≤◌, length, true, false}
use Rattle.rss_names.specs.Ascending.{pair_le, pair_at}
use Rattle.rss_names.proofs.search.last_at_most.Given as goal

-- each pair before `low` is at most the bound, each from `high` on is above it, and each step halves what is between
abbrev pub invariant-loop-low : goal.invariant-loop-low
invariant-loop-low g l = record {
  ordered : l.low ≤ l.high;
  within : l.high ≤ length (g.V.Times1.pairs l.v);
  before : (j : ℕ) → j < l.low → pair_le (pair_at (g.V.Times1.pairs l.v) j) l.bound ≡ true;
  behind : (j : ℕ) → l.high ≤ j → j < length (g.V.Times1.pairs l.v) → pair_le (pair_at (g.V.Times1.pairs l.v) j) l.bound ≡ false;
  later : l.fn.steps ≤ l.steps;
  halves : 2 ^ (l.steps - l.fn.steps) * (l.high - l.low) ≤ length (g.V.Times1.pairs l.v);
  steps : 2 ^ (l.steps - l.fn.steps) ≤ 2 * length (g.V.Times1.pairs l.v) + 1;
}

abbrev pub decreases-loop-low : goal.decreases-loop-low
decreases-loop-low g l = l.high - l.low
