use Rattle.std.proofs.Common.{◌≡◌}
use Rattle.rss_check.specs.Places.{kept}
use Rattle.rss_check.specs.Bad.{IsLeastBad, IsUntimely, latest_at}
use Rattle.rss_check.specs.Passes.{latest_of}
use Rattle.rss_check.proofs.timely.least_untimely.Given as goal

-- what is kept is of the mutations that ended so far, and of the calls that began the least is found
abbrev pub invariant-loop-entry : goal.invariant-loop-entry
invariant-loop-entry l = record {
  latest : latest_of l.tops ≡ latest_at l.h (kept l.places) l.entry-index;
  least : IsLeastBad (IsUntimely l.h (kept l.places)) l.entry-index l.least;
}
