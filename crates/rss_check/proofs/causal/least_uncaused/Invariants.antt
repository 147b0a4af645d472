use Rattle.std.proofs.Common.{◌≡◌}
use Rattle.rss_check.specs.Places.{kept}
use Rattle.rss_check.specs.Tops.{tops_at}
use Rattle.rss_check.specs.Bad.{IsLeastBad, IsUncaused}
use Rattle.rss_check.specs.Passes.{tops_of}
use Rattle.rss_check.proofs.causal.least_uncaused.Given as goal

-- what is kept is behind the entries so far, and of the calls that they begin the least is found
abbrev pub invariant-loop-entry : goal.invariant-loop-entry
invariant-loop-entry l = record {
  tops : tops_of l.tops ≡ tops_at l.h (kept l.places) l.entry-index;
  least : IsLeastBad (IsUncaused l.h (kept l.places)) l.entry-index l.least;
}
