use Rattle.rss_check.specs.Places.{kept, ArePlacesBelow}
use Rattle.rss_check.proofs.places.place_all.Given as goal

abbrev pub invariant-loop-index : goal.invariant-loop-index
invariant-loop-index l = ArePlacesBelow l.c l.index (kept l.places)
