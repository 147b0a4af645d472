use Rattle.std.proofs.Common.{arith, take, ◌++◌}
use Rattle.std.proofs.lemmas.Grind.{common_steps}
use Rattle.rss_io.proofs.KnownBytes.{consumes_both}
use Rattle.rss_io.proofs.reading.read_all.Goals as goal

-- what the failed growth lost is behind what was taken before
pub returns-in_err-map_err-in-Ok-clause-takes : goal.returns-in_err-map_err-in-Ok-clause-takes
returns-in_err-map_err-in-Ok-clause-takes g c = record {
  taken = c.loop-piece.taken.items ++ take c.in-Ok.count c.read.new.into;
  bound = grind (arith, common_steps);
  consumes = consumes_both _ _ _ _ _ c.loop-piece.invariant.0 c.in-Ok.ensures.bytes.0;
}
