use Rattle.std.proofs.Common.{arith}
use Rattle.std.proofs.lemmas.Grind.{common_steps}
use Rattle.rss_io.proofs.KnownBytes.{appends_more}
use Rattle.rss_io.proofs.writing.write_all.Goals as goal

-- the write's bytes come behind the front that was written; they are at most the rest
pub loop-count-preserved : goal.loop-count-preserved
loop-count-preserved g c =
    let front = appends_more _ _ _ _ _ _ c.loop-count.invariant.0 c.in-Ok.ensures.bytes in
    (front, grind (arith, common_steps), omega arith)
