use Rattle.std.proofs.Common.{map, [], arith}
use Rattle.shard_lines.specs.Flat.{home_in, read_line}
use Rattle.shard_lines.proofs.Openings.{lines_more, some_made}
use Rattle.shard_lines.proofs.opening.add_lines.Goals as goal

pub loop-at-preserved : goal.loop-at-preserved
loop-at-preserved c = record {
  whole = lines_more (home_in c.args.homes.now) c.args.reads.now c.args.writes.now (map (read_line c.loop-at.keys.items [] []) c.loop-at.lines.items) (map (read_line c.add_number.new.keys.items [] []) c.add_number.new.lines.items) _ c.loop-at.at c.loop-at-test.true c.in_ok-add_number.ensures.added c.loop-at.invariant.whole;
  lines = c.in_ok-add_number.ensures.lines;
  below = c.in_ok-add_number.ensures.below;
  few = omega (arith, c.in_ok-add_number.ensures.few, c.loop-at.invariant.few);
}

pub returns-clause-some : goal.returns-clause-some
returns-clause-some c =
    some_made c.args.homes.now c.args.reads.now c.args.writes.now c.loop-at.keys.items c.loop-at.lines.items _ c.loop-at.at c.requires.some c.requires.read_homes c.requires.written_homes
    (omega (arith, c.loop-at.lines.ok.0)) (omega (arith, c.loop-at-test.false, c.loop-at.auto.at-end)) c.loop-at.invariant.whole
