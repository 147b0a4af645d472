use Rattle.std.proofs.Common.{◌≡◌, ◌+◌, ◌-◌, ◌/◌, length, true, false, arith}
use Rattle.rss_names.specs.Ascending.{pair_le, pair_at}
use Rattle.rss_names.proofs.Halving.{paid, upto_at_most, from_above}
use Rattle.rss_names.proofs.search.last_at_most.Goals as goal

pub loop-low-preserved-then-is_at_most : goal.loop-low-preserved-then-is_at_most
loop-low-preserved-then-is_at_most g c =
    let kept = c.loop-low.invariant in
    let m : pair_le (pair_at (g.V.Times1.pairs c.args.v.now) (c.loop-low.low + (c.loop-low.high - c.loop-low.low) / 2)) c.args.bound ≡ true = cc (c.get.ensures.pair, c.is_at_most.ensures, c.if-is_at_most.true) in
    let bound = paid c.loop-low.steps c.get.new.steps c.args.steps.now (c.loop-low.high - c.loop-low.low) (c.loop-low.high - (c.loop-low.low + (c.loop-low.high - c.loop-low.low) / 2 + 1)) (length (g.V.Times1.pairs c.args.v.now)) kept.later c.get.ensures.step kept.halves (omega arith) (omega arith) in
    record {
      ordered = omega arith;
      within = kept.within;
      before = λ j k. upto_at_most (g.V.Times1.pairs c.args.v.now) c.args.bound (c.loop-low.low + (c.loop-low.high - c.loop-low.low) / 2) j c.requires.ascending (omega arith) m k;
      behind = kept.behind;
      later = omega arith;
      halves = bound.0;
      steps = bound.1;
    }

pub loop-low-preserved : goal.loop-low-preserved
loop-low-preserved g c =
    let kept = c.loop-low.invariant in
    let m : pair_le (pair_at (g.V.Times1.pairs c.args.v.now) (c.loop-low.low + (c.loop-low.high - c.loop-low.low) / 2)) c.args.bound ≡ false = cc (c.get.ensures.pair, c.is_at_most.ensures, c.if-is_at_most.false) in
    let bound = paid c.loop-low.steps c.get.new.steps c.args.steps.now (c.loop-low.high - c.loop-low.low) (c.loop-low.low + (c.loop-low.high - c.loop-low.low) / 2 - c.loop-low.low) (length (g.V.Times1.pairs c.args.v.now)) kept.later c.get.ensures.step kept.halves (omega arith) (omega arith) in
    record {
      ordered = omega arith;
      within = omega arith;
      before = kept.before;
      behind = λ j k l. from_above (g.V.Times1.pairs c.args.v.now) c.args.bound (c.loop-low.low + (c.loop-low.high - c.loop-low.low) / 2) j c.requires.ascending l m k;
      later = omega arith;
      halves = bound.0;
      steps = bound.1;
    }
