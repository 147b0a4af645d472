use Rattle.std.proofs.Common.{◌≡◌, ◌+◌, length, arith, rules}
use Rattle.std.proofs.lemmas.Grind.{common_steps}
use Rattle.step_text.specs.Numbers.{digits_at}
use Rattle.step_text.proofs.Lengths.{grown_more, grown_short}
use Rattle.step_text.proofs.number.digits_of.Goals as goal

pub returns-then-longer-most-clause-near : goal.returns-then-longer-most-clause-near
returns-then-longer-most-clause-near c =
    let short = grown_short (length c.args.bytes.now) (length c.loop-byte.rest.now) c.loop-byte.number c.loop-byte.invariant.grown (omega arith) in
    (omega arith, short)

pub loop-byte-preserved : goal.loop-byte-preserved
unfolding digits_at
loop-byte-preserved c =
    let one : length c.loop-byte.rest.now ≡ length c.in-Some.behind.now + 1 = search rules in
    record {
      read = grind (arith, common_steps);
      low = omega arith;
      high = omega arith;
      inside = omega arith;
      grown = grown_more (length c.args.bytes.now) (length c.loop-byte.rest.now) (length c.in-Some.behind.now) c.loop-byte.number c.saturating_add-longer.result one c.loop-byte.invariant.inside c.loop-byte.invariant.grown (omega arith);
    }

pub returns-clause-near : goal.returns-clause-near
returns-clause-near c =
    let short = grown_short (length c.args.bytes.now) (length c.loop-byte.rest.now) c.loop-byte.number c.loop-byte.invariant.grown (omega arith) in
    (omega arith, short)
