use Rattle.std.proofs.Common.{◌≡◌, ◌+◌, ◌<◌, length, arith, ap, ◌∙◌}
use Rattle.rss_machine.specs.Standing.{parent_from, parent_of}
use Rattle.world_stages.specs.Settled.{parents_of}
use Rattle.world_stages.proofs.Making.{parents_step}
use Rattle.world_stages.proofs.parents.Parents.new.Goals as goal

pub loop-number-preserved : goal.loop-number-preserved
loop-number-preserved c =
    let same : parent_from 1 c.loop-number.number c.as_slice.result.now ≡ parent_of c.args.config.now c.loop-number.number = ap (parent_from 1 c.loop-number.number) c.as_slice.ensures in
    let low : c.loop-number.number < length c.args.config.now.bodies + 1 = omega (arith, c.loop-number-test.true, c.len-number-end.ensures) in
    parents_step c.args.config.now c.loop-number.parents.items c.push.new.self.items (parents_of c.args.config.now) c.parent_in.result c.loop-number.number (length c.args.config.now.bodies + 1)
    c.in_ok-push.ensures.items (c.parent_in.ensures ∙ same) low c.loop-number.invariant
