use Rattle.std.proofs.Common.{◌≡◌, ◌<◌, length, arith, ap, ◌∙◌}
use Rattle.rss_machine.specs.State.{stages_from, opening_stage}
use Rattle.world_stages.proofs.Making.{stages_step}
use Rattle.world_stages.proofs.opening.opening_stages.Goals as goal

pub loop-place-preserved : goal.loop-place-preserved
loop-place-preserved c =
    let low : c.loop-place.place < length c.args.config.now.bodies = omega (arith, c.loop-place-test.true, c.len-place-end.ensures) in
    stages_step c.args.config.now c.loop-place.stages.items c.push.new.self.items (stages_from c.args.config.now 1 (length c.args.config.now.bodies)) c.in_ok-stage.stage c.loop-place.place (length c.args.config.now.bodies)
    c.in_ok-push.ensures.items (c.in_ok-stage.ensures ∙ ap opening_stage c.opening_life.ensures) low c.loop-place.invariant
