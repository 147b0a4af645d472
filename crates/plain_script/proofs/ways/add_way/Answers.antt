use Rattle.std.specs.Prelude.{◌++◌}
use Rattle.plain_script.specs.Standing.{way}
use Rattle.plain_script.proofs.WayLemmas.{way_smaller, way_more, way_done}
use Rattle.plain_script.proofs.ways.add_way.Goals as goal

pub loop-standing-smaller : goal.loop-standing-smaller
loop-standing-smaller c =
    way_smaller c.args.config.now c.args.h.now c.args.stage c.in-Some.walk c.in_ok-standing.standing
    c.loop-standing.standing c.in-Some.is c.in_ok-standing.ensures

pub loop-standing-preserved : goal.loop-standing-preserved
loop-standing-preserved c =
    way_more c.args.config.now c.args.h.now c.args.stage c.loop-standing.walks.items c.push.new.self.items
    (c.args.walks.now.items ++ way c.args.config.now c.args.h.now c.args.stage c.args.base.now)
    c.in-Some.walk c.in_ok-standing.standing c.loop-standing.standing c.in-Some.is
    c.in_ok-standing.ensures c.in_ok-push.ensures.items c.loop-standing.invariant

pub returns : goal.returns
returns c =
    way_done c.args.config.now c.args.h.now c.args.stage c.loop-standing.walks.items
    (c.args.walks.now.items ++ way c.args.config.now c.args.h.now c.args.stage c.args.base.now)
    c.loop-standing.standing c.in_default.is c.loop-standing.invariant
