use Rattle.std.proofs.Common.{arith}
use Rattle.std.proofs.lemmas.Grind.{common_steps}
use Rattle.std.proofs.lemmas.List.FromFn.{map-range_with_len_more}
use Rattle.plain_script.specs.Standing.{first_states}
use Rattle.plain_script.proofs.table.first_table.Goals as goal

pub loop-stage-preserved : goal.loop-stage-preserved
loop-stage-preserved c =
    let more =
    map-range_with_len_more (first_states c.args.config.now) 0 c.loop-stage.stage c.loop-stage.stage (omega arith) in
    let value = c.in_ok-first_states.ensures in
    let items = c.in_ok-push.ensures.items in
    let so_far = c.loop-stage.invariant.table in
    record {
      table = cc;
      stages = grind (arith, common_steps, items, c.loop-stage.invariant.stages);
    }
