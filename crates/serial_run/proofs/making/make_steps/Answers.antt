-- Each step is the policy's next one, until it has none.
use Rattle.std.proofs.Common.{rules, ap, sym, ◌∙◌}
use Rattle.rss_machine.specs.Serial.{Stepping, turn_step}
use Rattle.rss_machine.specs.declared.step.Step.{Step}
use Rattle.serial_run.proofs.UnderWay.{all_made, no_stage_made, no_step_made, is_taken, taken_with_room, is_ok, goes_on}
use Rattle.serial_run.proofs.making.make_steps.Goals as goal

pub returns-in_default : goal.returns-in_default
returns-in_default c = record {
  made =
      no_stage_made c.args.world.now.config c.loop-left.left c.loop-left.world c.loop-left.clock c.loop-left.stage c.loop-left.invariant
      c.loop-left-test.true c.in_default.ensures c.log-log.ensures.replays;
}

pub returns-in_default-step_of : goal.returns-in_default-step_of
returns-in_default-step_of c = record {
  made =
      no_step_made c.args.world.now.config c.loop-left.left c.loop-left.world c.loop-left.clock c.loop-left.stage c.in-Some.next c.loop-left.invariant
      c.loop-left-test.true (search rules) c.in-Some.ensures (ap (turn_step c.loop-left.clock) (sym c.next_for.ensures) ∙ c.in_default-step_of.ensures.none) c.log-log.ensures.replays;
}

pub unwrap-requires : goal.unwrap-requires
unwrap-requires c =
    let made : Step × Stepping = (c.in-Some-step_of.step, c.step_of.new.clock) in
    let turn = ap (turn_step c.loop-left.clock) (sym c.next_for.ensures) ∙ c.in-Some-step_of.ensures.made in
    is_ok c.step.result _
    (taken_with_room c.loop-left.world c.make_room.new.self made c.make_room.ensures.same
    (is_taken c.args.world.now.config c.loop-left.left c.loop-left.world c.loop-left.clock c.loop-left.stage c.in-Some.next made c.loop-left.invariant
    c.loop-left-test.true (search rules) turn c.log-log.ensures.replays))
    c.step.ensures.refused

pub loop-left-preserved : goal.loop-left-preserved
loop-left-preserved c =
    let turn = ap (turn_step c.loop-left.clock) (sym c.next_for.ensures) ∙ c.in-Some-step_of.ensures.made in
    goes_on c.args.world.now.config c.loop-left.left c.loop-left.world c.make_room.new.self c.step.new.self c.loop-left.clock c.step_of.new.clock c.loop-left.stage c.in-Some.next c.in-Some-step_of.step
    c.loop-left.invariant c.loop-left-test.true (search rules) c.in-Some.ensures turn c.log-log.ensures.replays c.make_room.ensures.same (search rules)

pub returns : goal.returns
returns c = record {
  made =
      all_made c.args.world.now.config c.loop-left.left c.loop-left.world c.loop-left.clock c.loop-left.stage c.loop-left.invariant
      c.loop-left-test.false c.log-log-2.ensures.replays;
}
