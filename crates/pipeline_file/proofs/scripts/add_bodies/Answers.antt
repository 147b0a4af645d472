use Rattle.std.proofs.Common.{◌+◌, ◌++◌, drop, arith}
use Rattle.std.proofs.lemmas.Grind.{common_steps}
use Rattle.script_binding.specs.Environment.{spawned_in}
use Rattle.pipeline_tables.proofs.Laws.{turn_err, turn_end}
use Rattle.pipeline_file.specs.Scripts.{script_said, bodies_from}
use Rattle.pipeline_file.proofs.Bodies.{bodies_from_drop, bodies_from_end, turn_made, refused_on}
use Rattle.pipeline_file.proofs.scripts.add_bodies.Goals as goal

pub returns-in_err-script-clause-refused : goal.returns-in_err-script-clause-refused
returns-in_err-script-clause-refused c =
    let step = bodies_from_drop c.args.declared.now c.args.resolved.now (c.loop-index.index + 1) c.loop-index.spawned c.args.stages.now c.loop-index.index c.index-stages-index.result c.loop-index-test.true in
    refused_on c.in_err-script.field-0.0 c.from_residual.result (script_said c.args.declared.now c.args.resolved.now (c.loop-index.index + 1) c.loop-index.spawned c.index-stages-index.result.script) _ c.in_err-script.ensures
    (λ first s. turn_err _ _ c.loop-index.bodies first _ _ c.loop-index.invariant.0 (rw (← c.index-stages-index.is) at step) s) c.from_residual.ensures.1

pub loop-index-preserved : goal.loop-index-preserved
loop-index-preserved c =
    let step = bodies_from_drop c.args.declared.now c.args.resolved.now (c.loop-index.index + 1) c.loop-index.spawned c.args.stages.now c.loop-index.index c.index-stages-index.result c.loop-index-test.true in (
      rw (c.in_ok-push.ensures.ok, c.in_ok-add_spawned.ensures) (turn_made _ _ c.loop-index.bodies c.in_ok-script.script _ (λ script. record { script = script; earliest_end = c.index-stages-index.result.earliest_end }) (λ script. bodies_from c.args.declared.now c.args.resolved.now (c.loop-index.index + 1 + 1) (c.loop-index.spawned ++ spawned_in script) (drop (c.loop-index.index + 1) c.args.stages.now)) c.loop-index.invariant.0 (rw (← c.index-stages-index.is) at step) c.in_ok-script.ensures),
      grind (arith, common_steps),
    )

pub returns-clause-read : goal.returns-clause-read
returns-clause-read c = turn_end _ _ c.loop-index.bodies c.loop-index.invariant.0 (bodies_from_end c.args.declared.now c.args.resolved.now (c.loop-index.index + 1) c.loop-index.spawned c.args.stages.now c.loop-index.index (omega arith))
