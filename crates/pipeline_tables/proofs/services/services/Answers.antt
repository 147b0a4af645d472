use Rattle.std.proofs.Common.{◌+◌, ◌-◌, length, drop, arith}
use Rattle.std.proofs.lemmas.Grind.{common_steps}
use Rattle.toml.specs.View.{view, items_view}
use Rattle.pipeline_tables.specs.Rows.{service_of}
use Rattle.pipeline_tables.specs.Services.{services_from}
use Rattle.pipeline_tables.specs.Lists.{row_in}
use Rattle.pipeline_tables.proofs.Laws.{services_from_drop, services_from_end, turn_with, turn_err, turn_end, tells_on}
use Rattle.pipeline_tables.proofs.services.services.Goals as goal

pub returns-in_err-service-clause-read : goal.returns-in_err-service-clause-read
returns-in_err-service-clause-read c =
    let step = services_from_drop c.args.root.now c.args.place c.loop-index.room (c.loop-index.index + 1) c.args.values.now c.loop-index.index c.index-values-index.result c.loop-index-test.true in
    tells_on c.in_err-service.field-0.0 c.from_residual.result (row_in (service_of c.args.root.now c.loop-index.room) c.args.place (c.loop-index.index + 1) (view c.index-values-index.result)) _ c.in_err-service.ensures
    (λ first s. turn_err _ _ c.loop-index.services first _ _ c.loop-index.invariant.0 (rw (← c.index-values-index.is) at step) s) c.from_residual.ensures.1

pub loop-index-preserved : goal.loop-index-preserved
loop-index-preserved c =
    let step = services_from_drop c.args.root.now c.args.place c.loop-index.room (c.loop-index.index + 1) c.args.values.now c.loop-index.index c.index-values-index.result c.loop-index-test.true in (
      rw (c.in_ok-push.ensures.ok, c.saturating_sub-room-in-loop-index.ensures, c.len-in-loop-index.ensures) (turn_with _ _ c.loop-index.services c.in_ok-service.service _ (λ row. services_from c.args.root.now c.args.place (c.loop-index.room - length row.registers) (c.loop-index.index + 1 + 1) (items_view (drop (c.loop-index.index + 1) c.args.values.now))) c.loop-index.invariant.0 (rw (← c.index-values-index.is) at step) c.in_ok-service.ensures),
      grind (arith, common_steps),
    )

pub returns-clause-read : goal.returns-clause-read
returns-clause-read c = turn_end _ _ c.loop-index.services c.loop-index.invariant.0 (services_from_end c.args.root.now c.args.place c.loop-index.room (c.loop-index.index + 1) c.args.values.now c.loop-index.index (omega arith))
