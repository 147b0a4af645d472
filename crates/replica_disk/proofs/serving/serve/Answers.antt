use Rattle.std.proofs.Common.{length, ◌∙◌, ap, arith}
use Rattle.replica_disk.specs.Memory.{Memory, stops_met}
use Rattle.replica_disk.proofs.Opening.{registers_length}
use Rattle.replica_disk.proofs.Serves.{fresh_durable, serve_registers, serve_stops}
use Rattle.replica_disk.proofs.serving.serve.Goals as goal

pub open-requires-clause-durable : goal.open-requires-clause-durable
open-requires-clause-durable c = fresh_durable _ _ _ c.in_ok-disk.ensures

pub handle_all-requires-clause-registers : goal.handle_all-requires-clause-registers
handle_all-requires-clause-registers c = ap length c.in_ok-opened.ensures.held ∙ registers_length _ _

pub returns-clause-registers : goal.returns-clause-registers
returns-clause-registers c =
    c.into_parts-disk.ensures.held
    ∙ serve_registers _ _ _ c.args.registers _ _ c.args.requests.now c.in_ok-disk.ensures c.in_ok-opened.ensures.held c.in_ok-replica.ensures.held

pub returns-clause-stops : goal.returns-clause-stops
returns-clause-stops c =
    c.stops.ensures ∙ ap (λ (m : Memory). stops_met m) c.into_parts-disk.ensures.disk
    ∙ serve_stops _ _ _ _ c.args.stop c.args.registers _ c.args.requests.now (omega (arith, c.ranges.stop.fits)) c.in_ok-disk.ensures
    c.in_ok-opened.ensures.held c.in_ok-opened.ensures.bytes c.in_ok-opened.ensures.goes_on c.in_ok-replica.ensures.goes_on
