use Rattle.std.proofs.Common.{ℕ, ap, ◌∙◌, set, Option, None, arith}
use Rattle.rss_names.specs.declared.service.Target.TheVariants.{Replica}
use Rattle.rss_machine.specs.Slots.{unless_with}
use Rattle.owner_turns.proofs.Places.{mapped_more}
use Rattle.owner_turns.proofs.currents.forget_in.Goals as goal

pub loop-place-preserved : goal.loop-place-preserved
loop-place-preserved c =
    ap (λ (x : Option ℕ). set c.loop-place.currents c.loop-place.place x) c.current_unless_with.ensures
    ∙ mapped_more (unless_with c.args.net.now.messages (Replica c.args.service c.args.replica)) c.args.currents.now c.loop-place.currents c.loop-place.place None (omega (arith, c.told-currents, c.loop-place-test.true)) c.loop-place.invariant
