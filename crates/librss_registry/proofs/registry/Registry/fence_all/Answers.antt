use Rattle.std.proofs.Common.{ap, ◌∙◌, map, arith}
use Rattle.causal_context.specs.Services.{has_service, service_at}
use Rattle.session_stub.specs.Picked.{fences_from}
use Rattle.session_stub.proofs.Picks.{pick_more}
use Rattle.librss_registry.specs.Registered.{is_picked, counted}
use Rattle.librss_registry.proofs.Missing.{known_at, none_later}
use Rattle.librss_registry.proofs.Planned.{counted_later, leaves_then}
use Rattle.librss_registry.proofs.registry.Registry.fence_all.Goals as goal

pub fence_at-requires-clause-known : goal.fence_at-requires-clause-known
fence_at-requires-clause-known g c = λ h.
    ap (λ l. has_service l (service_at c.loop-place.place)) c.loop-place.invariant.ids
    ∙ known_at c.args.ctx.now.seen (map g.S.Service.service_id c.args.self.now) c.loop-place.place (omega (arith, c.loop-place-test.true)) c.loop-place.invariant.known h

pub loop-place-preserved : goal.loop-place-preserved
loop-place-preserved g c =
    let kept = c.loop-place.invariant in
    record {
      fences = pick_more c.args.ctx.now.seen c.args.except c.loop-place.place c.loop-place.fences c.fence_at.new.fences (fences_from c.args.ctx.now.seen c.args.except 0 16) (omega (arith, c.loop-place-test.true)) c.fence_at.ensures.fences kept.fences;
      few = omega (arith, c.fence_at.ensures.few, kept.few);
      known = none_later c.args.ctx.now.seen (map g.S.Service.service_id c.args.self.now) c.loop-place.place (omega (arith, c.loop-place-test.true)) kept.known;
      ids = c.fence_at.ensures.ids ∙ kept.ids;
      counts = counted_later c.args.ctx.now.seen c.args.except c.loop-place.place (map g.S.Service.service_id c.args.self.now) (map g.S.Service.service_id c.loop-place.self) (map g.S.Service.fences_planned c.loop-place.self) (map g.S.Service.fences_planned c.fence_at.new.self) (counted (fences_from c.args.ctx.now.seen c.args.except 0 16) (map g.S.Service.service_id c.args.self.now) (map g.S.Service.fences_planned c.args.self.now)) (omega (arith, c.loop-place-test.true)) kept.ids c.fence_at.ensures.counts kept.counts;
      others = leaves_then (λ s. is_picked c.args.ctx.now.seen c.args.except (g.S.Service.service_id s)) c.args.self.now c.loop-place.self c.fence_at.new.self kept.others c.fence_at.ensures.others;
    }
