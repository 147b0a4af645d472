use Rattle.std.proofs.Common.{sym, ◌∙◌, map, arith}
use Rattle.librss_registry.proofs.Missing.{missing_here, missing_later, none_behind, missing_is}
use Rattle.librss_registry.proofs.registry.Registry.missing.Goals as goal

pub returns-in-Some-clause-missing : goal.returns-in-Some-clause-missing
returns-in-Some-clause-missing g c = sym (c.loop-place.invariant.missing ∙ missing_here c.args.ctx.now.seen (map g.S.Service.service_id c.args.self.now) c.loop-place.place c.in-Some.id (omega (arith, c.loop-place-test.true)) (sym c.missing_at.ensures ∙ c.in-Some.is))

pub returns-in-Some-clause-first : goal.returns-in-Some-clause-first
returns-in-Some-clause-first g c = returns-in-Some-clause-missing g c ∙ missing_is c.args.ctx.now.seen (map g.S.Service.service_id c.args.self.now) c.loop-place.invariant.services

pub loop-place-preserved : goal.loop-place-preserved
loop-place-preserved g c = record {
  missing = c.loop-place.invariant.missing ∙ missing_later c.args.ctx.now.seen (map g.S.Service.service_id c.args.self.now) c.loop-place.place (omega (arith, c.loop-place-test.true)) (sym c.missing_at.ensures ∙ c.in_default.is);
  services = c.loop-place.invariant.services;
}

pub returns-clause-missing : goal.returns-clause-missing
returns-clause-missing g c = sym (c.loop-place.invariant.missing ∙ none_behind c.args.ctx.now.seen (map g.S.Service.service_id c.args.self.now) c.loop-place.place (omega (arith, c.loop-place-test.false)))

pub returns-clause-first : goal.returns-clause-first
returns-clause-first g c = returns-clause-missing g c ∙ missing_is c.args.ctx.now.seen (map g.S.Service.service_id c.args.self.now) c.loop-place.invariant.services
