use Rattle.std.proofs.Common.{◌≡◌, ◌-◌, map}
use Rattle.causal_context.specs.Services.{AreServices}
use Rattle.librss_registry.specs.Registered.{missing_from}
use Rattle.librss_registry.proofs.registry.Registry.missing.Given as goal

-- none before is missing
abbrev pub invariant-loop-place : goal.invariant-loop-place
invariant-loop-place g l = record {
  missing : missing_from l.ctx.seen (map g.S.Service.service_id l.self) 0 16 ≡ missing_from l.ctx.seen (map g.S.Service.service_id l.self) l.place (16 - l.place);
  services : AreServices l.ctx.seen.last.services;
}
