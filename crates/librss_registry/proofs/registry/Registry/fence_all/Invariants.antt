use Rattle.std.proofs.Common.{◌≡◌, ◌≤◌, ◌-◌, ◌++◌, map, length, None}
use Rattle.session_stub.specs.Picked.{fences_from}
use Rattle.librss_registry.specs.Registered.{missing_from, is_picked, counted, Leaves}
use Rattle.librss_registry.proofs.registry.Registry.fence_all.Given as goal

-- what was planned, with what is still to be planned, is the whole
abbrev pub invariant-loop-place : goal.invariant-loop-place
invariant-loop-place g l = record {
  fences : l.fences ++ fences_from l.ctx.seen l.except l.place (16 - l.place) ≡ fences_from l.ctx.seen l.except 0 16;
  few : length l.fences ≤ l.place;
  known : missing_from l.ctx.seen (map g.S.Service.service_id l.fn.self) l.place (16 - l.place) ≡ None;
  ids : map g.S.Service.service_id l.self ≡ map g.S.Service.service_id l.fn.self;
  counts : counted (fences_from l.ctx.seen l.except l.place (16 - l.place)) (map g.S.Service.service_id l.fn.self) (map g.S.Service.fences_planned l.self) ≡ counted (fences_from l.ctx.seen l.except 0 16) (map g.S.Service.service_id l.fn.self) (map g.S.Service.fences_planned l.fn.self);
  others : Leaves (λ s. is_picked l.ctx.seen l.except (g.S.Service.service_id s)) l.fn.self l.self;
}
