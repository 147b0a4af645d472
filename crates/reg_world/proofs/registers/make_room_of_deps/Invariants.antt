use Rattle.std.proofs.Common.{◌≡◌, map, drop}
use Rattle.causal_context.specs.declared.dep.Dep.{Dep}
use Rattle.reg_world.specs.Rows.{marks_of, rooms_of, with_rooms}
use Rattle.reg_world.proofs.registers.make_room_of_deps.Given as goal

-- making room for what is left leads from here to the same
abbrev pub invariant-loop-dep : goal.invariant-loop-dep
invariant-loop-dep l = record {
  same : marks_of l.registers.items ≡ marks_of l.fn.registers.items;
  rooms : with_rooms (rooms_of l.registers.items) (map (λ (d : Dep). d.key) (drop l.dep-index l.deps)) ≡ with_rooms (rooms_of l.fn.registers.items) (map (λ (d : Dep). d.key) l.deps);
}
