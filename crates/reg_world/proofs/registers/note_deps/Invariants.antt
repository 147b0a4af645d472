use Rattle.std.proofs.Common.{◌≡◌, true, map, drop}
use Rattle.causal_context.specs.declared.dep.Dep.{Dep}
use Rattle.rss_machine.specs.Marks.{notes_keys}
use Rattle.reg_world.specs.Rows.{marks_of, are_ready}
use Rattle.reg_world.proofs.registers.note_deps.Given as goal

-- what is left to note leads from here to the same marks, and what it raises is ready
abbrev pub invariant-loop-dep : goal.invariant-loop-dep
invariant-loop-dep l = record {
  notes : notes_keys l.service l.step (map (λ (d : Dep). d.key) (drop l.dep-index l.deps)) (marks_of l.registers) ≡ notes_keys l.service l.step (map (λ (d : Dep). d.key) l.deps) (marks_of l.fn.registers);
  ready : are_ready l.service l.registers (map (λ (d : Dep). d.key) (drop l.dep-index l.deps)) ≡ true;
}
