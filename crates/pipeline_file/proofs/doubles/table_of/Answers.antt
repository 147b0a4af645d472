use Rattle.std.proofs.Common.{arith, ◌∙◌, sym, refl}
use Rattle.pipeline_file.proofs.Distinct.{lacks_at, keeps, names_so_far, names_of_end, begins}
use Rattle.pipeline_file.proofs.doubles.table_of.Goals as goal

pub loop-declaration-init : goal.loop-declaration-init
loop-declaration-init c = rw c.new-table.ensures (refl, begins c.args.declarations.now c.requires.alone)

pub add_of_kind-requires : goal.add_of_kind-requires
add_of_kind-requires c =
    let l = lacks_at c.args.kind c.loop-declaration.table c.args.declarations.now c.loop-declaration.declaration-index c.declaration-item.result c.loop-declaration-test.true c.requires.shared in
    record { new = λ s. (rw (← c.declaration-item.is) at l) s c.loop-declaration.invariant.1 }

pub loop-declaration-preserved : goal.loop-declaration-preserved
loop-declaration-preserved c =
    let k = keeps c.args.kind c.loop-declaration.table c.args.declarations.now c.loop-declaration.declaration-index c.declaration-item.result c.loop-declaration-test.true c.requires.shared c.loop-declaration.invariant.1 in
    let n = names_so_far c.args.kind c.loop-declaration.table c.args.declarations.now c.loop-declaration.declaration-index c.declaration-item.result c.loop-declaration-test.true in
    rw c.in_ok-add_of_kind.ensures (sym (rw (← c.declaration-item.is) at n) ∙ c.loop-declaration.invariant.0, rw (← c.declaration-item.is) at k)

pub returns : goal.returns
returns c = sym (names_of_end c.args.kind c.loop-declaration.table c.args.declarations.now c.loop-declaration.declaration-index (omega arith)) ∙ c.loop-declaration.invariant.0
