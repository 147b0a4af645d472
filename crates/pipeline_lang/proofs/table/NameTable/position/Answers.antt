use Rattle.std.proofs.Common.{◌≡◌, ◌∙◌, sym, List, ℕ, Some, subst}
use Rattle.pipeline_lang.specs.Positions.{position_of}
use Rattle.pipeline_lang.proofs.Positions.{slice_get-position_of}
use Rattle.pipeline_lang.proofs.table.NameTable.position.Goals as goal

pub returns-in-Some-clause-named : goal.returns-in-Some-clause-named
returns-in-Some-clause-named c =
    let found : position_of c.args.name.now c.self.inside.names.keys ≡ Some c.in-Some.index =
    sym c.get_index_of.ensures.index ∙ c.in-Some.is in
    slice_get-position_of c.args.name.now c.args.self.now c.in-Some.index
    (subst (λ (t : List (List ℕ)). position_of c.args.name.now t ≡ Some c.in-Some.index) c.self.view_is found)
