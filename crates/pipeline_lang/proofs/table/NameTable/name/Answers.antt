use Rattle.std.proofs.Common.{◌∙◌, List, ℕ, subst}
use Rattle.std.specs.List.{IsDistinct}
use Rattle.std.specs.Slice.{IsGetResult}
use Rattle.std.specs.Str.{bytes_eq}
use Rattle.pipeline_lang.proofs.Positions.{only_position}
use Rattle.pipeline_lang.proofs.table.NameTable.name.Goals as goal

pub returns-clause-only : goal.returns-clause-only
returns-clause-only c =
    only_position c.get.result c.args.self.now c.args.position
    (subst (λ (t : List (List ℕ)). IsDistinct bytes_eq t) c.self.view_is c.as_slice.ensures.unique)
    (subst (λ (t : List (List ℕ)). IsGetResult t c.args.position c.args.position c.get.result) (c.as_slice.ensures.keys ∙ c.self.view_is) c.get.ensures.lookup)
