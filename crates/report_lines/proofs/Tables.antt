-- Names in tables.
use Rattle.std.proofs.Common.{◌≡◌, ℕ, List, [], Option, None, get_or, sym, ap, ◌∙◌}
use Rattle.std.specs.List.{slice_get}
use Rattle.std.specs.Option.{unwrap_or}
use Rattle.std.proofs.lemmas.Option.{unwrap_or-slice_get}

-- past the end of a table the name is empty
pub no_name : (names : List (List ℕ)) (i : ℕ) → slice_get names i ≡ None → get_or names i [] ≡ []
no_name names i none = sym (unwrap_or-slice_get names i []) ∙ ap (λ (o : Option (List ℕ)). unwrap_or o []) none
