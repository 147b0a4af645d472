-- A table of all keys as the list of the writes that made it, the latest last.
use Rattle.std.specs.Prelude.{ℕ, List, [], ◌∷◌, map, if◌then◌else◌}
use Rattle.rss_names.specs.declared.service.Key.{Key}
use Rattle.rss_names.specs.Services.{same_key}
use Rattle.pipeline_lang.specs.declared.script.Expr.{Expr}
use Rattle.rss_model.specs.declared.op.Shown.{Shown}
use Rattle.rss_model.specs.Formula.{formula_value}
use Rattle.rss_model.specs.Legal.{Table, opening_table}

-- what is shown of a key after a write
abbrev pub one_over : Shown → Shown → Shown
one_over shown write =
    if same_key shown.key write.key
    then record shown { value = write.value; writer = write.writer }
    else shown

-- what is shown of a key after these writes
abbrev pub shown_over : Shown → List Shown → Shown
shown_over shown [] = shown
shown_over shown (write ∷ writes) = shown_over (one_over shown write) writes

-- the table that these writes make of the opening one
abbrev pub table_of : List Shown → Table
table_of written key = shown_over (opening_table key) written

-- what a transaction writes where it read these values: each key with its new value
abbrev pub values_written : List (Key × Expr ℕ) → List ℕ → List (Key × ℕ)
values_written writes values = map (λ write. (write.0, formula_value write.1 values)) writes

-- the writes of a call, each with the number of the call
abbrev pub logged : ℕ → List (Key × ℕ) → List Shown
logged call writes = map (λ write. record { key = write.0; value = write.1; writer = call }) writes
