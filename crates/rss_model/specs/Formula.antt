-- Expressions and comparisons, and their values.
use Rattle.std.specs.Prelude.{ℕ, ◌+◌, ◌-◌, ◌%◌, ◌^◌, ◌==◌, Bool, List, slice_index, nat_lt}
use Rattle.pipeline_lang.specs.declared.script.Term.{Term}
use Rattle.pipeline_lang.specs.declared.script.Term.TheVariants.{Number, Variable}
use Rattle.pipeline_lang.specs.declared.script.Expr.{Expr}
use Rattle.pipeline_lang.specs.declared.script.Expr.TheVariants.{One, Plus, Minus}
use Rattle.pipeline_lang.specs.declared.script.Compare.{Compare}
use Rattle.pipeline_lang.specs.declared.script.Compare.TheVariants.{Equal, Less}

-- a number itself, or the value at the number of a variable or of a read; past the end 0
abbrev pub term_value : Term ℕ → List ℕ → ℕ
term_value (Number n) values = n
term_value (Variable i) values = slice_index values i

-- a term, or the sum or difference of two terms, modulo 2^64
abbrev pub formula_value : Expr ℕ → List ℕ → ℕ
formula_value (One a) values = term_value a values
formula_value (Plus a b) values = (term_value a values + term_value b values) % 2 ^ 64
formula_value (Minus a b) values = (term_value a values + 2 ^ 64 - term_value b values) % 2 ^ 64

-- whether a comparison holds
abbrev pub guard_value : Compare ℕ → List ℕ → Bool
guard_value (Equal a b) values = formula_value a values == formula_value b values
guard_value (Less a b) values = nat_lt (formula_value a values) (formula_value b values)
