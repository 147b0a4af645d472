-- The statements that make a call: the operation that begins, and what its reply sets.
use Rattle.std.specs.Prelude.{ℕ, ◌==◌, List, [], ◌∷◌, map, slice_index, position, Option, Some, None, option_map, if◌then◌else◌}
use Rattle.rss_names.specs.declared.service.Key.{Key}
use Rattle.pipeline_lang.specs.declared.script.Term.{Term}
use Rattle.pipeline_lang.specs.declared.script.Term.TheVariants.{Number, Variable}
use Rattle.pipeline_lang.specs.declared.script.Expr.{Expr}
use Rattle.pipeline_lang.specs.declared.script.Expr.TheVariants.{One, Plus, Minus}
use Rattle.pipeline_lang.specs.declared.script.Compare.{Compare}
use Rattle.pipeline_lang.specs.declared.script.Compare.TheVariants.{Equal, Less}
use Rattle.pipeline_lang.specs.declared.script.Statement.TheVariants.{Let, Read, Write, Snap, Txn, Spawn, Wait, Put, Take, Close, Fence, Repeat, When, End, Exit}
use Rattle.rss_model.specs.declared.op.Op.{Op}
use Rattle.rss_model.specs.declared.op.Op.TheVariants as op
use Rattle.rss_model.specs.Formula.{formula_value, guard_value}
use Rattle.rss_model.specs.Cursor.{NumberedStatement, Cursor, next_cursor, with_variable}

-- a variable with its value, as a term: where the transaction itself reads it, its position there
abbrev pub bound_variable : Option ℕ → ℕ → Term ℕ
bound_variable (Some i) value = Variable i
bound_variable None value = Number value

-- a term of a transaction over its own reads, where the script's variables have these values
abbrev pub bound_term : List (ℕ × Key) → List ℕ → Term ℕ → Term ℕ
bound_term pairs variables (Number n) = Number n
bound_term pairs variables (Variable v) =
    bound_variable (position (λ pair. pair.0 == v) pairs) (slice_index variables v)

-- an expression of a transaction as a formula over its own reads, term by term
abbrev pub bound_formula : List (ℕ × Key) → List ℕ → Expr ℕ → Expr ℕ
bound_formula pairs variables (One a) = One (bound_term pairs variables a)
bound_formula pairs variables (Plus a b) =
    Plus (bound_term pairs variables a) (bound_term pairs variables b)
bound_formula pairs variables (Minus a b) =
    Minus (bound_term pairs variables a) (bound_term pairs variables b)

-- a guard likewise
abbrev pub bound_guard : List (ℕ × Key) → List ℕ → Compare ℕ → Compare ℕ
bound_guard pairs variables (Equal a b) =
    Equal (bound_formula pairs variables a) (bound_formula pairs variables b)
bound_guard pairs variables (Less a b) =
    Less (bound_formula pairs variables a) (bound_formula pairs variables b)

-- the operation of a statement that makes a call
abbrev pub op_of_statement : NumberedStatement → List ℕ → Option Op
op_of_statement (Read variable key) variables = Some (op.Read key)
op_of_statement (Write key value) variables = Some (op.Write key (formula_value value variables))
op_of_statement (Snap pairs) variables = Some (op.Snap (map (λ pair. pair.1) pairs))
op_of_statement (Txn pairs guard writes) variables = Some (op.Txn
    (map (λ pair. pair.1) pairs)
    (option_map (bound_guard pairs variables) guard)
    (map (λ write. (write.0, bound_formula pairs variables write.1)) writes))
op_of_statement (Let variable value) variables = None
op_of_statement (Spawn stage) variables = None
op_of_statement (Wait stage) variables = None
op_of_statement (Put pipe value) variables = None
op_of_statement (Take variable pipe) variables = None
op_of_statement (Close pipe) variables = None
op_of_statement Fence variables = None
op_of_statement (Repeat turns) variables = None
op_of_statement (When test) variables = None
op_of_statement End variables = None
op_of_statement Exit variables = None

-- the variables of the pairs set to the values shown, in order
abbrev pub with_pairs : Cursor → List (ℕ × Key) → List ℕ → Cursor
with_pairs at [] values = at
with_pairs at (pair ∷ pairs) [] = at
with_pairs at (pair ∷ pairs) (value ∷ values) =
    with_pairs (with_variable at pair.0 value) pairs values

-- `status` set by a transaction that was shown these values: 0 where its guard is true, else 1
abbrev pub with_verdict : Cursor → Option (Compare ℕ) → List ℕ → Cursor
with_verdict at None values = at
with_verdict at (Some guard) values = with_variable at 0 (if guard_value guard values then 0 else 1)

-- behind a statement whose call was shown these values
abbrev pub after_call : Cursor → NumberedStatement → List ℕ → Cursor
after_call at (Read variable key) values =
    next_cursor (with_pairs at ((variable, key) ∷ []) values)
after_call at (Write key value) values = next_cursor at
after_call at (Snap pairs) values = next_cursor (with_pairs at pairs values)
after_call at (Txn pairs guard writes) values =
    let bound = option_map (bound_guard pairs at.variables) guard in
    next_cursor (with_verdict (with_pairs at pairs values) bound values)
after_call at (Let variable value) values = at
after_call at (Spawn stage) values = at
after_call at (Wait stage) values = at
after_call at (Put pipe value) values = at
after_call at (Take variable pipe) values = at
after_call at (Close pipe) values = at
after_call at Fence values = at
after_call at (Repeat turns) values = at
after_call at (When test) values = at
after_call at End values = at
after_call at Exit values = at
