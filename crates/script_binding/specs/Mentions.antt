-- the names that stand in a statement, in the order of the text, each with its token
use Rattle.std.specs.Prelude.{ℕ, ◌+◌, ◌*◌, List, [], ◌∷◌, ◌++◌, length, Option, Some, None}
use Rattle.pipeline_lang.specs.declared.script.Term.{Term}
use Rattle.pipeline_lang.specs.declared.script.Term.TheVariants.{Number, Variable}
use Rattle.pipeline_lang.specs.declared.script.Expr.{Expr}
use Rattle.pipeline_lang.specs.declared.script.Expr.TheVariants.{One, Plus, Minus}
use Rattle.pipeline_lang.specs.declared.script.Compare.{Compare}
use Rattle.pipeline_lang.specs.declared.script.Compare.TheVariants.{Equal, Less}
use Rattle.pipeline_lang.specs.Statements.{Raw}
use Rattle.pipeline_lang.specs.declared.script.Statement.TheVariants.{Let, Read, Write, Snap, Txn, Spawn, Wait, Put, Take, Close, When}
use Rattle.script_binding.specs.declared.mention.Mention.{Mention}
use Rattle.script_binding.specs.declared.mention.Role.{Role}
use Rattle.script_binding.specs.declared.mention.Role.TheVariants as role

-- a name that stands at a token
abbrev pub mention : Role → ℕ → List ℕ → Mention
mention r at name = record { role = r; token = at; name = name }

-- how many tokens an expression has
abbrev pub width : {V : Type 0} → Expr V → ℕ
width (One a) = 1
width (Plus a b) = 3
width (Minus a b) = 3

-- how many tokens a comparison has
abbrev pub compare_width : {V : Type 0} → Compare V → ℕ
compare_width (Equal a b) = width a + 1 + width b
compare_width (Less a b) = width a + 1 + width b

-- the names in a term that stands at a token
abbrev pub in_term : ℕ → Term (List ℕ) → List Mention
in_term at (Number n) = []
in_term at (Variable v) = mention role.Variable at v ∷ []

-- the names in an expression that begins at a token
abbrev pub in_expr : ℕ → Expr (List ℕ) → List Mention
in_expr at (One a) = in_term at a
in_expr at (Plus a b) = in_term at a ++ in_term (at + 2) b
in_expr at (Minus a b) = in_term at a ++ in_term (at + 2) b

-- the names in a comparison that begins at a token
abbrev pub in_compare : ℕ → Compare (List ℕ) → List Mention
in_compare at (Equal a b) = in_expr at a ++ in_expr (at + width a + 1) b
in_compare at (Less a b) = in_expr at a ++ in_expr (at + width a + 1) b

-- the names in a list of pairs `V KEY` that begins at a token: pairs begin three tokens apart
abbrev pub in_pairs : ℕ → List (List ℕ × List ℕ) → List Mention
in_pairs at [] = []
in_pairs at (p ∷ ps) = mention role.Variable at p.0 ∷ mention role.Key (at + 1) p.1 ∷ in_pairs (at + 3) ps

-- the token behind the pairs of a `txn`
abbrev pub behind_pairs : List (List ℕ × List ℕ) → ℕ
behind_pairs [] = 1
behind_pairs (p ∷ ps) = 3 * length (p ∷ ps)

-- the names in the guard of a `txn`, whose word `when` stands at a token
abbrev pub in_guard : ℕ → Option (Compare (List ℕ)) → List Mention
in_guard at None = []
in_guard at (Some c) = in_compare (at + 1) c

-- the token behind the guard of a `txn`
abbrev pub behind_guard : ℕ → Option (Compare (List ℕ)) → ℕ
behind_guard at None = at
behind_guard at (Some c) = at + 1 + compare_width c

-- the token of the first key that a `txn` writes, behind the `:`
abbrev pub first_write : List (List ℕ × List ℕ) → Option (Compare (List ℕ)) → ℕ
first_write pairs guard = behind_guard (behind_pairs pairs) guard + 1

-- the token of the member behind a write `KEY = EXPR` at a token and its comma
abbrev pub next_write : ℕ → Expr (List ℕ) → ℕ
next_write at e = at + 3 + width e

-- the names in a list of writes that begins at a token
abbrev pub in_writes : ℕ → List (List ℕ × Expr (List ℕ)) → List Mention
in_writes at [] = []
in_writes at (w ∷ ws) = mention role.Key at w.0 ∷ (in_expr (at + 2) w.1 ++ in_writes (next_write at w.1) ws)

-- the keys that a list of writes that begins at a token writes
abbrev pub written_keys : ℕ → List (List ℕ × Expr (List ℕ)) → List Mention
written_keys at [] = []
written_keys at (w ∷ ws) = mention role.Key at w.0 ∷ written_keys (next_write at w.1) ws

-- the token behind a list of writes that begins at a token, and its last comma
abbrev pub behind_writes : ℕ → List (List ℕ × Expr (List ℕ)) → ℕ
behind_writes at [] = at
behind_writes at (w ∷ ws) = behind_writes (next_write at w.1) ws

-- the names in a `txn`
abbrev pub in_txn : List (List ℕ × List ℕ) → Option (Compare (List ℕ)) → List (List ℕ × Expr (List ℕ)) → List Mention
in_txn pairs guard writes =
    in_pairs 1 pairs ++ in_guard (behind_pairs pairs) guard ++ in_writes (first_write pairs guard) writes

-- the names in a statement
unfoldable pub mentions : Raw → List Mention
mentions (Let v e) = mention role.Variable 1 v ∷ in_expr 3 e
mentions (Read v r) = mention role.Variable 1 v ∷ mention role.Register 2 r ∷ []
mentions (Write r e) = mention role.Register 1 r ∷ in_expr 2 e
mentions (Snap pairs) = in_pairs 1 pairs
mentions (Txn pairs guard writes) = in_txn pairs guard writes
mentions (Spawn s) = mention role.Stage 1 s ∷ []
mentions (Wait s) = mention role.Stage 1 s ∷ []
mentions (Put p e) = mention role.Pipe 1 p ∷ in_expr 2 e
mentions (Take v p) = mention role.Variable 1 v ∷ mention role.Pipe 2 p ∷ []
mentions (Close p) = mention role.Pipe 1 p ∷ []
mentions (When c) = in_compare 1 c
mentions s = []
