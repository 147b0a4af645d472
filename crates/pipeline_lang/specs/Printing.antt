-- The one printed spelling of a script: a statement on a line, two spaces for each block round it, one space between tokens and none before `,`.
use Rattle.std.specs.Prelude.{ℕ, zero, suc, ◌+◌, ◌-◌, List, [], ◌∷◌, ◌++◌, Option, Some, None, codes}
use Rattle.std.specs.Fmt.{decimal}
use Rattle.pipeline_lang.specs.declared.script.Term.{Term}
use Rattle.pipeline_lang.specs.declared.script.Term.TheVariants.{Number, Variable}
use Rattle.pipeline_lang.specs.declared.script.Expr.{Expr}
use Rattle.pipeline_lang.specs.declared.script.Expr.TheVariants.{One, Plus, Minus}
use Rattle.pipeline_lang.specs.declared.script.Compare.{Compare}
use Rattle.pipeline_lang.specs.declared.script.Compare.TheVariants.{Equal, Less}
use Rattle.pipeline_lang.specs.declared.script.Statement.TheVariants as statement
use Rattle.pipeline_lang.specs.Statements.{Raw, Pair, Written}

-- a number or a variable
unfoldable pub term_text : Term (List ℕ) → List ℕ
term_text (Number n) = decimal n
term_text (Variable v) = v

-- an expression
unfoldable pub expr_text : Expr (List ℕ) → List ℕ
expr_text (One a) = term_text a
expr_text (Plus a b) = term_text a ++ codes " + " ++ term_text b
expr_text (Minus a b) = term_text a ++ codes " - " ++ term_text b

-- a comparison
unfoldable pub compare_text : Compare (List ℕ) → List ℕ
compare_text (Equal a b) = expr_text a ++ codes " = " ++ expr_text b
compare_text (Less a b) = expr_text a ++ codes " < " ++ expr_text b

-- a pair of a transaction
unfoldable pub pair_text : Pair → List ℕ
pair_text p = p.0 ++ codes " " ++ p.1

-- a write of a transaction
unfoldable pub written_text : Written → List ℕ
written_text w = w.0 ++ codes " = " ++ expr_text w.1

-- what stands behind the first pair of a list
unfoldable pub more_pairs_text : List Pair → List ℕ
more_pairs_text [] = []
more_pairs_text (p ∷ ps) = codes ", " ++ pair_text p ++ more_pairs_text ps

-- the pairs of a list, each behind a space
unfoldable pub pairs_text : List Pair → List ℕ
pairs_text [] = []
pairs_text (p ∷ ps) = codes " " ++ pair_text p ++ more_pairs_text ps

-- what stands behind the first write of a list
unfoldable pub more_writes_text : List Written → List ℕ
more_writes_text [] = []
more_writes_text (w ∷ ws) = codes ", " ++ written_text w ++ more_writes_text ws

-- the writes of a list, each behind a space
unfoldable pub writes_text : List Written → List ℕ
writes_text [] = []
writes_text (w ∷ ws) = codes " " ++ written_text w ++ more_writes_text ws

-- the guard of a `txn`
unfoldable pub guard_text : Option (Compare (List ℕ)) → List ℕ
guard_text None = []
guard_text (Some c) = codes " when " ++ compare_text c

-- a statement
unfoldable pub statement_text : Raw → List ℕ
statement_text (statement.Let v e) = codes "let " ++ v ++ codes " = " ++ expr_text e
statement_text (statement.Read v k) = codes "read " ++ v ++ codes " " ++ k
statement_text (statement.Write k e) = codes "write " ++ k ++ codes " " ++ expr_text e
statement_text (statement.Snap ps) = codes "snap" ++ pairs_text ps
statement_text (statement.Txn ps guard ws) = codes "txn" ++ pairs_text ps ++ guard_text guard ++ codes " :" ++ writes_text ws
statement_text (statement.Spawn s) = codes "spawn " ++ s
statement_text (statement.Wait s) = codes "wait " ++ s
statement_text (statement.Put p e) = codes "put " ++ p ++ codes " " ++ expr_text e
statement_text (statement.Take v p) = codes "take " ++ v ++ codes " " ++ p
statement_text (statement.Close p) = codes "close " ++ p
statement_text statement.Fence = codes "fence"
statement_text (statement.Repeat n) = codes "repeat " ++ decimal n
statement_text (statement.When c) = codes "when " ++ compare_text c
statement_text statement.End = codes "end"
statement_text statement.Exit = codes "exit"

-- how many blocks stand round a statement, if so many are open before it: `end` stands outside its block
abbrev pub blocks_round : ℕ → Raw → ℕ
blocks_round n statement.End = n - 1
blocks_round n s = n

-- how many blocks stand round what is behind a statement
abbrev pub blocks_behind : ℕ → Raw → ℕ
blocks_behind n (statement.Repeat count) = n + 1
blocks_behind n (statement.When test) = n + 1
blocks_behind n statement.End = n - 1
blocks_behind n s = n

-- two spaces for each of so many blocks
unfoldable pub indent : ℕ → List ℕ
indent zero = []
indent (suc n) = codes "  " ++ indent n

-- the lines of statements, inside so many blocks
unfoldable pub lines_text : ℕ → List Raw → List ℕ
lines_text n [] = []
lines_text n (s ∷ ss) = indent (blocks_round n s) ++ statement_text s ++ codes "\n" ++ lines_text (blocks_behind n s) ss

-- the printed spelling of a script
abbrev pub text_of : List Raw → List ℕ
text_of script = lines_text 0 script
