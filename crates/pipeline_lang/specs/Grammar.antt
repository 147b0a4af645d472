-- The grammar: which words spell which script. Each statement has one spelling in words, so a text spells a script where its lines have these words.
use Rattle.std.specs.Prelude.{◌≡◌, ℕ, List, [], ◌∷◌, ◌++◌, Option, Some, None, codes}
use Rattle.std.specs.Fmt.{decimal}
use Rattle.pipeline_lang.specs.declared.script.Term.{Term}
use Rattle.pipeline_lang.specs.declared.script.Term.TheVariants.{Number, Variable}
use Rattle.pipeline_lang.specs.declared.script.Expr.{Expr}
use Rattle.pipeline_lang.specs.declared.script.Expr.TheVariants.{One, Plus, Minus}
use Rattle.pipeline_lang.specs.declared.script.Compare.{Compare}
use Rattle.pipeline_lang.specs.declared.script.Compare.TheVariants.{Equal, Less}
use Rattle.pipeline_lang.specs.declared.script.Statement.TheVariants as statement
use Rattle.pipeline_lang.specs.Tokens.{Token, tokens, statement_lines}
use Rattle.pipeline_lang.specs.Statements.{Raw, Pair, Written}
use Rattle.pipeline_lang.specs.Spelled.{IsScript}

-- a number in decimal digits without leading zeros, or a variable
abbrev pub term_word : Term (List ℕ) → List ℕ
term_word (Number n) = decimal n
term_word (Variable v) = v

-- an expression: one term, or two with `+` or `-` between
abbrev pub expr_words : Expr (List ℕ) → List (List ℕ)
expr_words (One a) = term_word a ∷ []
expr_words (Plus a b) = term_word a ∷ codes "+" ∷ term_word b ∷ []
expr_words (Minus a b) = term_word a ∷ codes "-" ∷ term_word b ∷ []

-- a comparison: two expressions with `=` or `<` between
abbrev pub compare_words : Compare (List ℕ) → List (List ℕ)
compare_words (Equal a b) = expr_words a ++ (codes "=" ∷ expr_words b)
compare_words (Less a b) = expr_words a ++ (codes "<" ∷ expr_words b)

-- a pair of a transaction: a variable and a key
abbrev pub pair_words : Pair → List (List ℕ)
pair_words p = p.0 ∷ p.1 ∷ []

-- a write of a transaction: a key, `=` and an expression
abbrev pub written_words : Written → List (List ℕ)
written_words w = w.0 ∷ codes "=" ∷ expr_words w.1

-- the members behind the first one, each behind `,`
abbrev pub more_words : {A : Type 0} → (A → List (List ℕ)) → List A → List (List ℕ)
more_words spell [] = []
more_words spell (x ∷ xs) = codes "," ∷ (spell x ++ more_words spell xs)

-- the members of a list, with `,` between
abbrev pub list_words : {A : Type 0} → (A → List (List ℕ)) → List A → List (List ℕ)
list_words spell [] = []
list_words spell (x ∷ xs) = spell x ++ more_words spell xs

-- the guard of a `txn`, if it has one
abbrev pub guard_words : Option (Compare (List ℕ)) → List (List ℕ)
guard_words None = []
guard_words (Some c) = codes "when" ∷ compare_words c

-- a statement
abbrev pub statement_words : Raw → List (List ℕ)
statement_words (statement.Let v x) = codes "let" ∷ v ∷ codes "=" ∷ expr_words x
statement_words (statement.Read v k) = codes "read" ∷ v ∷ k ∷ []
statement_words (statement.Write k x) = codes "write" ∷ k ∷ expr_words x
statement_words (statement.Snap ps) = codes "snap" ∷ list_words pair_words ps
statement_words (statement.Txn ps guard ws) = codes "txn" ∷ (list_words pair_words ps ++ (guard_words guard ++ (codes ":" ∷ list_words written_words ws)))
statement_words (statement.Spawn k) = codes "spawn" ∷ k ∷ []
statement_words (statement.Wait k) = codes "wait" ∷ k ∷ []
statement_words (statement.Put k x) = codes "put" ∷ k ∷ expr_words x
statement_words (statement.Take v k) = codes "take" ∷ v ∷ k ∷ []
statement_words (statement.Close k) = codes "close" ∷ k ∷ []
statement_words statement.Fence = codes "fence" ∷ []
statement_words (statement.Repeat n) = codes "repeat" ∷ decimal n ∷ []
statement_words (statement.When c) = codes "when" ∷ compare_words c
statement_words statement.End = codes "end" ∷ []
statement_words statement.Exit = codes "exit" ∷ []

-- the words of tokens
abbrev pub words : List Token → List (List ℕ)
words [] = []
words (t ∷ ts) = t.word ∷ words ts

-- each line has the words of its statement
abbrev pub LinesSpell : List (List ℕ) → List Raw → Type 0
LinesSpell [] [] = Unit {0}
LinesSpell (line ∷ lines) (s ∷ ss) = (words (tokens line) ≡ statement_words s) × LinesSpell lines ss
LinesSpell [] (s ∷ ss) = ⊥
LinesSpell (line ∷ lines) [] = ⊥

-- a text spells a script: its lines that are statements are the script's statements, in order, and some text spells the script
pub record Spells (text : List ℕ) (script : List Raw) : Type 0 where
  pub lines : LinesSpell (statement_lines text) script
  pub written : IsScript script
