-- The scripts that some text spells.
use Rattle.std.specs.Prelude.{◌≡◌, ℕ, zero, suc, ◌<◌, ◌^◌, List, [], ◌∷◌, length, Option, Some, None, IsTrue, false, codes}
use Rattle.std.specs.Str.{bytes_eq}
use Rattle.rss_names.specs.Names.{is_name}
use Rattle.pipeline_lang.specs.declared.script.Term.{Term}
use Rattle.pipeline_lang.specs.declared.script.Term.TheVariants.{Number, Variable}
use Rattle.pipeline_lang.specs.declared.script.Expr.{Expr}
use Rattle.pipeline_lang.specs.declared.script.Expr.TheVariants.{One, Plus, Minus}
use Rattle.pipeline_lang.specs.declared.script.Compare.{Compare}
use Rattle.pipeline_lang.specs.declared.script.Compare.TheVariants.{Equal, Less}
use Rattle.pipeline_lang.specs.declared.script.Statement.TheVariants as statement
use Rattle.pipeline_lang.specs.Statements.{Raw, Pair, Written}
use Rattle.pipeline_lang.specs.Scripts.{open_behind}

-- a name
abbrev pub IsName : List ℕ → Type 0
IsName word = IsTrue (is_name word)

-- a variable that is set: not `status`
pub record IsOwn (word : List ℕ) : Type 0 where
  pub named : IsName word
  pub other : bytes_eq word (codes "status") ≡ false

-- a term: a number below 2^64, or a variable
abbrev pub IsTerm : Term (List ℕ) → Type 0
IsTerm (Number n) = n < 2 ^ 64
IsTerm (Variable v) = IsName v

-- an expression of such terms
abbrev pub IsExpr : Expr (List ℕ) → Type 0
IsExpr (One a) = IsTerm a
IsExpr (Plus a b) = IsTerm a × IsTerm b
IsExpr (Minus a b) = IsTerm a × IsTerm b

-- a comparison of such expressions
abbrev pub IsCompare : Compare (List ℕ) → Type 0
IsCompare (Equal a b) = IsExpr a × IsExpr b
IsCompare (Less a b) = IsExpr a × IsExpr b

-- a pair: its variable is set
abbrev pub IsPair : Pair → Type 0
IsPair p = IsOwn p.0 × IsName p.1

-- a write of a key
abbrev pub IsWritten : Written → Type 0
IsWritten w = IsName w.0 × IsExpr w.1

-- each of a list
abbrev pub Each : {A : Type 0} → (A → Type 0) → List A → Type 0
Each P [] = Unit {0}
Each P (x ∷ xs) = P x × Each P xs

-- a guard needs a pair before it
abbrev pub IsGuard : List Pair → Option (Compare (List ℕ)) → Type 0
IsGuard ps None = Unit {0}
IsGuard [] (Some c) = ⊥
IsGuard (p ∷ ps) (Some c) = IsCompare c

-- a statement: a `snap` has a pair, a `txn` has a write
abbrev pub IsStatement : Raw → Type 0
IsStatement (statement.Let v e) = IsOwn v × IsExpr e
IsStatement (statement.Read v k) = IsOwn v × IsName k
IsStatement (statement.Write k e) = IsName k × IsExpr e
IsStatement (statement.Snap ps) = (0 < length ps) × Each IsPair ps
IsStatement (statement.Txn ps guard ws) = Each IsPair ps × IsGuard ps guard × (0 < length ws) × Each IsWritten ws
IsStatement (statement.Spawn s) = IsName s
IsStatement (statement.Wait s) = IsName s
IsStatement (statement.Put p e) = IsName p × IsExpr e
IsStatement (statement.Take v p) = IsOwn v × IsName p
IsStatement (statement.Close p) = IsName p
IsStatement statement.Fence = Unit {0}
IsStatement (statement.Repeat n) = n < 2 ^ 64
IsStatement (statement.When c) = IsCompare c
IsStatement statement.End = Unit {0}
IsStatement statement.Exit = Unit {0}

-- whether what goes on behind a statement may, by how many blocks are open there, if any may
abbrev pub Goes : (ℕ → Type 0) → Option ℕ → Type 0
Goes P None = ⊥
Goes P (Some n) = P n

-- statements that some lines inside so many blocks spell, where all blocks end
unfoldable pub AreStatements : List Raw → ℕ → Type 0
AreStatements [] zero = Unit {0}
AreStatements [] (suc n) = ⊥
AreStatements (s ∷ ss) n = IsStatement s × Goes (AreStatements ss) (open_behind n s)

-- a script that some text spells
abbrev pub IsScript : List Raw → Type 0
IsScript script = AreStatements script 0
