-- a script with numbers is within the limits of a file
use Rattle.std.specs.Prelude.{◌≡◌, ℕ, ◌≤◌, ◌<◌, List, [], ◌∷◌, length, Option, Some, None, Ok}
use Rattle.rss_names.specs.declared.service.Key.{Key}
use Rattle.pipeline_lang.specs.declared.script.Term.{Term}
use Rattle.pipeline_lang.specs.declared.script.Term.TheVariants.{Number, Variable}
use Rattle.pipeline_lang.specs.declared.script.Expr.{Expr}
use Rattle.pipeline_lang.specs.declared.script.Expr.TheVariants.{One, Plus, Minus}
use Rattle.pipeline_lang.specs.declared.script.Compare.{Compare}
use Rattle.pipeline_lang.specs.declared.script.Compare.TheVariants.{Equal, Less}
use Rattle.pipeline_lang.specs.declared.script.Statement.TheVariants.{Let, Read, Write, Snap, Txn, Put, Take, Repeat, When}
use Rattle.pipeline_lang.specs.Statements.{Raw}
use Rattle.script_binding.specs.Environment.{Bound, depth_after}
use Rattle.script_binding.specs.Naming.{Naming}
use Rattle.script_binding.specs.Outcome.{outcome}

-- the variables of a term are numbered up to 32
abbrev pub SmallTerm : Term ℕ → Type 0
SmallTerm (Number n) = Unit {0}
SmallTerm (Variable v) = v ≤ 32

-- the same of an expression
abbrev pub SmallExpr : Expr ℕ → Type 0
SmallExpr (One a) = SmallTerm a
SmallExpr (Plus a b) = SmallTerm a × SmallTerm b
SmallExpr (Minus a b) = SmallTerm a × SmallTerm b

-- the same of a comparison
abbrev pub SmallCompare : Compare ℕ → Type 0
SmallCompare (Equal a b) = SmallExpr a × SmallExpr b
SmallCompare (Less a b) = SmallExpr a × SmallExpr b

-- the same of a guard
abbrev pub SmallGuard : Option (Compare ℕ) → Type 0
SmallGuard None = Unit {0}
SmallGuard (Some c) = SmallCompare c

-- the same of pairs
abbrev pub SmallPairs : List (ℕ × Key) → Type 0
SmallPairs [] = Unit {0}
SmallPairs (p ∷ ps) = (p.0 ≤ 32) × SmallPairs ps

-- the same of writes
abbrev pub SmallWrites : List (Key × Expr ℕ) → Type 0
SmallWrites [] = Unit {0}
SmallWrites (w ∷ ws) = SmallExpr w.1 × SmallWrites ws

-- the numbers and lengths of a statement within so many blocks
abbrev pub IsLimited : ℕ → Bound → Type 0
IsLimited depth (Let v e) = (v ≤ 32) × SmallExpr e
IsLimited depth (Read v r) = v ≤ 32
IsLimited depth (Write r e) = SmallExpr e
IsLimited depth (Snap pairs) = (length pairs ≤ 8) × SmallPairs pairs
IsLimited depth (Txn pairs guard writes) =
    (length pairs ≤ 8) × (length writes ≤ 8) × SmallPairs pairs × SmallGuard guard × SmallWrites writes
IsLimited depth (Put p e) = SmallExpr e
IsLimited depth (Take v p) = v ≤ 32
IsLimited depth (Repeat turns) = (depth < 4) × (1 ≤ turns) × (turns ≤ 1000)
IsLimited depth (When c) = (depth < 4) × SmallCompare c
IsLimited depth s = Unit {0}

-- the same of statements one below the other
abbrev pub AreLimited : ℕ → List Bound → Type 0
AreLimited depth [] = Unit {0}
AreLimited depth (b ∷ bs) = IsLimited depth b × AreLimited (depth_after depth b) bs

-- a script of at most 256 statements within the limits
pub record HasLimits (script : List Bound) : Type 0 where
  pub few : length script ≤ 256
  pub each : AreLimited 0 script

-- a script without a fault is within the limits
abbrev pub BoundScriptsHaveLimits : Type 0
BoundScriptsHaveLimits = (n : Naming) (raw : List Raw) (script : List Bound) → outcome n raw ≡ Ok script → HasLimits script
