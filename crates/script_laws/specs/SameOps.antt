-- Whether two operations are the same.
use Rattle.std.specs.Prelude.{ℕ, ◌&&◌, ◌==◌, Bool, true, false, List, [], ◌∷◌, Option, Some, None}
use Rattle.rss_names.specs.declared.service.Key.{Key}
use Rattle.rss_names.specs.Services.{same_key}
use Rattle.pipeline_lang.specs.declared.script.Term.{Term}
use Rattle.pipeline_lang.specs.declared.script.Term.TheVariants.{Number, Variable}
use Rattle.pipeline_lang.specs.declared.script.Expr.{Expr}
use Rattle.pipeline_lang.specs.declared.script.Expr.TheVariants.{One, Plus, Minus}
use Rattle.pipeline_lang.specs.declared.script.Compare.{Compare}
use Rattle.pipeline_lang.specs.declared.script.Compare.TheVariants.{Equal, Less}
use Rattle.rss_model.specs.declared.op.Op.{Op}
use Rattle.rss_model.specs.declared.op.Op.TheVariants.{Read, Write, Snap, Txn}

-- whether two terms are the same
abbrev pub same_term : Term ℕ → Term ℕ → Bool
same_term (Number m) (Number n) = m == n
same_term (Number m) (Variable j) = false
same_term (Variable i) (Number n) = false
same_term (Variable i) (Variable j) = i == j

-- whether two expressions are
abbrev pub same_expr : Expr ℕ → Expr ℕ → Bool
same_expr (One a) (One c) = same_term a c
same_expr (One a) (Plus c d) = false
same_expr (One a) (Minus c d) = false
same_expr (Plus a b) (One c) = false
same_expr (Plus a b) (Plus c d) = same_term a c && same_term b d
same_expr (Plus a b) (Minus c d) = false
same_expr (Minus a b) (One c) = false
same_expr (Minus a b) (Plus c d) = false
same_expr (Minus a b) (Minus c d) = same_term a c && same_term b d

-- whether two comparisons are
abbrev pub same_compare : Compare ℕ → Compare ℕ → Bool
same_compare (Equal a b) (Equal c d) = same_expr a c && same_expr b d
same_compare (Equal a b) (Less c d) = false
same_compare (Less a b) (Equal c d) = false
same_compare (Less a b) (Less c d) = same_expr a c && same_expr b d

-- whether two guards are
abbrev pub same_guard : Option (Compare ℕ) → Option (Compare ℕ) → Bool
same_guard None None = true
same_guard None (Some b) = false
same_guard (Some a) None = false
same_guard (Some a) (Some b) = same_compare a b

-- whether two lists of keys are
abbrev pub same_keys : List Key → List Key → Bool
same_keys [] [] = true
same_keys [] (l ∷ ls) = false
same_keys (k ∷ ks) [] = false
same_keys (k ∷ ks) (l ∷ ls) = same_key k l && same_keys ks ls

-- whether a write is of this key and this expression
abbrev pub is_written : Key → Expr ℕ → Key × Expr ℕ → Bool
is_written key formula other = same_key key other.0 && same_expr formula other.1

-- whether two lists of writes are
abbrev pub same_writes : List (Key × Expr ℕ) → List (Key × Expr ℕ) → Bool
same_writes [] [] = true
same_writes [] (w ∷ ws) = false
same_writes (v ∷ vs) [] = false
same_writes (v ∷ vs) (w ∷ ws) = is_written v.0 v.1 w && same_writes vs ws

-- whether two operations are
abbrev pub same_op : Op → Op → Bool
same_op (Read k) (Read l) = same_key k l
same_op (Read k) (Write l n) = false
same_op (Read k) (Snap ls) = false
same_op (Read k) (Txn ls h ws) = false
same_op (Write k m) (Read l) = false
same_op (Write k m) (Write l n) = same_key k l && m == n
same_op (Write k m) (Snap ls) = false
same_op (Write k m) (Txn ls h ws) = false
same_op (Snap ks) (Read l) = false
same_op (Snap ks) (Write l n) = false
same_op (Snap ks) (Snap ls) = same_keys ks ls
same_op (Snap ks) (Txn ls h ws) = false
same_op (Txn ks g vs) (Read l) = false
same_op (Txn ks g vs) (Write l n) = false
same_op (Txn ks g vs) (Snap ls) = false
same_op (Txn ks g vs) (Txn ls h ws) = (same_keys ks ls && same_guard g h) && same_writes vs ws
