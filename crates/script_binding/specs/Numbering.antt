-- a statement with numbers in place of names
use Rattle.std.specs.Prelude.{ℕ, List, [], ◌∷◌, option_map, unwrap_or}
use Rattle.rss_names.specs.declared.service.ServiceId.TheVariants.{Txn as TxnService}
use Rattle.rss_names.specs.declared.service.Key.{Key}
use Rattle.pipeline_lang.specs.declared.script.Term.{Term}
use Rattle.pipeline_lang.specs.declared.script.Term.TheVariants.{Number, Variable}
use Rattle.pipeline_lang.specs.declared.script.Expr.{Expr}
use Rattle.pipeline_lang.specs.declared.script.Expr.TheVariants.{One, Plus, Minus}
use Rattle.pipeline_lang.specs.declared.script.Compare.{Compare}
use Rattle.pipeline_lang.specs.declared.script.Compare.TheVariants.{Equal, Less}
use Rattle.pipeline_lang.specs.declared.script.Statement.TheVariants.{Let, Read, Write, Snap, Txn, Spawn, Wait, Put, Take, Close, Fence, Repeat, When, End, Exit}
use Rattle.script_binding.specs.Environment.{Bound, number_of}
use Rattle.pipeline_lang.specs.Statements.{Raw}
use Rattle.script_binding.specs.Naming.{Naming, register_of, key_of, stage_of, pipe_of}

-- what stands for a key or register that is not there
abbrev pub no_key : Key
no_key = record { service = TxnService 0; index = 0 }

-- the register of a name
abbrev pub bound_register : Naming → List ℕ → Key
bound_register n name = unwrap_or (register_of n name) no_key

-- the key of a name
abbrev pub bound_key : Naming → List ℕ → Key
bound_key n name = unwrap_or (key_of n name) no_key

-- the number of the stage of a name, the script's own where there is none
abbrev pub bound_stage : Naming → List ℕ → ℕ
bound_stage n name = unwrap_or (stage_of n name) n.stage

-- the number of the pipe of a name, 0 where there is none
abbrev pub bound_pipe : Naming → List ℕ → ℕ
bound_pipe n name = unwrap_or (pipe_of n name) 0

-- a term with numbers
abbrev pub bound_term : List (List ℕ) → Term (List ℕ) → Term ℕ
bound_term variables (Number n) = Number n
bound_term variables (Variable v) = Variable (number_of variables v)

-- an expression with numbers
abbrev pub bound_expr : List (List ℕ) → Expr (List ℕ) → Expr ℕ
bound_expr variables (One a) = One (bound_term variables a)
bound_expr variables (Plus a b) = Plus (bound_term variables a) (bound_term variables b)
bound_expr variables (Minus a b) = Minus (bound_term variables a) (bound_term variables b)

-- a comparison with numbers
abbrev pub bound_compare : List (List ℕ) → Compare (List ℕ) → Compare ℕ
bound_compare variables (Equal a b) = Equal (bound_expr variables a) (bound_expr variables b)
bound_compare variables (Less a b) = Less (bound_expr variables a) (bound_expr variables b)

-- pairs with numbers
abbrev pub bound_pairs : Naming → List (List ℕ) → List (List ℕ × List ℕ) → List (ℕ × Key)
bound_pairs n variables [] = []
bound_pairs n variables (p ∷ ps) =
    (number_of variables p.0, bound_key n p.1) ∷ bound_pairs n variables ps

-- writes with numbers
abbrev pub bound_writes : Naming → List (List ℕ) → List (List ℕ × Expr (List ℕ)) → List (Key × Expr ℕ)
bound_writes n variables [] = []
bound_writes n variables (w ∷ ws) =
    (bound_key n w.0, bound_expr variables w.1) ∷ bound_writes n variables ws

-- a statement, with all variables of the script up to it
unfoldable pub bound : Naming → List (List ℕ) → Raw → Bound
bound n variables (Let v e) = Let (number_of variables v) (bound_expr variables e)
bound n variables (Read v r) = Read (number_of variables v) (bound_register n r)
bound n variables (Write r e) = Write (bound_register n r) (bound_expr variables e)
bound n variables (Snap pairs) = Snap (bound_pairs n variables pairs)
bound n variables (Txn pairs guard writes) =
    Txn (bound_pairs n variables pairs) (option_map (bound_compare variables) guard) (bound_writes n variables writes)
bound n variables (Spawn s) = Spawn (bound_stage n s)
bound n variables (Wait s) = Wait (bound_stage n s)
bound n variables (Put p e) = Put (bound_pipe n p) (bound_expr variables e)
bound n variables (Take v p) = Take (number_of variables v) (bound_pipe n p)
bound n variables (Close p) = Close (bound_pipe n p)
bound n variables Fence = Fence
bound n variables (Repeat turns) = Repeat turns
bound n variables (When c) = When (bound_compare variables c)
bound n variables End = End
bound n variables Exit = Exit
