-- numbers and lengths that pass their limits: each answers the token that shows it, if any
use Rattle.std.specs.Prelude.{ℕ, ◌+◌, ◌*◌, ◌≤◌, if◌then◌else◌, Bool, ◌&&◌, ◌||◌, ◌==◌, nat_lt, nat_le, List, [], ◌∷◌, length, take, Option, Some, None}
use Rattle.std.specs.Option.{option_or}
use Rattle.pipeline_lang.specs.declared.script.Expr.{Expr}
use Rattle.pipeline_lang.specs.declared.script.Compare.{Compare}
use Rattle.pipeline_lang.specs.declared.script.Statement.TheVariants.{Snap, Txn, Repeat, When}
use Rattle.script_binding.specs.declared.environment.Environment.{Environment}
use Rattle.script_binding.specs.declared.mention.Mention.{Mention}
use Rattle.script_binding.specs.Environment.{is_new, noted_one}
use Rattle.pipeline_lang.specs.Statements.{Raw}
use Rattle.script_binding.specs.Mentions.{mentions, first_write, behind_writes}

-- the token, where the test holds
abbrev pub token_if : Bool → ℕ → Option ℕ
token_if test token = if test then Some token else None

-- the 257th statement: its first token
abbrev pub over_count : ℕ → Option ℕ
over_count statements = token_if (nat_le 256 statements) 0

-- a block within four others: its first token
abbrev pub over_depth : ℕ → Raw → Option ℕ
over_depth depth (Repeat n) = token_if (nat_le 4 depth) 0
over_depth depth (When c) = token_if (nat_le 4 depth) 0
over_depth depth s = None

-- a repeat count that is not from 1 to 1000: the number
abbrev pub over_turns : Raw → Option ℕ
over_turns (Repeat n) = token_if (n == 0 || nat_lt 1000 n) 1
over_turns s = None

-- more than 8 pairs: the first token of the ninth
abbrev pub over_pairs : List (List ℕ × List ℕ) → Option ℕ
over_pairs pairs = token_if (nat_lt 8 (length pairs)) (1 + 3 * 8)

-- more than 8 writes, of which the first stands at a token: the first token of the ninth
abbrev pub over_writes : ℕ → List (List ℕ × Expr (List ℕ)) → Option ℕ
over_writes first writes = token_if (nat_lt 8 (length writes)) (behind_writes first (take 8 writes))

-- a list of a `txn` of more than 8: the first token of the ninth member
abbrev pub over_txn : List (List ℕ × List ℕ) → Option (Compare (List ℕ)) → List (List ℕ × Expr (List ℕ)) → Option ℕ
over_txn pairs guard writes = option_or (over_pairs pairs) (over_writes (first_write pairs guard) writes)

-- a list of more than 8: the first token of the ninth member
abbrev pub over_list : Raw → Option ℕ
over_list (Snap pairs) = over_pairs pairs
over_list (Txn pairs guard writes) = over_txn pairs guard writes
over_list s = None

-- no list of more than 8
abbrev pub HasFew : Raw → Type 0
HasFew (Snap pairs) = length pairs ≤ 8
HasFew (Txn pairs guard writes) = (length pairs ≤ 8) × (length writes ≤ 8)
HasFew s = Unit {0}

-- the 33rd variable, behind these: the token of its first mention
abbrev pub over_variables : List (List ℕ) → List Mention → Option ℕ
over_variables variables [] = None
over_variables variables (m ∷ ms) =
    if is_new variables m && nat_le 32 (length variables) then Some m.token
    else over_variables (noted_one variables m) ms

-- the first of these but for the last, in this order
abbrev pub over_size : Environment → Raw → Option ℕ
over_size env s =
    option_or (over_count env.statements)
    (option_or (over_depth env.depth s)
    (option_or (over_turns s) (over_list s)))

-- the first of all, in this order
abbrev pub over_limit : Environment → Raw → Option ℕ
over_limit env s = option_or (over_size env s) (over_variables env.variables (mentions s))
