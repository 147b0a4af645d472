-- a script without a fault is within the limits of a file
use Rattle.std.proofs.Common.{ℕ, suc, ◌+◌, ◌<◌, ◌≤◌, ◌≡◌, Bool, true, false, cond, ◌&&◌, ◌||◌, List, [], ◌∷◌, ◌++◌, length, Option, Some, None, Ok, refl, ap, subst, arith, length-append}
use Rattle.std.proofs.lemmas.Bool.Decides.{nat_tests}
use Rattle.std.specs.Prelude.{nat_lt, nat_le, ◌==◌, option_map}
use Rattle.std.specs.Option.{option_or, option_map_or}
use Rattle.std.specs.Str.{bytes_eq}
use Rattle.std.proofs.lemmas.List.Quantifiers.{position-Some}
use Rattle.pipeline_lang.specs.declared.script.Term.{Term}
use Rattle.pipeline_lang.specs.declared.script.Term.TheVariants.{Number, Variable}
use Rattle.pipeline_lang.specs.declared.script.Expr.{Expr}
use Rattle.pipeline_lang.specs.declared.script.Expr.TheVariants.{One, Plus, Minus}
use Rattle.pipeline_lang.specs.declared.script.Compare.{Compare}
use Rattle.pipeline_lang.specs.declared.script.Compare.TheVariants.{Equal, Less}
use Rattle.pipeline_lang.specs.declared.script.Statement.TheVariants.{Let, Read, Write, Snap, Txn, Spawn, Wait, Put, Take, Close, Fence, Repeat, When, End, Exit}
use Rattle.pipeline_lang.specs.Positions.{position_of}
use Rattle.pipeline_lang.specs.Statements.{Raw}
use Rattle.script_binding.specs.declared.environment.Environment.{Environment}
use Rattle.script_binding.specs.declared.fault.ScriptFaultKind.TheVariants.{OverLimit}
use Rattle.script_binding.specs.declared.mention.Mention.{Mention}
use Rattle.script_binding.specs.Environment.{Bound, status, is_new, noted_one, noted, number_of, start, after}
use Rattle.script_binding.specs.Limited.{SmallTerm, SmallExpr, SmallCompare, SmallGuard, SmallPairs, SmallWrites, IsLimited, AreLimited, BoundScriptsHaveLimits}
use Rattle.script_binding.specs.Limits.{token_if, over_count, over_depth, over_turns, over_pairs, over_writes, over_list, over_size, over_variables, over_limit}
use Rattle.script_binding.specs.Mentions.{first_write, mentions}
use Rattle.script_binding.specs.Naming.{Naming}
use Rattle.script_binding.specs.Numbering.{bound_term, bound_expr, bound_compare, bound_pairs, bound_writes, bound}
use Rattle.script_binding.specs.Outcome.{refused, name_fault, shape_fault, first_fault, bound_in, outcome_in}
use Rattle.script_binding.proofs.Passing.{no_first, no_second, comes_bound}

-- one mention more keeps the variables few
one_small : (variables : List (List ℕ)) (m : Mention) → length variables ≤ 32 → length (noted_one variables m) ≤ 32
one_small variables m h = go (is_new variables m) (nat_lt (length variables) 32) refl
  where
    go : (b t : Bool) → nat_lt (length variables) 32 ≡ t → length (cond (b && t) (variables ++ m.name ∷ []) variables) ≤ 32
    go true true e = grind (arith, nat_tests, e, length-append variables (m.name ∷ []))
    go true false e = h
    go false t e = h

-- so do more of them
noted_small : (variables : List (List ℕ)) (ms : List Mention) → length variables ≤ 32 → length (noted variables ms) ≤ 32
noted_small variables [] h = h
noted_small variables (m ∷ ms) h = noted_small (noted_one variables m) ms (one_small variables m h)

-- the number of a variable is at most 32
number_small : (variables : List (List ℕ)) (name : List ℕ) → length variables ≤ 32 → number_of variables name ≤ 32
number_small variables name h = go (bytes_eq name status) (position_of name variables) refl
  where
    go : (b : Bool) (o : Option ℕ) → position_of name variables ≡ o → cond b 0 (option_map_or (λ at. at + 1) o 0) ≤ 32
    go true o e = omega arith
    go false None e = omega arith
    go false (Some at) e = let l = (position-Some (bytes_eq name) variables at name e).0 in omega (arith, l, h)

small_term : (variables : List (List ℕ)) (a : Term (List ℕ)) → length variables ≤ 32 → SmallTerm (bound_term variables a)
small_term variables (Number n) h = tt
small_term variables (Variable v) h = number_small variables v h

small_expr : (variables : List (List ℕ)) (e : Expr (List ℕ)) → length variables ≤ 32 → SmallExpr (bound_expr variables e)
small_expr variables (One a) h = small_term variables a h
small_expr variables (Plus a b) h = (small_term variables a h, small_term variables b h)
small_expr variables (Minus a b) h = (small_term variables a h, small_term variables b h)

small_compare : (variables : List (List ℕ)) (c : Compare (List ℕ)) → length variables ≤ 32 → SmallCompare (bound_compare variables c)
small_compare variables (Equal a b) h = (small_expr variables a h, small_expr variables b h)
small_compare variables (Less a b) h = (small_expr variables a h, small_expr variables b h)

small_guard : (variables : List (List ℕ)) (guard : Option (Compare (List ℕ))) → length variables ≤ 32 → SmallGuard (option_map (bound_compare variables) guard)
small_guard variables None h = tt
small_guard variables (Some c) h = small_compare variables c h

small_pairs : (n : Naming) (variables : List (List ℕ)) (ps : List (List ℕ × List ℕ)) → length variables ≤ 32 → SmallPairs (bound_pairs n variables ps)
small_pairs n variables [] h = tt
small_pairs n variables (p ∷ ps) h = (number_small variables p.0 h, small_pairs n variables ps h)

small_writes : (n : Naming) (variables : List (List ℕ)) (ws : List (List ℕ × Expr (List ℕ))) → length variables ≤ 32 → SmallWrites (bound_writes n variables ws)
small_writes n variables [] h = tt
small_writes n variables (w ∷ ws) h = (small_expr variables w.1 h, small_writes n variables ws h)

-- binding keeps the length of a list
length_pairs : (n : Naming) (variables : List (List ℕ)) (ps : List (List ℕ × List ℕ)) → length (bound_pairs n variables ps) ≡ length ps
length_pairs n variables [] = refl
length_pairs n variables (p ∷ ps) = ap suc (length_pairs n variables ps)

length_writes : (n : Naming) (variables : List (List ℕ)) (ws : List (List ℕ × Expr (List ℕ))) → length (bound_writes n variables ws) ≡ length ws
length_writes n variables [] = refl
length_writes n variables (w ∷ ws) = ap suc (length_writes n variables ws)

-- a test that shows no token fails
fails : (b : Bool) (token : ℕ) → token_if b token ≡ None → b ≡ false
fails true token h = absurd cc
fails false token h = refl

-- what is not above a number is at most that
at_most : (n m : ℕ) → nat_lt n m ≡ false → m ≤ n
at_most n m h = grind (arith, nat_tests, h)

-- what does not reach a number is below it
is_below : (n m : ℕ) → nat_le n m ≡ false → m < n
is_below n m h = grind (arith, nat_tests, h)

-- neither of two tests holds
neither : (b t : Bool) → (b || t) ≡ false → (b ≡ false) × (t ≡ false)
neither true t h = absurd cc
neither false t h = (refl, h)

few_pairs : (ps : List (List ℕ × List ℕ)) → over_pairs ps ≡ None → length ps ≤ 8
few_pairs ps h = at_most 8 (length ps) (fails (nat_lt 8 (length ps)) 25 h)

-- a repeat count that is not out of range
turns_within : (turns : ℕ) → over_turns (Repeat turns) ≡ None → (1 ≤ turns) × (turns ≤ 1000)
turns_within turns h =
    let t = neither (turns == 0) (nat_lt 1000 turns) (fails ((turns == 0) || nat_lt 1000 turns) 1 h) in
    (grind (arith, nat_tests, t.0), at_most 1000 turns t.1)

-- what passes no limit in a statement
pub record Passes (env : Environment) (s : Raw) : Type 0 where
  pub count : over_count env.statements ≡ None
  pub depth : over_depth env.depth s ≡ None
  pub turns : over_turns s ≡ None
  pub lists : over_list s ≡ None

passes : (env : Environment) (s : Raw) → over_size env s ≡ None → Passes env s
passes env s h =
    let a = no_second (over_count env.statements) (option_or (over_depth env.depth s) (option_or (over_turns s) (over_list s))) h in
    let b = no_second (over_depth env.depth s) (option_or (over_turns s) (over_list s)) a in
    record {
      count = no_first (over_count env.statements) (option_or (over_depth env.depth s) (option_or (over_turns s) (over_list s))) h;
      depth = no_first (over_depth env.depth s) (option_or (over_turns s) (over_list s)) a;
      turns = no_first (over_turns s) (over_list s) b;
      lists = no_second (over_turns s) (over_list s) b;
    }

-- a statement that passes no limit
limited_statement : (n : Naming) (variables : List (List ℕ)) (env : Environment) (s : Raw) → length variables ≤ 32 → Passes env s → IsLimited env.depth (bound n variables s)
unfolding bound
limited_statement n variables env (Let v e) h p = (number_small variables v h, small_expr variables e h)
limited_statement n variables env (Read v r) h p = number_small variables v h
limited_statement n variables env (Write r e) h p = small_expr variables e h
limited_statement n variables env (Snap pairs) h p =
    (rw (length_pairs n variables pairs) (few_pairs pairs p.lists), small_pairs n variables pairs h)
limited_statement n variables env (Txn pairs guard writes) h p =
    let few = few_pairs pairs (no_first (over_pairs pairs) (over_writes (first_write pairs guard) writes) p.lists) in
    let fewer = fails (nat_lt 8 (length writes)) _ (no_second (over_pairs pairs) (over_writes (first_write pairs guard) writes) p.lists) in (
      rw (length_pairs n variables pairs) few,
      rw (length_writes n variables writes) (at_most 8 (length writes) fewer),
      small_pairs n variables pairs h,
      small_guard variables guard h,
      small_writes n variables writes h,
    )
limited_statement n variables env (Spawn s) h p = tt
limited_statement n variables env (Wait s) h p = tt
limited_statement n variables env (Put q e) h p = small_expr variables e h
limited_statement n variables env (Take v q) h p = number_small variables v h
limited_statement n variables env (Close q) h p = tt
limited_statement n variables env Fence h p = tt
limited_statement n variables env (Repeat turns) h p =
    let t = turns_within turns p.turns in
    (is_below 4 env.depth (fails (nat_le 4 env.depth) 0 p.depth), t.0, t.1)
limited_statement n variables env (When c) h p =
    (is_below 4 env.depth (fails (nat_le 4 env.depth) 0 p.depth), small_compare variables c h)
limited_statement n variables env End h p = tt
limited_statement n variables env Exit h p = tt

-- no token is refused where none is found
no_token : (token : Option ℕ) → refused OverLimit token ≡ None → token ≡ None
no_token None h = refl
no_token (Some t) h = absurd cc

-- a statement without a fault passes no limit
without_fault : (n : Naming) (env : Environment) (s : Raw) → first_fault n env s ≡ None → Passes env s
without_fault n env s h =
    passes env s (no_first (over_size env s) (over_variables env.variables (mentions s))
    (no_token (over_limit env s) (no_first (refused OverLimit (over_limit env s)) (option_or (name_fault n s (mentions s)) (shape_fault n env s)) h)))

-- statements in an environment that come out bound
pub record AreWithin (env : Environment) (script : List Bound) : Type 0 where
  pub few : env.statements + length script ≤ 256
  pub each : AreLimited env.depth script

all_limited : (n : Naming) (env : Environment) (raw : List Raw) (script : List Bound) → env.statements ≤ 256 → length env.variables ≤ 32 → outcome_in n env raw ≡ Ok script → AreWithin env script
all_limited n env [] script c v h =
    let made : [] ≡ script = cc in
    let none : AreWithin env [] = record { few = omega (arith, c); each = tt } in
    subst (λ (l : List Bound). AreWithin env l) made none
all_limited n env (s ∷ ss) script c v h =
    let b = bound_in n env s in
    let later = after env s b in
    let g = comes_bound env.statements (first_fault n env s) b (outcome_in n later ss) script h in
    let p = without_fault n env s g.free in
    let few = noted_small env.variables (mentions s) v in
    let room = is_below 256 env.statements (fails (nat_le 256 env.statements) 0 p.count) in
    let below = all_limited n later ss g.rest (omega (arith, room)) few g.below in
    let whole : AreWithin env (b ∷ g.rest) = record {
      few = omega (arith, below.few);
      each = (limited_statement n (noted env.variables (mentions s)) env s few p, below.each);
    } in
    subst (λ (l : List Bound). AreWithin env l) g.whole whole

pub bound_scripts_have_limits : BoundScriptsHaveLimits
bound_scripts_have_limits n raw script h =
    let a = all_limited n start raw script (omega arith) (omega arith) h in
    record { few = omega (arith, a.few); each = a.each }
