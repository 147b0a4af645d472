-- A statement without a fault does with stages and pipes what it may.
use Rattle.std.proofs.Common.{◌≡◌, ℕ, Bool, true, false, cond, List, [], ◌∷◌, ◌++◌, Option, Some, None, Ok, refl, subst}
use Rattle.std.specs.Prelude.{is_some, unwrap_or}
use Rattle.std.specs.Option.{option_or, option_map_or}
use Rattle.std.proofs.lemmas.Bool.{false≢true}
use Rattle.pipeline_lang.specs.declared.script.Statement.TheVariants.{Let, Read, Write, Snap, Txn, Spawn, Wait, Put, Take, Close, Fence, Repeat, When, End, Exit}
use Rattle.pipeline_lang.specs.Statements.{Raw}
use Rattle.script_binding.specs.declared.environment.Environment.{Environment}
use Rattle.script_binding.specs.declared.fault.ScriptFaultKind.{ScriptFaultKind}
use Rattle.script_binding.specs.declared.fault.ScriptFaultKind.TheVariants.{OverLimit, UnknownName, ServiceShape, DoubleName, SpawnShape, PipeShape}
use Rattle.script_binding.specs.declared.mention.Mention.{Mention}
use Rattle.script_binding.specs.declared.mention.Role.TheVariants as role
use Rattle.script_binding.specs.Environment.{Bound, noted, start, after}
use Rattle.script_binding.specs.Limits.{token_if, over_count, over_depth, over_turns, over_list, over_size, over_variables, over_limit}
use Rattle.script_binding.specs.Mentions.{mention, in_expr, mentions}
use Rattle.script_binding.specs.NameFaults.{is_known_as, first_unknown, first_foreign, first_double}
use Rattle.script_binding.specs.Naming.{Naming, stage_of, pipe_of}
use Rattle.script_binding.specs.Numbering.{bound}
use Rattle.script_binding.specs.Outcome.{refused, name_fault, shape_fault, first_fault, bound_in, outcome_in}
use Rattle.script_binding.specs.Shapes.{is_bad_spawn, is_bad_wait, is_bad_give, is_bad_take, is_bad_close, spawn_fault, pipe_fault}
use Rattle.script_binding.proofs.Passing.{no_first, no_second, comes_bound}
use Rattle.sound_laws.specs.Shaped.{Shaped, under, AreShaped}

-- what is not refused shows no token
no_token : (kind : ScriptFaultKind) (token : Option ℕ) → refused kind token ≡ None → token ≡ None
no_token kind None h = refl
no_token kind (Some t) h = absurd cc

-- what a statement without a fault is free of
pub record IsFree (n : Naming) (env : Environment) (s : Raw) : Type 0 where
  pub few : over_list s ≡ None
  pub known : first_unknown n (mentions s) ≡ None
  pub own : first_foreign n (mentions s) ≡ None
  pub single : first_double s ≡ None
  pub spawns : spawn_fault n env s ≡ None
  pub pipes : pipe_fault n env s ≡ None

pub is_free : (n : Naming) (env : Environment) (s : Raw) → first_fault n env s ≡ None → IsFree n env s
is_free n env s h = record {
  few = no_second (over_turns s) (over_list s) (no_second (over_depth env.depth s) (option_or (over_turns s) (over_list s)) (no_second (over_count env.statements) (option_or (over_depth env.depth s) (option_or (over_turns s) (over_list s))) size));
  known = no_token UnknownName (first_unknown n (mentions s)) (no_first (refused UnknownName (first_unknown n (mentions s))) (option_or (refused ServiceShape (first_foreign n (mentions s))) (refused DoubleName (first_double s))) names);
  own = no_token ServiceShape (first_foreign n (mentions s)) (no_first (refused ServiceShape (first_foreign n (mentions s))) (refused DoubleName (first_double s)) others);
  single = no_token DoubleName (first_double s) (no_second (refused ServiceShape (first_foreign n (mentions s))) (refused DoubleName (first_double s)) others);
  spawns = no_token SpawnShape (spawn_fault n env s) (no_first (refused SpawnShape (spawn_fault n env s)) (refused PipeShape (pipe_fault n env s)) shapes);
  pipes = no_token PipeShape (pipe_fault n env s) (no_second (refused SpawnShape (spawn_fault n env s)) (refused PipeShape (pipe_fault n env s)) shapes);
}
  where
    size : over_size env s ≡ None
    size = no_first (over_size env s) (over_variables env.variables (mentions s)) (no_token OverLimit (over_limit env s) (no_first (refused OverLimit (over_limit env s)) (option_or (name_fault n s (mentions s)) (shape_fault n env s)) h))

    rest : option_or (name_fault n s (mentions s)) (shape_fault n env s) ≡ None
    rest = no_second (refused OverLimit (over_limit env s)) (option_or (name_fault n s (mentions s)) (shape_fault n env s)) h

    names : name_fault n s (mentions s) ≡ None
    names = no_first (name_fault n s (mentions s)) (shape_fault n env s) rest

    others : option_or (refused ServiceShape (first_foreign n (mentions s))) (refused DoubleName (first_double s)) ≡ None
    others = no_second (refused UnknownName (first_unknown n (mentions s))) (option_or (refused ServiceShape (first_foreign n (mentions s))) (refused DoubleName (first_double s))) names

    shapes : shape_fault n env s ≡ None
    shapes = no_second (name_fault n s (mentions s)) (shape_fault n env s) rest

-- a test that shows no token fails
pub fails : (b : Bool) (token : ℕ) → token_if b token ≡ None → b ≡ false
fails true token h = absurd cc
fails false token h = refl

-- the first name of a list without an unknown one is known
known_first : (n : Naming) (m : Mention) (ms : List Mention) → first_unknown n (m ∷ ms) ≡ None → is_known_as n m.name m.role ≡ true
known_first n m ms h = by_known (is_known_as n m.name m.role) h
  where
    by_known : (b : Bool) → cond b (first_unknown n ms) (Some m.token) ≡ None → b ≡ true
    by_known true i = refl
    by_known false i = absurd cc

-- a test of the number that a name has
tested : (bad : ℕ → Bool) (found : Option ℕ) (other : ℕ) → is_some found ≡ true → option_map_or bad found false ≡ false → bad (unwrap_or found other) ≡ false
tested bad None other k h = absurd (false≢true k)
tested bad (Some number) other k h = h

-- of what a statement leaves behind, its shape looks at blocks, stages and pipes alone
abbrev pub bare : Environment → Environment
bare env = record env { variables = []; statements = 0 }

shaped : (n : Naming) (env : Environment) (variables : List (List ℕ)) (s : Raw) → IsFree n env s → Shaped n (bare env) (bound n variables s)
unfolding mentions bound
shaped n env variables (Let v e) f = tt
shaped n env variables (Read v r) f = tt
shaped n env variables (Write r e) f = tt
shaped n env variables (Snap pairs) f = tt
shaped n env variables (Txn pairs guard writes) f = tt
shaped n env variables (Spawn s) f = tested (is_bad_spawn n (bare env)) (stage_of n s) n.stage (known_first n (mention role.Stage 1 s) [] f.known) (fails _ 1 f.spawns)
shaped n env variables (Wait s) f = tested (is_bad_wait n (bare env)) (stage_of n s) n.stage (known_first n (mention role.Stage 1 s) [] f.known) (fails _ 1 f.spawns)
shaped n env variables (Put p e) f = tested (is_bad_give n (bare env)) (pipe_of n p) 0 (known_first n (mention role.Pipe 1 p) (in_expr 2 e) f.known) (fails _ 1 f.pipes)
shaped n env variables (Take v p) f = tested (is_bad_take n) (pipe_of n p) 0 (known_first n (mention role.Pipe 2 p) [] f.known) (fails _ 2 f.pipes)
shaped n env variables (Close p) f = tested (is_bad_close n (bare env)) (pipe_of n p) 0 (known_first n (mention role.Pipe 1 p) [] f.known) (fails _ 1 f.pipes)
shaped n env variables Fence f = tt
shaped n env variables (Repeat turns) f = tt
shaped n env variables (When c) f = tt
shaped n env variables End f = tt
shaped n env variables Exit f = tt

shaped_from : (n : Naming) (env : Environment) (raw : List Raw) (script : List Bound) → outcome_in n env raw ≡ Ok script → AreShaped n (bare env) script
shaped_from n env [] script h =
    let made : [] ≡ script = cc in
    subst (AreShaped n (bare env)) made tt
shaped_from n env (s ∷ ss) script h =
    let b = bound_in n env s in
    let later = after env s b in
    let g = comes_bound env.statements (first_fault n env s) b (outcome_in n later ss) script h in
    subst (AreShaped n (bare env)) g.whole (shaped n env (noted env.variables (mentions s)) s (is_free n env s g.free), shaped_from n later ss g.rest g.below)

-- so does each statement of a script that came of a text
pub scripts_are_shaped : (n : Naming) (raw : List Raw) (script : List Bound) → outcome_in n start raw ≡ Ok script → AreShaped n start script
scripts_are_shaped n raw script h = shaped_from n start raw script h
