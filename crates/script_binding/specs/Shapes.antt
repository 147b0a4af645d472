-- uses of stages and pipes that a script may not make: each answers the token of the name, if any
use Rattle.std.specs.Prelude.{ℕ, Bool, false, not, ◌||◌, nat_eq, nat_lt, List, Option, None}
use Rattle.std.specs.Option.{option_map_or}
use Rattle.std.specs.List.{list_any}
use Rattle.pipeline_lang.specs.declared.script.Statement.TheVariants.{Spawn, Wait, Put, Take, Close}
use Rattle.script_binding.specs.declared.environment.Environment.{Environment}
use Rattle.script_binding.specs.Limits.{token_if}
use Rattle.pipeline_lang.specs.Statements.{Raw}
use Rattle.script_binding.specs.Naming.{Naming, stage_of, pipe_of, gives_to, takes_from}

-- whether a number is among these
abbrev pub has_number : ℕ → List ℕ → Bool
has_number n numbers = list_any (nat_eq n) numbers

-- whether a statement stands inside `repeat` or `when`
abbrev pub is_inside : Environment → Bool
is_inside env = nat_lt 0 env.depth

-- whether a stage stands later in the file than the script's own
abbrev pub is_later : Naming → ℕ → Bool
is_later n s = nat_lt n.stage s

-- a spawn inside a block, of a stage that is not later in the file, or of one that was spawned above
abbrev pub is_bad_spawn : Naming → Environment → ℕ → Bool
is_bad_spawn n env s =
    is_inside env || not (is_later n s) || has_number s n.spawned || has_number s env.spawned

-- a wait inside a block, for a stage that is not later in the file, for one that this script has not
-- spawned above, or for one that it has waited for above
abbrev pub is_bad_wait : Naming → Environment → ℕ → Bool
is_bad_wait n env s =
    is_inside env || not (is_later n s) || not (has_number s env.spawned) || has_number s env.waited

-- a spawn or a wait that may not stand here
abbrev pub spawn_fault : Naming → Environment → Raw → Option ℕ
spawn_fault n env (Spawn s) = token_if (option_map_or (is_bad_spawn n env) (stage_of n s) false) 1
spawn_fault n env (Wait s) = token_if (option_map_or (is_bad_wait n env) (stage_of n s) false) 1
spawn_fault n env s = None

-- putting to, or closing, a pipe of another giver, or one that was closed above
abbrev pub is_bad_give : Naming → Environment → ℕ → Bool
is_bad_give n env p = not (gives_to n p) || has_number p env.closed

-- closing a pipe inside a block, or where nothing may be put to it
abbrev pub is_bad_close : Naming → Environment → ℕ → Bool
is_bad_close n env p = is_inside env || is_bad_give n env p

-- taking from a pipe of another taker
abbrev pub is_bad_take : Naming → ℕ → Bool
is_bad_take n p = not (takes_from n p)

-- a put, a take or a close that may not stand here
abbrev pub pipe_fault : Naming → Environment → Raw → Option ℕ
pipe_fault n env (Put p e) = token_if (option_map_or (is_bad_give n env) (pipe_of n p) false) 1
pipe_fault n env (Take v p) = token_if (option_map_or (is_bad_take n) (pipe_of n p) false) 2
pipe_fault n env (Close p) = token_if (option_map_or (is_bad_close n env) (pipe_of n p) false) 1
pipe_fault n env s = None
