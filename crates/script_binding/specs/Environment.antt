-- what the statements above a place of a script have left behind
use Rattle.std.specs.Prelude.{ℕ, ◌+◌, ◌-◌, if◌then◌else◌, Bool, true, false, not, ◌&&◌, nat_lt, List, [], ◌∷◌, ◌++◌, length, codes}
use Rattle.std.specs.Option.{option_map_or}
use Rattle.std.specs.Str.{bytes_eq}
use Rattle.rss_names.specs.declared.service.Key.{Key}
use Rattle.pipeline_lang.specs.declared.script.Statement.{Statement}
use Rattle.pipeline_lang.specs.declared.script.Statement.TheVariants.{Spawn, Wait, Close, Repeat, When, End}
use Rattle.pipeline_lang.specs.Positions.{has_name, position_of}
use Rattle.script_binding.specs.declared.environment.Environment.{Environment}
use Rattle.script_binding.specs.declared.mention.Mention.{Mention}
use Rattle.script_binding.specs.declared.mention.Role.{Role}
use Rattle.script_binding.specs.declared.mention.Role.TheVariants.{Variable, Register, Key as KeyRole, Stage, Pipe}
use Rattle.pipeline_lang.specs.Statements.{Raw}
use Rattle.script_binding.specs.Mentions.{mentions}

-- a statement with numbers
abbrev pub Bound : Type 0
Bound = Statement ℕ Key ℕ ℕ

-- the variable that only the program sets
abbrev pub status : List ℕ
status = codes "status"

-- whether a name stands for a variable
abbrev pub is_variable : Role → Bool
is_variable Variable = true
is_variable Register = false
is_variable KeyRole = false
is_variable Stage = false
is_variable Pipe = false

-- whether this is the first mention of a variable other than `status`
abbrev pub is_new : List (List ℕ) → Mention → Bool
is_new variables m = is_variable m.role && not (bytes_eq m.name status) && not (has_name m.name variables)

-- the variables with one mention more: at most 32 are kept
abbrev pub noted_one : List (List ℕ) → Mention → List (List ℕ)
noted_one variables m =
    if is_new variables m && nat_lt (length variables) 32 then variables ++ m.name ∷ [] else variables

-- the variables in the order of their first mention, with these mentions behind the earlier ones
abbrev pub noted : List (List ℕ) → List Mention → List (List ℕ)
noted variables [] = variables
noted variables (m ∷ ms) = noted (noted_one variables m) ms

-- the number of a variable: `status` is 0, the others are numbered from 1
abbrev pub number_of : List (List ℕ) → List ℕ → ℕ
number_of variables name =
    if bytes_eq name status then 0 else option_map_or (λ at. at + 1) (position_of name variables) 0

-- how many blocks are open behind a statement
abbrev pub depth_after : ℕ → Bound → ℕ
depth_after depth (Repeat n) = depth + 1
depth_after depth (When c) = depth + 1
depth_after depth End = depth - 1
depth_after depth s = depth

-- the stages that a statement spawns
abbrev pub spawns : Bound → List ℕ
spawns (Spawn s) = s ∷ []
spawns s = []

-- the stages that a statement waits for
abbrev pub waits : Bound → List ℕ
waits (Wait s) = s ∷ []
waits s = []

-- the pipes that a statement closes
abbrev pub closes : Bound → List ℕ
closes (Close p) = p ∷ []
closes s = []

-- before the first statement
abbrev pub start : Environment
start = record { variables = []; statements = 0; depth = 0; spawned = []; waited = []; closed = [] }

-- behind a statement whose variables were taken in
abbrev pub passed : Environment → Bound → Environment
passed env b = record env {
  statements = env.statements + 1;
  depth = depth_after env.depth b;
  spawned = env.spawned ++ spawns b;
  waited = env.waited ++ waits b;
  closed = env.closed ++ closes b;
}

-- the environment once the variables of a statement are taken in
abbrev pub mentioned : Environment → Raw → Environment
mentioned env s = record env { variables = noted env.variables (mentions s) }

-- behind a statement, as it is written and as it is bound
abbrev pub after : Environment → Raw → Bound → Environment
after env s b = passed (mentioned env s) b

-- the stages that a script spawns
abbrev pub spawned_in : List Bound → List ℕ
spawned_in [] = []
spawned_in (b ∷ bs) = spawns b ++ spawned_in bs
