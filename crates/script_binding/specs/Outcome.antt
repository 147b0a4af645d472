-- the outcome of a script: its statements with numbers, or the first fault
use Rattle.std.specs.Prelude.{◌≡◌, ℕ, ◌+◌, List, [], ◌∷◌, ◌++◌, Option, Some, None, option_map, Result, Ok, Err}
use Rattle.std.specs.Option.{option_or}
use Rattle.script_binding.specs.declared.environment.Environment.{Environment}
use Rattle.script_binding.specs.declared.mention.Mention.{Mention}
use Rattle.script_binding.specs.declared.fault.ScriptFaultKind.{ScriptFaultKind}
use Rattle.script_binding.specs.declared.fault.ScriptFaultKind.TheVariants.{OverLimit, UnknownName, ServiceShape, DoubleName, SpawnShape, PipeShape}
use Rattle.script_binding.specs.declared.fault.Refusal.{Refusal}
use Rattle.script_binding.specs.declared.fault.ScriptFault.{ScriptFault}
use Rattle.script_binding.specs.declared.fault.BindError.{BindError}
use Rattle.script_binding.specs.declared.fault.BindError.TheVariants.{Fault, OutOfMemory}
use Rattle.script_binding.specs.Environment.{Bound, noted, start, after}
use Rattle.script_binding.specs.Limits.{over_limit}
use Rattle.pipeline_lang.specs.Statements.{Raw}
use Rattle.script_binding.specs.Mentions.{mentions}
use Rattle.script_binding.specs.NameFaults.{first_unknown, first_foreign, first_double}
use Rattle.script_binding.specs.Naming.{Naming}
use Rattle.script_binding.specs.Numbering.{bound}
use Rattle.script_binding.specs.Shapes.{spawn_fault, pipe_fault}

-- a fault of this kind, where a token shows it
abbrev pub refused : ScriptFaultKind → Option ℕ → Option Refusal
refused kind token = option_map (λ t. record { kind = kind; token = t }) token

-- the first fault of the names in a statement
abbrev pub name_fault : Naming → Raw → List Mention → Option Refusal
name_fault n s ms =
    option_or (refused UnknownName (first_unknown n ms))
    (option_or (refused ServiceShape (first_foreign n ms))
    (refused DoubleName (first_double s)))

-- the first fault in what a statement does with stages and pipes
abbrev pub shape_fault : Naming → Environment → Raw → Option Refusal
shape_fault n env s =
    option_or (refused SpawnShape (spawn_fault n env s)) (refused PipeShape (pipe_fault n env s))

-- the first fault of a statement, in the order of the kinds
abbrev pub first_fault : Naming → Environment → Raw → Option Refusal
first_fault n env s =
    option_or (refused OverLimit (over_limit env s))
    (option_or (name_fault n s (mentions s)) (shape_fault n env s))

-- a statement with numbers: its variables are those that are known behind it
abbrev pub bound_in : Naming → Environment → Raw → Bound
bound_in n env s = bound n (noted env.variables (mentions s)) s

-- a statement in front of what comes of those below it
abbrev pub behind : List Bound → Result (List Bound) ScriptFault → Result (List Bound) ScriptFault
behind front (Ok rest) = Ok (front ++ rest)
behind front (Err fault) = Err fault

-- the fault of a statement, or else what comes of it and those below it
abbrev pub unless_refused : ℕ → Option Refusal → Result (List Bound) ScriptFault → Result (List Bound) ScriptFault
unless_refused above None rest = rest
unless_refused above (Some r) rest = Err (record { kind = r.kind; statement = above + 1; token = r.token })

-- what comes of statements in an environment
abbrev pub outcome_in : Naming → Environment → List Raw → Result (List Bound) ScriptFault
outcome_in n env [] = Ok []
outcome_in n env (s ∷ ss) =
    unless_refused env.statements (first_fault n env s)
    (behind (bound_in n env s ∷ []) (outcome_in n (after env s (bound_in n env s)) ss))

-- what comes of a script
abbrev pub outcome : Naming → List Raw → Result (List Bound) ScriptFault
outcome n raw = outcome_in n start raw

-- what came of one statement: it is bound, with the environment behind it, or its first fault
abbrev pub Advances : Naming → Environment → Environment → Raw → Result Bound Refusal → Type 0
Advances n old new s (Ok b) = (first_fault n old s ≡ None) × (b ≡ bound_in n old s) × (new ≡ after old s b)
Advances n old new s (Err r) = first_fault n old s ≡ Some r

-- an error tells the fault that came, if it is not want of memory
abbrev pub Tells : BindError → Result (List Bound) ScriptFault → Type 0
Tells (Fault f) came = came ≡ Err f
Tells OutOfMemory came = Unit {0}
