-- what a script without a fault names is there
use Rattle.std.proofs.Common.{ℕ, ◌≡◌, List, [], ◌∷◌, Option, Some, None, Ok, refl, subst}
use Rattle.std.specs.Option.{option_or}
use Rattle.script_binding.specs.declared.environment.Environment.{Environment}
use Rattle.script_binding.specs.declared.fault.ScriptFaultKind.TheVariants.{OverLimit, UnknownName, ServiceShape, DoubleName}
use Rattle.script_binding.specs.Environment.{Bound, noted, start, after}
use Rattle.script_binding.specs.Limits.{over_limit}
use Rattle.pipeline_lang.specs.Statements.{Raw}
use Rattle.script_binding.specs.Mentions.{mentions}
use Rattle.script_binding.specs.NameFaults.{first_unknown, first_foreign, first_double}
use Rattle.script_binding.specs.Named.{AreNamed, BoundScriptsAreNamed}
use Rattle.script_binding.specs.Naming.{Naming}
use Rattle.script_binding.specs.Outcome.{refused, name_fault, shape_fault, first_fault, bound_in, outcome_in}
use Rattle.script_binding.proofs.Known.{known_statement}
use Rattle.script_binding.proofs.Passing.{no_first, no_second, comes_bound}

-- no unknown name is refused where none is found
no_unknown : (token : Option ℕ) → refused UnknownName token ≡ None → token ≡ None
no_unknown None h = refl
no_unknown (Some t) h = absurd cc

-- a statement without a fault has no unknown name
all_known : (n : Naming) (env : Environment) (s : Raw) → first_fault n env s ≡ None → first_unknown n (mentions s) ≡ None
all_known n env s h =
    let rest = no_second (refused OverLimit (over_limit env s)) (option_or (name_fault n s (mentions s)) (shape_fault n env s)) h in
    let names = no_first (name_fault n s (mentions s)) (shape_fault n env s) rest in
    no_unknown (first_unknown n (mentions s))
    (no_first (refused UnknownName (first_unknown n (mentions s)))
    (option_or (refused ServiceShape (first_foreign n (mentions s))) (refused DoubleName (first_double s))) names)

-- what comes of statements in an environment, without a fault
all_named : (n : Naming) (env : Environment) (raw : List Raw) (script : List Bound) → outcome_in n env raw ≡ Ok script → AreNamed n script
all_named n env [] script h =
    let made : [] ≡ script = cc in
    subst (λ (l : List Bound). AreNamed n l) made tt
all_named n env (s ∷ ss) script h =
    let b = bound_in n env s in
    let later = after env s b in
    let g = comes_bound env.statements (first_fault n env s) b (outcome_in n later ss) script h in
    let named = known_statement n (noted env.variables (mentions s)) s (all_known n env s g.free) in
    let whole : AreNamed n (b ∷ g.rest) = (named, all_named n later ss g.rest g.below) in
    subst (λ (l : List Bound). AreNamed n l) g.whole whole

pub bound_scripts_are_named : BoundScriptsAreNamed
bound_scripts_are_named n raw script h = all_named n start raw script h
