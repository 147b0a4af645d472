-- how the outcome of a script goes on behind one statement
use Rattle.std.proofs.Common.{ℕ, suc, ◌+◌, ◌<◌, length, get_or, drop, drop-cons, add-one, ◌≡◌, ◌∙◌, List, [], ◌∷◌, ◌++◌, Option, Some, None, Result, Ok, Err, refl, ap, sym, append_assoc}
use Rattle.std.specs.Option.{option_or}
use Rattle.pipeline_lang.specs.declared.script.Statement.TheVariants.{Spawn, Wait, Put, Take, Close}
use Rattle.script_binding.specs.declared.environment.Environment.{Environment}
use Rattle.script_binding.specs.declared.fault.Refusal.{Refusal}
use Rattle.script_binding.specs.declared.fault.ScriptFault.{ScriptFault}
use Rattle.script_binding.specs.Outcome.{shape_fault, first_fault, behind, bound_in, unless_refused, outcome_in, Advances}
use Rattle.script_binding.specs.Environment.{Bound, after}
use Rattle.pipeline_lang.specs.Statements.{Raw}
use Rattle.script_binding.specs.Naming.{Naming}

-- what a statement does with stages and pipes does not depend on the variables
pub shape_fault_mentioned : (n : Naming) (env : Environment) (variables : List (List ℕ)) (s : Raw) → shape_fault n (record env { variables = variables }) s ≡ shape_fault n env s
shape_fault_mentioned n env variables (Spawn s) = refl
shape_fault_mentioned n env variables (Wait s) = refl
shape_fault_mentioned n env variables (Put p e) = refl
shape_fault_mentioned n env variables (Take v p) = refl
shape_fault_mentioned n env variables (Close p) = refl
shape_fault_mentioned n env variables s = refl

-- what stands in front of what stands in front
pub behind_behind : (front next : List Bound) (came : Result (List Bound) ScriptFault) → behind front (behind next came) ≡ behind (front ++ next) came
behind_behind front next (Ok rest) = rw append_assoc
behind_behind front next (Err fault) = refl

-- a statement that is bound goes over to what was bound
pub passes_on : (n : Naming) (whole : Result (List Bound) ScriptFault) (front : List Bound) (env later : Environment) (s : Raw) (b : Bound) (ss : List Raw) → first_fault n env s ≡ None → b ≡ bound_in n env s → later ≡ after env s b → whole ≡ behind front (outcome_in n env (s ∷ ss)) → whole ≡ behind (front ++ b ∷ []) (outcome_in n later ss)
passes_on n whole front env later s b ss free made passed h =
    h ∙ ap (λ (r : Option Refusal). behind front (unless_refused env.statements r (behind (bound_in n env s ∷ []) (outcome_in n (after env s (bound_in n env s)) ss)))) free
    ∙ behind_behind front (bound_in n env s ∷ []) (outcome_in n (after env s (bound_in n env s)) ss)
    ∙ ap (λ (x : Bound). behind (front ++ x ∷ []) (outcome_in n (after env s x) ss)) (sym made)
    ∙ ap (λ (x : Environment). behind (front ++ b ∷ []) (outcome_in n x ss)) (sym passed)

-- the statements from a place on are the one that stands there and those below it
pub split_at : (raw : List Raw) (i : ℕ) (s : Raw) → i < length raw → s ≡ get_or raw i s → drop i raw ≡ s ∷ drop (i + 1) raw
split_at raw i s l e = rw (add-one, drop-cons raw i s) (ap (λ (x : Raw). x ∷ drop (suc i) raw) (sym e))

-- one turn of the loop over statements, where a statement was bound
pub goes_on : (n : Naming) (whole : Result (List Bound) ScriptFault) (front next : List Bound) (env later : Environment) (raw : List Raw) (i : ℕ) (s : Raw) (b : Bound) → i < length raw → s ≡ get_or raw i s → Advances n env later s (Ok b) → next ≡ front ++ b ∷ [] → whole ≡ behind front (outcome_in n env (drop i raw)) → whole ≡ behind next (outcome_in n later (drop (i + 1) raw))
goes_on n whole front next env later raw i s b l e a f h =
    passes_on n whole front env later s b (drop (i + 1) raw) a.0 a.1 a.2 (h ∙ ap (λ (ss : List Raw). behind front (outcome_in n env ss)) (split_at raw i s l e))
    ∙ ap (λ (x : List Bound). behind x (outcome_in n later (drop (i + 1) raw))) (sym f)

-- what came of statements that come out bound
pub record ComesBound (fault : Option Refusal) (b : Bound) (came : Result (List Bound) ScriptFault) (script : List Bound) : Type 0 where
  pub rest : List Bound
  pub free : fault ≡ None
  pub below : came ≡ Ok rest
  pub whole : b ∷ rest ≡ script

pub comes_bound : (above : ℕ) (fault : Option Refusal) (b : Bound) (came : Result (List Bound) ScriptFault) (script : List Bound) → unless_refused above fault (behind (b ∷ []) came) ≡ Ok script → ComesBound fault b came script
comes_bound above (Some r) b came script h = absurd cc
comes_bound above None b (Err e) script h = absurd cc
comes_bound above None b (Ok rest) script h = record { rest = rest; free = refl; below = refl; whole = cc }

-- where none of two is there, the first is not
pub no_first : {X : Type 0} (a b : Option X) → option_or a b ≡ None → a ≡ None
no_first None b h = refl
no_first (Some x) b h = absurd cc

-- nor is the second
pub no_second : {X : Type 0} (a b : Option X) → option_or a b ≡ None → b ≡ None
no_second None b h = h
no_second (Some x) b h = absurd cc
