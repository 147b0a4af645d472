-- The keys of each call on a transaction service are of that one alone.
use Rattle.std.proofs.Common.{◌≡◌, ℕ, List, [], ◌∷◌, ◌++◌, map, Some, None, refl, ap, sym, subst}
use Rattle.std.specs.Prelude.{AllPairs}
use Rattle.rss_names.specs.declared.service.Key.{Key}
use Rattle.pipeline_lang.specs.Config.{statement_at}
use Rattle.pipeline_lang.specs.declared.config.Config.{Config}
use Rattle.pipeline_lang.specs.declared.script.Expr.{Expr}
use Rattle.pipeline_lang.specs.declared.script.Statement.{Statement}
use Rattle.pipeline_lang.specs.declared.script.Statement.TheVariants as statement
use Rattle.rss_model.specs.CallStatement.{op_of_statement, bound_formula}
use Rattle.rss_model.specs.declared.op.Op.{Op}
use Rattle.rss_machine.specs.Run.{run}
use Rattle.rss_machine.specs.State.{State, owner_at}
use Rattle.rss_machine.specs.declared.step.Step.{Step}
use Rattle.world_laws.specs.Shapes.{AreOfOne, Differ, KeepsService, IsSoundFile}
use Rattle.world_laws.proofs.Looks.{some_is, none_is_not}
use Rattle.world_laws.proofs.Scripts.{scripted_run}
use Rattle.run_laws.specs.Facts.{OfOneService, CallsOfOneService}

-- a formula's variables become positions, and its key stays
same_keys : (pairs : List (ℕ × Key)) (variables : List ℕ) (writes : List (Key × Expr ℕ)) → map (λ (write : Key × Expr ℕ). write.0) (map (λ (write : Key × Expr ℕ). (write.0, bound_formula pairs variables write.1)) writes) ≡ map (λ (write : Key × Expr ℕ). write.0) writes
same_keys pairs variables [] = refl
same_keys pairs variables (write ∷ writes) = ap (λ (keys : List Key). write.0 ∷ keys) (same_keys pairs variables writes)

no_op : {A : Type 0} (x : Op) → None ≡ Some x → A
no_op x e = absurd (none_is_not x e)

made : (x y : Op) → Some y ≡ Some x → OfOneService y → OfOneService x
made x y e h = subst OfOneService (some_is y x e) h

of_statement : (y : Statement ℕ Key ℕ ℕ) (variables : List ℕ) (x : Op) → KeepsService y → op_of_statement y variables ≡ Some x → OfOneService x
of_statement (statement.Read variable key) variables x h e = made x _ e tt
of_statement (statement.Write key value) variables x h e = made x _ e tt
of_statement (statement.Snap pairs) variables x h e = made x _ e (h.of_one, h.once)
of_statement (statement.Txn pairs guard writes) variables x h e = made x _ e (
  subst (λ (keys : List Key). AreOfOne (map (λ (pair : ℕ × Key). pair.1) pairs ++ keys)) (sym (same_keys pairs variables writes)) h.of_one,
  h.read_once,
  subst (λ (keys : List Key). AllPairs Differ keys) (sym (same_keys pairs variables writes)) h.written_once,
)
of_statement (statement.Let variable value) variables x h e = no_op x e
of_statement (statement.Spawn child) variables x h e = no_op x e
of_statement (statement.Wait child) variables x h e = no_op x e
of_statement (statement.Put p value) variables x h e = no_op x e
of_statement (statement.Take variable p) variables x h e = no_op x e
of_statement (statement.Close p) variables x h e = no_op x e
of_statement statement.Fence variables x h e = no_op x e
of_statement (statement.Repeat times) variables x h e = no_op x e
of_statement (statement.When test) variables x h e = no_op x e
of_statement statement.End variables x h e = no_op x e
of_statement statement.Exit variables x h e = no_op x e

pub calls_of_one : (c : Config) (steps : List Step) (s : State) → IsSoundFile c → run c steps ≡ Some s → CallsOfOneService s
calls_of_one c steps s f e o x k =
    let h = (scripted_run c steps s e).calls o x k in
    of_statement (statement_at c (owner_at s o).stage h.place) h.variables x (f.services.statements (owner_at s o).stage h.place) h.makes
