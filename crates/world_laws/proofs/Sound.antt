-- What a file that is read keeps, in the forms in which laws of runs take it.
use Rattle.std.proofs.Common.{◌≡◌, ℕ, suc, ◌+◌, ◌-◌, ◌<◌, ◌≤◌, true, false, List, [], ◌∷◌, ◌++◌, length, map, get_or, Option, Some, None, option_map, refl, ap, sym, ◌∙◌, subst, arith}
use Rattle.std.specs.List.{All}
use Rattle.std.proofs.lemmas.Bool.{true≢false}
use Rattle.std.proofs.lemmas.List.{length-map}
use Rattle.std.proofs.lemmas.List.Elements.{All-head, All-tail}
use Rattle.rss_names.specs.declared.service.Key.{Key}
use Rattle.rss_names.specs.declared.service.ServiceId.TheVariants.{Txn}
use Rattle.pipeline_lang.specs.Config.{no_body, statement_at}
use Rattle.pipeline_lang.specs.declared.config.Config.{Config}
use Rattle.pipeline_lang.specs.declared.script.Compare.{Compare}
use Rattle.pipeline_lang.specs.declared.script.Expr.{Expr}
use Rattle.pipeline_lang.specs.declared.script.Statement.{Statement}
use Rattle.pipeline_lang.specs.declared.script.Statement.TheVariants as statement
use Rattle.rss_model.specs.CallStatement.{op_of_statement, bound_formula, bound_guard}
use Rattle.rss_model.specs.Formula.{formula_value}
use Rattle.rss_model.specs.declared.op.Op.{Op}
use Rattle.rss_model.specs.declared.op.Op.TheVariants as op
use Rattle.rss_machine.specs.Session.{service_of}
use Rattle.world_laws.specs.Apart.{SpawnsApart}
use Rattle.world_laws.specs.NamedKeys.{IsKey, statement_keys, is_some_key, names_some, op_keys}
use Rattle.world_laws.specs.Registers.{IsRegister, statement_registers}
use Rattle.world_laws.specs.Served.{IsTxn, IsServed, OpsServed}
use Rattle.world_laws.specs.Shapes.{AreOfOne, KeepsService, KeepsSnapshot, KeepsTransaction, IsSoundFile}
use Rattle.world_laws.specs.Spawning.{SpawnsInside}
use Rattle.world_laws.specs.Traffic.{HasFewKeys, OperationFits}
use Rattle.world_laws.proofs.Looks.{some_is, none_is_not}

-- what all of two lists are, all of the second are
all_behind : {A : Type 0} (P : A → Type 0) (xs ys : List A) → All P (xs ++ ys) → All P ys
all_behind P [] ys h = h
all_behind P (x ∷ xs) ys h = all_behind P xs ys (All-tail P x (xs ++ ys) h)

abbrev IsOf : ℕ → Key → Type 0
IsOf number key = key.service ≡ Txn number

-- the first key read of a snapshot, and the first written of a transaction, are of the one service
snapshot_served : (pairs : List (ℕ × Key)) → names_some (statement.Snap pairs) ≡ true → KeepsSnapshot pairs → IsTxn (service_of (op.Snap (map (λ (pair : ℕ × Key). pair.1) pairs)))
snapshot_served [] s h = absurd (true≢false (sym s))
snapshot_served (pair ∷ pairs) s h = record {
  number = h.of_one.number;
  is = All-head (IsOf h.of_one.number) pair.1 (map (λ (p : ℕ × Key). p.1) pairs) h.of_one.all;
  service = (h.of_one.first, h.of_one.last);
}

-- the writes with their formulas
abbrev bound_writes : List (ℕ × Key) → List ℕ → List (Key × Expr ℕ) → List (Key × Expr ℕ)
bound_writes pairs variables writes = map (λ (write : Key × Expr ℕ). (write.0, bound_formula pairs variables write.1)) writes

transaction_served : (pairs : List (ℕ × Key)) (guard : Option (Compare ℕ)) (writes : List (Key × Expr ℕ)) (variables : List ℕ) → KeepsTransaction pairs writes → IsTxn (service_of (op.Txn (map (λ (pair : ℕ × Key). pair.1) pairs) (option_map (bound_guard pairs variables) guard) (bound_writes pairs variables writes)))
transaction_served pairs guard [] variables h = absurd (let l = h.some_written in omega (arith, l))
transaction_served pairs guard (write ∷ writes) variables h = record {
  number = h.of_one.number;
  is = All-head (IsOf h.of_one.number) write.0 (map (λ (w : Key × Expr ℕ). w.0) writes) (all_behind (IsOf h.of_one.number) (map (λ (p : ℕ × Key). p.1) pairs) _ h.of_one.all);
  service = (h.of_one.first, h.of_one.last);
}

-- the keys of writes with their formulas are those of the writes
same_keys : (pairs : List (ℕ × Key)) (variables : List ℕ) (writes : List (Key × Expr ℕ)) → map (λ (write : Key × Expr ℕ). write.0) (bound_writes pairs variables writes) ≡ map (λ (write : Key × Expr ℕ). write.0) writes
same_keys pairs variables [] = refl
same_keys pairs variables (write ∷ writes) = ap (λ (keys : List Key). write.0 ∷ keys) (same_keys pairs variables writes)

-- the operation of a statement
no_op : {A : Type 0} (x : Op) → None ≡ Some x → A
no_op x e = absurd (none_is_not x e)

made : (P : Op → Type 0) (x y : Op) → Some y ≡ Some x → P y → P x
made P x y e h = subst P (some_is y x e) h

operation_of : (c : Config) (y : Statement ℕ Key ℕ ℕ) (variables : List ℕ) (x : Op) → All (IsRegister c) (statement_registers y) → All (IsKey c) (statement_keys y) → names_some y ≡ true → KeepsService y → op_of_statement y variables ≡ Some x → OperationFits c x
operation_of c (statement.Read variable key) variables x r k s h e = made (OperationFits c) x _ e (record { served = All-head (IsRegister c) key [] r; keys = k; few = tt })
operation_of c (statement.Write key value) variables x r k s h e = made (OperationFits c) x _ e (record { served = All-head (IsRegister c) key [] r; keys = k; few = tt })
operation_of c (statement.Snap pairs) variables x r k s h e = made (OperationFits c) x _ e (record { served = snapshot_served pairs s h; keys = k; few = (some_read pairs s, few_read pairs h.few) })
  where
    some_read : (pairs : List (ℕ × Key)) → names_some (statement.Snap pairs) ≡ true → 1 ≤ length (map (λ (pair : ℕ × Key). pair.1) pairs)
    some_read [] s = absurd (true≢false (sym s))
    some_read (pair ∷ pairs) s = omega arith

    few_read : (pairs : List (ℕ × Key)) → length pairs ≤ 8 → length (map (λ (pair : ℕ × Key). pair.1) pairs) ≤ 8
    few_read pairs l = let m = length-map {B = Key} pairs (λ (pair : ℕ × Key). pair.1) in omega (arith, l, m)
operation_of c (statement.Txn pairs guard writes) variables x r k s h e = made (OperationFits c) x _ e (record {
  served = transaction_served pairs guard writes variables h;
  keys = subst (λ (keys : List Key). All (IsKey c) (map (λ (pair : ℕ × Key). pair.1) pairs ++ keys)) (sym (same_keys pairs variables writes)) k;
  few = (
    (let m = length-map {B = Key} pairs (λ (pair : ℕ × Key). pair.1) in let l = h.few_read in omega (arith, l, m)),
    (let m = length-map {B = Key × Expr ℕ} writes (λ (write : Key × Expr ℕ). (write.0, bound_formula pairs variables write.1)) in let l = h.some_written in omega (arith, l, m)),
    (let m = length-map {B = Key × Expr ℕ} writes (λ (write : Key × Expr ℕ). (write.0, bound_formula pairs variables write.1)) in let l = h.few_written in omega (arith, l, m)),
  );
})
operation_of c (statement.Let variable value) variables x r k s h e = no_op x e
operation_of c (statement.Spawn child) variables x r k s h e = no_op x e
operation_of c (statement.Wait child) variables x r k s h e = no_op x e
operation_of c (statement.Put p value) variables x r k s h e = no_op x e
operation_of c (statement.Take variable p) variables x r k s h e = no_op x e
operation_of c (statement.Close p) variables x r k s h e = no_op x e
operation_of c statement.Fence variables x r k s h e = no_op x e
operation_of c (statement.Repeat times) variables x r k s h e = no_op x e
operation_of c (statement.When test) variables x r k s h e = no_op x e
operation_of c statement.End variables x r k s h e = no_op x e
operation_of c statement.Exit variables x r k s h e = no_op x e

pub operation_fits : (c : Config) (n place : ℕ) (variables : List ℕ) (x : Op) → IsSoundFile c → op_of_statement (statement_at c n place) variables ≡ Some x → OperationFits c x
operation_fits c n place variables x f e = operation_of c (statement_at c n place) variables x (f.in_order.names.statements n place) (f.keys.statements n place) (f.keys.some n place) (f.services.statements n place) e

-- every operation that a statement makes is served
pub ops_served : (c : Config) → IsSoundFile c → OpsServed c
ops_served c f = record { each = λ n place variables x e. (operation_fits c n place variables x f e).served }

-- a spawn names a stage of the file: the script of stage 0 is that of stage 1
pub spawns_inside : (c : Config) → IsSoundFile c → SpawnsInside c
spawns_inside c f = record { first = λ n place child e. first n place child (above n place child e); last = λ n place child e. f.spawns.there (suc (n - 1)) place child (omega arith) (above n place child e) }
  where
    above : (n place child : ℕ) → statement_at c n place ≡ statement.Spawn child → statement_at c (suc (n - 1)) place ≡ statement.Spawn child
    above n place child e = ap (λ (i : ℕ). get_or (get_or c.bodies i no_body).script place statement.Exit) (same n) ∙ e
      where
        same : (n : ℕ) → suc (n - 1) - 1 ≡ n - 1
        same n = omega arith

    first : (n place child : ℕ) → statement_at c (suc (n - 1)) place ≡ statement.Spawn child → 0 < child
    first n place child e = let l = f.spawns.later (suc (n - 1)) place child (omega arith) e in omega (arith, l)
