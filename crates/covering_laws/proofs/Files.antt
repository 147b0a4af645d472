-- What files say of the services of their operations.
use Rattle.std.proofs.Common.{◌≡◌, ℕ, ◌≤◌, true, List, [], ◌∷◌, ◌++◌, length, Some, All, arith}
use Rattle.std.specs.Prelude.{map}
use Rattle.std.proofs.Common.{subst}
use Rattle.std.proofs.lemmas.Bool.{false≢true}
use Rattle.std.proofs.lemmas.List.Elements.{All-head, All-tail}
use Rattle.rss_names.specs.declared.service.Key.{Key}
use Rattle.rss_names.specs.declared.service.ServiceId.TheVariants.{Txn}
use Rattle.pipeline_lang.specs.Config.{statement_at}
use Rattle.pipeline_lang.specs.declared.config.Config.{Config}
use Rattle.pipeline_lang.specs.declared.script.Expr.{Expr}
use Rattle.pipeline_lang.specs.declared.script.Statement.{Statement}
use Rattle.pipeline_lang.specs.declared.script.Statement.TheVariants as statement
use Rattle.rss_model.specs.CallStatement.{op_of_statement, bound_formula}
use Rattle.rss_model.specs.declared.op.Op.{Op}
use Rattle.rss_machine.specs.Session.{first_service, written_service}
use Rattle.world_laws.specs.NamedKeys.{NamesKeys, is_some_key, names_some}
use Rattle.world_laws.specs.Registers.{IsRegister, NamesRegisters, statement_registers}
use Rattle.world_laws.specs.Served.{IsServed, OpsServed}
use Rattle.world_laws.specs.Shapes.{KeepsSnapshot, KeepsTransaction, KeepsService, KeepsServices}
use Rattle.world_laws.proofs.Looks.{some_is, none_is_not}

abbrev pub read_keys : List (ℕ × Key) → List Key
read_keys pairs = map (λ (pair : ℕ × Key). pair.1) pairs

abbrev pub write_keys : List (Key × Expr ℕ) → List Key
write_keys writes = map (λ (write : Key × Expr ℕ). write.0) writes

pub all_behind : (P : Key → Type 0) (xs ys : List Key) → All P (xs ++ ys) → All P ys
all_behind P [] ys h = h
all_behind P (x ∷ xs) ys h = all_behind P xs ys (All-tail P x (xs ++ ys) h)

-- the service of a snapshot's first key, and of a transaction's first write
pub snap_service : (pairs : List (ℕ × Key)) (k : KeepsSnapshot pairs) → is_some_key (read_keys pairs) ≡ true → first_service (read_keys pairs) ≡ Txn k.of_one.number
snap_service [] k e = absurd (false≢true e)
snap_service (pair ∷ pairs) k e = All-head (λ (key : Key). key.service ≡ Txn k.of_one.number) pair.1 (read_keys pairs) k.of_one.all

pub txn_service : (pairs : List (ℕ × Key)) (variables : List ℕ) (writes : List (Key × Expr ℕ)) (k : KeepsTransaction pairs writes) → written_service (map (λ (write : Key × Expr ℕ). (write.0, bound_formula pairs variables write.1)) writes) ≡ Txn k.of_one.number
txn_service pairs variables [] k = absurd (let l = k.some_written in omega (arith, l))
txn_service pairs variables (write ∷ writes) k =
    All-head (λ (key : Key). key.service ≡ Txn k.of_one.number) write.0 (write_keys writes)
    (all_behind (λ (key : Key). key.service ≡ Txn k.of_one.number) (read_keys pairs) (write.0 ∷ write_keys writes) k.of_one.all)

statement_served : (c : Config) (x : Statement ℕ Key ℕ ℕ) (variables : List ℕ) (y : Op) → All (IsRegister c) (statement_registers x) → KeepsService x → names_some x ≡ true → op_of_statement x variables ≡ Some y → IsServed c y
statement_served c (statement.Read variable key) variables y r k m e = subst (IsServed c) (some_is _ y e) (All-head (IsRegister c) key [] r)
statement_served c (statement.Write key value) variables y r k m e = subst (IsServed c) (some_is _ y e) (All-head (IsRegister c) key [] r)
statement_served c (statement.Snap pairs) variables y r k m e = subst (IsServed c) (some_is _ y e) (record { number = k.of_one.number; is = snap_service pairs k m; service = (k.of_one.first, k.of_one.last) })
statement_served c (statement.Txn pairs guard writes) variables y r k m e = subst (IsServed c) (some_is _ y e) (record { number = k.of_one.number; is = txn_service pairs variables writes k; service = (k.of_one.first, k.of_one.last) })
statement_served c (statement.Let variable value) variables y r k m e = absurd (none_is_not y e)
statement_served c (statement.Spawn child) variables y r k m e = absurd (none_is_not y e)
statement_served c (statement.Wait child) variables y r k m e = absurd (none_is_not y e)
statement_served c (statement.Put p value) variables y r k m e = absurd (none_is_not y e)
statement_served c (statement.Take variable p) variables y r k m e = absurd (none_is_not y e)
statement_served c (statement.Close p) variables y r k m e = absurd (none_is_not y e)
statement_served c statement.Fence variables y r k m e = absurd (none_is_not y e)
statement_served c (statement.Repeat times) variables y r k m e = absurd (none_is_not y e)
statement_served c (statement.When test) variables y r k m e = absurd (none_is_not y e)
statement_served c statement.End variables y r k m e = absurd (none_is_not y e)
statement_served c statement.Exit variables y r k m e = absurd (none_is_not y e)

-- operations are of the file's services
pub ops_served : (c : Config) → NamesRegisters c → NamesKeys c → KeepsServices c → OpsServed c
ops_served c r n k = record { each = λ i place variables x e. statement_served c (statement_at c i place) variables x (r.statements i place) (k.statements i place) (n.some i place) e }
