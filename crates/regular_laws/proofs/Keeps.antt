-- What files say of the keys of their snapshots and transactions.
use Rattle.std.proofs.Common.{◌≡◌, ℕ, suc, Bool, true, false, List, [], ◌∷◌, ◌++◌, Some, All, refl, sym, ap, ◌∙◌, subst, arith}
use Rattle.std.specs.Prelude.{map, Contains, AllPairs, ◌||◌}
use Rattle.std.proofs.lemmas.Bool.{false≢true}
use Rattle.std.proofs.lemmas.List.Elements.{All-nil, All-cons, All-head, All-tail, All-contains}
use Rattle.rss_names.specs.declared.service.Key.{Key}
use Rattle.rss_names.specs.declared.service.ServiceId.TheVariants.{Txn}
use Rattle.pipeline_lang.specs.Config.{statement_at}
use Rattle.pipeline_lang.specs.declared.config.Config.{Config}
use Rattle.pipeline_lang.specs.declared.script.Expr.{Expr}
use Rattle.pipeline_lang.specs.declared.script.Statement.{Statement}
use Rattle.pipeline_lang.specs.declared.script.Statement.TheVariants as statement
use Rattle.rss_model.specs.CallStatement.{op_of_statement, bound_formula}
use Rattle.rss_model.specs.declared.op.Op.{Op}
use Rattle.rss_model.specs.declared.op.Op.TheVariants as op
use Rattle.rss_tables.specs.Locks.{has_key}
use Rattle.rss_machine.specs.Session.{first_service, written_service}
use Rattle.world_laws.specs.NamedKeys.{NamesKeys, is_some_key, names_some}
use Rattle.world_laws.specs.Shapes.{Differ, KeepsSnapshot, KeepsTransaction, KeepsService, KeepsServices}
use Rattle.world_laws.proofs.Looks.{some_is, none_is_not}
use Rattle.regular_laws.specs.Kept.{AreOnce, IsKept, OpsKept}
use Rattle.regular_laws.proofs.Writes.{in_none}

abbrev read_keys : List (ℕ × Key) → List Key
read_keys pairs = map (λ (pair : ℕ × Key). pair.1) pairs

abbrev write_keys : List (Key × Expr ℕ) → List Key
write_keys writes = map (λ (write : Key × Expr ℕ). write.0) writes

all_behind : (P : Key → Type 0) (xs ys : List Key) → All P (xs ++ ys) → All P ys
all_behind P [] ys h = h
all_behind P (x ∷ xs) ys h = all_behind P xs ys (All-tail P x (xs ++ ys) h)

-- the service of a snapshot's first key, and of a transaction's first write
snap_service : (pairs : List (ℕ × Key)) (k : KeepsSnapshot pairs) → is_some_key (read_keys pairs) ≡ true → first_service (read_keys pairs) ≡ Txn k.of_one.number
snap_service [] k e = absurd (false≢true e)
snap_service (pair ∷ pairs) k e = All-head (λ (key : Key). key.service ≡ Txn k.of_one.number) pair.1 (read_keys pairs) k.of_one.all

txn_service : (pairs : List (ℕ × Key)) (variables : List ℕ) (writes : List (Key × Expr ℕ)) (k : KeepsTransaction pairs writes) → written_service (map (λ (write : Key × Expr ℕ). (write.0, bound_formula pairs variables write.1)) writes) ≡ Txn k.of_one.number
txn_service pairs variables [] k = absurd (let l = k.some_written in omega (arith, l))
txn_service pairs variables (write ∷ writes) k =
    All-head (λ (key : Key). key.service ≡ Txn k.of_one.number) write.0 (write_keys writes)
    (all_behind (λ (key : Key). key.service ≡ Txn k.of_one.number) (read_keys pairs) (write.0 ∷ write_keys writes) k.of_one.all)

-- keys of which no two are the same
differs : (key : Key) (keys : List Key) → All (Differ key) keys → has_key keys key ≡ false
differs key [] h = refl
differs key (k ∷ keys) h = ap (λ (b : Bool). b || has_key keys key) (All-head (Differ key) k keys h) ∙ differs key keys (All-tail (Differ key) k keys h)

are_once : (keys : List Key) → AllPairs Differ keys → AreOnce keys
are_once [] h = tt
are_once (key ∷ keys) h = (differs key keys (λ i d l. h 0 (suc i) d (omega arith) (omega (arith, l))), are_once keys (λ i j d l m. h (suc i) (suc j) d (omega (arith, l)) (omega (arith, m))))

all_first : (P : Key → Type 0) (xs ys : List Key) → All P (xs ++ ys) → All P xs
all_first P [] ys h = All-nil P
all_first P (x ∷ xs) ys h = All-cons P x xs (All-head P x (xs ++ ys) h) (all_first P xs ys (All-tail P x (xs ++ ys) h))

-- the keys of a transaction's writes are those of the statement's
bound_keys : (pairs : List (ℕ × Key)) (variables : List ℕ) (writes : List (Key × Expr ℕ)) → write_keys (map (λ (write : Key × Expr ℕ). (write.0, bound_formula pairs variables write.1)) writes) ≡ write_keys writes
bound_keys pairs variables [] = refl
bound_keys pairs variables (write ∷ writes) = ap (λ (keys : List Key). write.0 ∷ keys) (bound_keys pairs variables writes)

statement_kept : (x : Statement ℕ Key ℕ ℕ) (variables : List ℕ) (y : Op) → KeepsService x → names_some x ≡ true → op_of_statement x variables ≡ Some y → IsKept y
statement_kept (statement.Snap pairs) variables y k m e = subst IsKept (some_is _ y e) record {
  number = k.of_one.number;
  service = snap_service pairs k m;
  reads = λ key n. All-contains (λ (x : Key). x.service ≡ Txn k.of_one.number) (read_keys pairs) key k.of_one.all n;
  writes = λ key n. absurd (in_none key n);
  once = tt;
}
statement_kept (statement.Txn pairs guard writes) variables y k m e = subst IsKept (some_is _ y e) record {
  number = k.of_one.number;
  service = txn_service pairs variables writes k;
  reads = λ key n. All-contains (λ (x : Key). x.service ≡ Txn k.of_one.number) (read_keys pairs) key (all_first (λ (x : Key). x.service ≡ Txn k.of_one.number) (read_keys pairs) (write_keys writes) k.of_one.all) n;
  writes = λ key n.
      All-contains (λ (x : Key). x.service ≡ Txn k.of_one.number) (write_keys writes) key (all_behind (λ (x : Key). x.service ≡ Txn k.of_one.number) (read_keys pairs) (write_keys writes) k.of_one.all)
      (subst (λ (keys : List Key). Contains keys key) (bound_keys pairs variables writes) n);
  once = subst AreOnce (sym (bound_keys pairs variables writes)) (are_once (write_keys writes) k.written_once);
}
statement_kept (statement.Read variable key) variables y k m e = subst IsKept (some_is (op.Read key) y e) tt
statement_kept (statement.Write key value) variables y k m e = subst IsKept (some_is (op.Write key _) y e) tt
statement_kept (statement.Let variable value) variables y k m e = absurd (none_is_not y e)
statement_kept (statement.Spawn child) variables y k m e = absurd (none_is_not y e)
statement_kept (statement.Wait child) variables y k m e = absurd (none_is_not y e)
statement_kept (statement.Put p value) variables y k m e = absurd (none_is_not y e)
statement_kept (statement.Take variable p) variables y k m e = absurd (none_is_not y e)
statement_kept (statement.Close p) variables y k m e = absurd (none_is_not y e)
statement_kept statement.Fence variables y k m e = absurd (none_is_not y e)
statement_kept (statement.Repeat times) variables y k m e = absurd (none_is_not y e)
statement_kept (statement.When test) variables y k m e = absurd (none_is_not y e)
statement_kept statement.End variables y k m e = absurd (none_is_not y e)
statement_kept statement.Exit variables y k m e = absurd (none_is_not y e)

pub ops_kept : (c : Config) → NamesKeys c → KeepsServices c → OpsKept c
ops_kept c n k = record { each = λ i place variables x e. statement_kept (statement_at c i place) variables x (k.statements i place) (n.some i place) e }
