-- The writes of operations, one after another.
use Rattle.std.proofs.Common.{◌≡◌, ℕ, suc, ◌+◌, ◌<◌, ◌≤◌, List, [], ◌∷◌, length, get_or, drop, map, refl, sym, ap, ◌∙◌, subst, arith}
use Rattle.std.specs.Prelude.{Option}
use Rattle.std.proofs.lemmas.List.{drop_more, drop_all}
use Rattle.pipeline_lang.specs.declared.script.Compare.{Compare}
use Rattle.pipeline_lang.specs.declared.script.Expr.{Expr}
use Rattle.rss_names.specs.declared.service.Key.{Key}
use Rattle.rss_model.specs.declared.op.Op.{Op}
use Rattle.rss_model.specs.declared.op.Op.TheVariants.{Read, Write, Snap, Txn}
use Rattle.rss_model.specs.declared.op.Shown.{Shown}
use Rattle.rss_model.specs.Formula.{formula_value}
use Rattle.rss_model.specs.Operation.{written_by}
use Rattle.plain_model.specs.Written.{one_over, shown_over, logged, values_written}
use Rattle.call_tables.specs.declared.cells.Cell.{Cell}
use Rattle.call_tables.specs.Cells.{table_in}

-- one formula more, and those that are left
pub one_formula : (call n v : ℕ) (writes : List (Key × Expr ℕ)) (i : ℕ) (d : Key × Expr ℕ) (vs : List ℕ) (first old new : List (List Cell))
    → ((key : Key) → table_in new key ≡ one_over (table_in old key) (record { key = (get_or writes i d).0; value = v; writer = n }))
    → v ≡ formula_value (get_or writes i d).1 vs → n ≡ call → i < length writes
    → ((key : Key) → shown_over (table_in old key) (logged call (values_written (drop i writes) vs)) ≡ shown_over (table_in first key) (logged call (values_written writes vs)))
    → (key : Key) → shown_over (table_in new key) (logged call (values_written (drop (i + 1) writes) vs)) ≡ shown_over (table_in first key) (logged call (values_written writes vs))
one_formula call n v writes i d vs first old new put e m l h key =
    ap (λ (s : Shown). shown_over s (logged call (values_written (drop (i + 1) writes) vs))) (put key)
    ∙ ap (λ (x : ℕ). shown_over (one_over (table_in old key) (record { key = (get_or writes i d).0; value = x; writer = n })) (logged call (values_written (drop (i + 1) writes) vs))) e
    ∙ ap (λ (x : ℕ). shown_over (one_over (table_in old key) (record { key = (get_or writes i d).0; value = formula_value (get_or writes i d).1 vs; writer = x })) (logged call (values_written (drop (i + 1) writes) vs))) m
    ∙ sym (ap (λ (ws : List (Key × Expr ℕ)). shown_over (table_in old key) (logged call (values_written ws vs))) (drop_more writes i d l))
    ∙ h key

pub no_more : (call : ℕ) (writes : List (Key × Expr ℕ)) (i : ℕ) (vs : List ℕ) (first new : List (List Cell)) → length writes ≤ i
    → ((key : Key) → shown_over (table_in new key) (logged call (values_written (drop i writes) vs)) ≡ shown_over (table_in first key) (logged call (values_written writes vs)))
    → (key : Key) → table_in new key ≡ shown_over (table_in first key) (logged call (values_written writes vs))
no_more call writes i vs first new l h key =
    sym (ap (λ (ws : List (Key × Expr ℕ)). shown_over (table_in new key) (logged call (values_written ws vs))) (drop_all i writes l)) ∙ h key

pub ruleset formulas = (one_formula, no_more)

-- the writes of an operation
pub of_read : (rows : List (List Cell)) (call : ℕ) (op : Op) (k : Key) (vs : List ℕ) → op ≡ Read k → (key : Key) → table_in rows key ≡ shown_over (table_in rows key) (logged call (written_by op vs))
of_read rows call op k vs e key = ap (λ (o : Op). shown_over (table_in rows key) (logged call (written_by o vs))) (sym e)

pub of_snap : (rows : List (List Cell)) (call : ℕ) (op : Op) (ks : List Key) (vs : List ℕ) → op ≡ Snap ks → (key : Key) → table_in rows key ≡ shown_over (table_in rows key) (logged call (written_by op vs))
of_snap rows call op ks vs e key = ap (λ (o : Op). shown_over (table_in rows key) (logged call (written_by o vs))) (sym e)

pub of_write : (old new : List (List Cell)) (call n : ℕ) (op : Op) (k : Key) (v : ℕ) (vs : List ℕ) → ((key : Key) → table_in new key ≡ one_over (table_in old key) (record { key = k; value = v; writer = n })) → n ≡ call → op ≡ Write k v
    → (key : Key) → table_in new key ≡ shown_over (table_in old key) (logged call (written_by op vs))
of_write old new call n op k v vs put m e key =
    put key ∙ ap (λ (x : ℕ). one_over (table_in old key) (record { key = k; value = v; writer = x })) m
    ∙ ap (λ (o : Op). shown_over (table_in old key) (logged call (written_by o vs))) (sym e)

pub of_txn : (old new : List (List Cell)) (call : ℕ) (op : Op) (ks : List Key) (guard : Option (Compare ℕ)) (writes ws : List (Key × Expr ℕ)) (vs : List ℕ) → ((key : Key) → table_in new key ≡ shown_over (table_in old key) (logged call (values_written ws vs))) → ws ≡ writes → op ≡ Txn ks guard writes
    → (key : Key) → table_in new key ≡ shown_over (table_in old key) (logged call (written_by op vs))
of_txn old new call op ks guard writes ws vs put m e key =
    put key ∙ ap (λ (x : List (Key × Expr ℕ)). shown_over (table_in old key) (logged call (values_written x vs))) m
    ∙ ap (λ (o : Op). shown_over (table_in old key) (logged call (written_by o vs))) (sym e)

pub ruleset operations = (of_read, of_snap, of_write, of_txn)
