-- lists that are read member by member
use Rattle.std.proofs.Common.{◌≡◌, ℕ, ◌+◌, ◌-◌, ◌<◌, suc, List, [], ◌∷◌, ◌++◌, length, get_or, drop, Result, Ok, Err, refl, ap, ◌∙◌, sym, append_assoc, append-nil, ◌≤◌, IsErrAnd, is_some, ◌&&◌}
use Rattle.std.specs.List.{list_all}
use Rattle.std.proofs.lemmas.List.{drop_all}
use Rattle.std.proofs.lemmas.Result.{err_from_is_err_and}
use Rattle.toml.specs.Data.{as_table, Members}
use Rattle.toml.specs.declared.value.Value.{Value}
use Rattle.toml.specs.View.{view, items_view}
use Rattle.toml.proofs.Views.{items_view-drop}
use Rattle.pipeline_tables.specs.declared.fault.FileFault.{FileFault}
use Rattle.pipeline_tables.specs.declared.fault.Place.{Place}
use Rattle.pipeline_tables.specs.declared.fault.FileError.{FileError}
use Rattle.pipeline_tables.specs.declared.fault.FileError.TheVariants.{Fault, OutOfMemory}
use Rattle.pipeline_tables.specs.Faults.{◌>>=◌, Tells}
use Rattle.pipeline_tables.specs.Lists.{onto, names_of, item_count, all_tables, row_in, rows_from}
use Rattle.pipeline_tables.specs.Values.{name_of}
use Rattle.pipeline_tables.specs.Rows.{service_of}
use Rattle.pipeline_tables.specs.Services.{services_from}
use Rattle.pipeline_tables.specs.declared.tables.RootTable.{RootTable}

-- one more value before others
pub onto_more : {A : Type 0} (xs : List A) (x : A) (rest : Result (List A) FileFault) → onto xs (onto (x ∷ []) rest) ≡ onto (xs ++ x ∷ []) rest
onto_more xs x (Ok ys) = ap Ok (sym (append_assoc xs (x ∷ []) ys))
onto_more xs x (Err first) = refl

-- the names from an index on
pub names_of_drop : (at : Place) (xs : List Value) (i : ℕ) (d : Value) → i < length xs → names_of at (items_view (drop i xs)) ≡ (name_of at (view (get_or xs i d)) >>= λ name. onto (name ∷ []) (names_of at (items_view (drop (i + 1) xs))))
unfolding names_of
names_of_drop at xs i d h = rw (items_view-drop xs i d h)

pub item_count_view : (xs : List Value) → item_count (items_view xs) ≡ length xs
unfolding item_count
item_count_view [] = refl
item_count_view (x ∷ xs) = ap suc (item_count_view xs)

pub all_tables_view : (xs : List Value) → list_all (λ value. is_some (as_table (view value))) xs ≡ all_tables (items_view xs)
unfolding all_tables
all_tables_view [] = refl
all_tables_view (x ∷ xs) = ap (λ b. is_some (as_table (view x)) && b) (all_tables_view xs)

-- one turn of a loop that reads member by member: the values so far stand before what the rest says
pub turn_ok : {A : Type 0} (total rest tail : Result (List A) FileFault) (xs : List A) (x : A) (step : Result A FileFault) → total ≡ onto xs rest → rest ≡ (step >>= λ y. onto (y ∷ []) tail) → step ≡ Ok x → total ≡ onto (xs ++ x ∷ []) tail
turn_ok total rest tail xs x step h r s = h ∙ ap (onto xs) (r ∙ ap (λ q. q >>= λ y. onto (y ∷ []) tail) s) ∙ onto_more xs x tail

pub turn_err : {A B : Type 0} (total rest : Result (List A) FileFault) (xs : List A) (first : FileFault) (step : Result B FileFault) (k : B → Result (List A) FileFault) → total ≡ onto xs rest → rest ≡ (step >>= k) → step ≡ Err first → total ≡ Err first
turn_err total rest xs first step k h r s = h ∙ ap (onto xs) (r ∙ ap (λ q. q >>= k) s)

pub turn_end : {A : Type 0} (total rest : Result (List A) FileFault) (xs : List A) → total ≡ onto xs rest → rest ≡ Ok [] → total ≡ Ok xs
turn_end total rest xs h r = h ∙ ap (onto xs) r ∙ ap Ok (append-nil xs)

pub names_of_end : (at : Place) (xs : List Value) (i : ℕ) → length xs ≤ i → names_of at (items_view (drop i xs)) ≡ Ok []
unfolding names_of
names_of_end at xs i h = rw (drop_all i xs h)

-- an error that a fault became tells the fault
pub tells_err : {A : Type 0} (result : Result A FileError) (first : FileFault) (said : Result A FileFault) → said ≡ Err first → IsErrAnd result (λ e. e ≡ Fault first) → Tells result said
tells_err result first said h r = let p = err_from_is_err_and result r in rw (p.1, p.2) h

-- the rows from an index on
pub rows_from_drop : {A : Type 0} (says : ℕ → Members → Result A FileFault) (at : Place) (n : ℕ) (xs : List Value) (i : ℕ) (d : Value) → i < length xs → rows_from says at n (items_view (drop i xs)) ≡ (row_in says at n (view (get_or xs i d)) >>= λ row. onto (row ∷ []) (rows_from says at (n + 1) (items_view (drop (i + 1) xs))))
unfolding rows_from
rows_from_drop says at n xs i d h = rw (items_view-drop xs i d h)

pub rows_from_end : {A : Type 0} (says : ℕ → Members → Result A FileFault) (at : Place) (n : ℕ) (xs : List Value) (i : ℕ) → length xs ≤ i → rows_from says at n (items_view (drop i xs)) ≡ Ok []
unfolding rows_from
rows_from_end says at n xs i h = rw (drop_all i xs h)

-- an error of one step, which a chain of steps hands on
pub tells_on : {A B : Type 0} (e : FileError) (result : Result B FileError) (said : Result A FileFault) (total : Result B FileFault) → Tells {A = A} (Err e) said → ((first : FileFault) → said ≡ Err first → total ≡ Err first) → IsErrAnd result (λ y. y ≡ e) → Tells result total
tells_on (Fault first) result said total h on r = let p = err_from_is_err_and result r in rw (p.1, p.2) (on first h)
tells_on OutOfMemory result said total h on r = let p = err_from_is_err_and result r in rw (p.1, p.2) tt

-- the services from an index on
pub services_from_drop : (root : RootTable) (at : Place) (room n : ℕ) (xs : List Value) (i : ℕ) (d : Value) → i < length xs → services_from root at room n (items_view (drop i xs)) ≡ (row_in (service_of root room) at n (view (get_or xs i d)) >>= λ row. onto (row ∷ []) (services_from root at (room - length row.registers) (n + 1) (items_view (drop (i + 1) xs))))
unfolding services_from
services_from_drop root at room n xs i d h = rw (items_view-drop xs i d h)

pub services_from_end : (root : RootTable) (at : Place) (room n : ℕ) (xs : List Value) (i : ℕ) → length xs ≤ i → services_from root at room n (items_view (drop i xs)) ≡ Ok []
unfolding services_from
services_from_end root at room n xs i h = rw (drop_all i xs h)

-- one turn where what the rest says hangs on what was read
pub turn_with : {A : Type 0} (total rest : Result (List A) FileFault) (xs : List A) (x : A) (step : Result A FileFault) (tail : A → Result (List A) FileFault) → total ≡ onto xs rest → rest ≡ (step >>= λ y. onto (y ∷ []) (tail y)) → step ≡ Ok x → total ≡ onto (xs ++ x ∷ []) (tail x)
turn_with total rest xs x step tail h r s = h ∙ ap (onto xs) (r ∙ ap (λ q. q >>= λ y. onto (y ∷ []) (tail y)) s) ∙ onto_more xs x (tail x)
