-- the tables of services that a document has: at most six, and a service of transactions has no registers
use Rattle.std.proofs.Common.{◌≡◌, ℕ, suc, ◌+◌, ◌-◌, ◌≤◌, Bool, true, false, ◌&&◌, cond, leb, List, [], ◌∷◌, length, Option, Some, None, Ok, Err, refl, sym, subst, arith}
use Rattle.std.proofs.lemmas.Bool.{leb-true}
use Rattle.toml.specs.Data.{Data, Items, no_items, item, Members, as_array, as_table}
use Rattle.pipeline_tables.specs.declared.fault.FaultKind.TheVariants.{OverLimit, WrongKind}
use Rattle.pipeline_tables.specs.declared.fault.Table.TheVariants as table
use Rattle.pipeline_tables.specs.declared.fault.FileKey.TheVariants as key
use Rattle.pipeline_tables.specs.declared.fault.FileFault.{FileFault}
use Rattle.pipeline_tables.specs.declared.fault.Place.{Place}
use Rattle.pipeline_tables.specs.declared.tables.FileTables.{FileTables}
use Rattle.pipeline_tables.specs.declared.tables.RootTable.{RootTable}
use Rattle.pipeline_tables.specs.declared.tables.ServiceTable.{ServiceTable}
use Rattle.pipeline_tables.specs.declared.tables.ServiceKind.{ServiceKind}
use Rattle.pipeline_tables.specs.declared.tables.ServiceKind.TheVariants.{Txn, Reg}
use Rattle.pipeline_tables.specs.Faults.{◌>>=◌, key_place, fault}
use Rattle.pipeline_tables.specs.Keys.{only_keys, value_at}
use Rattle.pipeline_tables.specs.Values.{or_default, name_at, replicas_or}
use Rattle.pipeline_tables.specs.Lists.{some_items, some_members, names_of, so_many, name_list, names_or_none, item_count, all_tables, tables_in, tables_of, tables_or_none, row_in}
use Rattle.pipeline_tables.specs.Rows.{most_registers, kind_at, root_of, shard_of, pipe_of, stage_of, withhold_of, kill_of, service_of}
use Rattle.pipeline_tables.specs.Services.{services_from, array_place, rows_or_none, rows_at, further_services, tables_said}
use Rattle.file_laws.proofs.Each.{Each}
use Rattle.file_laws.proofs.Went.{ok_same, went, went_onto, after}

-- an array of so many tables at most
both_tests : (a b c : Bool) (xs ys : Items) (first second : FileFault) → cond a (cond (b && c) (Ok xs) (Err first)) (Err second) ≡ Ok ys → (c ≡ true) × (xs ≡ ys)
both_tests true true true xs ys first second h = (refl, ok_same xs ys h)
both_tests true true false xs ys first second h = absurd cc
both_tests true false c xs ys first second h = absurd cc
both_tests false b c xs ys first second h = absurd cc

few_in : (most : ℕ) (at : Place) (xs ys : Items) → tables_in 0 most at xs ≡ Ok ys → item_count ys ≤ most
few_in most at xs ys h =
    let t = both_tests (all_tables xs) (leb 0 (item_count xs)) (leb (item_count xs) most) xs ys (fault OverLimit at) (fault WrongKind at) h in
    subst (λ (zs : Items). item_count zs ≤ most) t.1 (leb-true (item_count xs) most t.0)

few_of : (most : ℕ) (at : Place) (value : Data) (ys : Items) → tables_of 0 most at value ≡ Ok ys → item_count ys ≤ most
unfolding tables_of
few_of most at value ys h = let t = went (some_items at (as_array value)) (tables_in 0 most at) ys h in few_in most at t.0 ys t.1.1

none_few : (most : ℕ) → item_count no_items ≤ most
unfolding item_count
none_few most = omega arith

few_or_none : (most : ℕ) (at : Place) (value : Option Data) (ys : Items) → or_default no_items (tables_of 0 most at) value ≡ Ok ys → item_count ys ≤ most
few_or_none most at (Some value) ys h = few_of most at value ys h
few_or_none most at None ys h = subst (λ (zs : Items). item_count zs ≤ most) (ok_same no_items ys h) (none_few most)

pub few_tables : (most : ℕ) (at : Place) (root : Members) (ys : Items) → tables_or_none most at root ≡ Ok ys → item_count ys ≤ most
unfolding tables_or_none
few_tables most at root ys h = few_or_none most at (value_at at.key root) ys h

-- no names where none may stand
no_test : (b c : Bool) (xs ys : List (List ℕ)) (first : FileFault) → cond (b && c) (Ok xs) (Err first) ≡ Ok ys → (c ≡ true) × (xs ≡ ys)
no_test true true xs ys first h = (refl, ok_same xs ys h)
no_test true false xs ys first h = absurd cc
no_test false c xs ys first h = absurd cc

empty : (xs : List (List ℕ)) → length xs ≤ 0 → xs ≡ []
empty [] h = refl
empty (x ∷ xs) h = absurd (omega (arith, h))

none_in : (at : Place) (xs ys : List (List ℕ)) → so_many 0 0 at xs ≡ Ok ys → ys ≡ []
none_in at xs ys h =
    let t = no_test (leb 0 (length xs)) (leb (length xs) 0) xs ys (fault OverLimit at) h in
    subst (λ (zs : List (List ℕ)). zs ≡ []) t.1 (empty xs (leb-true (length xs) 0 t.0))

none_of : (at : Place) (value : Data) (ys : List (List ℕ)) → name_list 0 0 at value ≡ Ok ys → ys ≡ []
unfolding name_list
none_of at value ys h = let t = went (some_items at (as_array value) >>= names_of at) (so_many 0 0 at) ys h in none_in at t.0 ys t.1.1

none_or_none : (at : Place) (value : Option Data) (ys : List (List ℕ)) → or_default [] (name_list 0 0 at) value ≡ Ok ys → ys ≡ []
none_or_none at (Some value) ys h = none_of at value ys h
none_or_none at None ys h = sym (ok_same [] ys h)

no_names : (at : Place) (keyed : Members) (ys : List (List ℕ)) → names_or_none 0 at keyed ≡ Ok ys → ys ≡ []
unfolding names_or_none
no_names at keyed ys h = none_or_none at (value_at at.key keyed) ys h

-- a service of transactions has no registers
abbrev pub IsBare : ServiceTable → Type 0
IsBare t = t.kind ≡ Txn → t.registers ≡ []

bare_kind : (kind : ServiceKind) (room : ℕ) (at : Place) (keyed : Members) (ys : List (List ℕ)) → names_or_none (most_registers kind room) at keyed ≡ Ok ys → kind ≡ Txn → ys ≡ []
bare_kind Txn room at keyed ys h e = no_names at keyed ys h
bare_kind Reg room at keyed ys h e = absurd cc

bare_row : (root : RootTable) (room n : ℕ) (keyed : Members) (t : ServiceTable) → service_of root room n keyed ≡ Ok t → IsBare t
unfolding service_of
bare_row root room n keyed t h =
    let known = went (only_keys (key.Name ∷ key.Kind ∷ key.Registers ∷ key.Replicas ∷ []) table.Service n keyed) _ t h in
    let name = went (name_at (key_place table.Service n key.Name) keyed) _ t known.1.1 in
    let kind = went (kind_at (key_place table.Service n key.Kind) keyed) _ t name.1.1 in
    let registers = went (names_or_none (most_registers kind.0 room) (key_place table.Service n key.Registers) keyed) _ t kind.1.1 in
    let replicas = went (replicas_or root.replicas (key_place table.Service n key.Replicas) keyed) _ t registers.1.1 in
    subst IsBare (ok_same _ t replicas.1.1) (bare_kind kind.0 room (key_place table.Service n key.Registers) keyed registers.0 registers.1.0)

bare_in : (root : RootTable) (room : ℕ) (at : Place) (n : ℕ) (value : Data) (t : ServiceTable) → row_in (service_of root room) at n value ≡ Ok t → IsBare t
bare_in root room at n value t h = let m = went (some_members at (as_table value)) (service_of root room n) t h in bare_row root room n m.0 t m.1.1

-- services, one by one
pub record AreFew (most : ℕ) (ts : List ServiceTable) : Type 0 where
  pub few : length ts ≤ most
  pub bare : Each IsBare ts

more_few : (most : ℕ) (t : ServiceTable) (ts us : List ServiceTable) → IsBare t → AreFew most ts → (t ∷ ts) ≡ us → AreFew (suc most) us
more_few most t ts us b f e = subst (AreFew (suc most)) e (record { few = omega (arith, f.few); bare = (b, f.bare) })

services_few : (root : RootTable) (at : Place) (room n : ℕ) (items : Items) (ts : List ServiceTable) → services_from root at room n items ≡ Ok ts → AreFew (item_count items) ts
unfolding services_from item_count
services_few root at room n no_items ts h = subst (AreFew 0) (ok_same [] ts h) (record { few = omega arith; bare = tt })
services_few root at room n (item value items) ts h =
    let row = went (row_in (service_of root room) at n value) _ ts h in
    let rest = went_onto row.0 (services_from root at (room - length row.0.registers) (n + 1) items) ts row.1.1 in
    more_few (item_count items) row.0 rest.0 ts (bare_in root room at n value row.0 row.1.0) (services_few root at (room - length row.0.registers) (n + 1) items rest.0 rest.1.0) rest.1.1

at_most : (few most : ℕ) (ts : List ServiceTable) → few ≤ most → AreFew few ts → AreFew most ts
at_most few most ts l f = record { few = omega (arith, l, f.few); bare = f.bare }

-- the services of a document
abbrev HasFew : FileTables → Type 0
HasFew t = AreFew 6 t.services

-- the services that an array says
further_few : (root : RootTable) (keyed : Members) (ts : List ServiceTable) → further_services root keyed ≡ Ok ts → AreFew 6 ts
unfolding further_services
further_few root keyed ts h =
    let items = went (tables_or_none 6 (array_place key.Service) keyed) (services_from root (array_place key.Service) (64 - length root.registers) 1) ts h in
    at_most (item_count items.0) 6 ts (few_tables 6 (array_place key.Service) keyed items.0 items.1.0) (services_few root (array_place key.Service) (64 - length root.registers) 1 items.0 ts items.1.1)

pub tables_few : (keyed : Members) (t : FileTables) → tables_said keyed ≡ Ok t → HasFew t
unfolding tables_said
tables_few keyed t = after HasFew t (root_of keyed) _ (λ root _.
    after HasFew t (rows_or_none (shard_of root) 16 key.Shard keyed) _ (λ shards _.
    after HasFew t (rows_or_none (pipe_of root) 16 key.Pipe keyed) _ (λ pipes _.
    after HasFew t (rows_at (stage_of root) 16 key.Stage keyed) _ (λ stages _.
    after HasFew t (rows_or_none (withhold_of root) 64 key.Withhold keyed) _ (λ withholds _.
    after HasFew t (rows_or_none (kill_of root) 16 key.Kill keyed) _ (λ kills _.
    after HasFew t (further_services root keyed) _ (λ services said made.
    subst HasFew (ok_same _ t made) (further_few root keyed services said))))))))
