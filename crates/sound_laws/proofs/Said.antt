-- What the tables of a document come from: the rows of each array, and how many there are.
use Rattle.std.proofs.Common.{◌≡◌, ℕ, ◌+◌, ◌-◌, ◌≤◌, List, [], ◌∷◌, length, Option, Some, None, Result, Ok, Err, refl, sym, subst, arith}
use Rattle.std.specs.Prelude.{Bool, true, false, cond, ◌&&◌, nat_le}
use Rattle.std.proofs.lemmas.Bool.{and_parts}
use Rattle.std.proofs.lemmas.Bool.Decides.{nat_tests}
use Rattle.toml.specs.Data.{Data, Items, no_items, item, Members, as_array, as_table}
use Rattle.pipeline_tables.specs.declared.fault.FileKey.{FileKey}
use Rattle.pipeline_tables.specs.declared.fault.FileKey.TheVariants as key
use Rattle.pipeline_tables.specs.declared.fault.FaultKind.TheVariants.{OverLimit, WrongKind}
use Rattle.pipeline_tables.specs.declared.fault.FileFault.{FileFault}
use Rattle.pipeline_tables.specs.declared.fault.Place.{Place}
use Rattle.pipeline_tables.specs.declared.tables.FileTables.{FileTables}
use Rattle.pipeline_tables.specs.declared.tables.RootTable.{RootTable}
use Rattle.pipeline_tables.specs.declared.tables.ShardTable.{ShardTable}
use Rattle.pipeline_tables.specs.declared.tables.PipeTable.{PipeTable}
use Rattle.pipeline_tables.specs.declared.tables.StageTable.{StageTable}
use Rattle.pipeline_tables.specs.declared.tables.ServiceTable.{ServiceTable}
use Rattle.pipeline_tables.specs.Faults.{fault}
use Rattle.pipeline_tables.specs.Keys.{value_at}
use Rattle.pipeline_tables.specs.Values.{required}
use Rattle.pipeline_tables.specs.Lists.{some_items, some_members, item_count, all_tables, tables_in, tables_of, tables_at, tables_or_none, row_in, rows_from}
use Rattle.pipeline_tables.specs.Rows.{root_of, shard_of, pipe_of, stage_of, withhold_of, kill_of}
use Rattle.pipeline_tables.specs.Services.{services_from, array_place, rows_or_none, rows_at, further_services, tables_said}
use Rattle.file_laws.proofs.Each.{Each}
use Rattle.file_laws.proofs.Limits.{few_tables}
use Rattle.file_laws.proofs.Shards.{rows_many}
use Rattle.file_laws.proofs.Went.{ok_same, went, went_onto, after}

-- where a test lets a value through
pub let_through : {A : Type 0} (test : Bool) (x y : A) (f : FileFault) → cond test (Ok x) (Err f) ≡ Ok y → (test ≡ true) × (x ≡ y)
let_through true x y f h = (refl, ok_same x y h)
let_through false x y f h = absurd cc

-- rows of an array, of which there are so many at most
pub record AreRows {A : Type 0} (says : ℕ → Members → Result A FileFault) (most : ℕ) (at : Place) (rows : List A) : Type 0 where
  pub items : Items
  pub said : rows_from says at 1 items ≡ Ok rows
  pub few : length rows ≤ most

rows_few : {A : Type 0} (says : ℕ → Members → Result A FileFault) (most : ℕ) (at : Place) (items : Items) (rows : List A) → item_count items ≤ most → rows_from says at 1 items ≡ Ok rows → AreRows says most at rows
rows_few says most at items rows few said = record { items = items; said = said; few = subst (λ (n : ℕ). n ≤ most) (sym (rows_many says at 1 items rows said)) few }

rows_some : {A : Type 0} (says : ℕ → Members → Result A FileFault) (most : ℕ) (k : FileKey) (keyed : Members) (rows : List A) → rows_or_none says most k keyed ≡ Ok rows → AreRows says most (array_place k) rows
unfolding rows_or_none
rows_some says most k keyed rows h =
    let items = went (tables_or_none most (array_place k) keyed) (rows_from says (array_place k) 1) rows h in
    rows_few says most (array_place k) items.0 rows (few_tables most (array_place k) keyed items.0 items.1.0) items.1.1

-- an array that must be there
few_in : (least most : ℕ) (at : Place) (xs ys : Items) → tables_in least most at xs ≡ Ok ys → item_count ys ≤ most
few_in least most at xs ys h = by_tables (all_tables xs) h
  where
    by_tables : (b : Bool) → cond b (cond (nat_le least (item_count xs) && nat_le (item_count xs) most) (Ok xs) (Err (fault OverLimit at))) (Err (fault WrongKind at)) ≡ Ok ys → item_count ys ≤ most
    by_tables true i =
        let t = let_through (nat_le least (item_count xs) && nat_le (item_count xs) most) xs ys (fault OverLimit at) i in
        let few = (and_parts (nat_le least (item_count xs)) (nat_le (item_count xs) most) t.0).1 in
        subst (λ (zs : Items). item_count zs ≤ most) t.1 (at_most (item_count xs) few)
      where
        at_most : (n : ℕ) → nat_le n most ≡ true → n ≤ most
        at_most n e = grind (arith, nat_tests, e)
    by_tables false i = absurd cc

few_at : (least most : ℕ) (at : Place) (root : Members) (ys : Items) → tables_at least most at root ≡ Ok ys → item_count ys ≤ most
unfolding tables_at tables_of
few_at least most at root ys h =
    let value = went (required at (value_at at.key root)) (tables_of least most at) ys h in
    let items = went (some_items at (as_array value.0)) (tables_in least most at) ys value.1.1 in
    few_in least most at items.0 ys items.1.1

rows_there : {A : Type 0} (says : ℕ → Members → Result A FileFault) (most : ℕ) (k : FileKey) (keyed : Members) (rows : List A) → rows_at says most k keyed ≡ Ok rows → AreRows says most (array_place k) rows
unfolding rows_at
rows_there says most k keyed rows h =
    let items = went (tables_at 1 most (array_place k) keyed) (rows_from says (array_place k) 1) rows h in
    rows_few says most (array_place k) items.0 rows (few_at 1 most (array_place k) keyed items.0 items.1.0) items.1.1

-- what holds of what each table says holds of each row
pub each_row : {A : Type 0} (P : A → Type 0) (says : ℕ → Members → Result A FileFault) (at : Place) (n : ℕ) (items : Items) (rows : List A) → ((m : ℕ) (keyed : Members) (row : A) → says m keyed ≡ Ok row → P row) → rows_from says at n items ≡ Ok rows → Each P rows
unfolding rows_from
each_row P says at n no_items rows holds h = subst (Each P) (ok_same [] rows h) tt
each_row P says at n (item value items) rows holds h =
    let row = went (row_in says at n value) _ rows h in
    let rest = went_onto row.0 (rows_from says at (n + 1) items) rows row.1.1 in
    let members = went (some_members at (as_table value)) (says n) row.0 row.1.0 in
    subst (Each P) rest.1.1 (holds n members.0 row.0 members.1.1, each_row P says at (n + 1) items rest.0 holds rest.1.0)

-- further services come of an array of tables
pub record AreFurther (root : RootTable) (services : List ServiceTable) : Type 0 where
  pub items : Items
  pub said : services_from root (array_place key.Service) (64 - length root.registers) 1 items ≡ Ok services

are_further : (root : RootTable) (keyed : Members) (services : List ServiceTable) → further_services root keyed ≡ Ok services → AreFurther root services
unfolding further_services
are_further root keyed services h =
    let items = went (tables_or_none 6 (array_place key.Service) keyed) (services_from root (array_place key.Service) (64 - length root.registers) 1) services h in
    record { items = items.0; said = items.1.1 }

-- the tables of a document
pub record AreSaid (keyed : Members) (t : FileTables) : Type 0 where
  pub root : root_of keyed ≡ Ok t.root
  pub shards : AreRows (shard_of t.root) 16 (array_place key.Shard) t.shards
  pub pipes : AreRows (pipe_of t.root) 16 (array_place key.Pipe) t.pipes
  pub stages : AreRows (stage_of t.root) 16 (array_place key.Stage) t.stages
  pub services : AreFurther t.root t.services

pub are_said : (keyed : Members) (t : FileTables) → tables_said keyed ≡ Ok t → AreSaid keyed t
unfolding tables_said
are_said keyed t = after (AreSaid keyed) t (root_of keyed) _ (λ root root_said.
    after (AreSaid keyed) t (rows_or_none (shard_of root) 16 key.Shard keyed) _ (λ shards shards_said.
    after (AreSaid keyed) t (rows_or_none (pipe_of root) 16 key.Pipe keyed) _ (λ pipes pipes_said.
    after (AreSaid keyed) t (rows_at (stage_of root) 16 key.Stage keyed) _ (λ stages stages_said.
    after (AreSaid keyed) t (rows_or_none (withhold_of root) 64 key.Withhold keyed) _ (λ withholds _.
    after (AreSaid keyed) t (rows_or_none (kill_of root) 16 key.Kill keyed) _ (λ kills _.
    after (AreSaid keyed) t (further_services root keyed) _ (λ services services_said made.
    subst (AreSaid keyed) (ok_same _ t made) (record {
      root = root_said;
      shards = rows_some (shard_of root) 16 key.Shard keyed shards shards_said;
      pipes = rows_some (pipe_of root) 16 key.Pipe keyed pipes pipes_said;
      stages = rows_there (stage_of root) 16 key.Stage keyed stages stages_said;
      services = are_further root keyed services services_said;
    }))))))))
