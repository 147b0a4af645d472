-- the shards of a document: at most sixteen, a service for each, and one of them is the home of each key
use Rattle.std.proofs.Common.{◌≡◌, ℕ, suc, ◌+◌, ◌≤◌, List, [], ◌∷◌, length, Result, Ok, ap, sym, subst, ◌∙◌, arith}
use Rattle.toml.specs.Data.{Items, no_items, item, Members}
use Rattle.pipeline_tables.specs.declared.fault.FileKey.TheVariants as key
use Rattle.pipeline_tables.specs.declared.fault.FileFault.{FileFault}
use Rattle.pipeline_tables.specs.declared.fault.Place.{Place}
use Rattle.pipeline_tables.specs.declared.tables.FileTables.{FileTables}
use Rattle.pipeline_tables.specs.declared.tables.RootTable.{RootTable}
use Rattle.pipeline_tables.specs.declared.tables.ShardTable.{ShardTable}
use Rattle.pipeline_tables.specs.Lists.{item_count, tables_or_none, row_in, rows_from}
use Rattle.pipeline_tables.specs.Rows.{root_of, shard_of, pipe_of, stage_of, withhold_of, kill_of}
use Rattle.pipeline_tables.specs.Services.{array_place, rows_or_none, rows_at, further_services, tables_said}
use Rattle.pipeline_file.specs.declared.resolve.Known.{Known}
use Rattle.pipeline_file.specs.declared.resolve.Resolved.{Resolved}
use Rattle.pipeline_file.specs.Resolve.{shard_service, pipe_ends, withhold_said, kill_said, each_from, no_loops, resolved_of}
use Rattle.pipeline_file.specs.Services.{for_each, homes_from}
use Rattle.file_laws.proofs.Each.{Each, each_append}
use Rattle.file_laws.proofs.Went.{ok_same, went, went_onto, after}
use Rattle.file_laws.proofs.Limits.{few_tables}

-- as many rows as tables
pub rows_many : {A : Type 0} (says : ℕ → Members → Result A FileFault) (at : Place) (n : ℕ) (items : Items) (rows : List A) → rows_from says at n items ≡ Ok rows → length rows ≡ item_count items
unfolding rows_from item_count
rows_many says at n no_items rows h = sym (ap length (ok_same [] rows h))
rows_many says at n (item value items) rows h =
    let row = went (row_in says at n value) _ rows h in
    let rest = went_onto row.0 (rows_from says at (n + 1) items) rows row.1.1 in
    sym (ap length rest.1.1) ∙ ap suc (rows_many says at (n + 1) items rest.0 rest.1.0)

-- the shards of a document
abbrev pub HasFewShards : FileTables → Type 0
HasFewShards t = length t.shards ≤ 16

few_rows : (root : RootTable) (keyed : Members) (shards : List ShardTable) → rows_or_none (shard_of root) 16 key.Shard keyed ≡ Ok shards → length shards ≤ 16
unfolding rows_or_none
few_rows root keyed shards h =
    let items = went (tables_or_none 16 (array_place key.Shard) keyed) (rows_from (shard_of root) (array_place key.Shard) 1) shards h in
    subst (λ (n : ℕ). n ≤ 16) (sym (rows_many (shard_of root) (array_place key.Shard) 1 items.0 shards items.1.1)) (few_tables 16 (array_place key.Shard) keyed items.0 items.1.0)

pub shards_few : (keyed : Members) (t : FileTables) → tables_said keyed ≡ Ok t → HasFewShards t
unfolding tables_said
shards_few keyed t = after HasFewShards t (root_of keyed) _ (λ root _.
    after HasFewShards t (rows_or_none (shard_of root) 16 key.Shard keyed) _ (λ shards said.
    after HasFewShards t (rows_or_none (pipe_of root) 16 key.Pipe keyed) _ (λ pipes _.
    after HasFewShards t (rows_at (stage_of root) 16 key.Stage keyed) _ (λ stages _.
    after HasFewShards t (rows_or_none (withhold_of root) 64 key.Withhold keyed) _ (λ withholds _.
    after HasFewShards t (rows_or_none (kill_of root) 16 key.Kill keyed) _ (λ kills _.
    after HasFewShards t (further_services root keyed) _ (λ services _ made.
    subst HasFewShards (ok_same _ t made) (few_rows root keyed shards said))))))))

-- as many meanings as rows
pub meanings_many : {A B : Type 0} (means : ℕ → A → Result B FileFault) (n : ℕ) (rows : List A) (meanings : List B) → each_from means n rows ≡ Ok meanings → length meanings ≡ length rows
unfolding each_from
meanings_many means n [] meanings h = sym (ap length (ok_same [] meanings h))
meanings_many means n (row ∷ rows) meanings h =
    let meaning = went (means n row) _ meanings h in
    let rest = went_onto meaning.0 (each_from means (n + 1) rows) meanings meaning.1.1 in
    sym (ap length rest.1.1) ∙ ap suc (meanings_many means (n + 1) rows rest.0 rest.1.0)

-- each shard has a service
abbrev HasServices : FileTables → Resolved → Type 0
HasServices t r = length r.shard_services ≡ length t.shards

pub shards_served : (known : Known) (t : FileTables) (r : Resolved) → resolved_of known t ≡ Ok r → HasServices t r
unfolding resolved_of
shards_served known t r = after (HasServices t) r (each_from (shard_service known) 1 t.shards) _ (λ services said.
    after (HasServices t) r (each_from (pipe_ends known) 1 t.pipes) _ (λ ends _.
    after (HasServices t) r (each_from (withhold_said known) 1 t.withholds) _ (λ withholds _.
    after (HasServices t) r (each_from (kill_said known) 1 t.kills) _ (λ kills _.
    after (HasServices t) r (no_loops 1 ends) _ (λ shaped _ made.
    subst (HasServices t) (ok_same _ r made) (meanings_many (shard_service known) 1 t.shards services said))))))

-- the number of one of so many shards
pub record IsHome (most home : ℕ) : Type 0 where
  pub first : 1 ≤ home
  pub last : home ≤ most

homes_for : (most home : ℕ) (names : List (List ℕ)) → IsHome most home → Each (IsHome most) (for_each home names)
unfolding for_each
homes_for most home [] h = tt
homes_for most home (name ∷ names) h = (h, homes_for most home names h)

homes_within : (most n : ℕ) (ss : List ShardTable) → 1 ≤ n → n + length ss ≤ most + 1 → Each (IsHome most) (homes_from n ss)
unfolding homes_from
homes_within most n [] first few = tt
homes_within most n (s ∷ ss) first few =
    each_append (IsHome most) (for_each n s.keys) (homes_from (n + 1) ss)
    (homes_for most n s.keys (record { first = first; last = omega (arith, few) }))
    (homes_within most (n + 1) ss (omega arith) (omega (arith, few)))

pub homes_among : (t : FileTables) → Each (IsHome (length t.shards)) (homes_from 1 t.shards)
homes_among t = homes_within (length t.shards) 1 t.shards (omega arith) (omega arith)
