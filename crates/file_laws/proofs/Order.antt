-- the names of each kind, in file order
use Rattle.std.proofs.Common.{◌≡◌, ℕ, suc, ◌+◌, Bool, true, false, cond, List, [], ◌∷◌, ◌++◌, length, map, refl, ap, ◌∙◌, sym, append-nil}
use Rattle.std.proofs.lemmas.List.{length-append}
use Rattle.rss_names.specs.declared.service.ServiceId.TheVariants as id
use Rattle.pipeline_tables.specs.declared.fault.Place.{Place}
use Rattle.pipeline_tables.specs.declared.fault.Table.TheVariants as table
use Rattle.pipeline_tables.specs.declared.fault.FileKey.TheVariants as key
use Rattle.pipeline_tables.specs.Faults.{key_place}
use Rattle.pipeline_tables.specs.declared.tables.PipeTable.{PipeTable}
use Rattle.pipeline_tables.specs.declared.tables.StageTable.{StageTable}
use Rattle.pipeline_tables.specs.declared.tables.KillTable.{KillTable}
use Rattle.pipeline_tables.specs.declared.tables.FileTables.{FileTables}
use Rattle.pipeline_tables.specs.declared.tables.ShardTable.{ShardTable}
use Rattle.pipeline_tables.specs.declared.tables.ServiceTable.{ServiceTable}
use Rattle.pipeline_file.specs.declared.declaration.NameKind.{NameKind}
use Rattle.pipeline_file.specs.declared.declaration.NameKind.TheVariants as kind
use Rattle.pipeline_file.specs.declared.declaration.Declaration.{Declaration}
use Rattle.pipeline_file.specs.Declarations.{declare, declare_all, gather, built_in, service_declares, shard_declares, pipe_declares, stage_declares, kill_declares, declarations}
use Rattle.pipeline_file.specs.Doubles.{same_kind, names_of}
use Rattle.pipeline_file.specs.Services.{for_each, further_one, next_txn, next_reg, owners_from, register_services, homes_from}
use Rattle.pipeline_file.specs.NameTables.{all_declared}
use Rattle.file_laws.specs.FileOrder.{flat, TablesAreInFileOrder}

-- names of lists behind one another
one_more : (t : Bool) (x : List ℕ) (xs ys : List (List ℕ)) → cond t (x ∷ (xs ++ ys)) (xs ++ ys) ≡ cond t (x ∷ xs) xs ++ ys
one_more true x xs ys = refl
one_more false x xs ys = refl

names_of_append : (k : NameKind) (xs ys : List Declaration) → names_of k (xs ++ ys) ≡ names_of k xs ++ names_of k ys
unfolding names_of
names_of_append k [] ys = refl
names_of_append k (d ∷ ds) ys = ap (λ rest. cond (same_kind k d.kind) (d.name ∷ rest) rest) (names_of_append k ds ys) ∙ one_more (same_kind k d.kind) d.name (names_of k ds) (names_of k ys)

-- names that were declared with one kind
same_all : (k j : NameKind) (p : Place) (names : List (List ℕ)) → same_kind k j ≡ true → names_of k (declare_all j p names) ≡ names
unfolding names_of
same_all k j p [] h = refl
same_all k j p (n ∷ ns) h = rw h (ap (λ rest. n ∷ rest) (same_all k j p ns h))

other_all : (k j : NameKind) (p : Place) (names : List (List ℕ)) → same_kind k j ≡ false → names_of k (declare_all j p names) ≡ []
unfolding names_of
other_all k j p [] h = refl
other_all k j p (n ∷ ns) h = rw h (other_all k j p ns h)

-- names of what tables declare
names_gather : {A : Type 0} (k : NameKind) (declares : ℕ → A → List Declaration) (holds : A → List (List ℕ)) → ((n : ℕ) (row : A) → names_of k (declares n row) ≡ holds row) → (n : ℕ) (rows : List A) → names_of k (gather declares n rows) ≡ flat holds rows
unfolding names_of
names_gather k declares holds h n [] = refl
names_gather k declares holds h n (row ∷ rows) = names_of_append k (declares n row) (gather declares (n + 1) rows) ∙ ap (λ front. front ++ names_of k (gather declares (n + 1) rows)) (h n row) ∙ ap (λ rest. holds row ++ rest) (names_gather k declares holds h (n + 1) rows)

-- rows that hold nothing, or one name
flat_none : {A : Type 0} (rows : List A) → flat {B = List ℕ} (λ row. []) rows ≡ []
flat_none [] = refl
flat_none (row ∷ rows) = flat_none rows

flat_one : {A : Type 0} (name : A → List ℕ) (rows : List A) → flat (λ row. name row ∷ []) rows ≡ map name rows
flat_one name [] = refl
flat_one name (row ∷ rows) = ap (λ rest. name row ∷ rest) (flat_one name rows)

none_of : {A : Type 0} (k : NameKind) (declares : ℕ → A → List Declaration) → ((n : ℕ) (row : A) → names_of k (declares n row) ≡ []) → (n : ℕ) (rows : List A) → names_of k (gather declares n rows) ≡ []
none_of k declares h n rows = names_gather k declares (λ row. []) h n rows ∙ flat_none rows

-- the names of a kind in two parts
two : (k : NameKind) (a b : List Declaration) (ra rb : List (List ℕ)) → names_of k a ≡ ra → names_of k b ≡ rb → names_of k (a ++ b) ≡ ra ++ rb
two k a b ra rb ha hb = names_of_append k a b ∙ (ap (λ x. x ++ names_of k b) ha ∙ ap (λ x. ra ++ x) hb)

-- the names of a kind in seven parts
seven : (k : NameKind) (a b c d e f g : List Declaration) (ra rb rc rd re rf rg : List (List ℕ)) → names_of k a ≡ ra → names_of k b ≡ rb → names_of k c ≡ rc → names_of k d ≡ rd → names_of k e ≡ re → names_of k f ≡ rf → names_of k g ≡ rg → names_of k (a ++ b ++ c ++ d ++ e ++ f ++ g) ≡ ra ++ rb ++ rc ++ rd ++ re ++ rf ++ rg
seven k a b c d e f g ra rb rc rd re rf rg ha hb hc hd he hf hg =
    two k (a ++ b ++ c ++ d ++ e ++ f) g (ra ++ rb ++ rc ++ rd ++ re ++ rf) rg (two k (a ++ b ++ c ++ d ++ e) f (ra ++ rb ++ rc ++ rd ++ re) rf (two k (a ++ b ++ c ++ d) e (ra ++ rb ++ rc ++ rd) re (two k (a ++ b ++ c) d (ra ++ rb ++ rc) rd (two k (a ++ b) c (ra ++ rb) rc (two k a b ra rb ha hb) hc) hd) he) hf) hg

-- what each table declares of a kind
service_registers : (n : ℕ) (t : ServiceTable) → names_of kind.Register (service_declares n t) ≡ t.registers
unfolding names_of
service_registers n t = two kind.Register (declare_all kind.Register (key_place table.Service n key.Registers) t.registers) (declare kind.Service (key_place table.Service n key.Name) t.name ∷ []) t.registers [] (same_all kind.Register kind.Register (key_place table.Service n key.Registers) t.registers refl) refl ∙ append-nil t.registers

service_other : (k : NameKind) → same_kind k kind.Register ≡ false → same_kind k kind.Service ≡ false → (n : ℕ) (t : ServiceTable) → names_of k (service_declares n t) ≡ []
unfolding names_of
service_other k r s n t = two k _ _ [] [] (other_all k kind.Register (key_place table.Service n key.Registers) t.registers r) (rw s refl)

shard_name : (n : ℕ) (t : ShardTable) → names_of kind.Shard (shard_declares n t) ≡ t.name ∷ []
unfolding names_of
shard_name n t = ap (λ rest. t.name ∷ rest) (other_all kind.Shard kind.Key (key_place table.Shard n key.Keys) t.keys refl)

shard_keys : (n : ℕ) (t : ShardTable) → names_of kind.Key (shard_declares n t) ≡ t.keys
unfolding names_of
shard_keys n t = same_all kind.Key kind.Key (key_place table.Shard n key.Keys) t.keys refl

shard_other : (k : NameKind) → same_kind k kind.Shard ≡ false → same_kind k kind.Key ≡ false → (n : ℕ) (t : ShardTable) → names_of k (shard_declares n t) ≡ []
unfolding names_of
shard_other k s y n t = rw s (other_all k kind.Key (key_place table.Shard n key.Keys) t.keys y)

pipe_name : (n : ℕ) (t : PipeTable) → names_of kind.Pipe (pipe_declares n t) ≡ t.name ∷ []
unfolding names_of
pipe_name n t = refl

pipe_other : (k : NameKind) → same_kind k kind.Pipe ≡ false → (n : ℕ) (t : PipeTable) → names_of k (pipe_declares n t) ≡ []
unfolding names_of
pipe_other k h n t = rw h refl

stage_name : (n : ℕ) (t : StageTable) → names_of kind.Stage (stage_declares n t) ≡ t.name ∷ []
unfolding names_of
stage_name n t = refl

stage_other : (k : NameKind) → same_kind k kind.Stage ≡ false → (n : ℕ) (t : StageTable) → names_of k (stage_declares n t) ≡ []
unfolding names_of
stage_other k h n t = rw h refl

kill_other : (k : NameKind) → same_kind k kind.Killed ≡ false → (n : ℕ) (t : KillTable) → names_of k (kill_declares n t) ≡ []
unfolding names_of
kill_other k h n t = rw h refl

built_other : (k : NameKind) → same_kind k kind.Service ≡ false → names_of k built_in ≡ []
unfolding names_of
built_other k h = rw h refl

-- the names of each kind
stages : (t : FileTables) → names_of kind.Stage (declarations t) ≡ map (λ s. s.name) t.stages
unfolding declarations
stages t = seven kind.Stage _ _ _ _ _ _ _ [] [] [] [] [] (map (λ s. s.name) t.stages) []
    (built_other kind.Stage refl) (other_all kind.Stage kind.Register _ t.root.registers refl) (none_of kind.Stage service_declares (service_other kind.Stage refl refl) 1 t.services)
    (none_of kind.Stage shard_declares (shard_other kind.Stage refl refl) 1 t.shards) (none_of kind.Stage pipe_declares (pipe_other kind.Stage refl) 1 t.pipes)
    (names_gather kind.Stage stage_declares (λ s. s.name ∷ []) stage_name 1 t.stages ∙ flat_one (λ s. s.name) t.stages) (none_of kind.Stage kill_declares (kill_other kind.Stage refl) 1 t.kills)
    ∙ append-nil (map (λ s. s.name) t.stages)

pipes : (t : FileTables) → names_of kind.Pipe (declarations t) ≡ map (λ p. p.name) t.pipes
unfolding declarations
pipes t = seven kind.Pipe _ _ _ _ _ _ _ [] [] [] [] (map (λ p. p.name) t.pipes) [] []
    (built_other kind.Pipe refl) (other_all kind.Pipe kind.Register _ t.root.registers refl) (none_of kind.Pipe service_declares (service_other kind.Pipe refl refl) 1 t.services)
    (none_of kind.Pipe shard_declares (shard_other kind.Pipe refl refl) 1 t.shards) (names_gather kind.Pipe pipe_declares (λ p. p.name ∷ []) pipe_name 1 t.pipes ∙ flat_one (λ p. p.name) t.pipes)
    (none_of kind.Pipe stage_declares (stage_other kind.Pipe refl) 1 t.stages) (none_of kind.Pipe kill_declares (kill_other kind.Pipe refl) 1 t.kills)
    ∙ (append-nil (map (λ p. p.name) t.pipes ++ []) ∙ append-nil (map (λ p. p.name) t.pipes))

shards : (t : FileTables) → names_of kind.Shard (declarations t) ≡ map (λ s. s.name) t.shards
unfolding declarations
shards t = seven kind.Shard _ _ _ _ _ _ _ [] [] [] (map (λ s. s.name) t.shards) [] [] []
    (built_other kind.Shard refl) (other_all kind.Shard kind.Register _ t.root.registers refl) (none_of kind.Shard service_declares (service_other kind.Shard refl refl) 1 t.services)
    (names_gather kind.Shard shard_declares (λ s. s.name ∷ []) shard_name 1 t.shards ∙ flat_one (λ s. s.name) t.shards) (none_of kind.Shard pipe_declares (pipe_other kind.Shard refl) 1 t.pipes)
    (none_of kind.Shard stage_declares (stage_other kind.Shard refl) 1 t.stages) (none_of kind.Shard kill_declares (kill_other kind.Shard refl) 1 t.kills)
    ∙ (append-nil (map (λ s. s.name) t.shards ++ [] ++ []) ∙ (append-nil (map (λ s. s.name) t.shards ++ []) ∙ append-nil (map (λ s. s.name) t.shards)))

keys : (t : FileTables) → names_of kind.Key (declarations t) ≡ flat (λ s. s.keys) t.shards
unfolding declarations
keys t = seven kind.Key _ _ _ _ _ _ _ [] [] [] (flat (λ s. s.keys) t.shards) [] [] []
    (built_other kind.Key refl) (other_all kind.Key kind.Register _ t.root.registers refl) (none_of kind.Key service_declares (service_other kind.Key refl refl) 1 t.services)
    (names_gather kind.Key shard_declares (λ s. s.keys) shard_keys 1 t.shards) (none_of kind.Key pipe_declares (pipe_other kind.Key refl) 1 t.pipes)
    (none_of kind.Key stage_declares (stage_other kind.Key refl) 1 t.stages) (none_of kind.Key kill_declares (kill_other kind.Key refl) 1 t.kills)
    ∙ (append-nil (flat (λ s. s.keys) t.shards ++ [] ++ []) ∙ (append-nil (flat (λ s. s.keys) t.shards ++ []) ∙ append-nil (flat (λ s. s.keys) t.shards)))

registers : (t : FileTables) → names_of kind.Register (declarations t) ≡ t.root.registers ++ flat (λ s. s.registers) t.services
unfolding declarations
registers t = let all = t.root.registers ++ flat (λ s. s.registers) t.services in
    seven kind.Register _ _ _ _ _ _ _ [] t.root.registers (flat (λ s. s.registers) t.services) [] [] [] []
    (built_other kind.Register refl) (same_all kind.Register kind.Register _ t.root.registers refl) (names_gather kind.Register service_declares (λ s. s.registers) service_registers 1 t.services)
    (none_of kind.Register shard_declares (shard_other kind.Register refl refl) 1 t.shards) (none_of kind.Register pipe_declares (pipe_other kind.Register refl) 1 t.pipes)
    (none_of kind.Register stage_declares (stage_other kind.Register refl) 1 t.stages) (none_of kind.Register kill_declares (kill_other kind.Register refl) 1 t.kills)
    ∙ (append-nil (all ++ [] ++ [] ++ []) ∙ (append-nil (all ++ [] ++ []) ∙ (append-nil (all ++ []) ∙ append-nil all)))

-- one owner for each name
length_each : {A : Type 0} (owner : A) (names : List (List ℕ)) → length (for_each owner names) ≡ length names
unfolding for_each
length_each owner [] = refl
length_each owner (n ∷ ns) = ap suc (length_each owner ns)

homes_length : (n : ℕ) (ss : List ShardTable) → length (homes_from n ss) ≡ length (flat (λ s. s.keys) ss)
unfolding homes_from
homes_length n [] = refl
homes_length n (s ∷ ss) = length-append (for_each n s.keys) (homes_from (n + 1) ss) ∙ (ap (λ m. m + length (homes_from (n + 1) ss)) (length_each n s.keys) ∙ (ap (λ m. length s.keys + m) (homes_length (n + 1) ss) ∙ sym (length-append s.keys (flat (λ r. r.keys) ss))))

owners_length : (txn reg : ℕ) (ts : List ServiceTable) → length (owners_from txn reg ts) ≡ length (flat (λ s. s.registers) ts)
unfolding owners_from
owners_length txn reg [] = refl
owners_length txn reg (t ∷ ts) = length-append (for_each (further_one txn reg t).id t.registers) (owners_from (next_txn txn t.kind) (next_reg reg t.kind) ts) ∙ (ap (λ m. m + length (owners_from (next_txn txn t.kind) (next_reg reg t.kind) ts)) (length_each (further_one txn reg t).id t.registers) ∙ (ap (λ m. length t.registers + m) (owners_length (next_txn txn t.kind) (next_reg reg t.kind) ts) ∙ sym (length-append t.registers (flat (λ r. r.registers) ts))))

services_length : (t : FileTables) → length (register_services t) ≡ length (t.root.registers ++ flat (λ s. s.registers) t.services)
unfolding register_services
services_length t = length-append (for_each (id.Reg 1) t.root.registers) (owners_from 2 2 t.services) ∙ (ap (λ m. m + length (owners_from 2 2 t.services)) (length_each (id.Reg 1) t.root.registers) ∙ (ap (λ m. length t.root.registers + m) (owners_length 2 2 t.services) ∙ sym (length-append t.root.registers (flat (λ s. s.registers) t.services))))

pub tables_are_in_file_order : TablesAreInFileOrder
unfolding all_declared
tables_are_in_file_order t = record {
  shards = shards t;
  stages = stages t;
  pipes = pipes t;
  registers = registers t;
  keys = keys t;
  homes = homes_length 1 t.shards ∙ sym (ap length (keys t));
  owners = services_length t ∙ sym (ap length (registers t));
}
