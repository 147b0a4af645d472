-- The tables of names hold the names of the file in file order, and there is a home for each key and a service for each register.
use Rattle.std.specs.Prelude.{◌≡◌, List, [], ◌∷◌, ◌++◌, length, map}
use Rattle.pipeline_tables.specs.declared.tables.FileTables.{FileTables}
use Rattle.pipeline_file.specs.NameTables.{all_declared}

-- what these rows hold, one behind another
abbrev pub flat : {A B : Type 0} → (A → List B) → List A → List B
flat holds [] = []
flat holds (row ∷ rows) = holds row ++ flat holds rows

-- the tables of names against the tables of the file
pub record InFileOrder (t : FileTables) : Type 0 where
  pub shards : (all_declared t).known.shards ≡ map (λ s. s.name) t.shards
  pub stages : (all_declared t).known.stages ≡ map (λ s. s.name) t.stages
  pub pipes : (all_declared t).pipes ≡ map (λ p. p.name) t.pipes
  pub registers : (all_declared t).registers ≡ t.root.registers ++ flat (λ s. s.registers) t.services
  pub keys : (all_declared t).keys ≡ flat (λ s. s.keys) t.shards
  pub homes : length (all_declared t).homes ≡ length (all_declared t).keys
  pub owners : length (all_declared t).register_services ≡ length (all_declared t).registers

-- each file's are
abbrev pub TablesAreInFileOrder : Type 0
TablesAreInFileOrder = (t : FileTables) → InFileOrder t
