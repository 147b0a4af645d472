-- Names that are declared twice.
use Rattle.std.specs.Prelude.{ℕ, Bool, true, false, List, [], ◌∷◌, ◌++◌, Option, Some, None, Result, Ok, Err, cond}
use Rattle.pipeline_lang.specs.Positions.{has_name}
use Rattle.pipeline_tables.specs.declared.fault.FaultKind.TheVariants.{DoubleName}
use Rattle.pipeline_tables.specs.declared.fault.Place.{Place}
use Rattle.pipeline_tables.specs.declared.fault.FileFault.{FileFault}
use Rattle.pipeline_tables.specs.Faults.{◌>>=◌, fault}
use Rattle.pipeline_file.specs.declared.declaration.NameKind.{NameKind}
use Rattle.pipeline_file.specs.declared.declaration.NameKind.TheVariants as kind
use Rattle.pipeline_file.specs.declared.declaration.NameSet.{NameSet}
use Rattle.pipeline_file.specs.declared.declaration.NameSet.TheVariants as set
use Rattle.pipeline_file.specs.declared.declaration.Declaration.{Declaration}

-- whether the names of a kind belong to a set
abbrev pub belongs : NameSet → NameKind → Bool
belongs set.Shared kind.Killed = false
belongs set.Shared kind.Service = false
belongs set.Shared other = true
belongs set.Killed kind.Killed = true
belongs set.Killed other = false
belongs set.Services kind.Service = true
belongs set.Services other = false

-- the place of the first declaration of a set whose name is among those or stands before it
unfoldable pub first_double : NameSet → List (List ℕ) → List Declaration → Option Place
first_double names seen [] = None
first_double names seen (d ∷ ds) = cond (belongs names d.kind) (cond (has_name d.name seen) (Some d.place) (first_double names (seen ++ d.name ∷ []) ds)) (first_double names seen ds)

-- a fault at a place, if there is one
abbrev pub double_fault : Option Place → Result (Unit {0}) FileFault
double_fault (Some place) = Err (fault DoubleName place)
double_fault None = Ok tt

-- no name of a set is declared twice: first the shared names, then the killed stages, then the services
unfoldable pub no_doubles : List Declaration → Result (Unit {0}) FileFault
no_doubles ds = do
  shared ← double_fault (first_double set.Shared [] ds)
  killed ← double_fault (first_double set.Killed [] ds)
  double_fault (first_double set.Services [] ds)

-- whether two kinds are the same
abbrev pub same_kind : NameKind → NameKind → Bool
same_kind kind.Register kind.Register = true
same_kind kind.Shard kind.Shard = true
same_kind kind.Key kind.Key = true
same_kind kind.Pipe kind.Pipe = true
same_kind kind.Stage kind.Stage = true
same_kind kind.Killed kind.Killed = true
same_kind kind.Service kind.Service = true
same_kind a b = false

-- the names of a kind, in the order of their declarations
unfoldable pub names_of : NameKind → List Declaration → List (List ℕ)
names_of k [] = []
names_of k (d ∷ ds) = cond (same_kind k d.kind) (d.name ∷ names_of k ds) (names_of k ds)
