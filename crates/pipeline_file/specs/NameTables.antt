-- What a file declares: its services and the tables of its names.
use Rattle.std.specs.Prelude.{Result, Ok}
use Rattle.pipeline_tables.specs.declared.fault.FileFault.{FileFault}
use Rattle.pipeline_tables.specs.declared.tables.FileTables.{FileTables}
use Rattle.pipeline_tables.specs.Faults.{◌>>=◌}
use Rattle.pipeline_file.specs.declared.declaration.NameKind.TheVariants as kind
use Rattle.pipeline_file.specs.declared.declared_names.Declared.{Declared}
use Rattle.pipeline_file.specs.Declarations.{declarations}
use Rattle.pipeline_file.specs.Doubles.{no_doubles, names_of}
use Rattle.pipeline_file.specs.Services.{services_of, register_services, homes_from}

-- what a file declares
unfoldable pub all_declared : FileTables → Declared
all_declared t = record {
  known = record {
    services = services_of t;
    shards = names_of kind.Shard (declarations t);
    stages = names_of kind.Stage (declarations t);
  };
  registers = names_of kind.Register (declarations t);
  register_services = register_services t;
  keys = names_of kind.Key (declarations t);
  homes = homes_from 1 t.shards;
  pipes = names_of kind.Pipe (declarations t);
}

-- what a file declares, where no name is declared twice
unfoldable pub declared_of : FileTables → Result Declared FileFault
declared_of t = no_doubles (declarations t) >>= λ alone. Ok (all_declared t)
