-- The configuration that a pipeline file says, or its first fault.
use Rattle.std.specs.Prelude.{ℕ, nat_le, List, length, Option, Some, None, Result, Ok, Err, cond}
use Rattle.std.specs.Option.{unwrap_or}
use Rattle.std.specs.Str.{is_utf8}
use Rattle.toml.specs.Data.{Members}
use Rattle.toml.specs.Parse.{parse_document}
use Rattle.pipeline_lang.specs.declared.config.Body.{Body}
use Rattle.pipeline_lang.specs.declared.config.Config.{Config}
use Rattle.pipeline_tables.specs.declared.fault.FaultKind.TheVariants as kind
use Rattle.pipeline_tables.specs.declared.fault.Table.TheVariants as table
use Rattle.pipeline_tables.specs.declared.fault.FileKey.TheVariants as key
use Rattle.pipeline_tables.specs.declared.fault.Place.{Place}
use Rattle.pipeline_tables.specs.declared.fault.FileFault.{FileFault}
use Rattle.pipeline_tables.specs.declared.tables.FileTables.{FileTables}
use Rattle.pipeline_tables.specs.Faults.{◌>>=◌, key_place, fault}
use Rattle.pipeline_tables.specs.Services.{tables_said}
use Rattle.pipeline_file.specs.declared.declared_names.Declared.{Declared}
use Rattle.pipeline_file.specs.declared.resolve.Resolved.{Resolved}
use Rattle.pipeline_file.specs.NameTables.{declared_of}
use Rattle.pipeline_file.specs.Resolve.{resolved_of}
use Rattle.pipeline_file.specs.Scripts.{bodies_of}

-- the whole file
abbrev pub whole : Place
whole = key_place table.File 0 key.Absent

-- a file of at most 1,048,576 bytes
abbrev pub short : List ℕ → Result (Unit {0}) FileFault
short bytes = cond (nat_le (length bytes) 1048576) (Ok tt) (Err (fault kind.OverLimit whole))

-- a document that is there
abbrev pub some_document : Option Members → Result Members FileFault
some_document (Some members) = Ok members
some_document None = Err (fault kind.NotToml whole)

-- the TOML document that bytes are
unfoldable pub document_of : List ℕ → Result Members FileFault
document_of bytes = some_document (cond (is_utf8 bytes) (parse_document bytes) None)

-- the configuration of these parts; drivers are as many as stages where the file tells no number
unfoldable pub assembled : FileTables → Declared → Resolved → List Body → Config
assembled t d r bodies = record {
  tries = t.root.tries;
  max_steps = t.root.max_steps;
  drivers = unwrap_or t.root.drivers (length t.stages);
  services = d.known.services;
  registers = d.registers;
  register_services = d.register_services;
  shards = d.known.shards;
  shard_services = r.shard_services;
  keys = d.keys;
  homes = d.homes;
  pipes = d.pipes;
  pipe_ends = r.pipe_ends;
  stages = d.known.stages;
  bodies = bodies;
  withholds = r.withholds;
  kills = r.kills;
}

-- what tables say: names are declared once, then they mean something, then scripts are read and summed
unfoldable pub tables_mean : FileTables → Result Config FileFault
tables_mean t = do
  declared ← declared_of t
  resolved ← resolved_of declared.known t
  bodies ← bodies_of declared resolved t.stages
  Ok (assembled t declared resolved bodies)

-- the configuration that a file says, or its first fault: its length, the document, its tables, what they mean
unfoldable pub config_of : List ℕ → Result Config FileFault
config_of bytes = do
  fits ← short bytes
  document ← document_of bytes
  tables ← tables_said document
  tables_mean tables
