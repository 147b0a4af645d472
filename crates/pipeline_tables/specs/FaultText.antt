-- How a fault and its place are written: `KIND PLACE`.
use Rattle.std.specs.Prelude.{ℕ, ◌==◌, List, [], ◌++◌, codes, cond}
use Rattle.std.specs.Fmt.{decimal}
use Rattle.pipeline_tables.specs.declared.fault.FaultKind.{FaultKind}
use Rattle.pipeline_tables.specs.declared.fault.FaultKind.TheVariants as kind
use Rattle.pipeline_tables.specs.declared.fault.Table.{Table}
use Rattle.pipeline_tables.specs.declared.fault.Table.TheVariants as table
use Rattle.pipeline_tables.specs.declared.fault.FileKey.{FileKey}
use Rattle.pipeline_tables.specs.declared.fault.FileKey.TheVariants as key
use Rattle.pipeline_tables.specs.declared.fault.Place.{Place}
use Rattle.pipeline_tables.specs.declared.fault.FileFault.{FileFault}
use Rattle.pipeline_tables.specs.Keys.{word_of}

-- the word of a kind
unfoldable pub kind_word : FaultKind → List ℕ
kind_word kind.OverLimit = codes "OverLimit"
kind_word kind.NotToml = codes "NotToml"
kind_word kind.UnknownKey = codes "UnknownKey"
kind_word kind.MissingKey = codes "MissingKey"
kind_word kind.WrongKind = codes "WrongKind"
kind_word kind.DoubleName = codes "DoubleName"
kind_word kind.UnknownName = codes "UnknownName"
kind_word kind.ServiceShape = codes "ServiceShape"
kind_word kind.PipeShape = codes "PipeShape"
kind_word kind.Syntax = codes "Syntax"
kind_word kind.SpawnShape = codes "SpawnShape"

-- a table of an array, by its word and its number
abbrev pub numbered : FileKey → ℕ → List ℕ
numbered key number = word_of key ++ codes "." ++ decimal number ++ codes "."

-- what stands before the key: nothing at the root
unfoldable pub table_text : Table → ℕ → List ℕ
table_text table.File number = codes "file"
table_text table.Root number = []
table_text table.Shard number = numbered key.Shard number
table_text table.Pipe number = numbered key.Pipe number
table_text table.Stage number = numbered key.Stage number
table_text table.Withhold number = numbered key.Withhold number
table_text table.Kill number = numbered key.Kill number
table_text table.Service number = numbered key.Service number

-- the place in a script; nothing where the fault is in no statement
unfoldable pub statement_text : ℕ → ℕ → List ℕ
statement_text statement column = cond (statement == 0) [] (codes " statement " ++ decimal statement ++ codes " column " ++ decimal column)

-- a place: `file`, a key of the root, or `table.number.key`, and the place in a script
unfoldable pub place_text : Place → List ℕ
place_text at = table_text at.table at.number ++ word_of at.key ++ statement_text at.statement at.column

-- a fault and its place
unfoldable pub fault_text : FileFault → List ℕ
fault_text f = kind_word f.kind ++ codes " " ++ place_text f.place
