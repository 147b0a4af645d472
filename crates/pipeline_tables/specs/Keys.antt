-- The keys of a pipeline file.
use Rattle.std.specs.Prelude.{ℕ, Bool, true, ◌&&◌, List, codes, Option, Result, Ok, Err, cond}
use Rattle.std.specs.List.{list_any}
use Rattle.std.specs.Str.{bytes_eq}
use Rattle.toml.specs.Data.{Data, Members, no_members, member, get_member}
use Rattle.pipeline_tables.specs.declared.fault.FaultKind.TheVariants.{UnknownKey}
use Rattle.pipeline_tables.specs.declared.fault.Table.{Table}
use Rattle.pipeline_tables.specs.declared.fault.FileKey.{FileKey}
use Rattle.pipeline_tables.specs.declared.fault.FileKey.TheVariants as key
use Rattle.pipeline_tables.specs.declared.fault.FileFault.{FileFault}
use Rattle.pipeline_tables.specs.Faults.{key_place, fault}

-- how a key is written
unfoldable pub word_of : FileKey → List ℕ
word_of key.Absent = codes ""
word_of key.Unknown = codes "?"
word_of key.Tries = codes "tries"
word_of key.MaxSteps = codes "max_steps"
word_of key.EarliestEnd = codes "earliest_end"
word_of key.Replicas = codes "replicas"
word_of key.Registers = codes "registers"
word_of key.Drivers = codes "drivers"
word_of key.Shard = codes "shard"
word_of key.Pipe = codes "pipe"
word_of key.Stage = codes "stage"
word_of key.Withhold = codes "withhold"
word_of key.Kill = codes "kill"
word_of key.Service = codes "service"
word_of key.Name = codes "name"
word_of key.Kind = codes "kind"
word_of key.Keys = codes "keys"
word_of key.From = codes "from"
word_of key.To = codes "to"
word_of key.Capacity = codes "capacity"
word_of key.Script = codes "script"
word_of key.Target = codes "target"
word_of key.Count = codes "count"
word_of key.Act = codes "act"

-- the value at a key, if it is there
abbrev pub value_at : FileKey → Members → Option Data
value_at key members = get_member (word_of key) members

-- whether a written key is one of these
abbrev pub is_one_of : List FileKey → List ℕ → Bool
is_one_of keys text = list_any (λ key. bytes_eq (word_of key) text) keys

-- whether a table has these keys alone
unfoldable pub has_only : List FileKey → Members → Bool
has_only keys no_members = true
has_only keys (member text value members) = is_one_of keys text && has_only keys members

-- UnknownKey where a table has another key than these
abbrev pub only_keys : List FileKey → Table → ℕ → Members → Result (Unit {0}) FileFault
only_keys keys table number members = cond (has_only keys members) (Ok tt) (Err (fault UnknownKey (key_place table number key.Unknown)))
