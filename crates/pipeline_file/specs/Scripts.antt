-- The scripts of a file: each is read and its names are bound, stage by stage; then what they do is summed.
use Rattle.std.specs.Prelude.{ℕ, ◌+◌, List, [], ◌∷◌, ◌++◌, Result, Ok, Err, cond}
use Rattle.pipeline_lang.specs.declared.config.Body.{Body}
use Rattle.pipeline_lang.specs.Statements.{Raw}
use Rattle.pipeline_lang.specs.Scripts.{Place as ScriptPlace, script_of}
use Rattle.pipeline_lang.specs.Tokens.{token_column}
use Rattle.script_binding.specs.declared.fault.ScriptFault.{ScriptFault}
use Rattle.script_binding.specs.declared.fault.ScriptFaultKind.{ScriptFaultKind}
use Rattle.script_binding.specs.declared.fault.ScriptFaultKind.TheVariants as script
use Rattle.script_binding.specs.declared.tally.Tally.{Tally}
use Rattle.script_binding.specs.Counts.{nothing, tallied, is_within}
use Rattle.script_binding.specs.Environment.{Bound, spawned_in}
use Rattle.script_binding.specs.Naming.{Naming}
use Rattle.script_binding.specs.Outcome.{outcome}
use Rattle.pipeline_tables.specs.declared.fault.FaultKind.{FaultKind}
use Rattle.pipeline_tables.specs.declared.fault.FaultKind.TheVariants as kind
use Rattle.pipeline_tables.specs.declared.fault.Table.TheVariants as table
use Rattle.pipeline_tables.specs.declared.fault.FileKey.TheVariants as key
use Rattle.pipeline_tables.specs.declared.fault.Place.{Place}
use Rattle.pipeline_tables.specs.declared.fault.FileFault.{FileFault}
use Rattle.pipeline_tables.specs.declared.tables.StageTable.{StageTable}
use Rattle.pipeline_tables.specs.Faults.{◌>>=◌, fault}
use Rattle.pipeline_tables.specs.Lists.{onto}
use Rattle.pipeline_file.specs.declared.declared_names.Declared.{Declared}
use Rattle.pipeline_file.specs.declared.resolve.Resolved.{Resolved}

-- a place in the script of a stage
abbrev pub script_place : ℕ → ℕ → ℕ → Place
script_place n statement column = record { table = table.Stage; number = n; key = key.Script; statement = statement; column = column }

-- the kind of a script's fault
abbrev pub kind_of : ScriptFaultKind → FaultKind
kind_of script.OverLimit = kind.OverLimit
kind_of script.UnknownName = kind.UnknownName
kind_of script.ServiceShape = kind.ServiceShape
kind_of script.DoubleName = kind.DoubleName
kind_of script.SpawnShape = kind.SpawnShape
kind_of script.PipeShape = kind.PipeShape

-- the script that was read, or its first token that cannot stand
abbrev pub syntax : ℕ → Result (List Raw) ScriptPlace → Result (List Raw) FileFault
syntax n (Ok raw) = Ok raw
syntax n (Err at) = Err (fault kind.Syntax (script_place n at.statement at.column))

-- the script that was bound, or its first fault, at the column of its token
abbrev pub bound_or : ℕ → List ℕ → Result (List Bound) ScriptFault → Result (List Bound) FileFault
bound_or n text (Ok script) = Ok script
bound_or n text (Err f) = Err (fault (kind_of f.kind) (script_place n f.statement (token_column text f.statement f.token)))

-- what the names in the script of a stage can mean, where earlier scripts spawn these stages
abbrev pub naming_of : Declared → Resolved → ℕ → List ℕ → Naming
naming_of d r n spawned = record {
  registers = d.registers;
  register_services = d.register_services;
  keys = d.keys;
  homes = d.homes;
  shard_services = r.shard_services;
  stages = d.known.stages;
  pipes = d.pipes;
  pipe_ends = r.pipe_ends;
  stage = n;
  spawned = spawned;
}

-- the script of a stage
unfoldable pub script_said : Declared → Resolved → ℕ → List ℕ → List ℕ → Result (List Bound) FileFault
script_said d r n spawned text = syntax n (script_of text) >>= λ raw. bound_or n text (outcome (naming_of d r n spawned) raw)

-- what the stages run; the first has this number, and earlier scripts spawn these stages
unfoldable pub bodies_from : Declared → Resolved → ℕ → List ℕ → List StageTable → Result (List Body) FileFault
bodies_from d r n spawned [] = Ok []
bodies_from d r n spawned (t ∷ ts) = script_said d r n spawned t.script >>= λ script. onto (record { script = script; earliest_end = t.earliest_end } ∷ []) (bodies_from d r (n + 1) (spawned ++ spawned_in script) ts)

-- the running sums stay within the limits of a file; the first stage has this number
unfoldable pub sums_from : Tally → ℕ → List Body → Result (Unit {0}) FileFault
sums_from sums n [] = Ok tt
sums_from sums n (b ∷ bs) = cond (is_within (tallied sums b.script)) (sums_from (tallied sums b.script) (n + 1) bs) (Err (fault kind.OverLimit (script_place n 0 0)))

-- what the stages run, where they do not do too much
unfoldable pub bodies_of : Declared → Resolved → List StageTable → Result (List Body) FileFault
bodies_of d r stages = do
  bodies ← bodies_from d r 1 [] stages
  within ← sums_from nothing 1 bodies
  Ok bodies
