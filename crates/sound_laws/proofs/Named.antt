-- Stages and pipes that a script names are numbered from 1, stages up to the last of the file.
use Rattle.std.proofs.Common.{◌≡◌, ℕ, ◌-◌, ◌≤◌, List, [], ◌∷◌, length, get_or, Ok, subst, sym, ap}
use Rattle.pipeline_lang.specs.Config.{no_body, statement_at}
use Rattle.pipeline_lang.specs.declared.config.Config.{Config}
use Rattle.pipeline_lang.specs.declared.script.Statement.TheVariants as statement
use Rattle.script_binding.specs.Environment.{Bound}
use Rattle.script_binding.specs.Named.{IsNamed, AreNamed}
use Rattle.script_binding.specs.Naming.{Naming}
use Rattle.script_binding.proofs.AllNamed.{bound_scripts_are_named}
use Rattle.pipeline_tables.specs.declared.tables.StageTable.{StageTable}
use Rattle.pipeline_file.specs.declared.declared_names.Declared.{Declared}
use Rattle.pipeline_file.specs.declared.resolve.Resolved.{Resolved}
use Rattle.pipeline_file.specs.Scripts.{naming_of, bodies_from}
use Rattle.file_laws.proofs.Each.{Each, each_or}
use Rattle.file_laws.proofs.Parts.{HoldsOfSaid, BodyHas, bodies_have}

-- a stage is one of so many; a pipe has a number
abbrev pub HasNumbers : ℕ → Bound → Type 0
HasNumbers stages (statement.Spawn s) = s ≤ stages
HasNumbers stages (statement.Put p e) = 1 ≤ p
HasNumbers stages (statement.Take v p) = 1 ≤ p
HasNumbers stages (statement.Close p) = 1 ≤ p
HasNumbers stages b = Unit {0}

numbers : (n : Naming) (b : Bound) → IsNamed n b → HasNumbers (length n.stages) b
numbers n (statement.Let v e) h = tt
numbers n (statement.Read v r) h = tt
numbers n (statement.Write r e) h = tt
numbers n (statement.Snap pairs) h = tt
numbers n (statement.Txn pairs guard writes) h = tt
numbers n (statement.Spawn s) h = h.most
numbers n (statement.Wait s) h = tt
numbers n (statement.Put p e) h = h.least
numbers n (statement.Take v p) h = h.least
numbers n (statement.Close p) h = h.least
numbers n statement.Fence h = tt
numbers n (statement.Repeat turns) h = tt
numbers n (statement.When test) h = tt
numbers n statement.End h = tt
numbers n statement.Exit h = tt

all_numbers : (n : Naming) (script : List Bound) → AreNamed n script → Each (HasNumbers (length n.stages)) script
all_numbers n [] h = tt
all_numbers n (b ∷ bs) h = (numbers n b h.0, all_numbers n bs h.1)

scripts_number : (d : Declared) (r : Resolved) → HoldsOfSaid (HasNumbers (length d.known.stages)) d r
scripts_number d r m earlier text script h = all_numbers (naming_of d r m earlier) script (bound_scripts_are_named (naming_of d r m earlier) h.raw script h.came)

-- so in each place of a file
pub statements_number : (c : Config) (d : Declared) (r : Resolved) (ts : List StageTable) → bodies_from d r 1 [] ts ≡ Ok c.bodies → (n place : ℕ) → HasNumbers (length d.known.stages) (statement_at c n place)
statements_number c d r ts h n place =
    each_or (HasNumbers (length d.known.stages)) (get_or c.bodies (n - 1) no_body).script place statement.Exit tt
    (each_or (BodyHas (HasNumbers (length d.known.stages))) c.bodies (n - 1) no_body tt (bodies_have (HasNumbers (length d.known.stages)) d r 1 [] ts c.bodies (scripts_number d r) h))
