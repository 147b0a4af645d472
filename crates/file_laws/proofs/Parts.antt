-- what the parts of a configuration that bytes say come from: its tables, what their names mean, and its scripts
use Rattle.std.proofs.Common.{◌≡◌, ℕ, ◌+◌, List, [], ◌∷◌, ◌++◌, Result, Ok, Err, ap, sym, subst, ◌∙◌}
use Rattle.toml.specs.Data.{Members}
use Rattle.pipeline_lang.specs.Scripts.{Place as ScriptPlace, script_of}
use Rattle.pipeline_lang.specs.Statements.{Raw}
use Rattle.pipeline_lang.specs.declared.config.Body.{Body}
use Rattle.pipeline_lang.specs.declared.config.Config.{Config}
use Rattle.script_binding.specs.declared.fault.ScriptFault.{ScriptFault}
use Rattle.script_binding.specs.Counts.{nothing}
use Rattle.script_binding.specs.Environment.{Bound, spawned_in}
use Rattle.script_binding.specs.Naming.{Naming}
use Rattle.script_binding.specs.Outcome.{outcome}
use Rattle.pipeline_tables.specs.Services.{tables_said}
use Rattle.pipeline_tables.specs.declared.tables.FileTables.{FileTables}
use Rattle.pipeline_tables.specs.declared.tables.StageTable.{StageTable}
use Rattle.pipeline_file.specs.declared.declared_names.Declared.{Declared}
use Rattle.pipeline_file.specs.declared.resolve.Resolved.{Resolved}
use Rattle.pipeline_file.specs.Declarations.{declarations}
use Rattle.pipeline_file.specs.Doubles.{no_doubles}
use Rattle.pipeline_file.specs.Document.{short, document_of, assembled, tables_mean, config_of}
use Rattle.pipeline_file.specs.NameTables.{all_declared, declared_of}
use Rattle.pipeline_file.specs.Resolve.{resolved_of}
use Rattle.pipeline_file.specs.Scripts.{syntax, bound_or, naming_of, script_said, bodies_from, sums_from, bodies_of}
use Rattle.file_laws.proofs.Each.{Each}
use Rattle.file_laws.proofs.Went.{ok_same, went, went_onto}

-- a script that a text says: what was read of it, and what came of that
pub record IsSaid (n : Naming) (text : List ℕ) (script : List Bound) : Type 0 where
  pub raw : List Raw
  pub read : script_of text ≡ Ok raw
  pub came : outcome n raw ≡ Ok script

read_well : (n : ℕ) (read : Result (List Raw) ScriptPlace) (raw : List Raw) → syntax n read ≡ Ok raw → read ≡ Ok raw
read_well n (Ok made) raw h = ap Ok (ok_same made raw h)
read_well n (Err at) raw h = absurd cc

bound_well : (n : ℕ) (text : List ℕ) (came : Result (List Bound) ScriptFault) (script : List Bound) → bound_or n text came ≡ Ok script → came ≡ Ok script
bound_well n text (Ok made) script h = ap Ok (ok_same made script h)
bound_well n text (Err f) script h = absurd cc

pub script_well : (d : Declared) (r : Resolved) (n : ℕ) (spawned text : List ℕ) (script : List Bound) → script_said d r n spawned text ≡ Ok script → IsSaid (naming_of d r n spawned) text script
unfolding script_said
script_well d r n spawned text script h =
    let raw = went (syntax n (script_of text)) (λ raw. bound_or n text (outcome (naming_of d r n spawned) raw)) script h in
    record { raw = raw.0; read = read_well n (script_of text) raw.0 raw.1.0; came = bound_well n text (outcome (naming_of d r n spawned) raw.0) script raw.1.1 }

-- what holds of each statement of each script that is said
abbrev pub HoldsOfSaid : (Bound → Type 0) → Declared → Resolved → Type 0
HoldsOfSaid P d r = (m : ℕ) (earlier text : List ℕ) (script : List Bound) → IsSaid (naming_of d r m earlier) text script → Each P script

-- the statements of a body
abbrev pub BodyHas : (Bound → Type 0) → Body → Type 0
BodyHas P b = Each P b.script

-- it holds of the statements of each body
pub bodies_have : (P : Bound → Type 0) (d : Declared) (r : Resolved) (n : ℕ) (spawned : List ℕ) (ts : List StageTable) (bodies : List Body) → HoldsOfSaid P d r → bodies_from d r n spawned ts ≡ Ok bodies → Each (BodyHas P) bodies
unfolding bodies_from
bodies_have P d r n spawned [] bodies has h = subst (Each (BodyHas P)) (ok_same [] bodies h) tt
bodies_have P d r n spawned (t ∷ ts) bodies has h =
    let script = went _ _ bodies h in
    let rest = went_onto _ _ bodies script.1.1 in
    subst (Each (BodyHas P)) rest.1.1 (has n spawned t.script script.0 (script_well d r n spawned t.script script.0 script.1.0), bodies_have P d r (n + 1) (spawned ++ spawned_in script.0) ts rest.0 has rest.1.0)

bodies_well : (d : Declared) (r : Resolved) (stages : List StageTable) (bodies : List Body) → bodies_of d r stages ≡ Ok bodies → bodies_from d r 1 [] stages ≡ Ok bodies
unfolding bodies_of
bodies_well d r stages bodies h =
    let made = went (bodies_from d r 1 [] stages) _ bodies h in
    let within = went (sums_from nothing 1 made.0) (λ x. Ok made.0) bodies made.1.1 in
    made.1.0 ∙ within.1.1

declared_well : (t : FileTables) (d : Declared) → declared_of t ≡ Ok d → all_declared t ≡ d
unfolding declared_of
declared_well t d h = let alone = went (no_doubles (declarations t)) (λ x. Ok (all_declared t)) d h in ok_same (all_declared t) d alone.1.1

-- what holds of all that tables mean
abbrev pub HoldsOfMeant : (Config → Type 0) → FileTables → Type 0
HoldsOfMeant P t = (r : Resolved) (bodies : List Body) → resolved_of (all_declared t).known t ≡ Ok r → bodies_from (all_declared t) r 1 [] t.stages ≡ Ok bodies → P (assembled t (all_declared t) r bodies)

meant : (P : Config → Type 0) (t : FileTables) (c : Config) → HoldsOfMeant P t → tables_mean t ≡ Ok c → P c
unfolding tables_mean
meant P t c holds h =
    let declared = went (declared_of t) _ c h in
    let resolved = went (resolved_of declared.0.known t) _ c declared.1.1 in
    let bodies = went (bodies_of declared.0 resolved.0 t.stages) _ c resolved.1.1 in
    let same = declared_well t declared.0 declared.1.0 in
    let read = bodies_well declared.0 resolved.0 t.stages bodies.0 bodies.1.0 in
    let back = subst (λ (d : Declared). bodies_from d resolved.0 1 [] t.stages ≡ Ok bodies.0) (sym same) read in
    let named = subst (λ (d : Declared). resolved_of d.known t ≡ Ok resolved.0) (sym same) resolved.1.0 in
    let made = subst (λ (d : Declared). P (assembled t d resolved.0 bodies.0)) same (holds resolved.0 bodies.0 named back) in
    subst P (ok_same _ c bodies.1.1) made

-- what holds of all that the tables of a document mean holds of what bytes say
pub read_holds : (P : Config → Type 0) (bytes : List ℕ) (c : Config) → ((keyed : Members) (t : FileTables) → tables_said keyed ≡ Ok t → HoldsOfMeant P t) → config_of bytes ≡ Ok c → P c
unfolding config_of
read_holds P bytes c holds h =
    let fits = went (short bytes) _ c h in
    let document = went (document_of bytes) _ c fits.1.1 in
    let tables = went (tables_said document.0) _ c document.1.1 in
    meant P tables.0 c (holds document.0 tables.0 tables.1.0) tables.1.1
