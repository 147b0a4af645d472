-- each configuration that bytes say names keys of its transaction services, and its snapshots and transactions name some
use Rattle.std.proofs.Common.{◌≡◌, ℕ, ◌-◌, true, List, [], ◌∷◌, length, map, get_or, All, Option, Some, None, Ok, refl, sym, subst, arith}
use Rattle.std.proofs.lemmas.List.Elements.{All-nil, All-cons, All-append}
use Rattle.rss_names.specs.declared.service.Key.{Key}
use Rattle.pipeline_lang.specs.Config.{no_body}
use Rattle.pipeline_lang.specs.declared.config.Config.{Config}
use Rattle.pipeline_lang.specs.declared.script.Expr.{Expr}
use Rattle.pipeline_lang.specs.declared.script.Statement.TheVariants as statement
use Rattle.pipeline_lang.specs.Scripts.{open_behind}
use Rattle.pipeline_lang.specs.Spelled.{IsStatement, Goes, AreStatements}
use Rattle.pipeline_lang.specs.Statements.{Raw}
use Rattle.pipeline_lang.proofs.Grammatical.{script_spelled}
use Rattle.script_binding.specs.declared.environment.Environment.{Environment}
use Rattle.script_binding.specs.Environment.{Bound, noted, start, after}
use Rattle.script_binding.specs.Mentions.{mentions}
use Rattle.script_binding.specs.Named.{IsKey as IsNamedKey, ArePairs, AreWrites, IsNamed, AreNamed}
use Rattle.script_binding.specs.Naming.{Naming}
use Rattle.script_binding.specs.Numbering.{bound}
use Rattle.script_binding.specs.Outcome.{first_fault, bound_in, outcome_in}
use Rattle.script_binding.proofs.AllNamed.{bound_scripts_are_named}
use Rattle.script_binding.proofs.Passing.{comes_bound}
use Rattle.pipeline_tables.specs.declared.tables.FileTables.{FileTables}
use Rattle.pipeline_file.specs.declared.declared_names.Declared.{Declared}
use Rattle.pipeline_file.specs.declared.resolve.Resolved.{Resolved}
use Rattle.pipeline_file.specs.Document.{assembled}
use Rattle.pipeline_file.specs.NameTables.{all_declared}
use Rattle.pipeline_file.specs.Scripts.{naming_of}
use Rattle.pipeline_file.specs.Services.{homes_from}
use Rattle.txn_laws.specs.Files.{IsKey, statement_keys, names_some, NamesKeys}
use Rattle.file_laws.specs.ReadFiles.{FilesNameKeys}
use Rattle.file_laws.proofs.Each.{Each, each_or}
use Rattle.file_laws.proofs.Kept.{key_is}
use Rattle.file_laws.proofs.Order.{tables_are_in_file_order}
use Rattle.file_laws.proofs.Parts.{HoldsOfSaid, BodyHas, bodies_have, HoldsOfMeant, read_holds}
use Rattle.file_laws.proofs.Shards.{HasFewShards, shards_few, shards_served, IsHome, homes_among}

-- the keys that a statement names are those of the file
abbrev NamesThem : Config → Bound → Type 0
NamesThem c b = All (IsKey c) (statement_keys b)

-- a key that a script can name is one of the file
abbrev Has : Config → Naming → Type 0
Has c n = (k : Key) → IsNamedKey n k → IsKey c k

none : (c : Config) → All (IsKey c) []
none c = All-nil (IsKey c)

pairs_name : (c : Config) (n : Naming) (pairs : List (ℕ × Key)) → Has c n → ArePairs n pairs → All (IsKey c) (map (λ pair. pair.1) pairs)
pairs_name c n [] has h = none c
pairs_name c n (pair ∷ pairs) has h = All-cons (IsKey c) pair.1 (map (λ pair. pair.1) pairs) (has pair.1 h.0) (pairs_name c n pairs has h.1)

writes_name : (c : Config) (n : Naming) (writes : List (Key × Expr ℕ)) → Has c n → AreWrites n writes → All (IsKey c) (map (λ write. write.0) writes)
writes_name c n [] has h = none c
writes_name c n (write ∷ writes) has h = All-cons (IsKey c) write.0 (map (λ write. write.0) writes) (has write.0 h.0) (writes_name c n writes has h.1)

names : (c : Config) (n : Naming) (b : Bound) → Has c n → IsNamed n b → NamesThem c b
names c n (statement.Read v r) has h = none c
names c n (statement.Write r e) has h = none c
names c n (statement.Snap pairs) has h = pairs_name c n pairs has h
names c n (statement.Txn reads guard writes) has h = All-append (IsKey c) (map (λ pair. pair.1) reads) (map (λ write. write.0) writes) (pairs_name c n reads has h.0) (writes_name c n writes has h.1)
names c n (statement.Let v e) has h = none c
names c n (statement.Spawn s) has h = none c
names c n (statement.Wait s) has h = none c
names c n (statement.Put p e) has h = none c
names c n (statement.Take v p) has h = none c
names c n (statement.Close p) has h = none c
names c n statement.Fence has h = none c
names c n (statement.Repeat turns) has h = none c
names c n (statement.When test) has h = none c
names c n statement.End has h = none c
names c n statement.Exit has h = none c

all_name : (c : Config) (n : Naming) (script : List Bound) → Has c n → AreNamed n script → Each (NamesThem c) script
all_name c n [] has h = tt
all_name c n (b ∷ bs) has h = (names c n b has h.0, all_name c n bs has h.1)

-- a snapshot and a transaction that a text spells name a key
some : (n : Naming) (variables : List (List ℕ)) (s : Raw) → IsStatement s → names_some (bound n variables s) ≡ true
unfolding bound
some n variables (statement.Let v e) h = refl
some n variables (statement.Read v r) h = refl
some n variables (statement.Write r e) h = refl
some n variables (statement.Snap []) h = absurd (omega (arith, h.0))
some n variables (statement.Snap (pair ∷ pairs)) h = refl
some n variables (statement.Txn reads guard []) h = absurd (omega (arith, h.2))
some n variables (statement.Txn [] guard (write ∷ writes)) h = refl
some n variables (statement.Txn (pair ∷ pairs) guard (write ∷ writes)) h = refl
some n variables (statement.Spawn s) h = refl
some n variables (statement.Wait s) h = refl
some n variables (statement.Put p e) h = refl
some n variables (statement.Take v p) h = refl
some n variables (statement.Close p) h = refl
some n variables statement.Fence h = refl
some n variables (statement.Repeat turns) h = refl
some n variables (statement.When test) h = refl
some n variables statement.End h = refl
some n variables statement.Exit h = refl

-- what goes on behind a statement
goes : (P : ℕ → Type 0) (left : Option ℕ) → Goes P left → (n : ℕ) × P n
goes P (Some n) h = (n, h)
goes P None h = absurd h

pub statements_each : (raw : List Raw) (n : ℕ) → AreStatements raw n → Each IsStatement raw
unfolding AreStatements
statements_each [] n h = tt
statements_each (s ∷ ss) n h = let rest = goes (AreStatements ss) (open_behind n s) h.1 in (h.0, statements_each ss rest.0 rest.1)

-- what comes of statements that a text spells
abbrev NamesSome : Bound → Type 0
NamesSome b = names_some b ≡ true

some_in : (n : Naming) (env : Environment) (raw : List Raw) (script : List Bound) → Each IsStatement raw → outcome_in n env raw ≡ Ok script → Each NamesSome script
some_in n env [] script each h =
    let made : [] ≡ script = cc in
    subst (Each NamesSome) made tt
some_in n env (s ∷ ss) script each h =
    let b = bound_in n env s in
    let later = after env s b in
    let g = comes_bound env.statements (first_fault n env s) b (outcome_in n later ss) script h in
    subst (Each NamesSome) g.whole (some n (noted env.variables (mentions s)) s each.0, some_in n later ss g.rest each.1 g.below)

-- the scripts of stages
scripts_name : (c : Config) (d : Declared) (r : Resolved) → ((m : ℕ) (earlier : List ℕ) → Has c (naming_of d r m earlier)) → HoldsOfSaid (NamesThem c) d r
scripts_name c d r has m earlier text script h = all_name c (naming_of d r m earlier) script (has m earlier) (bound_scripts_are_named (naming_of d r m earlier) h.raw script h.came)

scripts_some : (d : Declared) (r : Resolved) → HoldsOfSaid NamesSome d r
scripts_some d r m earlier text script h = some_in (naming_of d r m earlier) start h.raw script (statements_each h.raw 0 (script_spelled text h.raw h.read).written) h.came

-- the names of all scripts
statements_name : (c : Config) → Each (BodyHas (NamesThem c)) c.bodies → Each (BodyHas NamesSome) c.bodies → NamesKeys c
statements_name c keys some = record {
  statements = λ n place. each_or (NamesThem c) (get_or c.bodies (n - 1) no_body).script place statement.Exit (none c) (each_or (BodyHas (NamesThem c)) c.bodies (n - 1) no_body tt keys);
  some = λ n place. each_or NamesSome (get_or c.bodies (n - 1) no_body).script place statement.Exit refl (each_or (BodyHas NamesSome) c.bodies (n - 1) no_body tt some);
}

-- what tables say
assembled_names : (t : FileTables) → HasFewShards t → HoldsOfMeant NamesKeys t
unfolding assembled all_declared
assembled_names t few r bodies named h =
    let c = assembled t (all_declared t) r bodies in
    let served : length r.shard_services ≡ length t.shards = shards_served (all_declared t).known t r named in
    let homes = subst (λ (m : ℕ). Each (IsHome m) (homes_from 1 t.shards)) (sym served) (homes_among t) in
    let has = λ (m : ℕ) (earlier : List ℕ). key_is c (naming_of (all_declared t) r m earlier) refl refl refl (tables_are_in_file_order t).homes (omega (arith, few, served)) homes in
    statements_name c (bodies_have (NamesThem c) (all_declared t) r 1 [] t.stages bodies (scripts_name c (all_declared t) r has) h) (bodies_have NamesSome (all_declared t) r 1 [] t.stages bodies (scripts_some (all_declared t) r) h)

pub files_name_keys : FilesNameKeys
files_name_keys bytes c h = read_holds NamesKeys bytes c (λ keyed t said. assembled_names t (shards_few keyed t said)) h
