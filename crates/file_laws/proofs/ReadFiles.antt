-- each configuration that bytes say is in order
use Rattle.std.proofs.Common.{◌≡◌, ℕ, ◌-◌, ◌<◌, List, [], ◌∷◌, length, get_or, All, refl, ap, sym, subst, ◌∙◌, arith}
use Rattle.std.proofs.lemmas.List.Elements.{All-nil, All-cons}
use Rattle.rss_names.specs.declared.service.ServiceId.{ServiceId}
use Rattle.rss_names.specs.declared.service.ServiceId.TheVariants as id
use Rattle.rss_names.specs.declared.service.Key.{Key}
use Rattle.pipeline_lang.specs.Config.{no_body}
use Rattle.pipeline_lang.specs.declared.config.Config.{Config}
use Rattle.pipeline_lang.specs.declared.script.Statement.TheVariants as statement
use Rattle.script_binding.specs.Environment.{Bound}
use Rattle.script_binding.specs.Named.{IsNamed, AreNamed, IsRegister as IsNamedRegister}
use Rattle.script_binding.specs.Naming.{Naming}
use Rattle.script_binding.proofs.AllNamed.{bound_scripts_are_named}
use Rattle.pipeline_tables.specs.declared.tables.FileTables.{FileTables}
use Rattle.pipeline_file.specs.declared.declared_names.Declared.{Declared}
use Rattle.pipeline_file.specs.declared.resolve.Resolved.{Resolved}
use Rattle.pipeline_file.specs.Document.{assembled}
use Rattle.pipeline_file.specs.NameTables.{all_declared}
use Rattle.pipeline_file.specs.Scripts.{naming_of}
use Rattle.world_laws.specs.Registers.{IsRegister, statement_registers, NamesRegisters}
use Rattle.reg_laws.specs.Files.{IsInOrder}
use Rattle.file_laws.specs.ReadFiles.{FilesAreInOrder}
use Rattle.file_laws.proofs.Each.{Each, each_at, each_or}
use Rattle.file_laws.proofs.Limits.{AreFew, tables_few}
use Rattle.file_laws.proofs.Numbers.{IsKeeper, services_numbered, keepers}
use Rattle.file_laws.proofs.Order.{tables_are_in_file_order}
use Rattle.file_laws.proofs.Parts.{HoldsOfSaid, BodyHas, bodies_have, HoldsOfMeant, read_holds}

-- the registers that a statement names are those of the file
abbrev NamesThem : Config → Bound → Type 0
NamesThem c b = All (IsRegister c) (statement_registers b)

-- a register that a script can name is one of the file
abbrev Has : Config → Naming → Type 0
Has c n = (k : Key) → IsNamedRegister n k → IsRegister c k

one : (c : Config) (k : Key) → IsRegister c k → All (IsRegister c) (k ∷ [])
one c k h = All-cons (IsRegister c) k [] h (All-nil (IsRegister c))

none : (c : Config) → All (IsRegister c) []
none c = All-nil (IsRegister c)

names : (c : Config) (n : Naming) (b : Bound) → Has c n → IsNamed n b → NamesThem c b
names c n (statement.Read v r) has h = one c r (has r h)
names c n (statement.Write r e) has h = one c r (has r h)
names c n (statement.Snap pairs) has h = none c
names c n (statement.Txn reads guard writes) has h = none c
names c n (statement.Let v e) has h = none c
names c n (statement.Spawn s) has h = none c
names c n (statement.Wait s) has h = none c
names c n (statement.Put p e) has h = none c
names c n (statement.Take v p) has h = none c
names c n (statement.Close p) has h = none c
names c n statement.Fence has h = none c
names c n (statement.Repeat turns) has h = none c
names c n (statement.When test) has h = none c
names c n statement.End has h = none c
names c n statement.Exit has h = none c

all_name : (c : Config) (n : Naming) (script : List Bound) → Has c n → AreNamed n script → Each (NamesThem c) script
all_name c n [] has h = tt
all_name c n (b ∷ bs) has h = (names c n b has h.0, all_name c n bs has h.1)

-- the scripts of stages
scripts_name : (c : Config) (d : Declared) (r : Resolved) → ((m : ℕ) (earlier : List ℕ) → Has c (naming_of d r m earlier)) → HoldsOfSaid (NamesThem c) d r
scripts_name c d r has m earlier text script h = all_name c (naming_of d r m earlier) script (has m earlier) (bound_scripts_are_named (naming_of d r m earlier) h.raw script h.came)

-- the names of all scripts
statements_name : (c : Config) → Each (BodyHas (NamesThem c)) c.bodies → NamesRegisters c
statements_name c h = record { statements = λ n place. each_or (NamesThem c) (get_or c.bodies (n - 1) no_body).script place statement.Exit (none c) (each_or (BodyHas (NamesThem c)) c.bodies (n - 1) no_body tt h) }

-- a register of the file has a keeper
register : (c : Config) (n : Naming) → n.registers ≡ c.registers → n.register_services ≡ c.register_services → length c.register_services ≡ length c.registers → Each IsKeeper c.register_services → Has c n
register c n registers services long keep k h =
    let there : k.index < length c.registers = subst (λ (rs : List (List ℕ)). k.index < length rs) registers h.there in
    let kept : get_or c.register_services k.index (id.Reg 0) ≡ k.service = subst (λ (ss : List ServiceId). get_or ss k.index (id.Reg 0) ≡ k.service) services (sym (ap (λ (x : Key). x.service) h.same)) in
    let keeper = each_at IsKeeper c.register_services k.index (id.Reg 0) (omega (arith, there, long)) keep in
    record { there = there; kept_by = kept; number = keeper.number; is = sym kept ∙ keeper.is; first = keeper.first; last = keeper.last }

-- what tables say
assembled_in_order : (t : FileTables) → AreFew 6 t.services → HoldsOfMeant IsInOrder t
unfolding assembled all_declared
assembled_in_order t few r bodies named h =
    let c = assembled t (all_declared t) r bodies in
    let has = λ (m : ℕ) (earlier : List ℕ). register c (naming_of (all_declared t) r m earlier) refl refl (tables_are_in_file_order t).owners (keepers t few) in
    record { names = statements_name c (bodies_have (NamesThem c) (all_declared t) r 1 [] t.stages bodies (scripts_name c (all_declared t) r has) h); services = services_numbered t }

pub files_are_in_order : FilesAreInOrder
files_are_in_order bytes c h = read_holds IsInOrder bytes c (λ keyed t said. assembled_in_order t (tables_few keyed t said)) h
