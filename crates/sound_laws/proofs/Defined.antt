-- The services of a file: those of registers and those of transactions are numbered from 1 to 8, and only the former have replicas, seven at most.
use Rattle.std.proofs.Common.{◌≡◌, ℕ, ◌+◌, ◌≤◌, Bool, true, false, List, [], ◌∷◌, ◌++◌, length, refl, ap, sym, ◌∙◌, subst, arith}
use Rattle.std.specs.Prelude.{cond, if◌then◌else◌}
use Rattle.std.specs.List.{filter}
use Rattle.std.proofs.lemmas.Bool.{false≢true}
use Rattle.rss_names.specs.declared.service.ServiceId.{ServiceId}
use Rattle.rss_names.specs.declared.service.ServiceId.TheVariants as id
use Rattle.rss_names.specs.Services.{same_service}
use Rattle.rss_names.proofs.Services.{same_service-Decides}
use Rattle.pipeline_lang.specs.Config.{replicas_among}
use Rattle.pipeline_lang.specs.declared.config.Config.{Config}
use Rattle.pipeline_lang.specs.declared.config.ServiceDef.{ServiceDef}
use Rattle.pipeline_tables.specs.declared.tables.FileTables.{FileTables}
use Rattle.pipeline_tables.specs.declared.tables.ServiceKind.{ServiceKind}
use Rattle.pipeline_tables.specs.declared.tables.ServiceKind.TheVariants.{Txn, Reg}
use Rattle.pipeline_tables.specs.declared.tables.ServiceTable.{ServiceTable}
use Rattle.pipeline_file.specs.Services.{of_kind, further_one, next_txn, next_reg, further_from, is_of, those_of, services_of}
use Rattle.file_laws.proofs.Each.{Each, each_append}
use Rattle.world_laws.specs.Targets.{GivesPlaces}
use Rattle.sound_laws.proofs.Ranges.{HasFewReplicas}
use Rattle.sound_laws.proofs.Resolved.{Fits, IsDefined}

-- a service that a table adds
one_defined : (txn reg : ℕ) (t : ServiceTable) (kind : ServiceKind) → 1 ≤ txn → txn ≤ 8 → 1 ≤ reg → reg ≤ 8 → t.replicas ≤ 7 → IsDefined (of_kind txn reg t kind)
one_defined txn reg t Txn a b c d l = (refl, a, b)
one_defined txn reg t Reg a b c d l = (l, c, d)

next_near : (txn reg : ℕ) (kind : ServiceKind) → (txn ≤ next_txn txn kind) × (next_txn txn kind ≤ txn + 1) × (reg ≤ next_reg reg kind) × (next_reg reg kind ≤ reg + 1)
next_near txn reg Txn = (omega arith, omega arith, omega arith, omega arith)
next_near txn reg Reg = (omega arith, omega arith, omega arith, omega arith)

further_defined : (txn reg : ℕ) (ts : List ServiceTable) → 1 ≤ txn → txn + length ts ≤ 9 → 1 ≤ reg → reg + length ts ≤ 9 → Each HasFewReplicas ts → Each IsDefined (further_from txn reg ts)
unfolding further_from
further_defined txn reg [] a b c d each = tt
further_defined txn reg (t ∷ ts) a b c d each =
    let near = next_near txn reg t.kind in
    (one_defined txn reg t t.kind a (omega (arith, b)) c (omega (arith, d)) each.0, further_defined (next_txn txn t.kind) (next_reg reg t.kind) ts (omega (arith, a, near.0)) (omega (arith, b, near.1)) (omega (arith, c, near.2)) (omega (arith, d, near.3)) each.1)

kept_defined : (test : ServiceDef → Bool) (ds : List ServiceDef) → Each IsDefined ds → Each IsDefined (filter test ds)
kept_defined test [] each = tt
kept_defined test (d ∷ ds) each = by_test (test d) (kept_defined test ds each.1)
  where
    by_test : (b : Bool) → Each IsDefined (filter test ds) → Each IsDefined (cond b (d ∷ filter test ds) (filter test ds))
    by_test true ih = (each.0, ih)
    by_test false ih = ih

pub services_defined : (t : FileTables) → t.root.replicas ≤ 7 → length t.services ≤ 6 → Each HasFewReplicas t.services → Each IsDefined (services_of t)
unfolding services_of
services_defined t l few each =
    let further = further_defined 2 2 t.services (omega arith) (omega (arith, few)) (omega arith) (omega (arith, few)) each in
    ((refl, omega arith, omega arith), each_append IsDefined (those_of Txn (further_from 2 2 t.services)) _ (kept_defined (λ d. is_of Txn d.id) (further_from 2 2 t.services) further) ((l, omega arith, omega arith), kept_defined (λ d. is_of Reg d.id) (further_from 2 2 t.services) further))

-- what the list gives of each service
record FewPlaces (number replicas : ℕ) : Type 0 where
  pub few : replicas ≤ 7
  pub numbers : 1 ≤ replicas → (1 ≤ number) × (number ≤ 8)

abbrev Places : ServiceId → ℕ → Type 0
Places (id.Reg number) replicas = FewPlaces number replicas
Places (id.Txn number) replicas = replicas ≡ 0

fits_places : (s : ServiceId) (replicas : ℕ) → Fits s replicas → Places s replicas
fits_places (id.Reg number) replicas f = record { few = f.0; numbers = λ e. (f.1, f.2) }
fits_places (id.Txn number) replicas f = f.0

none_places : (s : ServiceId) → Places s 0
none_places (id.Reg number) = record { few = omega arith; numbers = λ e. absurd (omega (arith, e)) }
none_places (id.Txn number) = refl

places_among : (s : ServiceId) (ds : List ServiceDef) → Each IsDefined ds → Places s (replicas_among s ds)
places_among s [] each = none_places s
places_among s (d ∷ ds) each = by_test (same_service s d.id) refl (places_among s ds each.1)
  where
    by_test : (b : Bool) → same_service s d.id ≡ b → Places s (replicas_among s ds) → Places s (if b then d.replicas else replicas_among s ds)
    by_test true e ih = subst (λ (x : ServiceId). Places x d.replicas) (sym ((same_service-Decides s d.id).0 e)) (fits_places d.id d.replicas each.0)
    by_test false e ih = ih

pub gives_places : (c : Config) → 1 ≤ c.tries → Each IsDefined c.services → GivesPlaces c
gives_places c tries each = record {
  tries = tries;
  replicas = λ number. (places_among (id.Reg number) c.services each).few;
  numbers = λ number e. (places_among (id.Reg number) c.services each).numbers e;
  others = λ number. places_among (id.Txn number) c.services each;
}
