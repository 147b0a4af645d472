-- Services by their numbers: which one is found, what is missing, and what a plan changes.
use Rattle.std.specs.Prelude.{◌≡◌, ℕ, zero, suc, ◌<◌, length, map, set, remove, Bool, true, false, ◌&&◌, not, List, [], ◌∷◌, get_or, Option, Some, None, if◌then◌else◌}
use Rattle.rss_names.specs.declared.service.ServiceId.{ServiceId}
use Rattle.rss_names.specs.Services.{same_service}
use Rattle.causal_context.specs.Seen.{Seen}
use Rattle.causal_context.specs.Services.{has_service, service_at}
use Rattle.rss_tables.specs.declared.fences.FenceWork.{FenceWork}
use Rattle.session_stub.specs.Picked.{is_other}
use Rattle.librss_registry.specs.Counted.{count_more}
use Rattle.librss_registry.specs.declared.refusals.RegisterRefusal.{RegisterRefusal}
use Rattle.librss_registry.specs.declared.refusals.RegisterRefusal.TheVariants.{AlreadyKnown, OutOfMemory}

-- the service of a number
abbrev pub first_with : {S : Type 0} → (S → ServiceId) → ServiceId → List S → Option S
first_with name id [] = None
first_with name id (s ∷ services) = if same_service id (name s) then Some s else first_with name id services

-- the services without that of a number
abbrev pub without_first : {S : Type 0} → (S → ServiceId) → ServiceId → List S → List S
without_first name id [] = []
without_first name id (s ∷ services) = if same_service id (name s) then services else s ∷ without_first name id services

-- the first of some services that is not among the known ones
abbrev pub first_missing : List ServiceId → List ServiceId → Option ServiceId
first_missing ids [] = None
first_missing ids (s ∷ services) = if has_service ids s then first_missing ids services else Some s

-- the same, of a service and then of others
abbrev pub missing_for : ServiceId → List ServiceId → List ServiceId → Option ServiceId
missing_for id services ids = first_missing ids (id ∷ services)

-- the first service used last, of these many from a place on, that is not among the known ones
unfoldable pub missing_from : Seen → List ServiceId → ℕ → ℕ → Option ServiceId
missing_from seen ids place zero = None
missing_from seen ids place (suc left) =
    if has_service seen.last.services (service_at place) && not (has_service ids (service_at place))
    then Some (service_at place)
    else missing_from seen ids (suc place) left

-- whether a plan names a service: it was used last and is not left out
abbrev pub is_picked : Seen → Option ServiceId → ServiceId → Bool
is_picked seen except id = has_service seen.last.services id && is_other except id

-- the counts of services where that of one number is one more
abbrev pub one_more : ServiceId → List ServiceId → List ℕ → List ℕ
one_more id [] counts = counts
one_more id (i ∷ ids) [] = []
one_more id (i ∷ ids) (c ∷ counts) = if same_service id i then count_more c ∷ counts else c ∷ one_more id ids counts

-- the counts of services behind the fences of a plan, in their order
abbrev pub counted : List (ServiceId × FenceWork) → List ServiceId → List ℕ → List ℕ
counted [] ids counts = counts
counted (f ∷ fences) ids counts = counted fences ids (one_more f.0 ids counts)

-- services that a test does not pick are as they were
pub record Leaves {S : Type 0} (picks : S → Bool) (old new : List S) : Type 0 where
  pub same : (at : ℕ) (d : S) → picks (get_or old at d) ≡ false → get_or new at d ≡ get_or old at d

-- why a service is refused, by whether its number is known
abbrev pub refusal_of : Bool → RegisterRefusal
refusal_of true = AlreadyKnown
refusal_of false = OutOfMemory

-- the first service of a number stands at this place
pub record FoundAt {S : Type 0} (name : S → ServiceId) (id : ServiceId) (services : List S) (at : ℕ) : Type 0 where
  pub inside : at < length services
  pub known : has_service (map name services) id ≡ true
  pub same : (d : S) → same_service id (name (get_or services at d)) ≡ true
  pub first : (d : S) → first_with name id services ≡ Some (get_or services at d)
  pub without : without_first name id services ≡ remove services at
  pub more : (counts : List ℕ) → length counts ≡ length services → one_more id (map name services) counts ≡ set counts at (count_more (get_or counts at 0))
