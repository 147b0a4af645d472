-- The least times of the next calls of transaction services, in the order of services.
use Rattle.std.specs.Prelude.{ℕ, suc, max, if◌then◌else◌, Option, Some, None, List, [], ◌∷◌, map, All}
use Rattle.rss_names.specs.declared.service.ServiceId.{ServiceId}
use Rattle.rss_names.specs.declared.service.ServiceId.TheVariants.{Txn, Reg}
use Rattle.rss_names.specs.Services.{same_service}
use Rattle.causal_context.specs.Services.{IsTransaction, AreServices, stands_before}

-- the least time of a service, and 0 where it has none
abbrev pub least_of : List (ServiceId × ℕ) → ServiceId → ℕ
least_of [] id = 0
least_of (entry ∷ entries) id = if same_service id entry.0 then entry.1 else least_of entries id

-- the services that have a least time
abbrev pub services_of : List (ServiceId × ℕ) → List ServiceId
services_of entries = map (λ entry. entry.0) entries

-- least times of transaction services, in the order of services and without repeats
pub record AreLeastTimes (entries : List (ServiceId × ℕ)) : Type 0 where
  pub services : AreServices (services_of entries)
  pub transactions : All IsTransaction (services_of entries)

-- the least times with this one in the place of the service's old one
abbrev pub put_least : ServiceId → ℕ → List (ServiceId × ℕ) → List (ServiceId × ℕ)
put_least id time [] = (id, time) ∷ []
put_least id time (entry ∷ entries) =
    if stands_before id entry.0 then (id, time) ∷ entry ∷ entries
    else if same_service id entry.0 then (id, time) ∷ entries
    else entry ∷ put_least id time entries

-- the least times where that of a transaction service becomes this one
abbrev pub least_set : ServiceId → ℕ → List (ServiceId × ℕ) → List (ServiceId × ℕ)
least_set (Txn number) time entries = put_least (Txn number) time entries
least_set (Reg number) time entries = entries

-- the least times where that of a transaction service is raised to at least this one
abbrev pub least_raised : ServiceId → ℕ → List (ServiceId × ℕ) → List (ServiceId × ℕ)
least_raised id time entries = least_set id (max (least_of entries id) time) entries

-- the greatest least time of each service
abbrev pub least_joined : List (ServiceId × ℕ) → List (ServiceId × ℕ) → List (ServiceId × ℕ)
least_joined entries [] = entries
least_joined entries (entry ∷ others) = least_joined (least_raised entry.0 entry.1 entries) others

-- the least times that are kept, where the first one is that of the transaction service of this number
unfoldable pub least_from : ℕ → List (Option ℕ) → List (ServiceId × ℕ)
least_from number [] = []
least_from number (None ∷ times) = least_from (suc number) times
least_from number (Some time ∷ times) = (Txn number, time) ∷ least_from (suc number) times
