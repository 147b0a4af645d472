-- Services in their order: the transaction services by number, and then the register services by number.
use Rattle.std.specs.Prelude.{ℕ, ◌+◌, ◌-◌, ◌<◌, ◌≤◌, Bool, true, false, not, ◌&&◌, nat_lt, nat_le, if◌then◌else◌, Option, Some, None, List, [], ◌∷◌, All, AllPairs}
use Rattle.std.specs.List.{list_any, filter}
use Rattle.rss_names.specs.declared.service.ServiceId.{ServiceId}
use Rattle.rss_names.specs.declared.service.ServiceId.TheVariants.{Txn, Reg}
use Rattle.rss_names.specs.Services.{same_service}

-- the numbers of services are 1 to 8
abbrev pub IsService : ServiceId → Type 0
IsService (Txn number) = (1 ≤ number) × (number ≤ 8)
IsService (Reg number) = (1 ≤ number) × (number ≤ 8)

-- a transaction service
abbrev pub IsTransaction : ServiceId → Type 0
IsTransaction (Txn number) = Unit {0}
IsTransaction (Reg number) = ⊥

-- a service stands before another in the order of services
abbrev pub StandsBefore : ServiceId → ServiceId → Type 0
StandsBefore (Txn a) (Txn b) = a < b
StandsBefore (Txn a) (Reg b) = Unit {0}
StandsBefore (Reg a) (Txn b) = ⊥
StandsBefore (Reg a) (Reg b) = a < b

-- services in their order, so without repeats
pub record AreServices (services : List ServiceId) : Type 0 where
  pub in_range : All IsService services
  pub in_order : AllPairs StandsBefore services

-- whether a service stands before another in the order of services
abbrev pub stands_before : ServiceId → ServiceId → Bool
stands_before (Txn a) (Txn b) = nat_lt a b
stands_before (Txn a) (Reg b) = true
stands_before (Reg a) (Txn b) = false
stands_before (Reg a) (Reg b) = nat_lt a b

-- whether a service is in a list
abbrev pub has_service : List ServiceId → ServiceId → Bool
has_service services id = list_any (same_service id) services

-- a service put among services in their order, once
abbrev pub put_service : ServiceId → List ServiceId → List ServiceId
put_service id [] = id ∷ []
put_service id (s ∷ services) =
    if stands_before id s then id ∷ s ∷ services
    else if same_service id s then s ∷ services
    else s ∷ put_service id services

-- the services of two lists, in their order, each once
abbrev pub services_joined : List ServiceId → List ServiceId → List ServiceId
services_joined services [] = services
services_joined services (id ∷ ids) = services_joined (put_service id services) ids

-- the services without this one
abbrev pub without_service : ServiceId → List ServiceId → List ServiceId
without_service id services = filter (λ s. not (same_service id s)) services

-- the place of the number in its kind, whose first place this is
abbrev pub place_from : ℕ → ℕ → Option ℕ
place_from first number = if nat_le 1 number && nat_le number 8 then Some (first + (number - 1)) else None

-- the place of a service in the order, from 0 to 15, where its number is in range
abbrev pub place_of : ServiceId → Option ℕ
place_of (Txn number) = place_from 0 number
place_of (Reg number) = place_from 8 number

-- the service at a place
abbrev pub service_at : ℕ → ServiceId
service_at place = if nat_lt place 8 then Txn (place + 1) else Reg (place - 7)
