-- The services that were used last.
use Rattle.std.specs.Prelude.{Bool, true, false, ◌||◌, List, [], ◌∷◌}
use Rattle.rss_names.specs.declared.service.ServiceId.{ServiceId}
use Rattle.causal_context.specs.Services.{services_joined, without_service}

-- the services that were used last, in their order, and whether anything outside them was
pub record LastView : Type 0 where
  pub services : List ServiceId
  pub outside : Bool

-- nothing was used yet
abbrev pub nothing_last : LastView
nothing_last = record { services = []; outside = false }

-- this service alone was used last
abbrev pub last_alone : ServiceId → LastView
last_alone id = record { services = id ∷ []; outside = false }

-- something outside the services alone was used last
abbrev pub outside_alone : LastView
outside_alone = record { services = []; outside = true }

-- what one of the two used last
abbrev pub last_joined : LastView → LastView → LastView
last_joined a b = record { services = services_joined a.services b.services; outside = a.outside || b.outside }

-- the service was fenced: it was not used last, and something outside was
abbrev pub last_fenced : ServiceId → LastView → LastView
last_fenced id last = record { services = without_service id last.services; outside = true }
