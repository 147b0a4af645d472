-- The services of a list in their order, found one after another, and their fences.
use Rattle.std.specs.Prelude.{ℕ, zero, suc, List, [], ◌∷◌, ◌&&◌, not, Bool, true, false, Option, Some, None, if◌then◌else◌}
use Rattle.rss_names.specs.declared.service.ServiceId.{ServiceId}
use Rattle.rss_names.specs.Services.{same_service}
use Rattle.causal_context.specs.Seen.{Seen}
use Rattle.causal_context.specs.Services.{has_service, service_at}
use Rattle.rss_tables.specs.Works.{fence_of}
use Rattle.rss_tables.specs.declared.fences.FenceWork.{FenceWork}

-- whether a service is not the one that is left out
abbrev pub is_other : Option ServiceId → ServiceId → Bool
is_other None other = true
is_other (Some id) other = not (same_service id other)

-- the fences of these many services from a place on, of those used last and not left out
abbrev pub fences_from : Seen → Option ServiceId → ℕ → ℕ → List (ServiceId × FenceWork)
fences_from seen except place zero = []
fences_from seen except place (suc left) =
    if has_service seen.last.services (service_at place) && is_other except (service_at place)
    then (service_at place, fence_of seen (service_at place)) ∷ fences_from seen except (suc place) left
    else fences_from seen except (suc place) left
