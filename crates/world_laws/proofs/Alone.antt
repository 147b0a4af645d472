-- Registers whose number no other register that is written has.
use Rattle.std.specs.Prelude.{◌≡◌, ℕ, ◌<◌, ◌==◌, ◌&&◌, ◌||◌, not, Bool, true, List, [], ◌∷◌, length}
use Rattle.std.specs.List.{list_all}
use Rattle.rss_names.specs.declared.service.Key.{Key}
use Rattle.rss_names.specs.declared.service.ServiceId.{ServiceId}
use Rattle.rss_names.specs.declared.service.Target.{Target}
use Rattle.rss_names.specs.declared.service.Target.TheVariants.{Shard, Replica}
use Rattle.rss_names.specs.Services.{same_service, same_key}
use Rattle.rss_wire.specs.declared.message.Body.{Body}
use Rattle.rss_wire.specs.declared.message.Body.TheVariants as body
use Rattle.rss_wire.specs.declared.message.Message.{Message}
use Rattle.rss_wire.specs.Messages.{message_at}
use Rattle.rss_machine.specs.Marks.{raised_by}
use Rattle.rss_machine.specs.State.{service_index}

-- another register has another number
abbrev pub is_apart : Key → Key → Bool
is_apart key other = not (other.index == key.index) || same_key other key

-- a request that raises registers of a service raises no other register of this one's number, and the replicas
-- of another service have another place
abbrev pub leaves_registers : Key → ServiceId → List Key → Bool
leaves_registers key service [] = true
leaves_registers key service (raised ∷ others) =
    (same_service service key.service || not (service_index service == service_index key.service)) && list_all (is_apart key) (raised ∷ others)

abbrev pub leaves_alone : Key → Target → Body → Bool
leaves_alone key (Shard shard) b = true
leaves_alone key (Replica service replica) (body.Reply r) = true
leaves_alone key (Replica service replica) (body.Request r) = leaves_registers key service (raised_by r)

-- every message that was sent leaves the register alone
abbrev pub IsAlone : Key → List Message → Type 0
IsAlone key net =
    (m : ℕ) → m < length net → leaves_alone key (message_at net m).envelope.target (message_at net m).body ≡ true
