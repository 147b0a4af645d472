-- The current exchanges of an owner: one at most in each slot, and only its reply is heard.
use Rattle.std.specs.Prelude.{ℕ, suc, Bool, true, false, ◌==◌, List, [], ◌∷◌, set, map, Option, Some, None, if◌then◌else◌}
use Rattle.rss_names.specs.declared.service.Target.{Target}
use Rattle.rss_wire.specs.declared.message.Message.{Message}
use Rattle.rss_wire.specs.Messages.{message_at, same_target}

-- whether this exchange is the current one of a slot
abbrev pub is_exchange : Option ℕ → ℕ → Bool
is_exchange None exchange = false
is_exchange (Some current) exchange = current == exchange

-- the slot whose current exchange this is, counted from a slot on
abbrev pub slot_from : ℕ → List (Option ℕ) → ℕ → Option ℕ
slot_from slot [] exchange = None
slot_from slot (current ∷ currents) exchange =
    if is_exchange current exchange then Some slot else slot_from (suc slot) currents exchange

-- the slot whose current exchange this is
abbrev pub slot_in : List (Option ℕ) → ℕ → Option ℕ
slot_in currents exchange = slot_from 0 currents exchange

-- an exchange becomes the current one of a slot; a request without a slot has none
abbrev pub with_current : List (Option ℕ) → Option ℕ → ℕ → List (Option ℕ)
with_current currents None exchange = currents
with_current currents (Some slot) exchange = set currents slot (Some exchange)

-- a slot without its exchange, where that is with this target
abbrev pub unless_with : List Message → Target → Option ℕ → Option ℕ
unless_with net target None = None
unless_with net target (Some exchange) =
    if same_target (message_at net exchange).envelope.target target then None else Some exchange

-- no exchange with this target is current any more
abbrev pub without_target : List Message → Target → List (Option ℕ) → List (Option ℕ)
without_target net target currents = map (unless_with net target) currents
