-- A loss over owners and the net alone, and the target that its owner loses with it, if it does. The
-- tables of the machine (`rss_machine/specs/Effect.antt`) decide; that a loss is this move with this end
-- is what this crate shows.
use Rattle.std.specs.Prelude.{◌≡◌, ℕ, Option, Some, None, nat_lt, if◌then◌else◌}
use Rattle.pipeline_lang.specs.declared.config.Config.{Config}
use Rattle.pipeline_lang.specs.Config.{replicas_of}
use Rattle.rss_names.specs.declared.service.Target.{Target}
use Rattle.rss_names.specs.declared.service.Target.TheVariants.{Shard, Replica}
use Rattle.rss_wire.specs.declared.envelope.Envelope.{Envelope}
use Rattle.rss_tables.specs.Losses.{losses_of, reaches_tries, is_quorum_lost}
use Rattle.rss_machine.specs.Effect.{loses, target_lost, replaces}
use Rattle.rss_machine.specs.Moves.{counts_loss, cuts_off}
use Rattle.rss_machine.specs.Slots.{slot_in}
use Rattle.rss_machine.specs.Standing.{is_running}
use Rattle.rss_machine.specs.State.{State, Owner, owner_at}
use Rattle.world_parts.specs.Frames.{MovesTraffic}

-- a replica that reaches its tries is cut off
abbrev pub cut_at : State → ℕ → Target → State
cut_at s o (Shard shard) = s
cut_at s o (Replica service replica) = cuts_off s o (Replica service replica)

-- a shard is lost with that, and a replica where a majority cannot spare it
abbrev pub lost_with : Config → Owner → Target → Option Target
lost_with c w (Shard shard) = Some (Shard shard)
lost_with c w (Replica service replica) =
    if is_quorum_lost c.tries w.losses service (replicas_of c service) then Some (Replica service replica) else None

-- the loss is counted, and the target cut off or the request sent again
abbrev pub counts_one : Config → State → ℕ → Envelope → State
counts_one c s o e =
    let t = counts_loss s o e.target in
    if reaches_tries c.tries (owner_at s o).losses e.target then
    cut_at t o e.target
    else
    (if nat_lt (losses_of (owner_at t o).losses e.target) c.tries
    then replaces t o e.target e.exchange (slot_in (owner_at t o).currents e.exchange)
    else t)

abbrev pub one_lost : Config → State → ℕ → Envelope → Option Target
one_lost c s o e =
    if reaches_tries c.tries (owner_at s o).losses e.target then lost_with c (owner_at (counts_loss s o e.target) o) e.target else None

-- what a lost message makes of owners and the net: nothing where its owner is not running
abbrev pub counts_lost : Config → State → Envelope → State
counts_lost c s e = if is_running (owner_at s e.owner).fate then counts_one c s e.owner e else s

-- the target that its owner then loses
abbrev pub target_of_loss : Config → State → Envelope → Option Target
target_of_loss c s e = if is_running (owner_at s e.owner).fate then one_lost c s e.owner e else None

-- the end of a loss: where the owner meets its stage
abbrev pub ends_loss : Config → State → ℕ → Option Target → State
ends_loss c s o None = s
ends_loss c s o (Some target) = target_lost c s o target (owner_at s o).kind

-- a loss is this move with this end
abbrev pub LosingIsAMove : Type 0
LosingIsAMove = (c : Config) (s : State) (e : Envelope) → loses c s e ≡ ends_loss c (counts_lost c s e) e.owner (target_of_loss c s e)

-- it leaves all but owners and the net as they are
abbrev pub LossesMoveTraffic : Type 0
LossesMoveTraffic = (c : Config) (e : Envelope) → MovesTraffic (λ (s : State). counts_lost c s e)
