use Rattle.std.specs.Prelude.{ℕ, List, Option, Some, None, if◌then◌else◌}
use Rattle.rss_wire.specs.Messages.{is_sent, message_at}
use Rattle.rss_wire.specs.declared.message.Fate.{Fate}
use Rattle.rss_wire.specs.declared.message.Fate.TheVariants.{Pending, Delivered, Repeated, Lost}
use Rattle.rss_wire.specs.declared.message.Message.{Message}
use Rattle.rss_wire.specs.declared.refusal.NetRefusal.{NetRefusal}
use Rattle.rss_wire.specs.declared.refusal.NetRefusal.TheVariants as refusal

-- a net as its callers see it: all messages ever sent, each at its number, and for how many more there is room
pub record NetView : Type 0 where
  pub messages : List Message
  pub room : ℕ

-- why a message of this fate can't be delivered or lost, if so
abbrev pub fate_refusal : Fate → Option NetRefusal
fate_refusal Pending = None
fate_refusal Delivered = Some refusal.Delivered
fate_refusal Repeated = Some refusal.Delivered
fate_refusal Lost = Some refusal.Lost

-- why a message of this fate can't be repeated, if so
abbrev pub repeat_refusal : Fate → Option NetRefusal
repeat_refusal Pending = Some refusal.NotDelivered
repeat_refusal Delivered = None
repeat_refusal Repeated = Some refusal.AgainUsed
repeat_refusal Lost = Some refusal.Lost

-- why the message of this number can't be delivered, if so
abbrev pub deliver_refusal : List Message → ℕ → Option NetRefusal
deliver_refusal net m = if is_sent net m then fate_refusal (message_at net m).fate else Some refusal.NoSuchMessage

-- why the message of this number can't be lost, if so
abbrev pub lose_refusal : List Message → ℕ → Option NetRefusal
lose_refusal net m = if is_sent net m then fate_refusal (message_at net m).fate else Some refusal.NoSuchMessage

-- why the message of this number can't be repeated, if so
abbrev pub again_refusal : List Message → ℕ → Option NetRefusal
again_refusal net m = if is_sent net m then repeat_refusal (message_at net m).fate else Some refusal.NoSuchMessage
