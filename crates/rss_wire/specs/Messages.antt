use Rattle.std.specs.Prelude.{ℕ, suc, Bool, true, false, ◌&&◌, ◌==◌, List, [], ◌∷◌, ◌++◌, length, get_or, set, Option, Some, None, if◌then◌else◌, nat_lt}
use Rattle.rss_names.specs.Services.{same_service}
use Rattle.rss_names.specs.declared.service.Target.{Target}
use Rattle.rss_names.specs.declared.service.Target.TheVariants.{Shard, Replica}
use Rattle.rss_wire.specs.declared.envelope.Envelope.{Envelope}
use Rattle.rss_wire.specs.declared.message.Body.{Body}
use Rattle.rss_wire.specs.declared.message.Body.TheVariants as body
use Rattle.rss_wire.specs.declared.message.Fate.{Fate}
use Rattle.rss_wire.specs.declared.message.Fate.TheVariants.{Pending, Delivered, Repeated, Lost}
use Rattle.rss_wire.specs.declared.message.Message.{Message}
use Rattle.rss_wire.specs.declared.messages.Request.{Request}
use Rattle.rss_wire.specs.declared.messages.Reply.{Reply}
use Rattle.rss_wire.specs.declared.messages.Reply.TheVariants as reply

-- the message that stands at place 0, and wherever none was sent: a lost reply
abbrev pub no_message : Message
no_message = record {
  envelope = record { number = 0; owner = 0; stage = 0; exchange = 0; target = Shard 0; ordinal = 0; request = false };
  body = body.Reply reply.Done;
  fate = Lost;
}

-- the list of a net on which nothing was sent
abbrev pub no_messages : List Message
no_messages = no_message ∷ []

-- the message of a number, which is its place
abbrev pub message_at : List Message → ℕ → Message
message_at net m = get_or net m no_message

-- whether a message of this number was sent
abbrev pub is_sent : List Message → ℕ → Bool
is_sent net m = nat_lt 0 m && nat_lt m (length net)

-- the message of a number, if it was sent
abbrev pub sent_message : List Message → ℕ → Option Message
sent_message net m = if is_sent net m then Some (message_at net m) else None

-- whether two targets are the same
abbrev pub same_target : Target → Target → Bool
same_target (Shard a) (Shard b) = a == b
same_target (Replica s a) (Replica t b) = same_service s t && a == b
same_target (Shard a) (Replica t b) = false
same_target (Replica s a) (Shard b) = false

-- whether this is the outside of a request of the stage to the target
abbrev pub is_request_to : ℕ → Target → Envelope → Bool
is_request_to stage target e = e.request && (e.stage == stage) && same_target e.target target

-- how many requests the stage has sent to the target
abbrev pub count_requests : ℕ → Target → List Message → ℕ
count_requests stage target [] = 0
count_requests stage target (m ∷ net) =
    if is_request_to stage target m.envelope then suc (count_requests stage target net) else count_requests stage target net

-- whether this is the fate of a message that is still to come
abbrev pub is_pending : Fate → Bool
is_pending Pending = true
is_pending Delivered = false
is_pending Repeated = false
is_pending Lost = false

-- how many messages are still to come
abbrev pub pending_count : List Message → ℕ
pending_count [] = 0
pending_count (m ∷ net) = if is_pending m.fate then suc (pending_count net) else pending_count net

-- the request that this is, if it is one
abbrev pub body_request : Body → Option Request
body_request (body.Request r) = Some r
body_request (body.Reply r) = None

-- the reply that this is, if it is one
abbrev pub body_reply : Body → Option Reply
body_reply (body.Request r) = None
body_reply (body.Reply r) = Some r

-- the outside of a message, if it was sent
abbrev pub envelope_at : List Message → ℕ → Option Envelope
envelope_at net m = if is_sent net m then Some (message_at net m).envelope else None

-- the request of this number, if one was sent
abbrev pub request_at : List Message → ℕ → Option Request
request_at net m = if is_sent net m then body_request (message_at net m).body else None

-- the reply of this number, if one was sent
abbrev pub reply_at : List Message → ℕ → Option Reply
reply_at net m = if is_sent net m then body_reply (message_at net m).body else None

-- whether a request of this number was sent, so that it can be answered
abbrev pub is_asked : List Message → ℕ → Bool
is_asked net m = (message_at net m).envelope.request

-- the outside of a request that the owner sends to the target
abbrev pub request_envelope : List Message → ℕ → ℕ → Target → Envelope
request_envelope net owner stage target = record {
  number = length net;
  owner = owner;
  stage = stage;
  exchange = length net;
  target = target;
  ordinal = suc (count_requests stage target net);
  request = true;
}

-- the outside of a reply to the request of this number
abbrev pub reply_envelope : List Message → ℕ → Envelope
reply_envelope net exchange =
    record (message_at net exchange).envelope { number = length net; exchange = exchange; request = false }

-- a request is sent
abbrev pub asks : List Message → ℕ → ℕ → Target → Request → List Message
asks net owner stage target r =
    net ++ record { envelope = request_envelope net owner stage target; body = body.Request r; fate = Pending } ∷ []

-- a reply to the request of this number is sent
abbrev pub answers : List Message → ℕ → Reply → List Message
answers net exchange r =
    net ++ record { envelope = reply_envelope net exchange; body = body.Reply r; fate = Pending } ∷ []

-- the message of this number meets a fate
abbrev pub meets : List Message → ℕ → Fate → List Message
meets net m fate = set net m (record (message_at net m) { fate = fate })

-- a message is delivered
abbrev pub delivers : List Message → ℕ → List Message
delivers net m = meets net m Delivered

-- a message is lost
abbrev pub loses : List Message → ℕ → List Message
loses net m = meets net m Lost

-- a delivered message is delivered once more
abbrev pub repeats : List Message → ℕ → List Message
repeats net m = meets net m Repeated
