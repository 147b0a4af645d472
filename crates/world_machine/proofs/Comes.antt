-- What a message says as a reply.
use Rattle.std.proofs.Common.{◌≡◌, ℕ, Bool, true, false, List, Some, None, refl, if◌then◌else◌}
use Rattle.std.specs.Prelude.{is_some}
use Rattle.pipeline_lang.specs.declared.config.Config.{Config}
use Rattle.truetime.specs.Reading.{Reading}
use Rattle.rss_machine.specs.Effect.{comes, reply_comes}
use Rattle.rss_machine.specs.Slots.{slot_in}
use Rattle.rss_machine.specs.State.{State, owner_at}
use Rattle.rss_wire.specs.declared.envelope.Envelope.{Envelope}
use Rattle.rss_wire.specs.declared.message.Body.{Body}
use Rattle.rss_wire.specs.declared.message.Body.TheVariants as body
use Rattle.rss_wire.specs.declared.message.Message.{Message}
use Rattle.rss_wire.specs.declared.messages.Reply.{Reply}
use Rattle.rss_wire.specs.Messages.{message_at, is_sent, envelope_at, request_at, body_request, reply_at, body_reply}
use Rattle.world_traffic.specs.Turned.{said_in, said_by}

by_body : (b : Body) (sent : Bool) (r : Reply) → (if sent then body_reply b else None) ≡ Some r → said_by b ≡ r
by_body (body.Request q) true r e = absurd (cc)
by_body (body.Reply x) true r e = cc
by_body b false r e = absurd (cc)

pub said_so : (net : List Message) (m : ℕ) (r : Reply) → reply_at net m ≡ Some r → said_in net m ≡ r
said_so net m r e = by_body (message_at net m).body (is_sent net m) r e

-- a message that is no request is a reply
by_reply : (c : Config) (s u : State) (m : ℕ) (at : Reading) (e : Envelope) (b : Body) (sent : Bool) (x : Envelope) → (if sent then Some x else None) ≡ Some e → is_some (if sent then body_request b else None) ≡ false
    → ((r : Reply) → (if sent then body_reply b else None) ≡ Some r → u ≡ reply_comes c s e.owner at r (slot_in (owner_at s e.owner).currents e.exchange)) → u ≡ comes c s m at e b
by_reply c s u m at e (body.Request r) true x h q f = absurd (cc)
by_reply c s u m at e (body.Reply r) true x h q f = f r refl
by_reply c s u m at e b false x h q f = absurd (cc)

pub reply_came : (c : Config) (s u : State) (m : ℕ) (at : Reading) (e : Envelope) → envelope_at s.net m ≡ Some e → is_some (request_at s.net m) ≡ false
    → ((r : Reply) → reply_at s.net m ≡ Some r → u ≡ reply_comes c s e.owner at r (slot_in (owner_at s e.owner).currents e.exchange)) → u ≡ comes c s m at e (message_at s.net m).body
reply_came c s u m at e h q f = by_reply c s u m at e (message_at s.net m).body (is_sent s.net m) (message_at s.net m).envelope h q f

-- it is there
reply_some : (b : Body) (sent : Bool) (x e : Envelope) → (if sent then Some x else None) ≡ Some e → is_some (if sent then body_request b else None) ≡ false → is_some (if sent then body_reply b else None) ≡ true
reply_some (body.Request r) true x e h q = absurd (cc)
reply_some (body.Reply r) true x e h q = refl
reply_some b false x e h q = absurd (cc)

pub reply_there : (net : List Message) (m : ℕ) (e : Envelope) → envelope_at net m ≡ Some e → is_some (request_at net m) ≡ false → is_some (reply_at net m) ≡ true
reply_there net m e h q = reply_some (message_at net m).body (is_sent net m) (message_at net m).envelope e h q
