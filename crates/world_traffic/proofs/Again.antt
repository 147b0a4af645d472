-- A request that is sent again is the one of its exchange.
use Rattle.std.proofs.Common.{◌≡◌, ℕ, Bool, true, false, List, Some, None, sym, ap}
use Rattle.rss_names.specs.declared.service.Target.{Target}
use Rattle.rss_wire.specs.Messages.{message_at, request_at, reply_at, body_request, body_reply, is_sent}
use Rattle.rss_wire.specs.declared.message.Body.{Body}
use Rattle.rss_wire.specs.declared.message.Body.TheVariants as body
use Rattle.rss_wire.specs.declared.message.Message.{Message}
use Rattle.rss_wire.specs.declared.messages.Reply.{Reply}
use Rattle.rss_wire.specs.declared.messages.Request.{Request}
use Rattle.rss_machine.specs.Effect.{asks_again}
use Rattle.rss_machine.specs.Moves.{sends_one}
use Rattle.rss_machine.specs.State.{State}
use Rattle.world_parts.specs.Parts.{Traffic, in_traffic}
use Rattle.std.specs.Prelude.{if◌then◌else◌}
use Rattle.world_traffic.specs.Turned.{said_by, said_in}

body_by : (sent : Bool) (b : Body) (r : Request) → (if sent then body_request b else None) ≡ Some r → b ≡ body.Request r
body_by true (body.Request x) r e = cc
body_by true (body.Reply x) r e = absurd (cc)
body_by false b r e = absurd (cc)

-- sending the request of an exchange is sending it again
pub asks_same : (t : Traffic) (o slot : ℕ) (target : Target) (net : List Message) (m : ℕ) (r : Request) → request_at net m ≡ Some r → in_traffic 0 (λ (s : State). sends_one s o (record { slot = Some slot; target = target; request = r })) t ≡ in_traffic 0 (λ (s : State). asks_again s o slot target (message_at net m).body) t
asks_same t o slot target net m r e = ap (λ (b : Body). in_traffic 0 (λ (s : State). asks_again s o slot target b) t) (sym (body_by (is_sent net m) (message_at net m).body r e))

-- what a reply says
reply_by : (sent : Bool) (b : Body) (r : Reply) → (if sent then body_reply b else None) ≡ Some r → said_by b ≡ r
reply_by true (body.Reply x) r e = cc
reply_by true (body.Request x) r e = absurd (cc)
reply_by false b r e = absurd (cc)

pub said_so : (net : List Message) (m : ℕ) (r : Reply) → reply_at net m ≡ Some r → said_in net m ≡ r
said_so net m r e = reply_by (is_sent net m) (message_at net m).body r e
