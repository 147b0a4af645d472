-- A sample of the net, computed: stage 1 asks shard 1 twice and shard 2 once, stage 2 asks shard 1, and the last request is answered.
use Rattle.std.specs.Prelude.{◌≡◌, true, false, List, [], ◌∷◌, Some, None, refl, map}
use Rattle.rss_names.specs.declared.service.Target.TheVariants.{Shard}
use Rattle.rss_wire.specs.declared.message.Message.{Message}
use Rattle.rss_wire.specs.declared.messages.Request.{Request}
use Rattle.rss_wire.specs.declared.messages.Request.TheVariants as request
use Rattle.rss_wire.specs.declared.messages.Reply.TheVariants as reply
use Rattle.rss_wire.specs.declared.refusal.NetRefusal.TheVariants as refusal
use Rattle.rss_wire.specs.Messages.{no_messages, asks, answers, delivers, loses, repeats, pending_count, request_at, reply_at, is_asked}
use Rattle.rss_wire.specs.Net.{deliver_refusal, lose_refusal, again_refusal}

-- the contents of each request
abbrev inquire : Request
inquire = request.Inquire (record { call = 3; k = 1 })

-- the net after the four requests
abbrev asked : List Message
asked =
    asks (asks (asks (asks no_messages 7 1 (Shard 1) inquire) 7 1 (Shard 2) inquire) 8 2 (Shard 1) inquire) 9 1 (Shard 1) inquire

-- the net after the reply to the fourth
abbrev answered : List Message
answered = answers asked 4 reply.Open

-- the first is delivered twice, the second once, and the third is lost
abbrev told : List Message
told = loses (delivers (repeats (delivers answered 1) 1) 2) 3

-- each request counts the requests of its stage to its target, and the reply has its request's count
ordinals : map (λ m. m.envelope.ordinal) answered ≡ 0 ∷ 1 ∷ 1 ∷ 1 ∷ 2 ∷ 2 ∷ []
ordinals = refl

-- the messages are numbered from 1
numbers : map (λ m. m.envelope.number) answered ≡ 0 ∷ 1 ∷ 2 ∷ 3 ∷ 4 ∷ 5 ∷ []
numbers = refl

-- a reply belongs to the exchange of its request
exchanges : map (λ m. m.envelope.exchange) answered ≡ 0 ∷ 1 ∷ 2 ∷ 3 ∷ 4 ∷ 4 ∷ []
exchanges = refl

-- and serves its owner
owners : map (λ m. m.envelope.owner) answered ≡ 0 ∷ 7 ∷ 7 ∷ 8 ∷ 9 ∷ 9 ∷ []
owners = refl

-- a request is found by its number, and a reply is none
requests : (request_at answered 4 ≡ Some inquire) × (request_at answered 5 ≡ None) × (request_at answered 0 ≡ None)
requests = (refl, refl, refl)

-- a reply is found by its number, and a request is none
replies : (reply_at answered 5 ≡ Some reply.Open) × (reply_at answered 4 ≡ None) × (reply_at answered 0 ≡ None)
replies = (refl, refl, refl)

-- a reply, and what was never sent, can't be answered
can_be_answered : map (is_asked answered) (0 ∷ 1 ∷ 4 ∷ 5 ∷ 6 ∷ []) ≡ false ∷ true ∷ true ∷ false ∷ false ∷ []
can_be_answered = refl

-- all five are still to come at first, and two in the end
pending : (pending_count answered ≡ 5) × (pending_count told ≡ 2)
pending = (refl, refl)

-- why each number can't be delivered
delivers_refused : map (deliver_refusal told) (0 ∷ 1 ∷ 2 ∷ 3 ∷ 4 ∷ 6 ∷ []) ≡ Some refusal.NoSuchMessage ∷ Some refusal.Delivered ∷ Some refusal.Delivered ∷ Some refusal.Lost ∷ None ∷ Some refusal.NoSuchMessage ∷ []
delivers_refused = refl

-- why each number can't be lost
loses_refused : map (lose_refusal told) (0 ∷ 1 ∷ 2 ∷ 3 ∷ 4 ∷ 6 ∷ []) ≡ Some refusal.NoSuchMessage ∷ Some refusal.Delivered ∷ Some refusal.Delivered ∷ Some refusal.Lost ∷ None ∷ Some refusal.NoSuchMessage ∷ []
loses_refused = refl

-- why each number can't be repeated
repeats_refused : map (again_refusal told) (0 ∷ 1 ∷ 2 ∷ 3 ∷ 4 ∷ 6 ∷ []) ≡ Some refusal.NoSuchMessage ∷ Some refusal.AgainUsed ∷ None ∷ Some refusal.Lost ∷ Some refusal.NotDelivered ∷ Some refusal.NoSuchMessage ∷ []
repeats_refused = refl
