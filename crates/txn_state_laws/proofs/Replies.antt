-- What an event does: it leaves all shards and sends no reply of one, or a shard serves a request.
use Rattle.std.proofs.Common.{◌≡◌, ◌⊎◌, inl, inr, ℕ, ◌+◌, ◌-◌, ◌<◌, ◌≤◌, true, List, [], ◌∷◌, ◌++◌, length, get_or, refl, sym, ap, ◌∙◌, subst, arith, length-append}
use Rattle.std.proofs.lemmas.Bool.{true≢false, cases_lt}
use Rattle.truetime.specs.Reading.{Reading}
use Rattle.rss_names.specs.declared.service.Target.{Target}
use Rattle.rss_names.specs.declared.service.Target.TheVariants.{Shard}
use Rattle.pipeline_lang.specs.declared.config.Config.{Config}
use Rattle.rss_wire.specs.Messages.{message_at, reply_envelope}
use Rattle.rss_wire.specs.declared.envelope.Envelope.{Envelope}
use Rattle.rss_wire.specs.declared.message.Body.{Body}
use Rattle.rss_wire.specs.declared.message.Body.TheVariants as body
use Rattle.rss_wire.specs.declared.message.Fate.TheVariants.{Pending}
use Rattle.rss_wire.specs.declared.message.Message.{Message}
use Rattle.rss_wire.specs.declared.messages.Reply.{Reply}
use Rattle.rss_wire.specs.declared.messages.Request.{Request}
use Rattle.rss_tables.specs.Outs.{Out}
use Rattle.rss_tables.specs.ShardRow.{shard_reply}
use Rattle.rss_machine.specs.Moves.{serves_shard}
use Rattle.rss_machine.specs.State.{State, shard_at}
use Rattle.world_laws.specs.Exchanges.{Exchanges, IsSound, is_request, is_replica}
use Rattle.world_laws.proofs.Replies.{old_message, new_message, place, exchange_there}
use Rattle.shard_event_laws.specs.Events.{Event, WasAsked, aside, begins_txn, begins_snapshot, txn_hears_one, snap_hears_one, txn_wakes_one, snap_wakes_one, txn_passes_time, sends_again, serves_one, stub_asks, stub_tells}
use Rattle.shard_event_laws.specs.Facts.{NetGrows, SameShards, Sends, no_out}
use Rattle.shard_event_laws.specs.Known.{Known}
use Rattle.txn_laws.specs.Given.{IsReplyOf}
use Rattle.txn_state_laws.specs.Replied.{Replied}

-- a message is no reply of a shard: it is for a replica, or is a request
pub data IsNoReply (x : Message) : Type 0 where
  for_replica : is_replica x.envelope.target ≡ true → IsNoReply x
  requests : (q : Request) → x.body ≡ body.Request q → IsNoReply x

-- shards stay, and no reply of one is new
pub record Quiet (s t : State) : Type 0 where
  pub shards : t.shards ≡ s.shards
  pub grows : NetGrows s t
  pub news : (m : ℕ) → length s.net ≤ m → m < length t.net → IsNoReply (message_at t.net m)

-- a shard serves a request
pub record Serves (s t : State) (latest : ℕ) : Type 0 where
  pub message : ℕ
  pub shard : ℕ
  pub request : Request
  pub asked : WasAsked s message shard request
  pub is : t ≡ serves_shard s message shard latest request

-- requests alone are sent
pub quiet_sends : (s t : State) (o : ℕ) (outs : List Out) → SameShards s t → Sends s t o outs → Quiet s t
quiet_sends s t o outs e d = record {
  shards = e.shards;
  grows = d.grows;
  news = λ m l i. by_number m (m - length s.net) (let c = d.count in omega (arith, c, l, i)) (omega (arith, l));
}
  where
    by_number : (m i : ℕ) → i < length outs → length s.net + i ≡ m → IsNoReply (message_at t.net m)
    by_number m i h f = subst (λ (n : ℕ). IsNoReply (message_at t.net n)) f (requests (get_or outs i no_out).request (d.each i h).says)

-- each event is one or the other
pub event_does : (c : Config) (at : Reading) (s t : State) → Event c at s t → Quiet s t ⊎ Serves s t at.latest
event_does c at s t (aside h) = inl record { shards = h.same.shards; grows = h.net; news = λ m l i. for_replica (h.sent m l i) }
event_does c at s t (begins_txn o reads guard writes x k e h) = inl (quiet_sends s t o _ h.same h.sends)
event_does c at s t (begins_snapshot o keys x k e h) = inl (quiet_sends s t o _ h.same h.sends)
event_does c at s t (txn_hears_one o slot x r e g h) = inl (quiet_sends s t o _ h.same h.sends)
event_does c at s t (snap_hears_one o slot x r e g h) = inl (quiet_sends s t o _ h.same h.sends)
event_does c at s t (txn_wakes_one o x l e g h) = inl (quiet_sends s t o _ h.same h.sends)
event_does c at s t (snap_wakes_one o x l e g h) = inl (quiet_sends s t o _ h.same h.sends)
event_does c at s t (txn_passes_time o time x e g l h) = inl (quiet_sends s t o _ h.same h.sends)
event_does c at s t (sends_again o slot target r h) = inl (quiet_sends s t o _ h.same h.sends)
event_does c at s t (serves_one m shard q w e) = inr record { message = m; shard = shard; request = q; asked = w; is = e }
event_does c at s t (stub_asks o a shards k n e h) = inl (quiet_sends s t o _ h.same h.sends)
event_does c at s t (stub_tells o slot a shards outcome e g h) = inl (quiet_sends s t o _ h.same h.sends)

-- a reply of an old message was there before
pub was_reply : (at : Reading) (s t : State) → Known at s → NetGrows s t → (m : ℕ) (target : Target) (q : Request) (r : Reply) → m < length s.net → IsReplyOf t m target q r → IsReplyOf s m target q r
was_reply at s t k g m target q r i x =
    let e : (message_at t.net m).envelope ≡ (message_at s.net m).envelope = g.envelopes m i in
    let back = exchange_there s.net k.sound m x.numbered i in
    record {
      numbered = x.numbered;
      sent = i;
      says = sym (g.bodies m i) ∙ x.says;
      asked = sym (g.bodies (message_at s.net m).envelope.exchange (omega (arith, back, i))) ∙ ap (λ (v : Envelope). (message_at t.net v.exchange).body) (sym e) ∙ x.asked;
      from = ap (λ (v : Envelope). v.target) (sym e) ∙ x.from;
    }

-- the request of a reply was sent to its shard
pub reply_asked : (s : State) → Exchanges s.net → (m n : ℕ) (q : Request) (r : Reply) → IsReplyOf s m (Shard n) q r → WasAsked s (message_at s.net m).envelope.exchange n q
reply_asked s sound m n q r i =
    let x : IsSound m (message_at s.net m) (message_at s.net (message_at s.net m).envelope.exchange) = sound m i.numbered i.sent in
    let before = x.earlier (ap is_request i.says) in
    let sent = i.sent in
    record { numbered = x.some; sent = omega (arith, before, sent); asks = i.asked; to = sym x.target ∙ i.from }

-- a shard's reply is no other message
pub shard_no_replica : (target : Target) (shard : ℕ) → target ≡ Shard shard → is_replica target ≡ true → ⊥
shard_no_replica target shard e f = true≢false (sym f ∙ ap is_replica e)

pub request_no_reply : (q : Request) (r : Reply) → ◌≡◌ {A = Body} (body.Request q) (body.Reply r) → ⊥
request_no_reply q r e = cc

pub no_reply : (s : State) (m shard : ℕ) (q : Request) (r : Reply) → IsReplyOf s m (Shard shard) q r → IsNoReply (message_at s.net m) → ⊥
no_reply s m shard q r x (for_replica e) = shard_no_replica (message_at s.net m).envelope.target shard x.from e
no_reply s m shard q r x (requests p e) = request_no_reply p r (sym e ∙ x.says)

-- where no reply is new, each was there before
pub quiet_reply : (at : Reading) (s t : State) → Known at s → Quiet s t → (shard : ℕ) (q : Request) (r : Reply) → Replied t (Shard shard) q r → Replied s (Shard shard) q r
quiet_reply at s t k h shard q r x = record { message = x.message; is = was_reply at s t k h.grows x.message (Shard shard) q r (old (cases_lt x.message (length s.net))) x.is }
  where
    old : (x.message < length s.net) ⊎ (length s.net ≤ x.message) → x.message < length s.net
    old (inl i) = i
    old (inr l) = absurd (no_reply t x.message shard q r x.is (h.news x.message l x.is.sent))

-- the message of a reply
abbrev pub answered : List Message → ℕ → Reply → Message
answered net m r = record { envelope = reply_envelope net m; body = body.Reply r; fate = Pending }

-- one more message
pub more_grows : (s t : State) (x : Message) → t.net ≡ s.net ++ x ∷ [] → NetGrows s t
more_grows s t x e = record {
  long = subst (λ (net : List Message). length s.net ≤ length net) (sym e) (let l = length-append s.net (x ∷ []) in omega (arith, l));
  envelopes = λ m i. ap (λ (net : List Message). (message_at net m).envelope) e ∙ ap (λ (y : Message). y.envelope) (old_message s.net x m i);
  bodies = λ m i. ap (λ (net : List Message). (message_at net m).body) e ∙ ap (λ (y : Message). y.body) (old_message s.net x m i);
}

-- where a shard serves, a reply was there before, or it is the one to what is served
pub data ReplyComes (s : State) (shard latest : ℕ) (q : Request) (n : ℕ) (p : Request) (r : Reply) : Type 0 where
  was : Replied s (Shard n) p r → ReplyComes s shard latest q n p r
  comes : n ≡ shard → p ≡ q → r ≡ shard_reply (shard_at s shard) latest q → ReplyComes s shard latest q n p r

pub same_request : (q p : Request) → ◌≡◌ {A = Body} (body.Request q) (body.Request p) → p ≡ q
same_request q p e = cc

pub same_reply : (r a : Reply) → ◌≡◌ {A = Body} (body.Reply r) (body.Reply a) → a ≡ r
same_reply r a e = cc

pub same_shard : (a b : ℕ) → ◌≡◌ {A = Target} (Shard a) (Shard b) → b ≡ a
same_shard a b e = cc

pub serves_reply : (at : Reading) (s : State) (m shard latest : ℕ) (q : Request) → Known at s → WasAsked s m shard q → (n : ℕ) (p : Request) (r : Reply) → Replied (serves_shard s m shard latest q) (Shard n) p r → ReplyComes s shard latest q n p r
serves_reply at s m shard latest q k w n p r x = by_place (place s.net new x.message x.is.sent)
  where
    t : State
    t = serves_shard s m shard latest q

    new : Message
    new = answered s.net m (shard_reply (shard_at s shard) latest q)

    by_place : (x.message < length s.net) ⊎ (x.message ≡ length s.net) → ReplyComes s shard latest q n p r
    by_place (inl i) = was record { message = x.message; is = was_reply at s t k (more_grows s t new refl) x.message (Shard n) p r i x.is }
    by_place (inr e) =
        let here : message_at t.net x.message ≡ new = ap (message_at t.net) e ∙ new_message s.net new in
        let old : message_at t.net m ≡ message_at s.net m = old_message s.net new m w.sent in
        comes
        (same_shard shard n (sym w.to ∙ ap (λ (y : Message). y.envelope.target) (sym here) ∙ x.is.from))
        (same_request q p (sym w.asks ∙ ap (λ (y : Message). y.body) (sym old) ∙ ap (λ (y : Message). (message_at t.net y.envelope.exchange).body) (sym here) ∙ x.is.asked))
        (same_reply (shard_reply (shard_at s shard) latest q) r (ap (λ (y : Message). y.body) (sym here) ∙ x.is.says))

-- where a shard serves, each reply is such
pub served_reply : (at : Reading) (s t : State) (latest : ℕ) → Known at s → (v : Serves s t latest) → (n : ℕ) (p : Request) (r : Reply) → Replied t (Shard n) p r → ReplyComes s v.shard latest v.request n p r
served_reply at s t latest k v n p r x = serves_reply at s v.message v.shard latest v.request k v.asked n p r (subst (λ (u : State). Replied u (Shard n) p r) v.is x)
