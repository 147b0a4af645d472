-- The replies that shards have sent behind an event: each was sent before, or a shard serves its request now.
use Rattle.std.proofs.Common.{◌≡◌, ◌⊎◌, inl, inr, ℕ, ◌+◌, List, [], ◌∷◌, ◌++◌, length, sym, ap, ◌∙◌, subst, arith, length-append}
use Rattle.std.proofs.lemmas.Bool.{true≢false}
use Rattle.truetime.specs.Reading.{Reading}
use Rattle.rss_names.specs.declared.service.Target.{Target}
use Rattle.rss_names.specs.declared.service.Target.TheVariants.{Shard}
use Rattle.pipeline_lang.specs.declared.config.Config.{Config}
use Rattle.rss_wire.specs.Messages.{message_at, reply_envelope}
use Rattle.rss_wire.specs.declared.message.Body.{Body}
use Rattle.rss_wire.specs.declared.message.Body.TheVariants as body
use Rattle.rss_wire.specs.declared.message.Fate.TheVariants.{Pending}
use Rattle.rss_wire.specs.declared.message.Message.{Message}
use Rattle.rss_wire.specs.declared.messages.Reply.{Reply}
use Rattle.rss_wire.specs.declared.messages.Request.{Request}
use Rattle.rss_tables.specs.ShardRow.{shard_reply}
use Rattle.rss_machine.specs.Moves.{serves_shard}
use Rattle.rss_machine.specs.State.{State, shard_at}
use Rattle.world_laws.specs.Exchanges.{is_request}
use Rattle.world_laws.proofs.Looks.{looks}
use Rattle.shard_event_laws.specs.Events.{WasAsked}
use Rattle.txn_state_laws.specs.Onward.{Between}
use Rattle.txn_state_laws.specs.Replied.{Replied}
use Rattle.txn_state_laws.proofs.Replies.{Quiet, Serves, event_does, quiet_reply, served_reply, ReplyComes, was, comes}

-- the length of the net where a shard has served
pub served_length : (s t : State) (j shard latest : ℕ) (q : Request) → t ≡ serves_shard s j shard latest q → length t.net ≡ length s.net + 1
served_length s t j shard latest q e = ap (λ (u : State). length u.net) e ∙ length-append s.net _

-- a shard serves a request now, and replies so
pub record ServesNow (at : Reading) (s t : State) (shard : ℕ) (q : Request) (r : Reply) : Type 0 where
  pub message : ℕ
  pub asked : WasAsked s message shard q
  pub serves : t ≡ serves_shard s message shard at.latest q
  pub replies : r ≡ shard_reply (shard_at s shard) at.latest q

-- bodies and targets apart
pub request_same : (q r : Request) → ◌≡◌ {A = Body} (body.Request q) (body.Request r) → q ≡ r
request_same q r e = cc

pub not_both : (q : Request) (r : Reply) → ◌≡◌ {A = Body} (body.Request q) (body.Reply r) → ⊥
not_both q r e = true≢false (ap is_request e)

pub shard_same : (m n : ℕ) → ◌≡◌ {A = Target} (Shard m) (Shard n) → m ≡ n
shard_same m n e = cc

-- the last message where a shard has served
pub served_last : (s t : State) (j shard latest : ℕ) (q : Request) → t ≡ serves_shard s j shard latest q
    → message_at t.net (length s.net) ≡ record { envelope = reply_envelope s.net j; body = body.Reply (shard_reply (shard_at s shard) latest q); fate = Pending }
served_last s t j shard latest q e = ap (λ (u : State). message_at u.net (length s.net)) e ∙ last s.net _
  where
    last : (net : List Message) (x : Message) → message_at (net ++ x ∷ []) (length net) ≡ x
    last net x = grind (arith, looks)

-- a reply of a shard was sent before, or is sent now
pub replied_goes : (c : Config) (at : Reading) (s t : State) → Between c at s t → (shard : ℕ) (q : Request) (r : Reply) → Replied t (Shard shard) q r → Replied s (Shard shard) q r ⊎ ServesNow at s t shard q r
replied_goes c at s t b shard q r h = by_does (event_does c at s t b.event)
  where
    by_reply : (v : Serves s t at.latest) → ReplyComes s v.shard at.latest v.request shard q r → Replied s (Shard shard) q r ⊎ ServesNow at s t shard q r
    by_reply v (was x) = inl x
    by_reply v (comes e f g) = inr (subst (λ (k : ℕ). ServesNow at s t k q r) (sym e) (subst (λ (k : Request). ServesNow at s t v.shard k r) (sym f) record { message = v.message; asked = v.asked; serves = v.is; replies = g }))

    by_does : Quiet s t ⊎ Serves s t at.latest → Replied s (Shard shard) q r ⊎ ServesNow at s t shard q r
    by_does (inl x) = inl (quiet_reply at s t b.known x shard q r h)
    by_does (inr v) = by_reply v (served_reply at s t at.latest b.known v shard q r h)
