-- What requests that an owner sends make of the net and of the owner.
use Rattle.std.proofs.Common.{◌≡◌, ℕ, zero, suc, ◌+◌, ◌<◌, ◌≤◌, List, [], ◌∷◌, ◌++◌, length, refl, sym, ap, ◌∙◌, subst, arith}
use Rattle.std.proofs.Math.ListN.{set}
use Rattle.std.specs.Prelude.{get_or}
use Rattle.std.proofs.lemmas.List.{set-set, get_or-set_same}
use Rattle.rss_wire.specs.Messages.{message_at, asks, request_envelope}
use Rattle.rss_wire.specs.declared.message.Body.TheVariants as body
use Rattle.rss_wire.specs.declared.envelope.Envelope.{Envelope}
use Rattle.rss_wire.specs.declared.message.Fate.TheVariants.{Pending}
use Rattle.rss_wire.specs.declared.message.Message.{Message}
use Rattle.rss_tables.specs.Outs.{Out}
use Rattle.rss_machine.specs.Moves.{sends, sends_one}
use Rattle.rss_machine.specs.Slots.{with_current}
use Rattle.rss_machine.specs.State.{State, Owner, owner_at, no_owner}
use Rattle.world_laws.proofs.Looks.{looks}
use Rattle.world_laws.proofs.OwnerMoves.{there_own}
use Rattle.world_laws.proofs.Replies.{old_message, new_message}
use Rattle.shard_event_laws.specs.Facts.{NetGrows, Sends, IsAsking, SameShards, currents_after, no_out}

-- what is set to itself stays
pub set_itself : {X : Type 0} (xs : List X) (i : ℕ) (d : X) → set xs i (get_or xs i d) ≡ xs
set_itself [] i d = refl
set_itself (x ∷ xs) zero d = refl
set_itself {X = X} (x ∷ xs) (suc i) d = ap (λ (l : List X). x ∷ l) (set_itself xs i d)

-- an owner with the currents that its requests leave
abbrev pub sent_owner : State → ℕ → List Out → Owner
sent_owner s o outs = record (owner_at s o) { currents = currents_after (owner_at s o).currents outs (length s.net) }

pub sends_owned : (o : ℕ) (outs : List Out) (s : State) → o < length s.owners → (sends s o outs).owners ≡ set s.owners o (sent_owner s o outs)
sends_owned o [] s i = sym (set_itself s.owners o no_owner)
sends_owned o (out ∷ outs) s i =
    sends_owned o outs (sends_one s o out) (there_own s o w i)
    ∙ (ap (λ (v : Owner). set (set s.owners o w) o v) same ∙ set-set s.owners o w (sent_owner s o (out ∷ outs)))
  where
    w : Owner
    w = record (owner_at s o) { currents = with_current (owner_at s o).currents out.slot (length s.net) }

    is : owner_at (sends_one s o out) o ≡ w
    is = get_or-set_same s.owners o w no_owner i

    long : length (sends_one s o out).net ≡ length s.net + 1
    long = grind (arith, looks)

    same : sent_owner (sends_one s o out) o outs ≡ sent_owner s o (out ∷ outs)
    same = ap (λ (v : Owner). record v { currents = currents_after v.currents outs (length (sends_one s o out).net) }) is ∙ ap (λ (n : ℕ). record (owner_at s o) { currents = currents_after w.currents outs n }) long

pub sends_clock : (o : ℕ) (outs : List Out) (s : State) → SameShards s (sends s o outs)
sends_clock o [] s = record { shards = refl; steps = refl; moment = refl; moments = refl }
sends_clock o (out ∷ outs) s = let e = sends_clock o outs (sends_one s o out) in record { shards = e.shards; steps = e.steps; moment = e.moment; moments = e.moments }

pub net_same : (s t : State) → t.net ≡ s.net → NetGrows s t
net_same s t e = record {
  long = ap-le e;
  envelopes = λ m i. ap (λ (net : List Message). (message_at net m).envelope) e;
  bodies = λ m i. ap (λ (net : List Message). (message_at net m).body) e;
}
  where
    ap-le : t.net ≡ s.net → length s.net ≤ length t.net
    ap-le e = let n = ap (λ (net : List Message). length net) e in omega (arith, n)

pub net_later : (s t u : State) → NetGrows s t → NetGrows t u → NetGrows s u
net_later s t u a b = record {
  long = (let x = a.long in let y = b.long in omega (arith, x, y));
  envelopes = λ m i. b.envelopes m (let x = a.long in omega (arith, x, i)) ∙ a.envelopes m i;
  bodies = λ m i. b.bodies m (let x = a.long in omega (arith, x, i)) ∙ a.bodies m i;
}

-- one more message
pub net_more : (s t : State) (x : Message) → t.net ≡ s.net ++ x ∷ [] → NetGrows s t
net_more s t x e = record {
  long = (let n = ap (λ (net : List Message). length net) e in grind (arith, looks, n));
  envelopes = λ m i. ap (λ (net : List Message). (message_at net m).envelope) e ∙ ap (λ (y : Message). y.envelope) (old_message s.net x m i);
  bodies = λ m i. ap (λ (net : List Message). (message_at net m).body) e ∙ ap (λ (y : Message). y.body) (old_message s.net x m i);
}

one_long : (net : List Message) (o n : ℕ) (out : Out) → length (asks net o n out.target out.request) ≡ length net + 1
one_long net o n out = grind (arith, looks)

-- the first request, and those behind it
sends_after : (s t : State) (o : ℕ) (out : Out) (outs : List Out) → Sends (sends_one s o out) t o outs → Sends s t o (out ∷ outs)
sends_after s t o out outs h = record {
  grows = net_later s u t first h.grows;
  count = (let a = h.count in omega (arith, a, long));
  each = each;
}
  where
    u : State
    u = sends_one s o out

    x : Message
    x = record { envelope = request_envelope s.net o (owner_at s o).stage out.target; body = body.Request out.request; fate = Pending }

    first : NetGrows s u
    first = net_more s u x refl

    long : length u.net ≡ length s.net + 1
    long = one_long s.net o (owner_at s o).stage out

    new : message_at u.net (length s.net) ≡ x
    new = new_message s.net x

    inside : length s.net < length u.net
    inside = omega (arith, long)

    head : IsAsking (message_at t.net (length s.net)) (length s.net) o out
    head = record {
      owner = ap (λ (e : Envelope). e.owner) (h.grows.envelopes (length s.net) inside ∙ ap (λ (y : Message). y.envelope) new);
      target = ap (λ (e : Envelope). e.target) (h.grows.envelopes (length s.net) inside ∙ ap (λ (y : Message). y.envelope) new);
      exchange = ap (λ (e : Envelope). e.exchange) (h.grows.envelopes (length s.net) inside ∙ ap (λ (y : Message). y.envelope) new);
      says = h.grows.bodies (length s.net) inside ∙ ap (λ (y : Message). y.body) new;
    }

    each : (i : ℕ) → i < length (out ∷ outs) → IsAsking (message_at t.net (length s.net + i)) (length s.net + i) o (get_or (out ∷ outs) i no_out)
    each zero l = subst (λ (n : ℕ). IsAsking (message_at t.net n) n o out) (omega arith) head
    each (suc i) l = subst (λ (n : ℕ). IsAsking (message_at t.net n) n o (get_or outs i no_out)) (omega (arith, long)) (h.each i (omega (arith, l)))

pub sends_net : (o : ℕ) (outs : List Out) (s : State) → Sends s (sends s o outs) o outs
sends_net o [] s = record { grows = net_same s s refl; count = omega arith; each = λ i l. absurd (omega (arith, l)) }
sends_net o (out ∷ outs) s = sends_after s (sends s o (out ∷ outs)) o out outs (sends_net o outs (sends_one s o out))
