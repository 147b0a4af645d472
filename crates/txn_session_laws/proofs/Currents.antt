-- Which exchanges are current behind a turn, and what lines await then.
use Rattle.std.proofs.Common.{◌≡◌, ◌⊎◌, inl, inr, ℕ, zero, suc, ◌+◌, ◌<◌, ◌≤◌, Bool, true, false, List, [], ◌∷◌, length, get_or, Option, Some, None, refl, sym, ap, ◌∙◌, subst, arith}
use Rattle.std.proofs.lemmas.Bool.{true≢false}
use Rattle.rss_names.specs.declared.service.Target.{Target}
use Rattle.rss_wire.specs.declared.envelope.Envelope.{Envelope}
use Rattle.rss_wire.specs.declared.message.Message.{Message}
use Rattle.rss_wire.specs.declared.messages.Request.{Request}
use Rattle.rss_tables.specs.Lines.{Line, with_line}
use Rattle.rss_tables.specs.Outs.{Out, line_slot}
use Rattle.rss_machine.specs.Session.{Session}
use Rattle.rss_machine.specs.Slots.{with_current}
use Rattle.rss_machine.specs.State.{State, no_currents}
use Rattle.world_laws.proofs.Looks.{some_is, some_is_not}
use Rattle.reg_laws.proofs.Awaiting.{current_more, none_current}
use Rattle.session_laws.specs.Frames.{nth_line, IsLine}
use Rattle.session_laws.proofs.LineLaws.{length_with_line, nth_with_line_cases}
use Rattle.shard_event_laws.specs.Events.{turned_owner, left_to_await}
use Rattle.shard_event_laws.specs.Facts.{current_at, currents_after, no_out, NetGrows, Sends}
use Rattle.txn_state_laws.specs.Awaited.{IsExchange, LineAwaits}

-- an exchange is that of one of the requests that are sent
pub record IsSent (outs : List Out) (n slot m : ℕ) : Type 0 where
  pub place : ℕ
  pub inside : place < length outs
  pub of_slot : (get_or outs place no_out).slot ≡ Some slot
  pub number : m ≡ n + place

-- what is current behind requests was so before, or is that of one of them
pub after_current : (outs : List Out) (cs : List (Option ℕ)) (n slot m : ℕ) → get_or (currents_after cs outs n) slot None ≡ Some m → (get_or cs slot None ≡ Some m) ⊎ IsSent outs n slot m
after_current [] cs n slot m e = inl e
after_current (out ∷ outs) cs n slot m e = by_rest (after_current outs (with_current cs out.slot n) (n + 1) slot m e)
  where
    by_first : ((m ≡ n) × (out.slot ≡ Some slot)) ⊎ (get_or cs slot None ≡ Some m) → (get_or cs slot None ≡ Some m) ⊎ IsSent (out ∷ outs) n slot m
    by_first (inl f) = inr (record { place = 0; inside = omega arith; of_slot = f.1; number = (let g = f.0 in omega (arith, g)) })
    by_first (inr f) = inl f

    by_rest : (get_or (with_current cs out.slot n) slot None ≡ Some m) ⊎ IsSent outs (n + 1) slot m → (get_or cs slot None ≡ Some m) ⊎ IsSent (out ∷ outs) n slot m
    by_rest (inl f) = by_first (current_more cs out.slot n slot m f)
    by_rest (inr f) = inr (record { place = suc f.place; inside = (let i = f.inside in omega (arith, i)); of_slot = f.of_slot; number = (let g = f.number in omega (arith, g)) })

-- what is current behind a turn: its owner has not ended, and it is what was left, or what is sent
pub turned_current : (s : State) (o : ℕ) (anew : Bool) (cs : List (Option ℕ)) (x : Session) (outs : List Out) (end : Option ℕ) (slot m : ℕ) → current_at (turned_owner s o (left_to_await anew cs) x outs end) slot ≡ Some m
    → (end ≡ None) × (((anew ≡ false) × (get_or cs slot None ≡ Some m)) ⊎ IsSent outs (length s.net) slot m)
turned_current s o anew cs x outs (Some time) slot m e = absurd (none_current slot m e)
turned_current s o true cs x outs None slot m e = (refl, by_sent (after_current outs no_currents (length s.net) slot m e))
  where
    by_sent : (get_or no_currents slot None ≡ Some m) ⊎ IsSent outs (length s.net) slot m → ((true ≡ false) × (get_or cs slot None ≡ Some m)) ⊎ IsSent outs (length s.net) slot m
    by_sent (inl f) = absurd (none_current slot m f)
    by_sent (inr f) = inr f
turned_current s o false cs x outs None slot m e = (refl, by_sent (after_current outs cs (length s.net) slot m e))
  where
    by_sent : (get_or cs slot None ≡ Some m) ⊎ IsSent outs (length s.net) slot m → ((false ≡ false) × (get_or cs slot None ≡ Some m)) ⊎ IsSent outs (length s.net) slot m
    by_sent (inl f) = inl (refl, f)
    by_sent (inr f) = inr f

-- exchanges stay what they are
pub exchange_later : (s t : State) (m o : ℕ) (target : Target) (q : Request) → NetGrows s t → IsExchange s.net m o target q → IsExchange t.net m o target q
exchange_later s t m o target q g e = record {
  numbered = e.numbered;
  sent = (let l = g.long in let i = e.sent in omega (arith, l, i));
  owner = ap (λ (x : Envelope). x.owner) (g.envelopes m e.sent) ∙ e.owner;
  to = ap (λ (x : Envelope). x.target) (g.envelopes m e.sent) ∙ e.to;
  asks = g.bodies m e.sent ∙ e.asks;
}

pub line_later : (s t : State) (o slot m : ℕ) (lines : List Line) (awaits : Line → Option (Target × Request)) → NetGrows s t → LineAwaits s.net o slot m lines awaits → LineAwaits t.net o slot m lines awaits
line_later s t o slot m lines awaits g a = record {
  place = a.place;
  inside = a.inside;
  of_line = a.of_line;
  target = a.target;
  asked = a.asked;
  awaited = a.awaited;
  exchange = exchange_later s t m o a.target a.asked g a.exchange;
}

-- what is sent is an exchange
pub exchange_sent : (s t : State) (o : ℕ) (outs : List Out) (i : ℕ) → 0 < length s.net → Sends s t o outs → i < length outs → IsExchange t.net (length s.net + i) o (get_or outs i no_out).target (get_or outs i no_out).request
exchange_sent s t o outs i f sends h = record {
  numbered = omega (arith, f);
  sent = (let n = sends.count in omega (arith, n, h));
  owner = (sends.each i h).owner;
  to = (sends.each i h).target;
  asks = (sends.each i h).says;
}

-- a line of a slot awaits a request's reply
pub record SlotAwaits (lines : List Line) (awaits : Line → Option (Target × Request)) (slot : ℕ) (target : Target) (q : Request) : Type 0 where
  pub place : ℕ
  pub inside : place < length lines
  pub of_line : slot ≡ line_slot (nth_line lines place).shard
  pub awaited : awaits (nth_line lines place) ≡ Some (target, q)

-- what lines await behind a turn of line l: the others what they have awaited, where no new phase begins, and each that
-- is asked what it is asked
pub record TurnAwaits (lines : List Line) (awaits : Line → Option (Target × Request)) (l : Line) (anew : Bool) (after : List Line) (awaits' : Line → Option (Target × Request)) (outs : List Out) (end : Option ℕ) : Type 0 where
  pub kept : end ≡ None → anew ≡ false → (place : ℕ) → place < length lines → ((nth_line lines place).shard ≡ l.shard → ⊥) → (target : Target) (q : Request) → awaits (nth_line lines place) ≡ Some (target, q)
      → SlotAwaits after awaits' (line_slot (nth_line lines place).shard) target q
  pub sent : end ≡ None → (i : ℕ) → i < length outs → (slot : ℕ) → (get_or outs i no_out).slot ≡ Some slot → SlotAwaits after awaits' slot (get_or outs i no_out).target (get_or outs i no_out).request

-- a line of a slot, with the exchange
with_exchange : (net : List Message) (o slot m : ℕ) (lines : List Line) (awaits : Line → Option (Target × Request)) (target : Target) (q : Request) → SlotAwaits lines awaits slot target q → IsExchange net m o target q → LineAwaits net o slot m lines awaits
with_exchange net o slot m lines awaits target q a e = record { place = a.place; inside = a.inside; of_line = a.of_line; target = target; asked = q; awaited = a.awaited; exchange = e }

-- what is current behind a turn is what its line awaits
pub turn_lines : (s t : State) (o : ℕ) (anew : Bool) (cs : List (Option ℕ)) (x : Session) (outs : List Out) (end : Option ℕ) (lines : List Line) (awaits : Line → Option (Target × Request)) (l : Line) (after : List Line) (awaits' : Line → Option (Target × Request))
    → 0 < length s.net → Sends s t o outs → TurnAwaits lines awaits l anew after awaits' outs end
    → ((slot m : ℕ) → get_or cs slot None ≡ Some m → LineAwaits s.net o slot m lines awaits × (slot ≡ line_slot l.shard → ⊥))
    → (slot m : ℕ) → current_at (turned_owner s o (left_to_await anew cs) x outs end) slot ≡ Some m → LineAwaits t.net o slot m after awaits'
turn_lines s t o anew cs x outs end lines awaits l after awaits' f sends turn before slot m e = by_current (turned_current s o anew cs x outs end slot m e)
  where
    left : end ≡ None → anew ≡ false → LineAwaits s.net o slot m lines awaits × (slot ≡ line_slot l.shard → ⊥) → LineAwaits t.net o slot m after awaits'
    left g n b = with_exchange t.net o slot m after awaits' b.0.target b.0.asked
        (subst (λ (i : ℕ). SlotAwaits after awaits' i b.0.target b.0.asked) (sym b.0.of_line) (turn.kept g n b.0.place b.0.inside (λ d. b.1 (b.0.of_line ∙ ap line_slot d)) b.0.target b.0.asked b.0.awaited))
        (exchange_later s t m o b.0.target b.0.asked sends.grows b.0.exchange)

    anew_sent : end ≡ None → IsSent outs (length s.net) slot m → LineAwaits t.net o slot m after awaits'
    anew_sent g b = with_exchange t.net o slot m after awaits' (get_or outs b.place no_out).target (get_or outs b.place no_out).request (turn.sent g b.place b.inside slot b.of_slot)
        (subst (λ (i : ℕ). IsExchange t.net i o (get_or outs b.place no_out).target (get_or outs b.place no_out).request) (sym b.number) (exchange_sent s t o outs b.place f sends b.inside))

    by_current : (end ≡ None) × (((anew ≡ false) × (get_or cs slot None ≡ Some m)) ⊎ IsSent outs (length s.net) slot m) → LineAwaits t.net o slot m after awaits'
    by_current (g, inl b) = left g b.0 (before slot m b.1)
    by_current (g, inr b) = anew_sent g b

-- a turn with which a call ends awaits nothing
pub ends_turn : (lines : List Line) (awaits : Line → Option (Target × Request)) (l : Line) (anew : Bool) (after : List Line) (awaits' : Line → Option (Target × Request)) (outs : List Out) (time : ℕ) → TurnAwaits lines awaits l anew after awaits' outs (Some time)
ends_turn lines awaits l anew after awaits' outs time = record { kept = λ g. absurd (some_is_not time g); sent = λ g. absurd (some_is_not time g) }

-- with a new phase only what is sent is awaited
pub asks_turn : (lines : List Line) (awaits : Line → Option (Target × Request)) (l : Line) (after : List Line) (awaits' : Line → Option (Target × Request)) (outs : List Out) (end : Option ℕ)
    → ((i : ℕ) → i < length outs → (slot : ℕ) → (get_or outs i no_out).slot ≡ Some slot → SlotAwaits after awaits' slot (get_or outs i no_out).target (get_or outs i no_out).request)
    → TurnAwaits lines awaits l true after awaits' outs end
asks_turn lines awaits l after awaits' outs end sent = record { kept = λ g n. absurd (true≢false n); sent = λ g. sent }

-- a request that a line is asked in its slot, and awaits
pub record AsksLine (l new : Line) (awaits : Line → Option (Target × Request)) (out : Out) : Type 0 where
  pub slot : out.slot ≡ Some (line_slot l.shard)
  pub awaited : awaits new ≡ Some (out.target, out.request)

-- a line goes on by itself
pub goes_turn : (lines : List Line) (l new : Line) (awaits awaits' : Line → Option (Target × Request)) (outs : List Out) (end : Option ℕ) → IsLine lines l → new.shard ≡ l.shard
    → (end ≡ None → (m : Line) → awaits' m ≡ awaits m) → (end ≡ None → (i : ℕ) → i < length outs → AsksLine l new awaits' (get_or outs i no_out))
    → TurnAwaits lines awaits l false (with_line lines new) awaits' outs end
goes_turn lines l new awaits awaits' outs end is e same asks = record {
  kept = λ g n place h apart target q a. others g place h apart target q a (nth_with_line_cases lines new place);
  sent = λ g i h slot f. itself g i h slot f (nth_with_line_cases lines new is.place);
}
  where
    others : end ≡ None → (place : ℕ) → place < length lines → ((nth_line lines place).shard ≡ l.shard → ⊥) → (target : Target) (q : Request) → awaits (nth_line lines place) ≡ Some (target, q)
        → ((nth_line (with_line lines new) place ≡ new) × ((nth_line lines place).shard ≡ new.shard) × (place < length lines)) ⊎ ((nth_line (with_line lines new) place ≡ nth_line lines place) × (((nth_line lines place).shard ≡ new.shard → ⊥) ⊎ (length lines ≤ place)))
        → SlotAwaits (with_line lines new) awaits' (line_slot (nth_line lines place).shard) target q
    others g place h apart target q a (inl b) = absurd (apart (b.1 ∙ e))
    others g place h apart target q a (inr b) = record {
      place = place;
      inside = subst (λ (n : ℕ). place < n) (sym (length_with_line lines new)) h;
      of_line = ap (λ (m : Line). line_slot m.shard) (sym b.0);
      awaited = ap awaits' b.0 ∙ same g (nth_line lines place) ∙ a;
    }

    itself : end ≡ None → (i : ℕ) → i < length outs → (slot : ℕ) → (get_or outs i no_out).slot ≡ Some slot
        → ((nth_line (with_line lines new) is.place ≡ new) × ((nth_line lines is.place).shard ≡ new.shard) × (is.place < length lines)) ⊎ ((nth_line (with_line lines new) is.place ≡ nth_line lines is.place) × (((nth_line lines is.place).shard ≡ new.shard → ⊥) ⊎ (length lines ≤ is.place)))
        → SlotAwaits (with_line lines new) awaits' slot (get_or outs i no_out).target (get_or outs i no_out).request
    itself g i h slot f (inl b) = record {
      place = is.place;
      inside = subst (λ (n : ℕ). is.place < n) (sym (length_with_line lines new)) is.inside;
      of_line = some_is slot (line_slot l.shard) (sym f ∙ (asks g i h).slot) ∙ ap line_slot (sym e) ∙ ap (λ (m : Line). line_slot m.shard) (sym b.0);
      awaited = ap awaits' b.0 ∙ (asks g i h).awaited;
    }
    itself g i h slot f (inr (b, inl n)) = absurd (n (ap (λ (m : Line). m.shard) is.at ∙ sym e))
    itself g i h slot f (inr (b, inr p)) = absurd (let k = is.inside in omega (arith, k, p))

-- nothing is sent, and one request is
pub asks_none : (l new : Line) (awaits : Line → Option (Target × Request)) (i : ℕ) → i < length {A = Out} [] → AsksLine l new awaits (get_or [] i no_out)
asks_none l new awaits i h = absurd (omega (arith, h))

pub asks_one : (l new : Line) (awaits : Line → Option (Target × Request)) (out : Out) → AsksLine l new awaits out → (i : ℕ) → i < length (out ∷ []) → AsksLine l new awaits (get_or (out ∷ []) i no_out)
asks_one l new awaits out a zero h = a
asks_one l new awaits out a (suc i) h = absurd (omega (arith, h))
