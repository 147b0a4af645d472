-- What a turn makes of its owner: with its exchanges as they are left, and with what it sends.
use Rattle.std.proofs.Common.{◌≡◌, ℕ, ◌<◌, Bool, true, false, List, length, Option, Some, None, ap, ◌∙◌, subst, arith}
use Rattle.std.proofs.Math.ListN.{set}
use Rattle.std.specs.Prelude.{get_or}
use Rattle.std.proofs.lemmas.List.{set-set, get_or-set_same}
use Rattle.pipeline_lang.specs.declared.config.Config.{Config}
use Rattle.rss_model.specs.declared.op.Shown.{Shown}
use Rattle.rss_wire.specs.declared.message.Message.{Message}
use Rattle.rss_tables.specs.Outs.{Out}
use Rattle.rss_machine.specs.Calls.{ends_at, forgets_if}
use Rattle.rss_machine.specs.Moves.{sends, goes_on, turns_session, closed}
use Rattle.rss_machine.specs.Session.{Session}
use Rattle.rss_machine.specs.Standing.{is_running}
use Rattle.rss_machine.specs.State.{State, Owner, owner_at, no_owner, no_currents}
use Rattle.rss_machine.specs.declared.session.OwnerKind.{OwnerKind}
use Rattle.rss_machine.specs.declared.session.OwnerKind.TheVariants as kind
use Rattle.rss_machine.specs.declared.state.OwnerFate.TheVariants.{Ended}
use Rattle.world_laws.specs.Calls.{is_call}
use Rattle.world_laws.proofs.Looks.{looks}
use Rattle.shard_event_laws.specs.Events.{Turns, turned_owner, left_to_await}
use Rattle.shard_event_laws.specs.Facts.{Sends, SameShards, currents_after}
use Rattle.shard_event_laws.proofs.Sending.{sends_owned, sends_clock, sends_net}

-- an owner that is changed twice
pub changed_again : (s u : State) (o : ℕ) (w : Owner) (f : Owner → Owner) → o < length s.owners → u.owners ≡ set s.owners o w → set u.owners o (f (owner_at u o)) ≡ set s.owners o (f w)
changed_again s u o w f i e =
    ap (λ (v : Owner). set u.owners o (f v)) (ap (λ (xs : List Owner). get_or xs o no_owner) e ∙ get_or-set_same s.owners o w no_owner i)
    ∙ (ap (λ (xs : List Owner). set xs o (f w)) e ∙ set-set s.owners o w (f w))

set_long : (xs : List Owner) (o : ℕ) (w : Owner) → length (set xs o w) ≡ length xs
set_long xs o w = grind (arith, looks)

-- an owner that is there stays so
pub changed_there : (s u : State) (o : ℕ) (w : Owner) → o < length s.owners → u.owners ≡ set s.owners o w → o < length u.owners
changed_there s u o w i e = let l = ap (λ (xs : List Owner). length xs) e ∙ set_long s.owners o w in omega (arith, l, i)

-- what was sent from a state with the same messages
pub sends_from : (s u t : State) (o : ℕ) (outs : List Out) → u.net ≡ s.net → Sends u t o outs → Sends s t o outs
sends_from s u t o outs e h = subst (λ (net : List Message). Sends (record s { net = net }) t o outs) e (record { grows = record { long = h.grows.long; envelopes = h.grows.envelopes; bodies = h.grows.bodies }; count = h.count; each = h.each })

-- a state with the same shards, clock and messages
pub record SameRest (s u : State) : Type 0 where
  pub same : SameShards s u
  pub net : u.net ≡ s.net

pub shards_later : (s t u : State) → SameShards s t → SameShards t u → SameShards s u
shards_later s t u a b = record { shards = b.shards ∙ a.shards; steps = b.steps ∙ a.steps; moment = b.moment ∙ a.moment; moments = b.moments ∙ a.moments }

-- an owner that sends requests
pub sends_changed : (s u : State) (o : ℕ) (w : Owner) (outs : List Out) → o < length s.owners → u.net ≡ s.net → u.owners ≡ set s.owners o w → (sends u o outs).owners ≡ set s.owners o (record w { currents = currents_after w.currents outs (length s.net) })
sends_changed s u o w outs i n e =
    sends_owned o outs u (changed_there s u o w i e)
    ∙ (changed_again s u o w (λ (v : Owner). record v { currents = currents_after v.currents outs (length u.net) }) i e
    ∙ ap (λ (net : List Message). set s.owners o (record w { currents = currents_after w.currents outs (length net) })) n)

module _ (c : Config) (s u : State) (o : ℕ) (currents : List (Option ℕ)) (i : o < length s.owners) (runs : is_running (owner_at s o).fate ≡ true) (rest : SameRest s u) (owned : u.owners ≡ set s.owners o (record (owner_at s o) { currents = currents })) where
  forgotten : (anew : Bool) → (forgets_if anew u o).owners ≡ set s.owners o (record (owner_at s o) { currents = left_to_await anew currents })
  forgotten true = changed_again s u o (record (owner_at s o) { currents = currents }) (λ (v : Owner). record v { currents = no_currents }) i owned
  forgotten false = owned

  forgotten_rest : (anew : Bool) → SameRest s (forgets_if anew u o)
  forgotten_rest true = record { same = record { shards = rest.same.shards; steps = rest.same.steps; moment = rest.same.moment; moments = rest.same.moments }; net = rest.net }
  forgotten_rest false = rest

  gone_on : (v : State) (cs : List (Option ℕ)) (x : Session) (outs : List Out) → SameRest s v → v.owners ≡ set s.owners o (record (owner_at s o) { currents = cs }) → (goes_on v o x outs).owners ≡ set s.owners o (record (owner_at s o) { currents = currents_after cs outs (length s.net); session = x })
  gone_on v cs x outs r e = sends_changed s (turns_session v o x) o (record (owner_at s o) { currents = cs; session = x }) outs i r.net (changed_again s v o (record (owner_at s o) { currents = cs }) (λ (w : Owner). record w { session = x }) i e)

  gone_rest : (v : State) (x : Session) (outs : List Out) → SameRest s v → SameShards s (goes_on v o x outs)
  gone_rest v x outs r = shards_later s (turns_session v o x) (goes_on v o x outs) (record { shards = r.same.shards; steps = r.same.steps; moment = r.same.moment; moments = r.same.moments }) (sends_clock o outs (turns_session v o x))

  gone_sends : (v : State) (x : Session) (outs : List Out) → SameRest s v → Sends s (goes_on v o x outs) o outs
  gone_sends v x outs r = sends_from s (turns_session v o x) (goes_on v o x outs) o outs r.net (sends_net o outs (turns_session v o x))

  pub turns_is : (anew : Bool) (x : Session) (outs : List Out) (k : OwnerKind) (shown : List Shown) (end : Option ℕ) → is_call k ≡ true → Turns s (ends_at c (goes_on (forgets_if anew u o) o x outs) o k shown end) o anew currents x outs end
  turns_is anew x outs kind.Fencing shown end e = absurd (false_is_not e)
    where
      false_is_not : false ≡ true → ⊥
      false_is_not e = cc
  turns_is anew x outs (kind.Stubbing a) shown end e = absurd (false_is_not e)
    where
      false_is_not : false ≡ true → ⊥
      false_is_not e = cc
  turns_is anew x outs (kind.Calling y) shown None e = let v = forgets_if anew u o in let r = forgotten_rest anew in
      record {
        same = gone_rest v x outs r;
        owned = record { there = i; runs = runs; owned = gone_on v (left_to_await anew currents) x outs r (forgotten anew) };
        sends = gone_sends v x outs r;
      }
  turns_is anew x outs (kind.Calling y) shown (Some time) e =
      record {
        same = record { shards = b.shards; steps = b.steps; moment = b.moment; moments = b.moments };
        owned = record { there = i; runs = runs; owned = ended };
        sends = record { grows = record { long = f.grows.long; envelopes = f.grows.envelopes; bodies = f.grows.bodies }; count = f.count; each = f.each };
      }
    where
      v : State
      v = forgets_if anew u o

      r : SameRest s v
      r = forgotten_rest anew

      m : State
      m = goes_on v o x outs

      b : SameShards s m
      b = gone_rest v x outs r

      f : Sends s m o outs
      f = gone_sends v x outs r

      w : Owner
      w = record (owner_at s o) { currents = currents_after (left_to_await anew currents) outs (length s.net); session = x }

      ended : set m.owners o (closed m o Ended) ≡ set s.owners o (turned_owner s o (left_to_await anew currents) x outs (Some time))
      ended = changed_again s m o w (λ (z : Owner). record z { fate = Ended; currents = no_currents; dates = record z.dates { ended = m.steps } }) i (gone_on v (left_to_await anew currents) x outs r (forgotten anew))
          ∙ ap (λ (n : ℕ). set s.owners o (record w { fate = Ended; currents = no_currents; dates = record w.dates { ended = n } })) b.steps
