-- Moves that do nothing to transactions, snapshots and shards.
use Rattle.std.proofs.Common.{◌≡◌, ◌⊎◌, inl, inr, ℕ, zero, suc, ◌+◌, ◌-◌, ◌<◌, ◌≤◌, Bool, true, false, List, [], ◌∷◌, ◌++◌, All, length, refl, sym, ap, ◌∙◌, subst, arith}
use Rattle.std.proofs.Math.ListN.{set}
use Rattle.std.specs.Prelude.{get_or}
use Rattle.std.proofs.lemmas.List.{set-set, get_or-set_same}
use Rattle.std.proofs.lemmas.List.Elements.{All-head, All-tail}
use Rattle.pipeline_lang.specs.declared.config.Config.{Config}
use Rattle.rss_wire.specs.Messages.{message_at}
use Rattle.rss_tables.specs.Outs.{Out}
use Rattle.rss_machine.specs.Moves.{sends}
use Rattle.rss_machine.specs.State.{State, Owner, owner_at, no_owner}
use Rattle.world_laws.specs.Exchanges.{is_replica}
use Rattle.world_laws.proofs.Looks.{looks, get_or_set}
use Rattle.world_laws.proofs.StoreMoves.{SameStores}
use Rattle.shard_event_laws.specs.Facts.{Aside, IsNew, StaysWith, StaysWithout, NetGrows, Sends, SameShards, is_with_shards, no_out, currents_after}
use Rattle.shard_event_laws.proofs.Sending.{sends_owned, sends_clock, sends_net, net_same}

-- how one owner may change aside
pub record OneAside (steps : ℕ) (v w : Owner) : Type 0 where
  pub with_shards : is_with_shards v.session ≡ true → StaysWith steps v w
  pub without : is_with_shards v.session ≡ false → StaysWithout v w

pub stays_aside : (steps : ℕ) (v : Owner) → OneAside steps v v
stays_aside steps v = record {
  with_shards = λ e. record { kind = refl; stage = refl; session = refl; copy = refl; begun = refl; launched = refl; fewer = λ slot m f. f; unended = λ f. f; fate = inl (refl, refl) };
  without = λ e. record { kind = refl; stage = refl; begun = refl; none = e };
}

-- where an owner has nothing under way with shards
pub none_aside : (steps : ℕ) (v w : Owner) → is_with_shards v.session ≡ false → StaysWithout v w → OneAside steps v w
none_aside steps v w e h = record { with_shards = λ f. absurd (not_both (is_with_shards v.session) e f); without = λ f. h }
  where
    not_both : (b : Bool) → b ≡ false → b ≡ true → ⊥
    not_both true e f = absurd (true_is_not e)
      where
        true_is_not : true ≡ false → ⊥
        true_is_not e = cc
    not_both false e f = absurd (false_is_not f)
      where
        false_is_not : false ≡ true → ⊥
        false_is_not e = cc

-- one owner changes
each_aside : (steps : ℕ) (xs : List Owner) (o : ℕ) (w : Owner) → OneAside steps (get_or xs o no_owner) w → (i : ℕ) → OneAside steps (get_or xs i no_owner) (get_or (set xs o w) i no_owner)
each_aside steps xs o w h i = by_place (get_or_set xs o w i no_owner)
  where
    by_place : ((get_or (set xs o w) i no_owner ≡ w) × (i ≡ o) × (o < length xs)) ⊎ ((get_or (set xs o w) i no_owner ≡ get_or xs i no_owner) × ((i ≡ o → ⊥) ⊎ (length xs ≤ i))) → OneAside steps (get_or xs i no_owner) (get_or (set xs o w) i no_owner)
    by_place (inl e) = subst (λ (j : ℕ). OneAside steps (get_or xs j no_owner) (get_or (set xs o w) i no_owner)) (sym e.1) (subst (OneAside steps (get_or xs o no_owner)) (sym e.0) h)
    by_place (inr e) = subst (OneAside steps (get_or xs i no_owner)) (sym e.0) (stays_aside steps (get_or xs i no_owner))

set_long : (xs : List Owner) (o : ℕ) (w : Owner) → length (set xs o w) ≡ length xs
set_long xs o w = grind (arith, looks)

pub clock_same : (s t : State) → SameStores s t → SameShards s t
clock_same s t e = record { shards = e.shards; steps = e.steps; moment = e.moment; moments = e.moments }

nothing_sent : (s t : State) → t.net ≡ s.net → (m : ℕ) → length s.net ≤ m → m < length t.net → is_replica (message_at t.net m).envelope.target ≡ true
nothing_sent s t e m a b = absurd (let n = ap (λ net. length net) e in omega (arith, n, a, b))

no_new : (c : Config) (s t : State) → length t.owners ≡ length s.owners → (o : ℕ) → length s.owners ≤ o → o < length t.owners → IsNew c s (owner_at t o)
no_new c s t e o a b = absurd (omega (arith, e, a, b))

pub one_aside : (c : Config) (s t : State) (o : ℕ) (w : Owner) → SameShards s t → t.net ≡ s.net → t.owners ≡ set s.owners o w → OneAside s.steps (owner_at s o) w → Aside c s t
one_aside c s t o w e n d h =
    let long : length t.owners ≡ length s.owners = ap (λ (xs : List Owner). length xs) d ∙ set_long s.owners o w in
    let each : (i : ℕ) → OneAside s.steps (owner_at s i) (owner_at t i) = λ i. subst (λ (xs : List Owner). OneAside s.steps (owner_at s i) (get_or xs i no_owner)) (sym d) (each_aside s.steps s.owners o w h i) in
    record {
      same = e;
      long = omega (arith, long);
      with_shards = λ i l. (each i).with_shards;
      without = λ i l. (each i).without;
      anew = no_new c s t long;
      net = net_same s t n;
      sent = nothing_sent s t n;
    }

-- no owner changes
pub still_aside : (c : Config) (s t : State) → SameShards s t → NetGrows s t → length t.net ≡ length s.net → t.owners ≡ s.owners → Aside c s t
still_aside c s t e n l d =
    let long : length t.owners ≡ length s.owners = ap (λ (xs : List Owner). length xs) d in
    let each : (i : ℕ) → OneAside s.steps (owner_at s i) (owner_at t i) = λ i. subst (λ (xs : List Owner). OneAside s.steps (owner_at s i) (get_or xs i no_owner)) (sym d) (stays_aside s.steps (owner_at s i)) in
    record {
      same = e;
      long = omega (arith, long);
      with_shards = λ i k. (each i).with_shards;
      without = λ i k. (each i).without;
      anew = no_new c s t long;
      net = n;
      sent = λ m a b. absurd (omega (arith, l, a, b));
    }

-- one more message, to or from a replica, and one owner changes
pub more_aside : (c : Config) (s t : State) (o : ℕ) (w : Owner) → SameShards s t → NetGrows s t → ((m : ℕ) → length s.net ≤ m → m < length t.net → is_replica (message_at t.net m).envelope.target ≡ true) → t.owners ≡ set s.owners o w → OneAside s.steps (owner_at s o) w → Aside c s t
more_aside c s t o w e n f d h =
    let long : length t.owners ≡ length s.owners = ap (λ (xs : List Owner). length xs) d ∙ set_long s.owners o w in
    let each : (i : ℕ) → OneAside s.steps (owner_at s i) (owner_at t i) = λ i. subst (λ (xs : List Owner). OneAside s.steps (owner_at s i) (get_or xs i no_owner)) (sym d) (each_aside s.steps s.owners o w h i) in
    record {
      same = e;
      long = omega (arith, long);
      with_shards = λ i l. (each i).with_shards;
      without = λ i l. (each i).without;
      anew = no_new c s t long;
      net = n;
      sent = f;
    }

-- a request to a replica
abbrev pub ToReplica : Out → Type 0
ToReplica out = is_replica out.target ≡ true

all_at : (P : Out → Type 0) (outs : List Out) (i : ℕ) → All P outs → i < length outs → P (get_or outs i no_out)
all_at P [] i h l = absurd (omega (arith, l))
all_at P (out ∷ outs) zero h l = All-head P out outs h
all_at P (out ∷ outs) (suc i) h l = all_at P outs i (All-tail P out outs h) (omega (arith, l))

pub to_replicas : (s t : State) (o : ℕ) (outs : List Out) → All ToReplica outs → Sends s t o outs → (m : ℕ) → length s.net ≤ m → m < length t.net → is_replica (message_at t.net m).envelope.target ≡ true
to_replicas s t o outs a h m l k =
    let n = h.count in
    let inside : m - length s.net < length outs = omega (arith, n, l, k) in
    let x = h.each (m - length s.net) inside in
    subst (λ (j : ℕ). is_replica (message_at t.net j).envelope.target ≡ true) (omega (arith, l)) (ap is_replica x.target ∙ all_at ToReplica outs (m - length s.net) a inside)

-- an owner with nothing under way with shards goes on, and sends requests to replicas
pub sends_aside : (c : Config) (s t : State) (o : ℕ) (w : Owner) (outs : List Out) → o < length s.owners → SameStores s t → t.owners ≡ set s.owners o w → All ToReplica outs → is_with_shards (owner_at s o).session ≡ false → StaysWithout (owner_at s o) w → Aside c s (sends t o outs)
sends_aside c s t o w outs i e d a n h =
    more_aside c s (sends t o outs) o (record w { currents = currents_after w.currents outs (length t.net) })
    (record { shards = b.shards ∙ e.shards; steps = b.steps ∙ e.steps; moment = b.moment ∙ e.moment; moments = b.moments ∙ e.moments })
    (net_under s t e.net (sends t o outs) f.grows)
    (λ m l k. to_replicas t (sends t o outs) o outs a f m (let q = ap (λ net. length net) e.net in omega (arith, q, l)) k)
    owned
    (none_aside s.steps (owner_at s o) (record w { currents = currents_after w.currents outs (length t.net) }) n (record { kind = h.kind; stage = h.stage; begun = h.begun; none = h.none }))
  where
    b : SameShards t (sends t o outs)
    b = sends_clock o outs t

    f : Sends t (sends t o outs) o outs
    f = sends_net o outs t

    net_under : (s t : State) → t.net ≡ s.net → (u : State) → NetGrows t u → NetGrows s u
    net_under s t e u g = subst (λ net. NetGrows (record s { net = net }) u) e (record { long = g.long; envelopes = g.envelopes; bodies = g.bodies })

    there : o < length t.owners
    there = let l = ap (λ (xs : List Owner). length xs) d ∙ set_long s.owners o w in omega (arith, l, i)

    is : owner_at t o ≡ w
    is = ap (λ (xs : List Owner). get_or xs o no_owner) d ∙ get_or-set_same s.owners o w no_owner i

    owned : (sends t o outs).owners ≡ set s.owners o (record w { currents = currents_after w.currents outs (length t.net) })
    owned = sends_owned o outs t there ∙ (ap (λ (v : Owner). set t.owners o (record v { currents = currents_after v.currents outs (length t.net) })) is ∙ (ap (λ (xs : List Owner). set xs o (record w { currents = currents_after w.currents outs (length t.net) })) d ∙ set-set s.owners o w (record w { currents = currents_after w.currents outs (length t.net) })))

-- owners begin, behind those that were there
pub grow_aside : (c : Config) (s t : State) (xs : List Owner) (w : Owner) → SameShards s t → t.net ≡ s.net → length xs ≡ length s.owners → t.owners ≡ xs ++ w ∷ [] → ((i : ℕ) → OneAside s.steps (owner_at s i) (get_or xs i no_owner)) → IsNew c s w → Aside c s t
grow_aside c s t xs w e n k d h g =
    record {
      same = e;
      long = (let l = long in omega (arith, l, k));
      with_shards = λ i l. (each i (omega (arith, l, k))).with_shards;
      without = λ i l. (each i (omega (arith, l, k))).without;
      anew = λ i a b. subst (IsNew c s) (sym (new i a b)) g;
      net = net_same s t n;
      sent = nothing_sent s t n;
    }
  where
    one_more : (xs : List Owner) (w : Owner) → length (xs ++ w ∷ []) ≡ length xs + 1
    one_more xs w = grind (arith, looks)

    long : length t.owners ≡ length xs + 1
    long = ap (λ (ys : List Owner). length ys) d ∙ one_more xs w

    before : (xs : List Owner) (w : Owner) (i : ℕ) → i < length xs → get_or (xs ++ w ∷ []) i no_owner ≡ get_or xs i no_owner
    before xs w i l = grind (arith, looks, l)

    each : (i : ℕ) → i < length xs → OneAside s.steps (owner_at s i) (owner_at t i)
    each i l = subst (OneAside s.steps (owner_at s i)) (sym (ap (λ (ys : List Owner). get_or ys i no_owner) d ∙ before xs w i l)) (h i)

    last : (xs : List Owner) (w : Owner) → get_or (xs ++ w ∷ []) (length xs) no_owner ≡ w
    last xs w = grind (arith, looks)

    new : (i : ℕ) → length s.owners ≤ i → i < length t.owners → owner_at t i ≡ w
    new i a b = let l = long in let j : i ≡ length xs = omega (arith, l, k, a, b) in ap (λ (n : ℕ). owner_at t n) j ∙ (ap (λ (ys : List Owner). get_or ys (length xs) no_owner) d ∙ last xs w)

pub set_asides : (steps : ℕ) (xs : List Owner) (o : ℕ) (w : Owner) → OneAside steps (get_or xs o no_owner) w → (i : ℕ) → OneAside steps (get_or xs i no_owner) (get_or (set xs o w) i no_owner)
set_asides = each_aside
