-- Who messages are of, and what is current of an owner.
use Rattle.std.proofs.Common.{◌≡◌, ℕ, zero, suc, ◌+◌, ◌-◌, ◌<◌, ◌≤◌, ◌⊎◌, inl, inr, Bool, true, false, List, [], ◌∷◌, ◌++◌, length, get_or, Option, Some, None, refl, ap, sym, ◌∙◌, subst, arith}
use Rattle.std.specs.Prelude.{if◌then◌else◌}
use Rattle.std.proofs.Math.ListN.{set}
use Rattle.std.proofs.lemmas.Bool.{true≢false, cases_lt}
use Rattle.truetime.specs.Reading.{Reading}
use Rattle.rss_names.specs.declared.attempt.Attempt.{Attempt}
use Rattle.rss_names.specs.declared.service.ServiceId.{ServiceId}
use Rattle.rss_names.specs.declared.service.Target.{Target}
use Rattle.rss_names.specs.declared.service.Target.TheVariants.{Replica}
use Rattle.causal_context.specs.declared.dep.Dep.{Dep}
use Rattle.pipeline_lang.specs.declared.config.Config.{Config}
use Rattle.rss_model.specs.declared.op.Op.{Op}
use Rattle.rss_wire.specs.Messages.{no_message, message_at, same_target}
use Rattle.rss_wire.specs.declared.envelope.Envelope.{Envelope}
use Rattle.rss_wire.specs.declared.message.Fate.{Fate}
use Rattle.rss_wire.specs.declared.message.Message.{Message}
use Rattle.rss_wire.specs.declared.messages.Outcome.{Outcome}
use Rattle.rss_wire.specs.declared.messages.Request.{Request}
use Rattle.rss_tables.specs.Lines.{tells_decision}
use Rattle.rss_tables.specs.Outs.{Out}
use Rattle.rss_tables.specs.declared.fences.FenceWork.{FenceWork}
use Rattle.rss_machine.specs.Moves.{ticks, session_without, marks_message, sends_one, sends, plans_stub, listens, serves_shard, serves_replica, notes_served}
use Rattle.rss_machine.specs.Run.{run}
use Rattle.rss_machine.specs.Session.{Session}
use Rattle.rss_machine.specs.Slots.{with_current, without_target}
use Rattle.rss_machine.specs.State.{State, Owner, start, no_owner, no_currents, owner_at}
use Rattle.rss_machine.specs.declared.session.OwnerKind.TheVariants as kind
use Rattle.rss_machine.specs.declared.session.Session.TheVariants as session
use Rattle.rss_machine.specs.declared.step.Step.{Step}
use Rattle.world_laws.proofs.Doings.{Changed, Beginning, calls, fences, Resting, plans, past, fixed, cleared, Working, owes_nothing, is_past, enters_own, Leaving, waits, fixes_work, fixes_own, asks_register, stamps_register, begins_snapshot, begins_txn, fence_done, stub_done, Doing, listens_one, fix_hears, fix_reached, register_hears, register_stores, register_reached, read_ends, write_ends, txn_ends, snap_ends, counts_one, cuts_one, is_closed, forgets_all, turns, stub_asks, listened, ShardTurning, txn_heard, txn_woken, txn_passed, snap_heard, snap_woken}
use Rattle.world_laws.proofs.Looks.{looks, get_or_past, get_or_repeat, none_is_not, some_is}
use Rattle.world_laws.proofs.OwnerMoves.{OwnerKeeps}
use Rattle.world_laws.proofs.SessionMoves.{session_at, IsAgain}
use Rattle.world_laws.proofs.StackRuns.{kept_run}
use Rattle.world_laws.proofs.StoreMoves.{SameStores}
use Rattle.world_laws.proofs.Told.{each_set, each_grow}

-- the owner of number 0 does nothing
pub record IsNobody (w : Owner) : Type 0 where
  pub fences : w.kind ≡ kind.Fencing
  pub idle : w.session ≡ session.Idle
  pub free : w.works.left ≡ []

-- an exchange was sent by an owner, as a request
pub record IsAsked (net : List Message) (o exchange : ℕ) : Type 0 where
  pub numbered : 0 < exchange
  pub sent : exchange < length net
  pub owner : (message_at net exchange).envelope.owner ≡ o
  pub request : (message_at net exchange).envelope.request ≡ true

abbrev pub AwaitsOwn : List Message → ℕ → Owner → Type 0
AwaitsOwn net o w = (slot exchange : ℕ) → get_or w.currents slot None ≡ Some exchange → IsAsked net o exchange

-- a message is of an owner that has begun
pub record IsOwned (long : ℕ) (x : Message) : Type 0 where
  pub first : 1 ≤ x.envelope.owner
  pub begun : x.envelope.owner < long

-- said of another message of the same owner
owned_so : (long : ℕ) (x y : Message) → y.envelope.owner ≡ x.envelope.owner → IsOwned long x → IsOwned long y
owned_so long x y e k = record { first = subst (λ (o : ℕ). 1 ≤ o) (sym e) k.first; begun = subst (λ (o : ℕ). o < long) (sym e) k.begun }

pub record Traffic (s : State) : Type 0 where
  pub some : 0 < length s.owners
  pub sent : 0 < length s.net
  pub nobody : IsNobody (owner_at s 0)
  pub nothing : (message_at s.net 0).envelope ≡ no_message.envelope
  pub owned : (m : ℕ) → 0 < m → m < length s.net → IsOwned (length s.owners) (message_at s.net m)
  pub awaits : (o : ℕ) → AwaitsOwn s.net o (owner_at s o)

-- and of an owner that is not the one of number 0
pub record TrafficAt (s : State) (o : ℕ) : Type 0 where
  pub all : Traffic s
  pub first : 1 ≤ o
  pub there : o < length s.owners

-- CHANGES

set_long : {A : Type 0} (xs : List A) (k : ℕ) (x : A) → length (set xs k x) ≡ length xs
set_long xs k x = grind (arith, looks)

grow_long : {A : Type 0} (xs : List A) (x : A) → length (xs ++ x ∷ []) ≡ length xs + 1
grow_long xs x = grind (arith, looks)

-- fewer exchanges are current
abbrev Fewer : Owner → Owner → Type 0
Fewer v w = (slot exchange : ℕ) → get_or w.currents slot None ≡ Some exchange → get_or v.currents slot None ≡ Some exchange

traffic_set : (s t : State) (o : ℕ) (w : Owner) → t.net ≡ s.net → t.owners ≡ set s.owners o w → (o ≡ 0 → IsNobody w) → Fewer (owner_at s o) w → Traffic s → Traffic t
traffic_set s t o w n e z f h = record {
  some = let a = long in let b = h.some in omega (arith, a, b);
  sent = subst (λ (net : List Message). 0 < length net) (sym n) h.sent;
  nobody = subst (λ (xs : List Owner). IsNobody (get_or xs 0 no_owner)) (sym e) (each_set (λ i v. i ≡ 0 → IsNobody v) s.owners o w z (λ i g. subst (λ (j : ℕ). IsNobody (owner_at s j)) (sym g) h.nobody) 0 refl);
  nothing = ap (λ (net : List Message). (message_at net 0).envelope) n ∙ h.nothing;
  owned = λ m a b. (let g = h.owned m a (subst (λ (net : List Message). m < length net) n b) in subst (λ (net : List Message). IsOwned (length t.owners) (message_at net m)) (sym n) (record { first = g.first; begun = let l = g.begun in let k = long in omega (arith, l, k) }));
  awaits = λ i. subst (λ (net : List Message). AwaitsOwn net i (owner_at t i)) (sym n) (subst (λ (xs : List Owner). AwaitsOwn s.net i (get_or xs i no_owner)) (sym e) (each_set (λ j v. AwaitsOwn s.net j v) s.owners o w (λ slot x g. h.awaits o slot x (f slot x g)) h.awaits i));
}
  where
    long : length t.owners ≡ length s.owners
    long = ap (λ (xs : List Owner). length xs) e ∙ set_long s.owners o w

none_current : (slot exchange : ℕ) → get_or no_currents slot None ≡ Some exchange → ⊥
none_current slot exchange e = by_place (at slot)
  where
    at : (slot : ℕ) → get_or no_currents slot None ≡ None
    at slot = let q = get_or_repeat {X = Option ℕ} 23 None slot None in grind (arith, q)

    by_place : get_or no_currents slot None ≡ None → ⊥
    by_place f = none_is_not exchange (sym f ∙ e)

traffic_grow : (s t : State) (w : Owner) → t.net ≡ s.net → t.owners ≡ s.owners ++ w ∷ [] → w.currents ≡ no_currents → Traffic s → Traffic t
traffic_grow s t w n e f h = record {
  some = let a = long in omega (arith, a);
  sent = subst (λ (net : List Message). 0 < length net) (sym n) h.sent;
  nobody = subst (λ (xs : List Owner). IsNobody (get_or xs 0 no_owner)) (sym e) (subst IsNobody (sym (old s.owners w h.some)) h.nobody);
  nothing = ap (λ (net : List Message). (message_at net 0).envelope) n ∙ h.nothing;
  owned = λ m a b. (let g = h.owned m a (subst (λ (net : List Message). m < length net) n b) in subst (λ (net : List Message). IsOwned (length t.owners) (message_at net m)) (sym n) (record { first = g.first; begun = let l = g.begun in let k = long in omega (arith, l, k) }));
  awaits = λ i. subst (λ (net : List Message). AwaitsOwn net i (owner_at t i)) (sym n) (subst (λ (xs : List Owner). AwaitsOwn s.net i (get_or xs i no_owner)) (sym e) (each_grow (λ j v. AwaitsOwn s.net j v) s.owners w (λ slot x g. absurd (none_current slot x (ap (λ (xs : List (Option ℕ)). get_or xs slot None) (sym f) ∙ g))) h.awaits i));
}
  where
    long : length t.owners ≡ length s.owners + 1
    long = ap (λ (xs : List Owner). length xs) e ∙ grow_long s.owners w

    old : (xs : List Owner) (w : Owner) → 0 < length xs → get_or (xs ++ w ∷ []) 0 no_owner ≡ get_or xs 0 no_owner
    old xs w l = grind (arith, looks, l)

traffic_same : (s t : State) → t.net ≡ s.net → t.owners ≡ s.owners → Traffic s → Traffic t
traffic_same s t n e h = record {
  some = subst (λ (xs : List Owner). 0 < length xs) (sym e) h.some;
  sent = subst (λ (net : List Message). 0 < length net) (sym n) h.sent;
  nobody = subst (λ (xs : List Owner). IsNobody (get_or xs 0 no_owner)) (sym e) h.nobody;
  nothing = ap (λ (net : List Message). (message_at net 0).envelope) n ∙ h.nothing;
  owned = λ m a b. subst (λ (net : List Message). IsOwned (length t.owners) (message_at net m)) (sym n) (subst (λ (xs : List Owner). IsOwned (length xs) (message_at s.net m)) (sym e) (h.owned m a (subst (λ (net : List Message). m < length net) n b)));
  awaits = λ i. subst (λ (net : List Message). AwaitsOwn net i (owner_at t i)) (sym n) (subst (λ (xs : List Owner). AwaitsOwn s.net i (get_or xs i no_owner)) (sym e) (h.awaits i));
}

-- MESSAGES

old_message : (net : List Message) (x : Message) (m : ℕ) → m < length net → message_at (net ++ x ∷ []) m ≡ message_at net m
old_message net x m l = grind (arith, looks, l)

new_message : (net : List Message) (x : Message) → message_at (net ++ x ∷ []) (length net) ≡ x
new_message net x = grind (arith, looks)

asked_more : (net : List Message) (x : Message) (o exchange : ℕ) → IsAsked net o exchange → IsAsked (net ++ x ∷ []) o exchange
asked_more net x o exchange h =
    let e = old_message net x exchange h.sent in
    record {
      numbered = h.numbered;
      sent = let l = h.sent in let k = grow_long net x in omega (arith, l, k);
      owner = ap (λ (y : Message). y.envelope.owner) e ∙ h.owner;
      request = ap (λ (y : Message). y.envelope.request) e ∙ h.request;
    }

-- one more message, of an owner that has begun
traffic_more : (s t : State) (x : Message) → t.net ≡ s.net ++ x ∷ [] → t.owners ≡ s.owners → IsOwned (length s.owners) x → Traffic s → Traffic t
traffic_more s t x n e k h = record {
  some = subst (λ (xs : List Owner). 0 < length xs) (sym e) h.some;
  sent = subst (λ (net : List Message). 0 < length net) (sym n) (let l = grow_long s.net x in omega (arith, l));
  nobody = subst (λ (xs : List Owner). IsNobody (get_or xs 0 no_owner)) (sym e) h.nobody;
  nothing = ap (λ (net : List Message). (message_at net 0).envelope) n ∙ (ap (λ (y : Message). y.envelope) (old_message s.net x 0 h.sent) ∙ h.nothing);
  owned = λ m a b. subst (λ (net : List Message). IsOwned (length t.owners) (message_at net m)) (sym n) (subst (λ (xs : List Owner). IsOwned (length xs) (message_at (s.net ++ x ∷ []) m)) (sym e) (by_place m a (cases_lt m (length s.net)) (subst (λ (net : List Message). m < length net) n b)));
  awaits = λ i. subst (λ (net : List Message). AwaitsOwn net i (owner_at t i)) (sym n) (subst (λ (xs : List Owner). AwaitsOwn (s.net ++ x ∷ []) i (get_or xs i no_owner)) (sym e) (λ slot y g. asked_more s.net x i y (h.awaits i slot y g)));
}
  where
    by_place : (m : ℕ) → 0 < m → (m < length s.net) ⊎ (length s.net ≤ m) → m < length (s.net ++ x ∷ []) → IsOwned (length s.owners) (message_at (s.net ++ x ∷ []) m)
    by_place m a (inl l) b = subst (IsOwned (length s.owners)) (sym (old_message s.net x m l)) (h.owned m a l)
    by_place m a (inr l) b =
        let i : length s.net ≡ m = let g = grow_long s.net x in omega (arith, b, l, g) in
        subst (λ (j : ℕ). IsOwned (length s.owners) (message_at (s.net ++ x ∷ []) j)) i (subst (IsOwned (length s.owners)) (sym (new_message s.net x)) k)

current_after : (currents : List (Option ℕ)) (slot : Option ℕ) (new place exchange : ℕ) → get_or (with_current currents slot new) place None ≡ Some exchange → (get_or currents place None ≡ Some exchange) ⊎ (new ≡ exchange)
current_after currents None new place exchange e = inl e
current_after currents (Some slot) new place exchange e = by_place (at currents slot new place)
  where
    at : (xs : List (Option ℕ)) (k new i : ℕ) → (get_or (set xs k (Some new)) i None ≡ Some new) ⊎ (get_or (set xs k (Some new)) i None ≡ get_or xs i None)
    at xs k new i = grind (arith, looks)

    by_place : (get_or (set currents slot (Some new)) place None ≡ Some new) ⊎ (get_or (set currents slot (Some new)) place None ≡ get_or currents place None) → (get_or currents place None ≡ Some exchange) ⊎ (new ≡ exchange)
    by_place (inl f) = inr (some_is new exchange (sym f ∙ e))
    by_place (inr f) = inl (sym f ∙ e)

traffic_one : (s : State) (o : ℕ) (out : Out) → TrafficAt s o → TrafficAt (sends_one s o out) o
traffic_one s o out h = record { all = all; first = h.first; there = let l = h.there in let k = set_long s.owners o (record (owner_at s o) { currents = with_current (owner_at s o).currents out.slot (length s.net) }) in omega (arith, l, k) }
  where
    x : Message
    x = get_or (sends_one s o out).net (length s.net) no_message

    u : State
    u = record s { net = (sends_one s o out).net }

    more : Traffic u
    more = traffic_more s u _ refl refl (record { first = h.first; begun = h.there }) h.all

    asked : IsAsked u.net o (length s.net)
    asked = record {
      numbered = h.all.sent;
      sent = let l = grow_long s.net x in more_long s.net _;
      owner = ap (λ (y : Message). y.envelope.owner) (new_message s.net _);
      request = ap (λ (y : Message). y.envelope.request) (new_message s.net _);
    }
      where
        more_long : (net : List Message) (y : Message) → length net < length (net ++ y ∷ [])
        more_long net y = let l = grow_long net y in omega (arith, l)

    w : Owner
    w = record (owner_at s o) { currents = with_current (owner_at s o).currents out.slot (length s.net) }

    own : AwaitsOwn u.net o w
    own slot exchange e = by_way (current_after (owner_at s o).currents out.slot (length s.net) slot exchange e)
      where
        by_way : (get_or (owner_at s o).currents slot None ≡ Some exchange) ⊎ (length s.net ≡ exchange) → IsAsked u.net o exchange
        by_way (inl f) = more.awaits o slot exchange f
        by_way (inr f) = subst (IsAsked u.net o) f asked

    all : Traffic (sends_one s o out)
    all = record {
      some = let a = more.some in let k = set_long s.owners o w in omega (arith, a, k);
      sent = more.sent;
      nobody = each_set (λ i v. i ≡ 0 → IsNobody v) s.owners o w (λ z. absurd (let l = h.first in omega (arith, l, z))) (λ i g. subst (λ (j : ℕ). IsNobody (owner_at s j)) (sym g) h.all.nobody) 0 refl;
      nothing = more.nothing;
      owned = λ m a b. (let g = more.owned m a b in record { first = g.first; begun = let l = g.begun in let k = set_long s.owners o w in omega (arith, l, k) });
      awaits = each_set (λ i v. AwaitsOwn u.net i v) s.owners o w own more.awaits;
    }

traffic_sends : (o : ℕ) (outs : List Out) (s : State) → TrafficAt s o → TrafficAt (sends s o outs) o
traffic_sends o [] s h = h
traffic_sends o (out ∷ outs) s h = traffic_sends o outs (sends_one s o out) (traffic_one s o out h)

fated : (s : State) (m : ℕ) (f : Fate) → Traffic s → Traffic (marks_message s m f)
fated s m f h = record {
  some = h.some;
  sent = let k = set_long s.net m (record (message_at s.net m) { fate = f }) in let l = h.sent in omega (arith, k, l);
  nobody = h.nobody;
  nothing = outside 0 ∙ h.nothing;
  owned = λ i a b. (let g = h.owned i a (let k = set_long s.net m (record (message_at s.net m) { fate = f }) in omega (arith, k, b)) in let e = ap (λ (v : Envelope). v.owner) (outside i) in record { first = let l = g.first in omega (arith, l, e); begun = let l = g.begun in omega (arith, l, e) });
  awaits = λ o slot x g. (let k = h.awaits o slot x g in record {
    numbered = k.numbered;
    sent = let l = k.sent in let j = set_long s.net m (record (message_at s.net m) { fate = f }) in omega (arith, l, j);
    owner = ap (λ (v : Envelope). v.owner) (outside x) ∙ k.owner;
    request = ap (λ (v : Envelope). v.request) (outside x) ∙ k.request;
  });
}
  where
    outside : (i : ℕ) → (message_at (marks_message s m f).net i).envelope ≡ (message_at s.net i).envelope
    outside i = by_place (at s.net m (record (message_at s.net m) { fate = f }) i)
      where
        at : (net : List Message) (n : ℕ) (x : Message) (i : ℕ) → ((message_at (set net n x) i ≡ x) × (i ≡ n)) ⊎ (message_at (set net n x) i ≡ message_at net i)
        at net n x i = grind (arith, looks)

        by_place : ((message_at (marks_message s m f).net i ≡ record (message_at s.net m) { fate = f }) × (i ≡ m)) ⊎ (message_at (marks_message s m f).net i ≡ message_at s.net i) → (message_at (marks_message s m f).net i).envelope ≡ (message_at s.net i).envelope
        by_place (inl e) = ap (λ (y : Message). y.envelope) e.0 ∙ ap (λ (j : ℕ). (message_at s.net j).envelope) (sym e.1)
        by_place (inr e) = ap (λ (y : Message). y.envelope) e

-- REASONS

-- an owner that has this is none of number 0
not_calling : {A : Type 0} (w : Owner) (x : Op) → IsNobody w → w.kind ≡ kind.Calling x → A
not_calling w x h e = absurd (no (sym h.fences ∙ e))
  where
    no : kind.Fencing ≡ kind.Calling x → ⊥
    no e = cc

not_stub : {A : Type 0} (w : Owner) (u : Option (Attempt × List ℕ)) → IsNobody w → w.kind ≡ kind.Stubbing u → A
not_stub w u h e = absurd (no (sym h.fences ∙ e))
  where
    no : kind.Fencing ≡ kind.Stubbing u → ⊥
    no e = cc

not_left : {A : Type 0} (w : Owner) (x : ServiceId × FenceWork) (rest : List (ServiceId × FenceWork)) → IsNobody w → w.works.left ≡ x ∷ rest → A
not_left w x rest h e = absurd (no (sym h.free ∙ e))
  where
    no : [] ≡ x ∷ rest → ⊥
    no e = cc

-- whether something is under way
abbrev is_idle : Session → Bool
is_idle session.Idle = true
is_idle (session.Fixing r) = false
is_idle (session.Register r) = false
is_idle (session.Transaction t) = false
is_idle (session.Snapshot t) = false
is_idle (session.Settling attempt shards) = false

not_idle : {A : Type 0} (w : Owner) (x : Session) → IsNobody w → w.session ≡ x → is_idle x ≡ false → A
not_idle w x h e f = absurd (true≢false (ap is_idle (sym h.idle ∙ e) ∙ f))

-- so its number is another
from_one : (o : ℕ) → (o ≡ 0 → ⊥) → 1 ≤ o
from_one zero n = absurd (n refl)
from_one (suc o) n = omega arith

at_zero : (s : State) (o : ℕ) → Traffic s → o ≡ 0 → IsNobody (owner_at s o)
at_zero s o h e = subst (λ (j : ℕ). IsNobody (owner_at s j)) (sym e) h.nobody

resting_first : (s : State) (o : ℕ) (w : Owner) → Resting s o w → IsNobody (owner_at s o) → ⊥
resting_first s o _ (plans e b) n = not_stub (owner_at s o) None n e
resting_first s o _ (past id x rest time l e) n = not_left (owner_at s o) (id, x) rest n l
resting_first s o _ (fixed id x rest r e l a b d) n = not_left (owner_at s o) (id, x) rest n l
resting_first s o _ (cleared r e l a b d) n = not_idle (owner_at s o) (session.Fixing r) n a refl

-- the currents of an owner that comes to rest, goes from work to work, or leaves, are those that it had
same_fewer : (v w : Owner) → w.currents ≡ v.currents → Fewer v w
same_fewer v w e slot exchange f = ap (λ (xs : List (Option ℕ)). get_or xs slot None) (sym e) ∙ f

none_fewer : (v w : Owner) → w.currents ≡ no_currents → Fewer v w
none_fewer v w e slot exchange f = absurd (none_current slot exchange (ap (λ (xs : List (Option ℕ)). get_or xs slot None) (sym e) ∙ f))

resting_fewer : (s : State) (o : ℕ) (w : Owner) → Resting s o w → Fewer (owner_at s o) w
resting_fewer s o w (plans e b) = same_fewer (owner_at s o) w refl
resting_fewer s o w (past id x rest time l e) = same_fewer (owner_at s o) w refl
resting_fewer s o w (fixed id x rest r e l a b d) = same_fewer (owner_at s o) w refl
resting_fewer s o w (cleared r e l a b d) = same_fewer (owner_at s o) w refl

working_fewer : (at : Reading) (s : State) (o : ℕ) (w : Owner) → Working at s o w → Fewer (owner_at s o) w
working_fewer at s o w (owes_nothing id rest l) = same_fewer (owner_at s o) w refl
working_fewer at s o w (is_past id time rest l e) = same_fewer (owner_at s o) w refl
working_fewer at s o w (enters_own x l e f) = same_fewer (owner_at s o) w refl

leaving_fewer : (c : Config) (at : Reading) (s : State) (o : ℕ) (w : Owner) (outs : List Out) → Leaving c at s o w outs → Fewer (owner_at s o) w
leaving_fewer c at s o w _ (waits id time rest l) = same_fewer (owner_at s o) w refl
leaving_fewer c at s o w _ (fixes_work id rest l) = same_fewer (owner_at s o) w refl
leaving_fewer c at s o w _ (fixes_own x dep deps l e f) = same_fewer (owner_at s o) w refl
leaving_fewer c at s o w _ (asks_register key l e f) = same_fewer (owner_at s o) w refl
leaving_fewer c at s o w _ (stamps_register key value l e f) = same_fewer (owner_at s o) w refl
leaving_fewer c at s o w _ (begins_snapshot keys x l e f) = same_fewer (owner_at s o) w refl
leaving_fewer c at s o w _ (begins_txn reads guard writes x l e f) = same_fewer (owner_at s o) w refl
leaving_fewer c at s o w _ (fence_done l e) = none_fewer (owner_at s o) w refl
leaving_fewer c at s o w _ (stub_done u l e) = none_fewer (owner_at s o) w refl

-- one slot is freed, or those with a target are
freed_fewer : (xs : List (Option ℕ)) (k place exchange : ℕ) → get_or (set xs k None) place None ≡ Some exchange → get_or xs place None ≡ Some exchange
freed_fewer xs k place exchange e = by_place (at xs k place)
  where
    at : (xs : List (Option ℕ)) (k place : ℕ) → (get_or (set xs k None) place None ≡ None) ⊎ (get_or (set xs k None) place None ≡ get_or xs place None)
    at xs k place = grind (arith, looks)

    by_place : (get_or (set xs k None) place None ≡ None) ⊎ (get_or (set xs k None) place None ≡ get_or xs place None) → get_or xs place None ≡ Some exchange
    by_place (inl f) = absurd (none_is_not exchange (sym f ∙ e))
    by_place (inr f) = sym f ∙ e

without_fewer : (net : List Message) (target : Target) (xs : List (Option ℕ)) (place exchange : ℕ) → get_or (without_target net target xs) place None ≡ Some exchange → get_or xs place None ≡ Some exchange
without_fewer net target [] place exchange e = e
without_fewer net target (None ∷ xs) zero exchange e = e
without_fewer net target (Some x ∷ xs) zero exchange e = by_test (same_target (message_at net x).envelope.target target) e
  where
    by_test : (b : Bool) → (if b then None else Some x) ≡ Some exchange → Some x ≡ Some exchange
    by_test true e = absurd (none_is_not exchange e)
    by_test false e = e
without_fewer net target (x ∷ xs) (suc place) exchange e = without_fewer net target xs place exchange e

-- what else an owner does
doing_fewer : (s : State) (o : ℕ) (w : Owner) (outs : List Out) (new : List Dep) → Doing s o w outs new → Fewer (owner_at s o) w
doing_fewer s o w _ _ (listens_one slot r d) = λ place exchange e. freed_fewer (owner_at s o).currents slot place exchange e
doing_fewer s o w _ _ (fix_hears f slot r x d e) = λ place exchange e. freed_fewer (owner_at s o).currents slot place exchange e
doing_fewer s o w _ _ (fix_reached f slot r y x d e) = none_fewer (owner_at s o) w refl
doing_fewer s o w _ _ (register_hears f slot r x d a e) = λ place exchange e. freed_fewer (owner_at s o).currents slot place exchange e
doing_fewer s o w _ _ (register_stores f slot r x d a e) = none_fewer (owner_at s o) w refl
doing_fewer s o w _ _ (register_reached f slot r y x d e) = none_fewer (owner_at s o) w refl
doing_fewer s o w _ _ (read_ends f key cell dep x a b) = none_fewer (owner_at s o) w refl
doing_fewer s o w _ _ (write_ends f key value e x a b) = none_fewer (owner_at s o) w refl
doing_fewer s o w _ _ (txn_ends x y time a b d) = none_fewer (owner_at s o) w refl
doing_fewer s o w _ _ (snap_ends x y time a b d) = none_fewer (owner_at s o) w refl
doing_fewer s o w _ _ (counts_one target) = same_fewer (owner_at s o) w refl
doing_fewer s o w _ _ (cuts_one service replica) = λ place exchange e. without_fewer s.net (Replica service replica) (owner_at s o).currents place exchange e
doing_fewer s o w _ _ (is_closed f) = none_fewer (owner_at s o) w refl
doing_fewer s o w _ _ forgets_all = none_fewer (owner_at s o) w refl
doing_fewer s o w _ _ (turns x outs y) = same_fewer (owner_at s o) w refl
doing_fewer s o w _ _ (stub_asks attempt shards e b) = same_fewer (owner_at s o) w refl

turning_busy : {A : Type 0} (s : State) (o : ℕ) (x : Session) (outs : List Out) → ShardTurning s o x outs → IsNobody (owner_at s o) → A
turning_busy s o _ _ (txn_heard t l at r e) n = not_idle (owner_at s o) (session.Transaction t) n e refl
turning_busy s o _ _ (txn_woken t l e) n = not_idle (owner_at s o) (session.Transaction t) n e refl
turning_busy s o _ _ (txn_passed t e) n = not_idle (owner_at s o) (session.Transaction t) n e refl
turning_busy s o _ _ (snap_heard t l r e) n = not_idle (owner_at s o) (session.Snapshot t) n e refl
turning_busy s o _ _ (snap_woken t l e) n = not_idle (owner_at s o) (session.Snapshot t) n e refl

-- the owner of number 0 stays nobody, whatever it does; and it sends nothing
doing_nobody : (s : State) (o : ℕ) (w : Owner) (outs : List Out) (new : List Dep) → Doing s o w outs new → IsNobody (owner_at s o) → IsNobody w × (outs ≡ [])
doing_nobody s o _ _ _ (listens_one slot r d) n = (record { fences = n.fences; idle = n.idle; free = n.free }, refl)
doing_nobody s o _ _ _ (fix_hears f slot r x d e) n = not_idle (owner_at s o) (session.Fixing f) n x refl
doing_nobody s o _ _ _ (fix_reached f slot r y x d e) n = not_idle (owner_at s o) (session.Fixing f) n x refl
doing_nobody s o _ _ _ (register_hears f slot r x d a e) n = not_idle (owner_at s o) (session.Register f) n x refl
doing_nobody s o _ _ _ (register_stores f slot r x d a e) n = not_idle (owner_at s o) (session.Register f) n x refl
doing_nobody s o _ _ _ (register_reached f slot r y x d e) n = not_idle (owner_at s o) (session.Register f) n x refl
doing_nobody s o _ _ _ (read_ends f key cell dep x a b) n = not_idle (owner_at s o) (session.Register f) n x refl
doing_nobody s o _ _ _ (write_ends f key value e x a b) n = not_idle (owner_at s o) (session.Register f) n x refl
doing_nobody s o _ _ _ (txn_ends x y time a b d) n = not_calling (owner_at s o) x n a
doing_nobody s o _ _ _ (snap_ends x y time a b d) n = not_calling (owner_at s o) x n a
doing_nobody s o _ _ _ (counts_one target) n = (record { fences = n.fences; idle = n.idle; free = n.free }, refl)
doing_nobody s o _ _ _ (cuts_one service replica) n = (record { fences = n.fences; idle = still (owner_at s o).session n.idle; free = n.free }, refl)
  where
    still : (x : Session) → x ≡ session.Idle → session_without x (Replica service replica) ≡ session.Idle
    still x e = ap (λ (y : Session). session_without y (Replica service replica)) e
doing_nobody s o _ _ _ (is_closed f) n = (record { fences = n.fences; idle = n.idle; free = n.free }, refl)
doing_nobody s o _ _ _ forgets_all n = (record { fences = n.fences; idle = n.idle; free = n.free }, refl)
doing_nobody s o _ _ _ (turns x outs y) n = turning_busy s o x outs y n
doing_nobody s o _ _ _ (stub_asks attempt shards e b) n = not_stub (owner_at s o) (Some (attempt, shards)) n e

-- an owner past the last does nothing that sends either
past_nobody : IsNobody no_owner
past_nobody = record { fences = refl; idle = refl; free = refl }

-- THE WALK

-- an owner at rest, which is not the one of number 0
rests_at : (s t : State) (o : ℕ) (w : Owner) → 1 ≤ o → o < length s.owners → SameStores s t → t.owners ≡ set s.owners o w → Fewer (owner_at s o) w → Traffic s → TrafficAt t o
rests_at s t o w l i d e f h = record {
  all = traffic_set s t o w d.net e (λ z. absurd (omega (arith, l, z))) f h;
  first = l;
  there = let a = ap (λ (xs : List Owner). length xs) e in let b = set_long s.owners o w in omega (arith, a, b, i);
}

-- it sends, or nothing is sent
does_at : (s t : State) (o : ℕ) (w : Owner) (outs : List Out) (new : List Dep) → Doing s o w outs new → Changed new (set s.owners o w) s t → Traffic s → Traffic (sends t o outs)
does_at s t o w outs new b d h = by_place (get_or_past s.owners o no_owner) (zero_or o)
  where
    zero_or : (o : ℕ) → (o ≡ 0) ⊎ (1 ≤ o)
    zero_or zero = inl refl
    zero_or (suc o) = inr (omega arith)

    fewer : Fewer (owner_at s o) w
    fewer = doing_fewer s o w outs new b

    silent : IsNobody (owner_at s o) → Traffic (sends t o outs)
    silent n = subst (λ (xs : List Out). Traffic (sends t o xs)) (sym (doing_nobody s o w outs new b n).1) (traffic_set s t o w d.stores.net d.owned (λ z. (doing_nobody s o w outs new b n).0) fewer h)

    by_place : (o < length s.owners) ⊎ (owner_at s o ≡ no_owner) → (o ≡ 0) ⊎ (1 ≤ o) → Traffic (sends t o outs)
    by_place (inr e) z = silent (subst IsNobody (sym e) past_nobody)
    by_place (inl i) (inl e) = silent (at_zero s o h e)
    by_place (inl i) (inr l) = (traffic_sends o outs t (rests_at s t o w l i d.stores d.owned fewer h)).all

begins_first : (c : Config) (s : State) (w : Owner) → Beginning c s w → w.currents ≡ no_currents
begins_first c s _ (calls n x e) = refl
begins_first c s _ (fences n) = refl

settles_at : (s : State) (o slot : ℕ) (a : Attempt) (shards : List ℕ) (outcome : Outcome) → o < length s.owners → session_at s o ≡ session.Settling a shards → Traffic s → TrafficAt (plans_stub (sends (listens s o slot) o (tells_decision a outcome shards)) o) o
settles_at s o slot a shards outcome i e h = rests_at v (plans_stub v o) o _ first g.there (record { steps = refl; moment = refl; moments = refl; net = refl; shards = refl; replicas = refl; marks = refl }) refl (λ place exchange k. k) g.all
  where
    first : 1 ≤ o
    first = from_one o (λ z. not_idle (owner_at s o) (session.Settling a shards) (at_zero s o h z) e refl)

    u : State
    u = listens s o slot

    v : State
    v = sends u o (tells_decision a outcome shards)

    g : TrafficAt v o
    g = traffic_sends o (tells_decision a outcome shards) u (rests_at s u o (listened s o slot) first i (record { steps = refl; moment = refl; moments = refl; net = refl; shards = refl; replicas = refl; marks = refl }) refl (λ place exchange k. freed_fewer (owner_at s o).currents slot place exchange k) h)

traffic_keeps : (c : Config) (at : Reading) → OwnerKeeps c at Traffic TrafficAt
traffic_keeps c at = record {
  shards = λ s m shard r d h. traffic_more s (serves_shard s m shard at.latest r) _ refl refl (owned_so (length s.owners) (message_at s.net m) _ refl (h.owned m d.numbered d.sent)) h;
  replicas = λ s m id replica r d h.
      let o = (message_at s.net m).envelope.owner in
      let u = record s { net = (serves_replica s m id replica r).net } in
      let g = traffic_more s u _ refl refl (owned_so (length s.owners) (message_at s.net m) _ refl (h.owned m d.numbered d.sent)) h in
      let t = notes_served (serves_replica s m id replica r) o id r in
      traffic_set u t o _ refl refl (λ z. (let n = at_zero u o g z in record { fences = n.fences; idle = n.idle; free = n.free })) (λ place exchange k. k) g;
  moves = record {
    fates = fated;
    again = λ s o exchange slot target r d h. (traffic_one s o (record { slot = Some slot; target = target; request = r }) (again_at s o exchange slot target r d h)).all;
    stages = λ s t d h. traffic_same s t d.stores.net d.owned h;
    dies = λ s t n u d h. traffic_grow s t _ d.stores.net d.owned refl h;
    begins = λ s t w b d h. (let e = ap (λ (xs : List Owner). length xs) d.owned in let k = grow_long s.owners w in let l = h.some in record { all = traffic_grow s t w d.stores.net d.owned (begins_first c s w b) h; first = l; there = omega (arith, e, k) });
    rests = λ s t o w i b d h. rests_at s t o w (from_one o (λ z. resting_first s o w b (at_zero s o h z))) i d.stores d.owned (resting_fewer s o w b) h;
    settles = λ s o slot a shards outcome i e d h. settles_at s o slot a shards outcome i e h;
    settled = λ s o h. h.all;
    works = λ s t o w i b d h. rests_at s t o w h.first i d.stores d.owned (working_fewer at s o w b) h.all;
    leaves = λ s t o w outs i b d h. (traffic_sends o outs t (rests_at s t o w h.first i d.stores d.owned (leaving_fewer c at s o w outs b) h.all)).all;
    does = λ s t o w outs new b d h. does_at s t o w outs new b d h;
  };
}
  where
    again_at : (s : State) (o exchange slot : ℕ) (target : Target) (r : Request) → IsAgain s o exchange slot target r → Traffic s → TrafficAt s o
    again_at s o exchange slot target r d h =
        let k = h.owned d.lost.number d.lost.numbered d.lost.sent in
        let e = d.lost.by in
        record { all = h; first = (let l = k.first in omega (arith, l, e)); there = (let l = k.begun in omega (arith, l, e)) }

pub traffic_run : (c : Config) (steps : List Step) (s : State) → run c steps ≡ Some s → Traffic s
traffic_run c steps s e = kept_run c Traffic TrafficAt (record { keeps = traffic_keeps c; ticked = λ t at h. traffic_same t (ticks t at) refl refl h }) starts steps s e
  where
    alone : (o : ℕ) → get_or (no_owner ∷ []) o no_owner ≡ no_owner
    alone o = grind (arith, looks)

    starts : Traffic (start c)
    starts = record {
      some = omega arith;
      sent = omega arith;
      nobody = past_nobody;
      nothing = refl;
      owned = λ m z l. absurd (omega (arith, z, l));
      awaits = λ o slot exchange g. absurd (none_current slot exchange (ap (λ (w : Owner). get_or w.currents slot None) (sym (alone o)) ∙ g));
    }
