-- What is known of transactions and snapshots holds before the first step, and where a step is counted; and no owner
-- stands at number 0.
use Rattle.std.proofs.Common.{◌≡◌, ◌⊎◌, inl, inr, ℕ, zero, suc, ◌+◌, ◌<◌, Bool, true, false, List, [], ◌∷◌, length, get_or, Option, Some, refl, sym, ap, ◌∙◌, subst, arith}
use Rattle.std.proofs.Math.ListN.{length-set}
use Rattle.truetime.specs.Reading.{Reading}
use Rattle.rss_names.specs.declared.attempt.Attempt.{Attempt}
use Rattle.rss_names.specs.declared.service.ServiceId.{ServiceId}
use Rattle.pipeline_lang.specs.declared.config.Config.{Config}
use Rattle.rss_model.specs.declared.op.Op.{Op}
use Rattle.rss_tables.specs.Outs.{Out}
use Rattle.rss_machine.specs.Moves.{ticks}
use Rattle.rss_machine.specs.Session.{Session}
use Rattle.rss_machine.specs.State.{State, Owner, owner_at, no_owner, start, shards_from}
use Rattle.rss_machine.specs.declared.session.OwnerKind.TheVariants as kind
use Rattle.shard_event_laws.specs.Events.{Event, aside, begins_txn, begins_snapshot, txn_hears_one, snap_hears_one, txn_wakes_one, snap_wakes_one, txn_passes_time, sends_again, serves_one, stub_asks, stub_tells, left_to_await, Turns}
use Rattle.shard_event_laws.specs.Facts.{is_with_shards, Aside, OneOwner}
use Rattle.txn_state_laws.specs.Framed.{AllFramed}
use Rattle.txn_session_laws.specs.Standing.{NoneFirst}
use Rattle.txn_session_laws.proofs.FramedOwners.{one_cases, idle_or_txn, idle_or_snap, idle_or_settling}
use Rattle.txn_session_laws.proofs.Framed.{framed_stays}
use Rattle.txn_session_laws.proofs.FramedTurns.{turned_kind}

-- before the first step there is no owner
pub none_there : (c : Config) (o : ℕ) → owner_at (start c) o ≡ no_owner
none_there c zero = refl
none_there c (suc zero) = refl
none_there c (suc (suc o)) = refl

one_each : (c : Config) (shard : ℕ) (services : List ServiceId) → length (shards_from c shard services) ≡ length services
one_each c shard [] = refl
one_each c shard (service ∷ services) = ap suc (one_each c (shard + 1) services)

no_call : {A : Type 0} (x : Op) → kind.Fencing ≡ kind.Calling x → A
no_call x e = absurd cc

no_stub : {A : Type 0} (left : Option (Attempt × List ℕ)) → kind.Fencing ≡ kind.Stubbing left → A
no_stub left e = absurd cc

pub framed_start : (c : Config) → AllFramed c (start c)
framed_start c = record {
  shards = one_each c 1 c.shard_services;
  txn = λ o x e. idle_or_txn (owner_at (start c) o).session x (ap (λ (w : Owner). w.session) (none_there c o)) e;
  snap = λ o x e. idle_or_snap (owner_at (start c) o).session x (ap (λ (w : Owner). w.session) (none_there c o)) e;
  stub = λ o a shards e. no_stub (Some (a, shards)) (ap (λ (w : Owner). w.kind) (sym (none_there c o)) ∙ e);
  settles = λ o a shards e. idle_or_settling (owner_at (start c) o).session a shards (ap (λ (w : Owner). w.session) (none_there c o)) e;
  ops = λ o x e. no_call x (ap (λ (w : Owner). w.kind) (sym (none_there c o)) ∙ e);
}

pub framed_ticks : (c : Config) (s : State) (at : Reading) → AllFramed c s → AllFramed c (ticks s at)
framed_ticks c s at h = framed_stays c s (ticks s at) refl refl h

-- no owner stands at number 0
pub none_start : (c : Config) → NoneFirst (start c)
none_start c = record { some = omega arith; none = refl }

pub none_ticks : (s : State) (at : Reading) → NoneFirst s → NoneFirst (ticks s at)
none_ticks s at h = record { some = h.some; none = h.none }

none_stays : (s t : State) → t.owners ≡ s.owners → NoneFirst s → NoneFirst t
none_stays s t e h = record {
  some = subst (λ (owners : List Owner). 0 < length owners) (sym e) h.some;
  none = subst (λ (owners : List Owner). (get_or owners 0 no_owner).kind ≡ kind.Fencing) (sym e) h.none;
}

none_one : (s t : State) (o : ℕ) (w : Owner) → OneOwner s t o w → w.kind ≡ (owner_at s o).kind → NoneFirst s → NoneFirst t
none_one s t o w one k h = record {
  some = subst (λ (n : ℕ). 0 < n) (sym (ap length one.owned ∙ length-set s.owners o w)) h.some;
  none = by_cases (one_cases s t o w one 0);
}
  where
    by_cases : ((owner_at t 0 ≡ w) × (0 ≡ o)) ⊎ (owner_at t 0 ≡ owner_at s 0) → (owner_at t 0).kind ≡ kind.Fencing
    by_cases (inl e) = ap (λ (v : Owner). v.kind) e.0 ∙ k ∙ ap (λ (i : ℕ). (owner_at s i).kind) (sym e.1) ∙ h.none
    by_cases (inr e) = ap (λ (v : Owner). v.kind) e ∙ h.none

none_turns : (s t : State) (o : ℕ) (anew : Bool) (currents : List (Option ℕ)) (x : Session) (outs : List Out) (end : Option ℕ) → Turns s t o anew currents x outs end → NoneFirst s → NoneFirst t
none_turns s t o anew currents x outs end turns h = none_one s t o _ turns.owned (turned_kind s o (left_to_await anew currents) x outs end) h

none_aside : (c : Config) (s t : State) → Aside c s t → NoneFirst s → NoneFirst t
none_aside c s t a h = record { some = (let l = a.long in let i = h.some in omega (arith, l, i)); none = by_session (is_with_shards (owner_at s 0).session) refl }
  where
    by_session : (b : Bool) → is_with_shards (owner_at s 0).session ≡ b → (owner_at t 0).kind ≡ kind.Fencing
    by_session true e = (a.with_shards 0 h.some e).kind ∙ h.none
    by_session false e = (a.without 0 h.some e).kind ∙ h.none

pub none_keeps : (c : Config) (at : Reading) (s t : State) → Event c at s t → NoneFirst s → NoneFirst t
none_keeps c at s t (aside a) h = none_aside c s t a h
none_keeps c at s t (begins_txn o reads guard writes x k d l) h = none_one s t o _ l.owned refl h
none_keeps c at s t (begins_snapshot o keys x k d l) h = none_one s t o _ l.owned refl h
none_keeps c at s t (txn_hears_one o slot x r u r' turns) h = none_turns s t o _ _ _ _ _ turns h
none_keeps c at s t (snap_hears_one o slot x r u r' turns) h = none_turns s t o _ _ _ _ _ turns h
none_keeps c at s t (txn_wakes_one o x l u w turns) h = none_turns s t o _ _ _ _ _ turns h
none_keeps c at s t (snap_wakes_one o x l u w turns) h = none_turns s t o _ _ _ _ _ turns h
none_keeps c at s t (txn_passes_time o time x u w p turns) h = none_turns s t o _ _ _ _ _ turns h
none_keeps c at s t (sends_again o slot target r a) h = none_one s t o _ a.owned refl h
none_keeps c at s t (serves_one m shard q w d) h = none_stays s t (ap (λ (v : State). v.owners) d) h
none_keeps c at s t (stub_asks o a shards k f i l) h = none_one s t o l.owner l.owned l.kind h
none_keeps c at s t (stub_tells o slot a shards outcome u r l) h = none_one s t o l.owner l.owned l.kind h
