-- Each move of a step as an event, second part: what owners do between their works, and their rounds.
use Rattle.std.proofs.Common.{◌≡◌, ◌⊎◌, inl, inr, ℕ, true, false, List, [], ◌∷◌, All, length, Option, Some, None, refl, sym, ap, ◌∙◌, arith}
use Rattle.std.proofs.Math.ListN.{set}
use Rattle.std.specs.Prelude.{get_or}
use Rattle.std.proofs.lemmas.List.Elements.{All-nil, All-cons, All-head, All-tail}
use Rattle.truetime.specs.Reading.{Reading}
use Rattle.rss_names.specs.declared.service.ServiceId.{ServiceId}
use Rattle.rss_names.specs.declared.service.Target.{Target}
use Rattle.rss_names.specs.declared.service.Target.TheVariants.{Replica}
use Rattle.causal_context.specs.declared.dep.Dep.{Dep}
use Rattle.pipeline_lang.specs.declared.config.Config.{Config}
use Rattle.rss_wire.specs.declared.messages.Request.TheVariants as request
use Rattle.rss_tables.specs.Outs.{Out, awaited, line_out, slot_replica}
use Rattle.rss_tables.specs.RegisterSession.{RegSession, round_requests, session_after}
use Rattle.rss_tables.specs.declared.register_session.RegWork.TheVariants as work
use Rattle.rss_tables.specs.SnapshotSession.{snap_starts}
use Rattle.rss_tables.specs.TransactionSession.{txn_starts}
use Rattle.rss_machine.specs.Effect.{least_shard}
use Rattle.rss_machine.specs.Moves.{sends, session_without}
use Rattle.rss_machine.specs.Calls.{session_for}
use Rattle.rss_machine.specs.Session.{Session, service_of}
use Rattle.rss_machine.specs.Standing.{is_running}
use Rattle.rss_machine.specs.State.{State, Owner, owner_at}
use Rattle.rss_machine.specs.declared.session.Session.TheVariants as session
use Rattle.rss_machine.specs.declared.state.OwnerFate.{OwnerFate}
use Rattle.rss_machine.specs.declared.state.OwnerFate.TheVariants.{Ended, CutOff}
use Rattle.world_laws.specs.Exchanges.{is_replica}
use Rattle.world_laws.proofs.Doings.{Changed, Resting, plans, past, fixed, cleared, Working, owes_nothing, is_past, enters_own, Leaving, waits, fixes_work, fixes_own, asks_register, stamps_register, begins_snapshot, begins_txn, fence_done, stub_done, Doing, listens_one, fix_hears, fix_reached, register_hears, register_stores, register_reached, read_ends, write_ends, txn_ends, snap_ends, counts_one, cuts_one, is_closed, forgets_all, turns, stub_asks, launched, fix_session}
use Rattle.world_laws.proofs.Looks.{looks}
use Rattle.world_laws.proofs.Sent.{RoundOut, round_outs}
use Rattle.world_laws.proofs.SessionMoves.{session_at}
use Rattle.world_laws.proofs.StageMoves.{DoingNotes}
use Rattle.world_laws.proofs.StagesOwned.{running_there}
use Rattle.world_laws.proofs.TurnMoves.{IsNoTurn}
use Rattle.reg_laws.proofs.Awaiting.{Awaiting, idle_current, current_without}
use Rattle.shard_event_laws.specs.Events as event
use Rattle.shard_event_laws.specs.Events.{Event, aside, AwaitsNothing, Launches, SettlesTo}
use Rattle.shard_event_laws.specs.Facts.{StaysWithout, is_with_shards, current_at, currents_after}
use Rattle.shard_event_laws.proofs.Asides.{OneAside, none_aside, clock_same, one_aside, sends_aside, ToReplica}
use Rattle.shard_event_laws.proofs.MoveEvents.{closes_aside}
use Rattle.shard_event_laws.proofs.Sending.{sends_clock, sends_net}
use Rattle.shard_event_laws.proofs.TurnEvents.{sends_changed, sends_from, shards_later}

round_replicas : (r : RegSession) → All ToReplica (awaited (round_requests r))
round_replicas r = weaker (awaited (round_requests r)) (round_outs r)
  where
    weaker : (outs : List Out) → All (RoundOut r) outs → All ToReplica outs
    weaker [] h = All-nil ToReplica
    weaker (out ∷ outs) h = All-cons ToReplica out outs (ap is_replica (All-head (RoundOut r) out outs h).target) (weaker outs (All-tail (RoundOut r) out outs h))

module _ (c : Config) (at : Reading) where
  -- between works
  pub of_rests : (s t : State) (o : ℕ) (w : Owner) → Resting s o w → Changed [] (set s.owners o w) s t → Awaiting s → Event c at s t
  of_rests s t o w b d h = aside (one_aside c s t o w (clock_same s t d.stores) d.stores.net d.owned (none_aside s.steps (owner_at s o) w (before w b) (after w b)))
    where
      before : (w : Owner) → Resting s o w → is_with_shards (owner_at s o).session ≡ false
      before _ (plans e f) = ap is_with_shards ((h.each o).unstarted f).0
      before _ (past id x rest time l e) = ap is_with_shards ((h.each o).waiting time e)
      before _ (fixed id x rest r y l e a n) = ap is_with_shards e
      before _ (cleared r y l e a n) = ap is_with_shards e

      after : (w : Owner) → Resting s o w → StaysWithout (owner_at s o) w
      after _ (plans e f) = record { kind = refl; stage = refl; begun = refl; none = refl }
      after _ (past id x rest time l e) = record { kind = refl; stage = refl; begun = refl; none = refl }
      after _ (fixed id x rest r y l e a n) = record { kind = refl; stage = refl; begun = refl; none = refl }
      after _ (cleared r y l e a n) = record { kind = refl; stage = refl; begun = refl; none = refl }

  pub of_works : (s t : State) (o : ℕ) (w : Owner) → Working at s o w → Changed [] (set s.owners o w) s t → session_at s o ≡ session.Idle → Event c at s t
  of_works s t o w b d e = aside (one_aside c s t o w (clock_same s t d.stores) d.stores.net d.owned (none_aside s.steps (owner_at s o) w (ap is_with_shards e) (after w b)))
    where
      after : (w : Owner) → Working at s o w → StaysWithout (owner_at s o) w
      after _ (owes_nothing id rest l) = record { kind = refl; stage = refl; begun = refl; none = refl }
      after _ (is_past id time rest l g) = record { kind = refl; stage = refl; begun = refl; none = refl }
      after _ (enters_own x l k f) = record { kind = refl; stage = refl; begun = refl; none = ap is_with_shards e }

  -- an owner that begins something with shards
  launch : (s t : State) (o : ℕ) (x : Session) (outs : List Out) → is_running (owner_at s o).fate ≡ true → session_at s o ≡ session.Idle → Awaiting s → Changed [] (set s.owners o (launched s o x)) s t → Launches s (sends t o outs) o x outs
  launch s t o x outs r e h d = record {
    same = shards_later s t (sends t o outs) (clock_same s t d.stores) (sends_clock o outs t);
    idle = e;
    free = λ slot. free (current_at (owner_at s o) slot) slot refl;
    owned = record { there = running_there s o r; runs = r; owned = sends_changed s t o (launched s o x) outs (running_there s o r) d.stores.net d.owned };
    sends = sends_from s t (sends t o outs) o outs d.stores.net (sends_net o outs t);
  }
    where
      free : (m : Option ℕ) (slot : ℕ) → current_at (owner_at s o) slot ≡ m → m ≡ None
      free None slot f = refl
      free (Some m) slot f = absurd (idle_current s.net o (owner_at s o) slot m (h.each o) e f)

  asks_replicas : (s t : State) (o : ℕ) (w : Owner) (r : RegSession) → is_running (owner_at s o).fate ≡ true → is_with_shards (owner_at s o).session ≡ false → Changed [] (set s.owners o w) s t → StaysWithout (owner_at s o) w → Event c at s (sends t o (awaited (round_requests r)))
  asks_replicas s t o w r g n d h = aside (sends_aside c s t o w (awaited (round_requests r)) (running_there s o g) d.stores d.owned (round_replicas r) n h)

  pub of_leaves : (s t : State) (o : ℕ) (w : Owner) (outs : List Out) → Leaving c at s o w outs → Changed [] (set s.owners o w) s t → is_running (owner_at s o).fate ≡ true → session_at s o ≡ session.Idle → Awaiting s → Event c at s (sends t o outs)
  of_leaves s t o _ _ (waits id time rest l) d r e h =
      aside (one_aside c s t o _ (clock_same s t d.stores) d.stores.net d.owned (none_aside s.steps (owner_at s o) _ (ap is_with_shards e) (record { kind = refl; stage = refl; begun = refl; none = ap is_with_shards e })))
  of_leaves s t o w _ (fixes_work id rest l) d r e h = asks_replicas s t o w (fix_session c s o id) r (ap is_with_shards e) d (record { kind = refl; stage = refl; begun = refl; none = refl })
  of_leaves s t o w _ (fixes_own x dep deps l k f) d r e h = asks_replicas s t o w (fix_session c s o (service_of x)) r (ap is_with_shards e) d (record { kind = refl; stage = refl; begun = refl; none = refl })
  of_leaves s t o w _ (asks_register key l k f) d r e h = asks_replicas s t o w (session_for c s o (work.Read key) key.service) r (ap is_with_shards e) d (record { kind = refl; stage = refl; begun = refl; none = refl })
  of_leaves s t o w _ (stamps_register key value l k f) d r e h = asks_replicas s t o w (session_for c s o (work.Write key value) key.service) r (ap is_with_shards e) d (record { kind = refl; stage = refl; begun = refl; none = refl })
  of_leaves s t o _ _ (begins_snapshot keys x l k q) d r e h = event.begins_snapshot o keys x k q (launch s t o (session.Snapshot x) (snap_starts x).outs r e h d)
  of_leaves s t o _ _ (begins_txn reads guard writes x l k q) d r e h = event.begins_txn o reads guard writes x k q (launch s t o (session.Transaction x) (txn_starts x).outs r e h d)
  of_leaves s t o _ _ (fence_done l k) d r e h =
      aside (one_aside c s t o _ (clock_same s t d.stores) d.stores.net d.owned (none_aside s.steps (owner_at s o) _ (ap is_with_shards e) (record { kind = refl; stage = refl; begun = refl; none = ap is_with_shards e })))
  of_leaves s t o _ _ (stub_done u l k) d r e h =
      aside (one_aside c s t o _ (clock_same s t d.stores) d.stores.net d.owned (none_aside s.steps (owner_at s o) _ (ap is_with_shards e) (record { kind = refl; stage = refl; begun = refl; none = ap is_with_shards e })))

  -- an owner with a round under way goes on
  pub of_round : (s t : State) (o : ℕ) (w : Owner) (new : List Dep) → is_with_shards (owner_at s o).session ≡ false → Changed new (set s.owners o w) s t → StaysWithout (owner_at s o) w → Event c at s t
  of_round s t o w new n d h = aside (one_aside c s t o w (clock_same s t d.stores) d.stores.net d.owned (none_aside s.steps (owner_at s o) w n h))

  -- what an owner stops to await
  stops : (cs : List (Option ℕ)) (slot other m : ℕ) → get_or (set cs slot None) other None ≡ Some m → get_or cs other None ≡ Some m
  stops cs slot other m e = by_place (at_place cs slot other) e
    where
      at_place : (cs : List (Option ℕ)) (slot other : ℕ) → (get_or (set cs slot None) other None ≡ None) ⊎ (get_or (set cs slot None) other None ≡ get_or cs other None)
      at_place cs slot other = grind (arith, looks)

      none_is : None ≡ Some m → ⊥
      none_is f = cc

      by_place : (get_or (set cs slot None) other None ≡ None) ⊎ (get_or (set cs slot None) other None ≡ get_or cs other None) → get_or (set cs slot None) other None ≡ Some m → get_or cs other None ≡ Some m
      by_place (inl f) g = absurd (none_is (sym f ∙ g))
      by_place (inr f) g = sym f ∙ g

  pub fewer_aside : (steps : ℕ) (v w : Owner) → w.kind ≡ v.kind → w.stage ≡ v.stage → w.works.copy ≡ v.works.copy → w.dates ≡ v.dates → w.fate ≡ v.fate → (is_with_shards v.session ≡ true → w.session ≡ v.session) → (is_with_shards v.session ≡ false → is_with_shards w.session ≡ false) → ((slot m : ℕ) → current_at w slot ≡ Some m → current_at v slot ≡ Some m) → OneAside steps v w
  fewer_aside steps v w a b d e f g n h = record {
    with_shards = λ x. record { kind = a; stage = b; session = g x; copy = d; begun = ap (λ y. y.begun) e; launched = ap (λ y. y.launched) e; fewer = h; unended = λ y. sym f ∙ y; fate = inl (f, ap (λ y. y.ended) e) };
    without = λ x. record { kind = a; stage = b; begun = ap (λ y. y.begun) e; none = n x };
  }

  without_same : (x : Session) (id : ServiceId) (replica : ℕ) → is_with_shards x ≡ true → session_without x (Replica id replica) ≡ x
  without_same (session.Transaction t) id replica e = refl
  without_same (session.Snapshot t) id replica e = refl
  without_same (session.Settling a shards) id replica e = refl
  without_same session.Idle id replica e = refl
  without_same (session.Fixing r) id replica e = absurd (no e)
    where
      no : false ≡ true → ⊥
      no f = cc
  without_same (session.Register r) id replica e = absurd (no e)
    where
      no : false ≡ true → ⊥
      no f = cc

  without_none : (x : Session) (id : ServiceId) (replica : ℕ) → is_with_shards x ≡ false → is_with_shards (session_without x (Replica id replica)) ≡ false
  without_none (session.Transaction t) id replica e = e
  without_none (session.Snapshot t) id replica e = e
  without_none (session.Settling a shards) id replica e = e
  without_none session.Idle id replica e = e
  without_none (session.Fixing r) id replica e = refl
  without_none (session.Register r) id replica e = refl

  not_running : (f : OwnerFate) (target : Target) → f ≡ CutOff target → (is_running f ≡ false) × (f ≡ Ended → ⊥)
  not_running f target e = (ap is_running e, λ g. absurd (no target (sym e ∙ g)))
    where
      no : (target : Target) → CutOff target ≡ Ended → ⊥
      no target e = cc

  one_current : (cs : List (Option ℕ)) (slot n other m : ℕ) → get_or (set cs slot (Some n)) other None ≡ Some m → (get_or cs other None ≡ Some m) ⊎ (m ≡ n)
  one_current cs slot n other m e = by_place (at_place cs slot n other)
    where
      at_place : (cs : List (Option ℕ)) (slot n other : ℕ) → (get_or (set cs slot (Some n)) other None ≡ Some n) ⊎ (get_or (set cs slot (Some n)) other None ≡ get_or cs other None)
      at_place cs slot n other = grind (arith, looks)

      same : Some n ≡ Some m → m ≡ n
      same f = cc

      by_place : (get_or (set cs slot (Some n)) other None ≡ Some n) ⊎ (get_or (set cs slot (Some n)) other None ≡ get_or cs other None) → (get_or cs other None ≡ Some m) ⊎ (m ≡ n)
      by_place (inl f) = inr (same (sym f ∙ e))
      by_place (inr f) = inl (sym f ∙ e)

  pub of_does : (s t : State) (o : ℕ) (w : Owner) (outs : List Out) (new : List Dep) → (b : Doing s o w outs new) → IsNoTurn s o w outs new b → DoingNotes c s o w outs new b t → Changed new (set s.owners o w) s t → is_running (owner_at s o).fate ≡ true → Awaiting s → Event c at s (sends t o outs)
  of_does s t o w _ _ (listens_one slot r x) n q d g h =
      aside (one_aside c s t o w (clock_same s t d.stores) d.stores.net d.owned (fewer_aside s.steps (owner_at s o) w refl refl refl refl refl (λ e. refl) (λ e. e) (λ other m. stops (owner_at s o).currents slot other m)))
  of_does s t o w _ new (fix_hears f slot r x y e) n q d g h = of_round s t o w new (ap is_with_shards x) d (record { kind = refl; stage = refl; begun = refl; none = refl })
  of_does s t o w _ new (fix_reached f slot r z x y e) n q d g h = of_round s t o w new (ap is_with_shards x) d (record { kind = refl; stage = refl; begun = refl; none = refl })
  of_does s t o w _ new (register_hears f slot r x y a e) n q d g h = of_round s t o w new (ap is_with_shards x) d (record { kind = refl; stage = refl; begun = refl; none = refl })
  of_does s t o w _ _ (register_stores f slot r x y a e) n q d g h = asks_replicas s t o w (session_after f (slot_replica slot) r) g (ap is_with_shards x) d (record { kind = refl; stage = refl; begun = refl; none = refl })
  of_does s t o w _ _ (register_reached f slot r z x y e) n q d g h = absurd q
  of_does s t o w _ _ (read_ends f key cell dep x a b) n q d g h = absurd q
  of_does s t o w _ _ (write_ends f key value e x a b) n q d g h = absurd q
  of_does s t o w _ _ (txn_ends x y time a b e) n q d g h = absurd n
  of_does s t o w _ _ (snap_ends x y time a b e) n q d g h = absurd n
  of_does s t o w _ _ (counts_one target) n q d g h =
      aside (one_aside c s t o w (clock_same s t d.stores) d.stores.net d.owned (fewer_aside s.steps (owner_at s o) w refl refl refl refl refl (λ e. refl) (λ e. e) (λ other m e. e)))
  of_does s t o w _ _ (cuts_one id replica) n q d g h =
      aside (one_aside c s t o w (clock_same s t d.stores) d.stores.net d.owned
      (fewer_aside s.steps (owner_at s o) w refl refl refl refl refl (without_same (owner_at s o).session id replica) (without_none (owner_at s o).session id replica) (λ other m. current_without s.net (Replica id replica) (owner_at s o).currents other m)))
  of_does s t o w _ _ (is_closed f) n q d g h =
      let e = not_running f q.0.target q.0.cut in
      aside (one_aside c s t o w (clock_same s t d.stores) d.stores.net d.owned (closes_aside c at s o f g e.0 e.1))
  of_does s t o w _ _ forgets_all n q d g h = absurd n
  of_does s t o w _ _ (turns x outs y) n q d g h = absurd n
  of_does s t o w _ _ (stub_asks attempt shards e b) n q d g h =
      event.stub_asks o attempt shards e (λ slot. free (current_at (owner_at s o) slot) slot refl) idle (record {
        same = shards_later s t (sends t o outs) (clock_same s t d.stores) (sends_clock o outs t);
        owner = record w { currents = currents_after w.currents outs (length s.net) };
        owned = record { there = running_there s o g; runs = g; owned = sends_changed s t o w outs (running_there s o g) d.stores.net d.owned };
        kind = refl;
        stage = refl;
        begun = refl;
        session = refl;
        awaits = λ slot m. one_current (owner_at s o).currents _ (length s.net) slot m;
        sends = sends_from s t (sends t o outs) o outs d.stores.net (sends_net o outs t);
      })
    where
      outs : List Out
      outs = line_out (least_shard shards) (request.Decide attempt false 0) ∷ []

      idle : session_at s o ≡ session.Idle
      idle = ((h.each o).unstarted b).0

      free : (m : Option ℕ) (slot : ℕ) → current_at (owner_at s o) slot ≡ m → m ≡ None
      free None slot f = refl
      free (Some m) slot f = absurd (idle_current s.net o (owner_at s o) slot m (h.each o) idle f)
