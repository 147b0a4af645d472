-- Each move of a step as an event, first part: messages, stages, and what owners do that is no turn.
use Rattle.std.proofs.Common.{◌≡◌, ◌⊎◌, inl, inr, ℕ, zero, suc, ◌-◌, ◌<◌, ◌≤◌, Bool, true, false, List, [], ◌∷◌, ◌++◌, length, Option, Some, None, refl, sym, ap, ◌∙◌, subst, arith}
use Rattle.std.proofs.Math.ListN.{set}
use Rattle.std.specs.Prelude.{get_or}
use Rattle.truetime.specs.Reading.{Reading}
use Rattle.rss_names.specs.declared.attempt.Attempt.{Attempt}
use Rattle.rss_names.specs.declared.service.ServiceId.{ServiceId}
use Rattle.rss_names.specs.declared.service.Target.{Target}
use Rattle.rss_names.specs.declared.service.Target.TheVariants.{Shard, Replica}
use Rattle.pipeline_lang.specs.declared.config.Config.{Config}
use Rattle.rss_model.specs.declared.history.Entry.TheVariants.{Over}
use Rattle.rss_model.specs.declared.history.How.{How}
use Rattle.rss_model.specs.declared.op.Op.{Op}
use Rattle.rss_wire.specs.Messages.{message_at, meets, reply_envelope}
use Rattle.rss_wire.specs.declared.message.Body.TheVariants as body
use Rattle.rss_wire.specs.declared.message.Fate.{Fate}
use Rattle.rss_wire.specs.declared.message.Fate.TheVariants.{Pending}
use Rattle.rss_wire.specs.declared.message.Message.{Message}
use Rattle.rss_wire.specs.declared.messages.Request.{Request}
use Rattle.rss_tables.specs.ReplicaRow.{replica_reply}
use Rattle.rss_tables.specs.Works.{no_works}
use Rattle.rss_machine.specs.Moves.{marks_message, sends_one, serves_shard, serves_replica, notes_served, dies, closed, closes_owner, unsettled_by}
use Rattle.rss_machine.specs.Session.{left_unsettled, Session}
use Rattle.rss_machine.specs.Standing.{is_running}
use Rattle.rss_machine.specs.State.{State, Owner, owner_at, stage_at, cells_at, no_owner, no_currents, opening_owner}
use Rattle.rss_machine.specs.declared.session.OwnerKind.{OwnerKind}
use Rattle.rss_machine.specs.declared.session.OwnerKind.TheVariants as kind
use Rattle.rss_machine.specs.declared.session.Session.TheVariants as session
use Rattle.rss_machine.specs.declared.state.Life.TheVariants as life
use Rattle.rss_machine.specs.declared.state.OwnerFate.{OwnerFate}
use Rattle.rss_machine.specs.declared.state.OwnerFate.TheVariants.{Ended, Dropped, CutOff}
use Rattle.world_laws.specs.Exchanges.{is_replica}
use Rattle.world_laws.proofs.Doings.{Changed, Beginning, calls, fences}
use Rattle.world_laws.proofs.Looks.{looks}
use Rattle.world_laws.proofs.Replies.{Sound, exchange_there, meets_envelope, meets_body, new_message}
use Rattle.world_laws.proofs.SessionMoves.{session_at, IsAgain}
use Rattle.world_laws.proofs.Stacked.{sent_before}
use Rattle.world_laws.proofs.StageMoves.{Dying, killed, lost}
use Rattle.world_laws.proofs.StagesOwned.{running_there}
use Rattle.world_laws.proofs.StoreMoves.{Serves}
use Rattle.world_laws.proofs.ToldRuns.{Stepping, current_runs}
use Rattle.reg_laws.proofs.Awaiting.{slot_current, none_current}
use Rattle.shard_event_laws.specs.Events.{Event, aside, sends_again, serves_one}
use Rattle.shard_event_laws.specs.Facts.{IsNew, IsLeft, NetGrows}
use Rattle.shard_event_laws.proofs.Asides.{OneAside, stays_aside, set_asides, clock_same, still_aside, more_aside, grow_aside}
use Rattle.shard_event_laws.proofs.Sending.{net_same, net_more, sends_net}

none_is : {X : Type 0} {x : X} → None ≡ Some x → ⊥
none_is e = cc

module _ (c : Config) (at : Reading) where
  fate_grows : (s : State) (m : ℕ) (f : Fate) → NetGrows s (marks_message s m f)
  fate_grows s m f = record { long = long s.net m f; envelopes = λ k i. meets_envelope s.net m f k; bodies = λ k i. meets_body s.net m f k }
    where
      long : (net : List Message) (m : ℕ) (f : Fate) → length net ≤ length (meets net m f)
      long net m f = grind (arith, looks)

  pub of_fates : (s : State) (m : ℕ) (f : Fate) → Event c at s (marks_message s m f)
  of_fates s m f = aside (still_aside c s (marks_message s m f) (record { shards = refl; steps = refl; moment = refl; moments = refl }) (fate_grows s m f) (same s.net m f) refl)
    where
      same : (net : List Message) (m : ℕ) (f : Fate) → length (meets net m f) ≡ length net
      same net m f = grind (arith, looks)

  pub of_stages : (s t : State) → Changed [] s.owners s t → Event c at s t
  of_stages s t d = aside (still_aside c s t (clock_same s t d.stores) (net_same s t d.stores.net) (ap (λ (net : List Message). length net) d.stores.net) d.owned)

  pub of_shards : (s : State) (m shard : ℕ) (q : Request) → Serves s m q (Shard shard) → Event c at s (serves_shard s m shard at.latest q)
  of_shards s m shard q d = serves_one m shard q (record { numbered = d.numbered; sent = d.sent; asks = d.asks; to = d.to }) refl

  pub of_replicas : (s : State) (m : ℕ) (id : ServiceId) (replica : ℕ) (q : Request) → Serves s m q (Replica id replica) → Event c at s (notes_served (serves_replica s m id replica q) (message_at s.net m).envelope.owner id q)
  of_replicas s m id replica q d =
      aside (more_aside c s t o (record (owner_at s o) { stored = (owner_at t o).stored }) (record { shards = refl; steps = refl; moment = refl; moments = refl }) (net_more s t x refl) sent (owned s o _) noted)
    where
      o : ℕ
      o = (message_at s.net m).envelope.owner

      t : State
      t = notes_served (serves_replica s m id replica q) o id q

      x : Message
      x = record { envelope = reply_envelope s.net m; body = body.Reply (replica_reply (cells_at s id replica) q); fate = Pending }

      place : (net : List Message) (x : Message) (k : ℕ) → length net ≤ k → k < length (net ++ x ∷ []) → k ≡ length net
      place net x k l i = grind (arith, looks, l, i)

      sent : (k : ℕ) → length s.net ≤ k → k < length t.net → is_replica (message_at t.net k).envelope.target ≡ true
      sent k l i = ap (λ (j : ℕ). is_replica (message_at t.net j).envelope.target) (place s.net x k l i) ∙ (ap (λ (y : Message). is_replica y.envelope.target) (new_message s.net x) ∙ ap is_replica d.to)

      owned : (s : State) (o : ℕ) (b : Bool) → set s.owners o (record (owner_at s o) { stored = b }) ≡ set s.owners o (record (owner_at s o) { stored = (get_or (set s.owners o (record (owner_at s o) { stored = b })) o no_owner).stored })
      owned s o b = by_there (at_place s.owners o (record (owner_at s o) { stored = b }))
        where
          at_place : (xs : List Owner) (o : ℕ) (w : Owner) → (get_or (set xs o w) o no_owner ≡ w) ⊎ (length xs ≤ o)
          at_place xs o w = grind (arith, looks)

          past : (xs : List Owner) (o : ℕ) (v w : Owner) → length xs ≤ o → set xs o v ≡ set xs o w
          past [] o v w l = refl
          past (x ∷ xs) zero v w l = absurd (omega (arith, l))
          past (x ∷ xs) (suc o) v w l = ap (λ (ys : List Owner). x ∷ ys) (past xs o v w (omega (arith, l)))

          by_there : (get_or (set s.owners o (record (owner_at s o) { stored = b })) o no_owner ≡ record (owner_at s o) { stored = b }) ⊎ (length s.owners ≤ o) → set s.owners o (record (owner_at s o) { stored = b }) ≡ set s.owners o (record (owner_at s o) { stored = (get_or (set s.owners o (record (owner_at s o) { stored = b })) o no_owner).stored })
          by_there (inl e) = ap (λ (v : Owner). set s.owners o (record (owner_at s o) { stored = v.stored })) (sym e)
          by_there (inr l) = past s.owners o _ _ l

      noted : OneAside s.steps (owner_at s o) (record (owner_at s o) { stored = (owner_at t o).stored })
      noted = record {
        with_shards = λ e. record { kind = refl; stage = refl; session = refl; copy = refl; begun = refl; launched = refl; fewer = λ slot n f. f; unended = λ f. f; fate = inl (refl, refl) };
        without = λ e. record { kind = refl; stage = refl; begun = refl; none = e };
      }

  pub of_again : (s : State) (o exchange slot : ℕ) (target : Target) (r : Request) → IsAgain s o exchange slot target r → Stepping s → Sound s → Event c at s (sends_one s o (record { slot = Some slot; target = target; request = r }))
  of_again s o exchange slot target r d h g =
      let b = sent_before s o exchange slot target r g d in
      let l = d.lost in
      let runs = current_runs s o slot exchange d.current h in
      let back = exchange_there s.net g.sound l.number l.numbered l.sent in
      sends_again o slot target r (record {
        exchange = exchange;
        current = slot_current (owner_at s o).currents exchange slot d.current;
        by = b.owner;
        to = b.target_of;
        asked = b.asked;
        sent = (let e = l.of in let i = l.sent in omega (arith, back, e, i));
        numbered = subst (λ (n : ℕ). 0 < n) l.of (g.sound l.number l.numbered l.sent).some;
        same = record { shards = refl; steps = refl; moment = refl; moments = refl };
        owned = record { there = running_there s o runs; runs = runs; owned = refl };
        sends = sends_net o (record { slot = Some slot; target = target; request = r } ∷ []) s;
      })

  -- a call or a fence statement begins
  not_calling : (o : OwnerKind) (x : Op) → kind.Fencing ≡ kind.Calling x → ⊥
  not_calling o x e = cc

  stubs_no_call : (u : Option (Attempt × List ℕ)) (x : Op) → kind.Stubbing u ≡ kind.Calling x → ⊥
  stubs_no_call u x e = cc

  call_no_stub : (x : Op) (u : Option (Attempt × List ℕ)) → kind.Calling x ≡ kind.Stubbing u → ⊥
  call_no_stub x u e = cc

  fence_no_stub : (u : Option (Attempt × List ℕ)) → kind.Fencing ≡ kind.Stubbing u → ⊥
  fence_no_stub u e = cc

  same_op : (x y : Op) → kind.Calling x ≡ kind.Calling y → x ≡ y
  same_op x y e = cc

  new_one : (s : State) (w : Owner) → Beginning c s w → IsNew c s w
  new_one s _ (calls n x e) = record {
    none = refl;
    begun = refl;
    made = λ y f. record { place = (stage_at s n).cursor.position; variables = (stage_at s n).cursor.variables; makes = e ∙ ap Some (same_op x y f) };
    left = λ attempt shards f. absurd (call_no_stub x (Some (attempt, shards)) f);
  }
  new_one s _ (fences n) = record {
    none = refl;
    begun = refl;
    made = λ y f. absurd (not_calling kind.Fencing y f);
    left = λ attempt shards f. absurd (fence_no_stub (Some (attempt, shards)) f);
  }

  pub of_begins : (s t : State) (w : Owner) → Beginning c s w → Changed [] (s.owners ++ w ∷ []) s t → Event c at s t
  of_begins s t w b d = aside (grow_aside c s t s.owners w (clock_same s t d.stores) d.stores.net refl d.owned (λ i. stays_aside s.steps (owner_at s i)) (new_one s w b))

  -- a stage dies
  dying_over : (s : State) (n : ℕ) (how : How) (f : OwnerFate) → Dying (λ g. is_running g ≡ true) s n how f → (is_running f ≡ false) × (f ≡ Ended → ⊥)
  dying_over s n _ _ (killed l) = (refl, not_dropped)
    where
      not_dropped : Dropped ≡ Ended → ⊥
      not_dropped e = cc
  dying_over s n _ _ (lost o target a b d) = (refl, not_cut target)
    where
      not_cut : (target : Target) → CutOff target ≡ Ended → ⊥
      not_cut target e = cc

  pub closes_aside : (s : State) (o : ℕ) (f : OwnerFate) → is_running (owner_at s o).fate ≡ true → is_running f ≡ false → (f ≡ Ended → ⊥) → OneAside s.steps (owner_at s o) (closed s o f)
  closes_aside s o f r a b = record {
    with_shards = λ e. record { kind = refl; stage = refl; session = refl; copy = refl; begun = refl; launched = refl; fewer = λ slot m g. absurd (nothing slot m g); unended = λ g. absurd (b g); fate = inr (r, a, refl) };
    without = λ e. record { kind = refl; stage = refl; begun = refl; none = e };
  }
    where
      nothing : (slot m : ℕ) → get_or no_currents slot None ≡ Some m → ⊥
      nothing = none_current

  what_is_left : (s : State) (o : ℕ) (x : Session) → session_at s o ≡ x → (attempt : Attempt) (shards : List ℕ) → left_unsettled x ≡ Some (attempt, shards) → IsLeft s attempt shards
  what_is_left s o (session.Transaction t) e attempt shards f =
      record { owner = o; txn = t; under_way = e; attempt_is = sym (ap first_of f); shards_are = sym (ap second_of f) }
    where
      first_of : Option (Attempt × List ℕ) → Attempt
      first_of None = attempt
      first_of (Some y) = y.0

      second_of : Option (Attempt × List ℕ) → List ℕ
      second_of None = shards
      second_of (Some y) = y.1
  what_is_left s o session.Idle e attempt shards f = absurd (none_is f)
  what_is_left s o (session.Fixing r) e attempt shards f = absurd (none_is f)
  what_is_left s o (session.Register r) e attempt shards f = absurd (none_is f)
  what_is_left s o (session.Snapshot t) e attempt shards f = absurd (none_is f)
  what_is_left s o (session.Settling a b) e attempt shards f = absurd (none_is f)

  same_left : (a b : Option (Attempt × List ℕ)) → kind.Stubbing a ≡ kind.Stubbing b → a ≡ b
  same_left a b e = cc

  new_stub : (s : State) (n : ℕ) (u : Option (Attempt × List ℕ)) → ((attempt : Attempt) (shards : List ℕ) → u ≡ Some (attempt, shards) → IsLeft s attempt shards) → IsNew c s (opening_owner n (kind.Stubbing u) false (no_works (stage_at s n).context) s.steps)
  new_stub s n u f = record { none = refl; begun = refl; made = λ y e. absurd (stubs_no_call u y e); left = λ attempt shards e. f attempt shards (same_left u (Some (attempt, shards)) e) }

  pub of_dies : (s : State) (n : ℕ) (how : How) (f : OwnerFate) → Dying (λ g. is_running g ≡ true) s n how f → Stepping s → Event c at s (dies s n how f)
  of_dies s n how f y h = by_owner (stage_at s n).owner refl
    where
      over : (is_running f ≡ false) × (f ≡ Ended → ⊥)
      over = dying_over s n how f y

      after : Option ℕ → State
      after o = let t = closes_owner s o f in record t {
        owners = t.owners ++ opening_owner n (kind.Stubbing (unsettled_by s o)) false (no_works (stage_at s n).context) s.steps ∷ [];
        stages = set t.stages (n - 1) (record (stage_at t n) { life = life.Over how; owner = None; stub = Some (length t.owners) });
        history = t.history ++ Over n how ∷ [];
      }

      set_long : (xs : List Owner) (o : ℕ) (w : Owner) → length (set xs o w) ≡ length xs
      set_long xs o w = grind (arith, looks)

      by_owner : (o : Option ℕ) → (stage_at s n).owner ≡ o → Event c at s (after o)
      by_owner None e = aside (grow_aside c s (after None) s.owners _ (record { shards = refl; steps = refl; moment = refl; moments = refl }) refl refl refl (λ i. stays_aside s.steps (owner_at s i)) (new_stub s n None (λ attempt shards g. absurd (none_is g))))
      by_owner (Some o) e =
          aside (grow_aside c s (after (Some o)) (set s.owners o (closed s o f)) _ (record { shards = refl; steps = refl; moment = refl; moments = refl }) refl (set_long s.owners o (closed s o f)) refl
          (set_asides s.steps s.owners o (closed s o f) (closes_aside s o f (h.told.stages.owner n o e).running over.0 over.1))
          (new_stub s n (left_unsettled (owner_at s o).session) (λ attempt shards g. what_is_left s o (session_at s o) refl attempt shards g)))
