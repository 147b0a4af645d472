-- The walk over what owners do, its third part: replies are heard, messages lost, and stubs go on.
use Rattle.std.proofs.Common.{◌≡◌, ℕ, ◌<◌, ◌⊎◌, inl, inr, Bool, true, false, List, [], ◌∷◌, length, Option, Some, None, refl, ap, ◌∙◌, subst, arith}
use Rattle.std.proofs.lemmas.List.{get_or-set_same}
use Rattle.std.specs.Prelude.{nat_lt, if◌then◌else◌}
use Rattle.std.proofs.lemmas.Bool.{cond_both}
use Rattle.truetime.specs.Reading.{Reading}
use Rattle.rss_names.specs.declared.attempt.Attempt.{Attempt}
use Rattle.rss_names.specs.declared.service.ServiceId.{ServiceId}
use Rattle.rss_names.specs.declared.service.Target.{Target}
use Rattle.rss_names.specs.declared.service.Target.TheVariants.{Shard, Replica}
use Rattle.pipeline_lang.specs.declared.config.Config.{Config}
use Rattle.pipeline_lang.specs.Config.{replicas_of}
use Rattle.rss_model.specs.declared.history.How.TheVariants.{Killed, Unavailable}
use Rattle.rss_wire.specs.declared.envelope.Envelope.{Envelope}
use Rattle.rss_wire.specs.declared.message.Body.{Body as MessageBody}
use Rattle.rss_wire.specs.declared.message.Body.TheVariants as body
use Rattle.rss_wire.specs.declared.message.Fate.TheVariants as fate
use Rattle.rss_wire.specs.declared.messages.Outcome.{Outcome}
use Rattle.rss_wire.specs.declared.messages.Request.TheVariants as request
use Rattle.rss_wire.specs.declared.messages.Reply.{Reply}
use Rattle.rss_wire.specs.declared.messages.Reply.TheVariants as reply
use Rattle.rss_wire.specs.Messages.{message_at, no_message}
use Rattle.rss_wire.specs.declared.message.Message.{Message}
use Rattle.world_laws.proofs.Looks.{looks, some_is_not, get_or_past}
use Rattle.world_laws.proofs.StoreMoves.{IsSent}
use Rattle.rss_tables.specs.declared.register_session.RegEnd.{RegEnd}
use Rattle.rss_tables.specs.Lines.{tells_decision}
use Rattle.rss_tables.specs.Losses.{losses_of, reaches_tries, is_quorum_lost}
use Rattle.rss_tables.specs.Outs.{awaited, line_out, slot_replica}
use Rattle.rss_tables.specs.RegisterSession.{RegSession, round_requests, session_after, phase_end}
use Rattle.rss_machine.specs.Calls.{fix_ends, register_ends}
use Rattle.rss_machine.specs.Effect.{acts, fix_goes_on, register_goes_on, opens_round, stub_settles, owner_hears, reply_comes, target_lost, is_cut_off, asks_again, replaces, loss_counts, loses, least_shard, stub_starts, stub_acts, stub_of_stage}
use Rattle.rss_machine.specs.Moves.{marks_message, sends, plans_stub, dies, cuts_off, counts_loss, counts_act, listens}
use Rattle.rss_machine.specs.Slots.{slot_in}
use Rattle.rss_machine.specs.Standing.{is_live, is_over, is_running}
use Rattle.rss_machine.specs.State.{State, Owner, no_owner, stage_at, owner_at}
use Rattle.rss_machine.specs.declared.session.OwnerKind.{OwnerKind}
use Rattle.rss_machine.specs.declared.session.OwnerKind.TheVariants as kind
use Rattle.rss_machine.specs.declared.session.Session.TheVariants as session
use Rattle.rss_machine.specs.Session.{Session}
use Rattle.std.proofs.Common.{sym}
use Rattle.rss_tables.specs.Works.{planned, plan_all}
use Rattle.rss_machine.specs.Enabling.{is_enabled_at, stub_waits, stub_enabling_of}
use Rattle.rss_machine.specs.Moves.{with_owner}
use Rattle.rss_machine.specs.Refusal.{unless_enabled}
use Rattle.rss_machine.specs.declared.state.OwnerFate.TheVariants.{Dropped}
use Rattle.rss_machine.specs.declared.turn.Enabling.TheVariants.{Never}
use Rattle.world_laws.proofs.Contexts.{copy_holds}
use Rattle.world_laws.proofs.Doings.{Heard, listened, heard_to, reached_to, plans, listens_one, fix_hears, fix_reached, register_hears, register_stores, counts_one, cuts_one, stub_asks}
use Rattle.world_laws.proofs.SessionMoves.{session_at, IsLost}
use Rattle.world_laws.proofs.TurnMoves.{WalkMoves, txn_answered, snap_answered}
use Rattle.world_laws.proofs.StageMoves.{counts, killed, lost, quiet}
use Rattle.world_laws.specs.Calls.{is_stub}
use Rattle.rss_machine.specs.declared.state.OwnerFate.{OwnerFate}
use Rattle.rss_machine.specs.declared.step.StepKind.TheVariants.{Act, Kill}
use Rattle.rss_machine.specs.declared.step.StepRefusal.TheVariants.{StageOver}
use Rattle.rss_machine.specs.declared.turn.Enabling.{Enabling}
use Rattle.rss_machine.specs.Enabling.{live_enabling}
use Rattle.rss_machine.specs.Refusal.{kind_refusal}
use Rattle.world_laws.proofs.OwnerMoves.{own_changed, kept_changed, at_own, busy_there, fixing_there, there_own, hears_turn, hears_reach, reach_turn, starts_settling, sends_long, done_phase}
use Rattle.world_laws.proofs.OwnerWorks.{moves, w_dies, w_loses_stub, w_goes_through, w_waited, w_fix_ends}
use Rattle.world_laws.proofs.OwnerActs.{IsActive, w_register_ends, w_acts}

module _ (c : Config) (at : Reading) (A : OwnerFate → Type 0) (F P : State → Type 0) (R D : State → ℕ → Type 0) (k : WalkMoves c at A F P R D) where
  -- messages
  hearing : (s : State) (o slot : ℕ) (r : Reply) → Heard s o slot r → P s → A (owner_at s o).fate
  hearing s o slot r d h = k.heard s o slot (message_at s.net d.number).envelope.exchange d.current h

  w_fix_hears : (s : State) (o slot : ℕ) (f : RegSession) (r : Reply) → session_at s o ≡ session.Fixing f → Heard s o slot r → (e : Option RegEnd) → phase_end (session_after f (slot_replica slot) r).phase ≡ e →
      P s → P (fix_goes_on c (listens s o slot) o at (session_after f (slot_replica slot) r) e)
  w_fix_hears s o slot f r x d None e h =
      let y = session.Fixing (session_after f (slot_replica slot) r) in
      subst P (sym (hears_turn s o slot y (fixing_there s o f x)))
      (k.does s (with_owner s o (heard_to s o slot y)) o (heard_to s o slot y) [] [] (hearing s o slot r d h) (fix_hears f slot r x d e) tt (quiet refl refl refl) (kept_changed s o (heard_to s o slot y) refl) h)
  w_fix_hears s o slot f r x d (Some g) e h =
      subst (λ (t : State). P (fix_ends c t o at (owner_at (listens s o slot) o).works.left)) (sym (hears_reach s o slot y i))
      (w_fix_ends c at A F P R D k (with_owner s o w) o (session_after f (slot_replica slot) r) g (subst A (sym (ap (λ (v : Owner). v.fate) (at_own s o w i))) (hearing s o slot r d h))
      (ap (λ (v : Owner). v.session) (at_own s o w i)) e (ap (λ (v : Owner). v.currents) (at_own s o w i)) (owner_at (listens s o slot) o).works.left
      (ap (λ (v : Owner). v.works.left) (at_own s o w i) ∙ sym (ap (λ (v : Owner). v.works.left) (at_own s o (listened s o slot) i)))
      (k.does s (with_owner s o w) o w [] [] (hearing s o slot r d h) (fix_reached f slot r g x d e) tt (quiet refl refl refl) (kept_changed s o w refl) h))
    where
      i : o < length s.owners
      i = fixing_there s o f x

      y : Session
      y = session.Fixing (session_after f (slot_replica slot) r)

      w : Owner
      w = reached_to s o y

  register_there : (s : State) (o : ℕ) (f : RegSession) → session_at s o ≡ session.Register f → o < length s.owners
  register_there s o f e = busy_there s o (session.Register f) e refl

  w_register_hears : (s : State) (o slot : ℕ) (f : RegSession) (r : Reply) → session_at s o ≡ session.Register f → Heard s o slot r → (anew : Bool) → opens_round f.phase (session_after f (slot_replica slot) r).phase ≡ anew → (e : Option RegEnd) → phase_end (session_after f (slot_replica slot) r).phase ≡ e →
      P s → P (register_goes_on c (listens s o slot) o (session_after f (slot_replica slot) r) anew e)
  w_register_hears s o slot f r x d anew a (Some g) e h =
      subst (λ (t : State). P (register_ends c t o (session_after f (slot_replica slot) r).work g)) (sym (hears_reach s o slot y i))
      (w_register_ends c at A F P R D k (with_owner s o w) o (session_after f (slot_replica slot) r) g (subst A (sym (ap (λ (v : Owner). v.fate) (at_own s o w i))) (hearing s o slot r d h)) (ap (λ (v : Owner). v.session) (at_own s o w i)) (session_after f (slot_replica slot) r).work refl (done_phase (session_after f (slot_replica slot) r).phase g e)
      (k.reaches s (with_owner s o w) o f slot r g i (hearing s o slot r d h) x d e (quiet refl refl refl) (kept_changed s o w refl) h))
    where
      i : o < length s.owners
      i = register_there s o f x

      y : Session
      y = session.Register (session_after f (slot_replica slot) r)

      w : Owner
      w = reached_to s o y
  w_register_hears s o slot f r x d true a None e h =
      let g = session_after f (slot_replica slot) r in
      let y = session.Register g in
      subst (λ (t : State). P (sends t o (awaited (round_requests g)))) (sym (reach_turn s o slot y (register_there s o f x)))
      (k.does s (with_owner s o (reached_to s o y)) o (reached_to s o y) (awaited (round_requests g)) [] (hearing s o slot r d h) (register_stores f slot r x d a e) tt (quiet refl refl refl) (kept_changed s o (reached_to s o y) refl) h)
  w_register_hears s o slot f r x d false a None e h =
      let y = session.Register (session_after f (slot_replica slot) r) in
      subst P (sym (hears_turn s o slot y (register_there s o f x)))
      (k.does s (with_owner s o (heard_to s o slot y)) o (heard_to s o slot y) [] [] (hearing s o slot r d h) (register_hears f slot r x d a e) tt (quiet refl refl refl) (kept_changed s o (heard_to s o slot y) refl) h)

  w_listens : (s : State) (o slot : ℕ) (r : Reply) → Heard s o slot r → P s → P (listens s o slot)
  w_listens s o slot r d h = k.does s (listens s o slot) o (listened s o slot) [] [] (hearing s o slot r d h) (listens_one slot r d) tt (quiet refl refl refl) (kept_changed s o (listened s o slot) refl) h

  settling_there : (s : State) (o : ℕ) (attempt : Attempt) (shards : List ℕ) → session_at s o ≡ session.Settling attempt shards → o < length s.owners
  settling_there s o attempt shards e = busy_there s o (session.Settling attempt shards) e refl

  w_settles : (s : State) (o slot : ℕ) (attempt : Attempt) (shards : List ℕ) (outcome : Outcome) → session_at s o ≡ session.Settling attempt shards → Heard s o slot (reply.Decided outcome) → P s → P (stub_settles c (listens s o slot) o at attempt shards (reply.Decided outcome))
  w_settles s o slot attempt shards outcome x d h =
      w_goes_through c at A F P R D k (plans_stub t o) o (owner_at (plans_stub t o) o).works.left
      (there_own t o _ (subst (λ (n : ℕ). o < n) (sym (sends_long (listens s o slot) o (tells_decision attempt outcome shards))) (there_own s o _ i)))
      refl (k.settles s o slot attempt shards outcome i (hearing s o slot (reply.Decided outcome) d h) x d h)
    where
      i : o < length s.owners
      i = settling_there s o attempt shards x

      t : State
      t = sends (listens s o slot) o (tells_decision attempt outcome shards)

  w_stub_hears : (s : State) (o slot : ℕ) (attempt : Attempt) (shards : List ℕ) → session_at s o ≡ session.Settling attempt shards → (r : Reply) → Heard s o slot r → P s → P (stub_settles c (listens s o slot) o at attempt shards r)
  w_stub_hears s o slot attempt shards x (reply.Decided outcome) d h = w_settles s o slot attempt shards outcome x d h
  w_stub_hears s o slot attempt shards x reply.Wounded d h = w_listens s o slot reply.Wounded d h
  w_stub_hears s o slot attempt shards x (reply.Granted shown) d h = w_listens s o slot (reply.Granted shown) d h
  w_stub_hears s o slot attempt shards x (reply.Wait holders) d h = w_listens s o slot (reply.Wait holders) d h
  w_stub_hears s o slot attempt shards x (reply.Prepared time) d h = w_listens s o slot (reply.Prepared time) d h
  w_stub_hears s o slot attempt shards x reply.Done d h = w_listens s o slot reply.Done d h
  w_stub_hears s o slot attempt shards x (reply.Outcome outcome) d h = w_listens s o slot (reply.Outcome outcome) d h
  w_stub_hears s o slot attempt shards x reply.Open d h = w_listens s o slot reply.Open d h
  w_stub_hears s o slot attempt shards x reply.Released d h = w_listens s o slot reply.Released d h
  w_stub_hears s o slot attempt shards x (reply.Blocked holders) d h = w_listens s o slot (reply.Blocked holders) d h
  w_stub_hears s o slot attempt shards x (reply.Values versions skipped) d h = w_listens s o slot (reply.Values versions skipped) d h
  w_stub_hears s o slot attempt shards x reply.Fixed d h = w_listens s o slot reply.Fixed d h
  w_stub_hears s o slot attempt shards x (reply.Held value stamp writer) d h = w_listens s o slot (reply.Held value stamp writer) d h
  w_stub_hears s o slot attempt shards x reply.Stored d h = w_listens s o slot reply.Stored d h

  w_owner_hears : (s : State) (o slot : ℕ) (r : Reply) → Heard s o slot r → (x : Session) → session_at s o ≡ x → P s → P (owner_hears c (listens s o slot) o slot at r x)
  w_owner_hears s o slot r d (session.Fixing f) e h = w_fix_hears s o slot f r e d (phase_end (session_after f (slot_replica slot) r).phase) refl h
  w_owner_hears s o slot r d (session.Register f) e h = w_register_hears s o slot f r e d (opens_round f.phase (session_after f (slot_replica slot) r).phase) refl (phase_end (session_after f (slot_replica slot) r).phase) refl h
  w_owner_hears s o slot r d (session.Transaction t) e h = k.turns s _ o (hearing s o slot r d h) (txn_answered t slot r e d) h
  w_owner_hears s o slot r d (session.Snapshot t) e h = k.turns s _ o (hearing s o slot r d h) (snap_answered t slot r e d) h
  w_owner_hears s o slot r d (session.Settling attempt shards) e h = w_stub_hears s o slot attempt shards e r d h
  w_owner_hears s o slot r d session.Idle e h = w_listens s o slot r d h

  pub w_reply_comes : (s : State) (m : ℕ) (r : Reply) → IsSent s m → (message_at s.net m).body ≡ body.Reply r → (slot : Option ℕ) → slot_in (owner_at s (message_at s.net m).envelope.owner).currents (message_at s.net m).envelope.exchange ≡ slot → P s → P (reply_comes c s (message_at s.net m).envelope.owner at r slot)
  w_reply_comes s m r d b None e h = h
  w_reply_comes s m r d b (Some slot) e h =
      let o = (message_at s.net m).envelope.owner in
      w_owner_hears s o slot r (record { number = m; numbered = d.numbered; sent = d.sent; by = refl; says = b; current = e }) (owner_at s o).session refl h

  -- losses
  w_target_lost : (s : State) (o : ℕ) (target : Target) (x : OwnerKind) → A (owner_at s o).fate → (owner_at s o).kind ≡ x → P s → P (target_lost c s o target x)
  w_target_lost s o target (kind.Calling x) g e h = w_dies c at A F P R D k s _ Unavailable _ (lost o target refl (ap is_stub e) g) h
  w_target_lost s o target kind.Fencing g e h = w_dies c at A F P R D k s _ Unavailable _ (lost o target refl (ap is_stub e) g) h
  w_target_lost s o target (kind.Stubbing u) g e h = w_loses_stub c at A F P R D k s o target g (ap is_stub e) h

  w_cuts_off : (s : State) (o : ℕ) (service : ServiceId) (replica : ℕ) → A (owner_at s o).fate → P s → P (cuts_off s o (Replica service replica))
  w_cuts_off s o service replica g h = k.does s (cuts_off s o (Replica service replica)) o _ [] [] g (cuts_one service replica) tt (quiet refl refl refl) (kept_changed s o _ refl) h

  cut_fate : (s : State) (o : ℕ) (target : Target) → (owner_at (cuts_off s o target) o).fate ≡ (owner_at s o).fate
  cut_fate s o target = grind (arith, looks)

  cut_kind : (s : State) (o : ℕ) (target : Target) → (owner_at (cuts_off s o target) o).kind ≡ (owner_at s o).kind
  cut_kind s o target = grind (arith, looks)

  w_is_cut_off : (s : State) (o : ℕ) (target : Target) → A (owner_at s o).fate → P s → P (is_cut_off c s o target)
  w_is_cut_off s o (Shard shard) g h = w_target_lost s o (Shard shard) (owner_at s o).kind g refl h
  w_is_cut_off s o (Replica service replica) g h =
      let t = cuts_off s o (Replica service replica) in
      cond_both (is_quorum_lost c.tries (owner_at s o).losses service (replicas_of c service)) _ t P
      (λ e. w_target_lost t o (Replica service replica) (owner_at s o).kind (subst A (sym (cut_fate s o (Replica service replica))) g) (cut_kind s o (Replica service replica)) (w_cuts_off s o service replica g h)) (λ f. w_cuts_off s o service replica g h)

  w_asks_again : (s : State) (o exchange slot : ℕ) (target : Target) → A (owner_at s o).fate → IsLost (counts_loss s o target) o exchange target → slot_in (owner_at (counts_loss s o target) o).currents exchange ≡ Some slot → (x : MessageBody) → (message_at s.net exchange).body ≡ x → P s → P (counts_loss s o target) → P (asks_again (counts_loss s o target) o slot target x)
  w_asks_again s o exchange slot target g d e (body.Request r) b h q = k.again s o exchange slot target r g (record { lost = d; current = e; asked = b }) h
  w_asks_again s o exchange slot target g d e (body.Reply r) b h q = q

  w_replaces : (s : State) (o : ℕ) (target : Target) (exchange : ℕ) → A (owner_at s o).fate → IsLost (counts_loss s o target) o exchange target → (slot : Option ℕ) → slot_in (owner_at (counts_loss s o target) o).currents exchange ≡ slot → P s → P (counts_loss s o target) → P (replaces (counts_loss s o target) o target exchange slot)
  w_replaces s o target exchange g d None e h q = q
  w_replaces s o target exchange g d (Some slot) e h q = w_asks_again s o exchange slot target g d e (message_at s.net exchange).body refl h q

  counted_fate : (s : State) (o : ℕ) (target : Target) → (owner_at (counts_loss s o target) o).fate ≡ (owner_at s o).fate
  counted_fate s o target = grind (arith, looks)

  w_loss_counts : (s : State) (o : ℕ) (e : Envelope) → A (owner_at s o).fate → IsLost s o e.exchange e.target → P s → P (loss_counts c s o e)
  w_loss_counts s o e g d h =
      let t = counts_loss s o e.target in
      let q : P t = k.does s t o _ [] [] g (counts_one e.target) tt (quiet refl refl refl) (kept_changed s o _ refl) h in
      cond_both (reaches_tries c.tries (owner_at s o).losses e.target) _ _ P
      (λ r. w_is_cut_off t o e.target (subst A (sym (counted_fate s o e.target)) g) q)
      (λ f. cond_both (nat_lt (losses_of (owner_at t o).losses e.target) c.tries) _ t P (λ r. w_replaces s o e.target e.exchange g (record { number = d.number; by = d.by; numbered = d.numbered; sent = d.sent; of = d.of; to = d.to }) (slot_in (owner_at t o).currents e.exchange) refl h q) (λ b. q))

  w_loses : (s : State) (e : Envelope) → IsLost s e.owner e.exchange e.target → P s → P (loses c s e)
  w_loses s e d h = cond_both (is_running (owner_at s e.owner).fate) _ s P (λ t. w_loss_counts s e.owner e (k.runs (owner_at s e.owner).fate t) d h) (λ f. h)

  -- a message that was sent is lost
  is_lost : (s : State) (m : ℕ) → IsSent s m → IsLost (marks_message s m fate.Lost) (message_at s.net m).envelope.owner (message_at s.net m).envelope.exchange (message_at s.net m).envelope.target
  is_lost s m d =
      let t = marks_message s m fate.Lost in
      let q : message_at t.net m ≡ record (message_at s.net m) { fate = fate.Lost } = get_or-set_same s.net m _ no_message d.sent in
      record { number = m; by = ap (λ (x : Message). x.envelope.owner) q; numbered = d.numbered; sent = grind (arith, looks, d.sent); of = ap (λ (x : Message). x.envelope.exchange) q; to = ap (λ (x : Message). x.envelope.target) q }

  -- stubs
  kind_there : (s : State) (o : ℕ) (u : Option (Attempt × List ℕ)) → (owner_at s o).kind ≡ kind.Stubbing u → o < length s.owners
  kind_there s o u f = by_place (get_or_past s.owners o no_owner)
    where
      fencing_not_stubbing : (u : Option (Attempt × List ℕ)) → kind.Fencing ≡ kind.Stubbing u → ⊥
      fencing_not_stubbing u e = cc

      by_place : (o < length s.owners) ⊎ (owner_at s o ≡ no_owner) → o < length s.owners
      by_place (inl l) = l
      by_place (inr e) = absurd (fencing_not_stubbing u (sym (ap (λ (w : Owner). w.kind) e) ∙ f))

  w_stub_starts : (s : State) (o : ℕ) (x : OwnerKind) → A (owner_at s o).fate → (owner_at s o).kind ≡ x → (owner_at s o).started ≡ false → P s → P (stub_starts c s o at x)
  w_stub_starts s o (kind.Stubbing (Some u)) g e b h =
      let x = session.Settling u.0 u.1 in
      let w = record (owner_at s o) { started = true; session = x } in
      let outs = line_out (least_shard u.1) (request.Decide u.0 false 0) ∷ [] in
      subst (λ (t : State). P (sends t o outs)) (sym (starts_settling s o x (kind_there s o (Some u) e)))
      (k.does s (with_owner s o w) o w outs [] g (stub_asks u.0 u.1 e b) tt (quiet refl refl refl) (kept_changed s o w refl) h)
  w_stub_starts s o (kind.Stubbing None) g e b h =
      let w = record (owner_at s o) { started = true; session = session.Idle; works = planned (owner_at s o).works.copy (plan_all (owner_at s o).works.copy) } in
      let i = kind_there s o None e in
      w_goes_through c at A F P R D k (plans_stub s o) o (owner_at (plans_stub s o) o).works.left (there_own s o w i) refl
      (k.rests s (plans_stub s o) o w i g (plans e b) tt (quiet refl refl refl) (own_changed s o w _ (λ G a. copy_holds G s o a)) h)
  w_stub_starts s o (kind.Calling x) g e b h = h
  w_stub_starts s o kind.Fencing g e b h = h

  enabled : (b : Bool) → unless_enabled b ≡ None → b ≡ true
  enabled true e = refl
  enabled false e = absurd (some_is_not _ e)

  -- a stub that has started goes on where its works wait
  started_waits : (wait : Option ℕ) → unless_enabled (is_enabled_at (stub_waits true wait) at.earliest) ≡ None → (time : ℕ) × (wait ≡ Some time) × (nat_lt time at.earliest ≡ true)
  started_waits None e = absurd (some_is_not _ e)
  started_waits (Some time) e = (time, refl, enabled (nat_lt time at.earliest) e)

  w_stub_acts : (s : State) (o : ℕ) (b : Bool) → A (owner_at s o).fate → (owner_at s o).started ≡ b → unless_enabled (is_enabled_at (stub_waits b (owner_at s o).works.wait) at.earliest) ≡ None → P s → P (stub_acts c s o at b)
  w_stub_acts s o false g e q h = w_stub_starts s o (owner_at s o).kind g refl e h
  w_stub_acts s o true g e q h = let w = started_waits (owner_at s o).works.wait q in w_waited c at A F P R D k s o w.0 (owner_at s o).works.left g w.1 w.2 refl h

  stub_runs : (s : State) (o : ℕ) (b : Bool) → unless_enabled (is_enabled_at (if b then stub_waits (owner_at s o).started (owner_at s o).works.wait else Never) at.earliest) ≡ None → unless_enabled (is_enabled_at (stub_waits (owner_at s o).started (owner_at s o).works.wait) at.earliest) ≡ None
  stub_runs s o true e = e
  stub_runs s o false e = absurd (some_is_not _ e)

  stub_running : (s : State) (o : ℕ) (b : Bool) → is_running (owner_at s o).fate ≡ b → unless_enabled (is_enabled_at (if b then stub_waits (owner_at s o).started (owner_at s o).works.wait else Never) at.earliest) ≡ None → A (owner_at s o).fate
  stub_running s o true r e = k.runs (owner_at s o).fate r
  stub_running s o false r e = absurd (some_is_not _ e)

  pub w_stub_of_stage : (s : State) (o : Option ℕ) → unless_enabled (is_enabled_at (stub_enabling_of s o) at.earliest) ≡ None → P s → P (stub_of_stage c s o at)
  w_stub_of_stage s None e h = h
  w_stub_of_stage s (Some o) e h = w_stub_acts s o (owner_at s o).started (stub_running s o (is_running (owner_at s o).fate) refl e) refl (stub_runs s o (is_running (owner_at s o).fate) e) h

  -- an act, a loss, a death and a step of a stub
  live_acts : (n : ℕ) (s : State) (over live : Bool) (x : Enabling) → (if over then Some StageOver else unless_enabled (is_enabled_at (if live then x else Never) at.earliest)) ≡ None → live ≡ true
  live_acts n s true live x e = absurd (some_is_not _ e)
  live_acts n s false true x e = refl
  live_acts n s false false x e = absurd (some_is_not _ e)

  act_enabled : (n : ℕ) (s : State) (over live : Bool) (x : Enabling) → (if over then Some StageOver else unless_enabled (is_enabled_at (if live then x else Never) at.earliest)) ≡ None → is_enabled_at x at.earliest ≡ true
  act_enabled n s true live x e = absurd (some_is_not _ e)
  act_enabled n s false true x e = enabled (is_enabled_at x at.earliest) e
  act_enabled n s false false x e = absurd (some_is_not _ e)

  active : (s : State) (n : ℕ) (o : Option ℕ) → is_enabled_at (live_enabling c s n o) at.earliest ≡ true → IsActive at (counts_act s n) o
  active s n None e = tt
  active s n (Some o) e = e

  live_dies : (over live : Bool) → (if over then Some StageOver else unless_enabled live) ≡ None → live ≡ true
  live_dies true live e = absurd (some_is_not _ e)
  live_dies false true e = refl
  live_dies false false e = absurd (some_is_not _ e)

  act_owner : (s : State) (n : ℕ) → (stage_at (counts_act s n) n).owner ≡ (stage_at s n).owner
  act_owner s n = grind (arith, looks)

  act_life : (s : State) (n : ℕ) → (stage_at (counts_act s n) n).life ≡ (stage_at s n).life
  act_life s n = grind (arith, looks)

  pub w_act : (s : State) (n : ℕ) → kind_refusal c s at (Act n) ≡ None → F s → P s → P (acts c (counts_act s n) n at (stage_at s n).owner)
  w_act s n e f h =
      w_acts c at A F P R D k (counts_act s n) n (stage_at s n).owner (act_owner s n) (ap is_live (act_life s n) ∙ live_acts n s (is_over (stage_at s n).life) (is_live (stage_at s n).life) (live_enabling c s n (stage_at s n).owner) e)
      (active s n (stage_at s n).owner (act_enabled n s (is_over (stage_at s n).life) (is_live (stage_at s n).life) (live_enabling c s n (stage_at s n).owner) e))
      (k.counted s n f) (moves c at A F P R D k s n _ s.history (counts n) refl h)

  pub w_lose : (s : State) (m : ℕ) → IsSent s m → P s → P (loses c (marks_message s m fate.Lost) (message_at s.net m).envelope)
  w_lose s m d h = w_loses (marks_message s m fate.Lost) (message_at s.net m).envelope (is_lost s m d) (k.fates s m fate.Lost h)

  pub w_kill : (s : State) (n : ℕ) → kind_refusal c s at (Kill n) ≡ None → P s → P (dies s n Killed Dropped)
  w_kill s n e h = w_dies c at A F P R D k s n Killed Dropped (killed (live_dies (is_over (stage_at s n).life) (is_live (stage_at s n).life) e)) h
