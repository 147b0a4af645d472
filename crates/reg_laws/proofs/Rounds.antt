-- In every run what a round has heard its replicas hold, and what it ends with a majority does.
use Rattle.std.proofs.Common.{◌≡◌, ℕ, true, List, [], ◌∷◌, ◌++◌, All, length, get_or, Some, refl, ap, sym, ◌∙◌, subst, arith}
use Rattle.std.proofs.Math.ListN.{set}
use Rattle.std.proofs.lemmas.List.Elements.{All-cons, All-nil, All-head, All-set, All-push, All-weaker}
use Rattle.truetime.specs.Reading.{Reading}
use Rattle.rss_names.specs.declared.attempt.Attempt.{Attempt}
use Rattle.rss_names.specs.declared.service.Key.{Key}
use Rattle.rss_names.specs.declared.service.ServiceId.{ServiceId}
use Rattle.rss_names.specs.declared.service.Target.TheVariants.{Replica}
use Rattle.causal_context.specs.declared.dep.Dep.{Dep}
use Rattle.pipeline_lang.specs.declared.config.Config.{Config}
use Rattle.rss_wire.specs.Messages.{message_at}
use Rattle.rss_wire.specs.declared.messages.Outcome.{Outcome}
use Rattle.rss_wire.specs.declared.messages.RegReply.{RegReply}
use Rattle.rss_wire.specs.declared.messages.Reply.{Reply}
use Rattle.rss_wire.specs.declared.messages.Reply.TheVariants as reply
use Rattle.rss_wire.specs.declared.messages.Request.{Request}
use Rattle.rss_tables.specs.Lines.{tells_decision}
use Rattle.rss_tables.specs.Outs.{Out}
use Rattle.rss_tables.specs.RegisterSession.{RegSession, session_after, reply_cell}
use Rattle.rss_tables.specs.declared.register_session.RegWork.TheVariants as work
use Rattle.rss_machine.specs.Moves.{ticks, sends_one, sends, serves_replica, notes_served, listens, plans_stub}
use Rattle.rss_machine.specs.Run.{run}
use Rattle.rss_machine.specs.Session.{Session}
use Rattle.rss_machine.specs.State.{State, Owner, start, no_owner}
use Rattle.rss_machine.specs.declared.step.Step.{Step}
use Rattle.world_laws.proofs.Doings.{Changed, Heard, Resting, plans, past, fixed, cleared, Working, owes_nothing, is_past, enters_own, Leaving, waits, fixes_work, fixes_own, asks_register, stamps_register, begins_snapshot, begins_txn, fence_done, stub_done, ShardTurning, txn_heard, txn_woken, txn_passed, snap_heard, snap_woken, Doing, listens_one, fix_hears, fix_reached, register_hears, register_stores, register_reached, read_ends, write_ends, txn_ends, snap_ends, counts_one, cuts_one, is_closed, forgets_all, turns, stub_asks}
use Rattle.world_laws.proofs.SessionMoves.{session_at}
use Rattle.world_laws.proofs.Replies.{Sound}
use Rattle.world_laws.proofs.Stacked.{OwnerKeepsUnder, stacked}
use Rattle.std.proofs.Common.{◌-◌, inl, inr}
use Rattle.rss_tables.specs.Outs.{slot_replica}
use Rattle.reg_laws.specs.Awaited.{IsAsked, IsRound}
use Rattle.carstamps.specs.declared.carstamp.Carstamp.{Carstamp}
use Rattle.carstamps.specs.Stamp.{stamp_le}
use Rattle.pipeline_lang.specs.Config.{replicas_of}
use Rattle.quorum_laws.proofs.StampTests.{opening_le}
use Rattle.rss_tables.specs.ReplicaRow.{held_at, replica_after}
use Rattle.rss_machine.specs.Moves.{marks_message, serves_shard}
use Rattle.rss_machine.specs.State.{service_index, cells_at, replicas_at}
use Rattle.world_laws.specs.Later.{stamp_in}
use Rattle.world_laws.specs.Proper.{are_kept_by, work_registers}
use Rattle.world_laws.specs.Registers.{IsRegister}
use Rattle.world_laws.proofs.Later.{later_keeps, later_same, le_same}
use Rattle.world_laws.proofs.Named.{WorksOn, SessionOn, owner_on}
use Rattle.world_laws.proofs.Properly.{session_proper}
use Rattle.world_laws.proofs.StackRuns.{IsKept, kept_run}
use Rattle.world_laws.proofs.StoreMoves.{Serves}
use Rattle.reg_laws.specs.Files.{IsInOrder}
use Rattle.reg_laws.specs.Told.{asked_to_hold, asked_of, shown_stamp, HoldsAtLeast, Proves}
use Rattle.reg_laws.proofs.Awaits.{beginning_idle}
use Rattle.reg_laws.proofs.Base.{sound_of, named_of, fine_of}
use Rattle.reg_laws.proofs.Hearing.{heard_asked}
use Rattle.reg_laws.proofs.Proves.{Proving, Held, Proven, ProvenAt, proven_kept, proven_start}
use Rattle.reg_laws.proofs.Shapes.{RoundShaped, SessionShaped, session_shaped, shape_rows, row_long}
use Rattle.reg_laws.proofs.ValidServes.{each_kept}
use Rattle.reg_laws.proofs.RoundsHeld.{Holding, RoundHeld, SessionHeld, Rounding, Upward, session_up, RowsOf, after_held, without_held, opening_held, session_held}

-- a heard reply proves what its replica holds
reply_shown : (answer : Reply) (stamp : Carstamp) → ((z : Carstamp) → shown_stamp answer ≡ Some z → stamp_le z stamp ≡ true) → stamp_le (reply_cell answer).stamp stamp ≡ true
reply_shown (reply.Held value z writer) stamp f = f z refl
reply_shown reply.Fixed stamp f = opening_le stamp
reply_shown reply.Stored stamp f = opening_le stamp
reply_shown reply.Wounded stamp f = opening_le stamp
reply_shown (reply.Granted shown) stamp f = opening_le stamp
reply_shown (reply.Wait holders) stamp f = opening_le stamp
reply_shown (reply.Prepared time) stamp f = opening_le stamp
reply_shown (reply.Decided outcome) stamp f = opening_le stamp
reply_shown reply.Done stamp f = opening_le stamp
reply_shown (reply.Outcome outcome) stamp f = opening_le stamp
reply_shown reply.Open stamp f = opening_le stamp
reply_shown reply.Released stamp f = opening_le stamp
reply_shown (reply.Blocked holders) stamp f = opening_le stamp
reply_shown (reply.Values versions skipped) stamp f = opening_le stamp

heard_holding : (s : State) (o slot : ℕ) (r : Reply) (f : RegSession) (d : Heard s o slot r) (a : IsAsked s.net o f slot (message_at s.net d.number).envelope.exchange) → Sound s → Proving s → Holding s f.service slot a.request (reply_cell r)
heard_holding s o slot r f d a g h = record {
  holds = subst (λ (n : ℕ). All (HoldsAtLeast s f.service n) (asked_to_hold a.request)) back proves.holds;
  shown = All-weaker (λ (key : Key). (stamp : Carstamp) → shown_stamp r ≡ Some stamp → stamp_le stamp (stamp_in s f.service (slot_replica slot - 1) key) ≡ true) (λ (key : Key). stamp_le (reply_cell r).stamp (stamp_in s f.service slot key) ≡ true)
      (λ key e. subst (λ (n : ℕ). stamp_le (reply_cell r).stamp (stamp_in s f.service n key) ≡ true) back (reply_shown r (stamp_in s f.service (slot_replica slot - 1) key) e)) (asked_of a.request) proves.shown;
}
  where
    back : slot_replica slot - 1 ≡ slot
    back = omega arith

    proves : Proves s f.service (slot_replica slot) a.request r
    proves = h.prove.each d.number (slot_replica slot) f.service a.request r d.numbered d.sent ((g.sound d.number d.numbered d.sent).target ∙ a.target) d.says a.says

-- the replicas of an owner's round
pub rows_of : (c : Config) (s : State) (o : ℕ) (f : RegSession) → IsInOrder c → IsRound (session_at s o) f → Held c s → RowsOf s f
rows_of c s o f n x h key keys e =
    let works : All (IsRegister c) (work_registers f.work) = (works_on x).work in
    let kept : All (λ (k : Key). f.service ≡ k.service) (work_registers f.work) = each_kept f.service (work_registers f.work) (proper x) in
    let i : IsRegister c key = All-head (IsRegister c) key keys (subst (All (IsRegister c)) e works) in
    let j : f.service ≡ key.service = All-head (λ (k : Key). f.service ≡ k.service) key keys (subst (All (λ (k : Key). f.service ≡ k.service)) e kept) in
    subst (λ (id : ServiceId). length (replicas_at s id) ≡ replicas_of c id) (sym j) (shape_rows c s key n i h.1) ∙ sym (shaped x)
  where
    works_on : IsRound (session_at s o) f → WorksOn (IsRegister c) f
    works_on (inl y) = subst (SessionOn (IsRegister c)) y (owner_on (IsRegister c) s o (named_of c s h.0.0).owners).under_way
    works_on (inr y) = subst (SessionOn (IsRegister c)) y (owner_on (IsRegister c) s o (named_of c s h.0.0).owners).under_way

    proper : IsRound (session_at s o) f → are_kept_by f.service (work_registers f.work) ≡ true
    proper (inl y) = subst (λ (z : Session). session_proper z ≡ true) y ((fine_of c s h.0.0).sessions o)
    proper (inr y) = subst (λ (z : Session). session_proper z ≡ true) y ((fine_of c s h.0.0).sessions o)

    shaped : IsRound (session_at s o) f → RoundShaped c f
    shaped (inl y) = subst (SessionShaped c) y (session_shaped c s o h.1.sessions)
    shaped (inr y) = subst (SessionShaped c) y (session_shaped c s o h.1.sessions)

pub round_held : (s : State) (o : ℕ) (f : RegSession) → IsRound (session_at s o) f → Rounding s → RoundHeld s f
round_held s o f (inl x) h = subst (SessionHeld s) x (session_held s o h.rounds)
round_held s o f (inr x) h = subst (SessionHeld s) x (session_held s o h.rounds)

hearing_held : (c : Config) (s : State) (o slot : ℕ) (r : Reply) (f : RegSession) → IsInOrder c → Heard s o slot r → IsRound (session_at s o) f → Proven c s → Rounding s → RoundHeld s (session_after f (slot_replica slot) r)
hearing_held c s o slot r f n d x g h =
    let a = heard_asked s o slot r f d x g.0.0.0.1 in
    after_held s f slot r a.request a.of_phase a.within (heard_holding s o slot r f d a (sound_of c s g.0.0.0) g.1) (rows_of c s o f n x g.0) (round_held s o f x h)

module _ (c : Config) (n : IsInOrder c) where
  abbrev HeldIn : State → Owner → Type 0
  HeldIn s w = SessionHeld s w.session

  leaving_held : (at : Reading) (s : State) (o : ℕ) (w : Owner) (outs : List Out) → Leaving c at s o w outs → SessionHeld s (session_at s o) → HeldIn s w
  leaving_held at s o _ _ (waits id time rest l) h = h
  leaving_held at s o _ _ (fixes_work id rest l) h = opening_held s c s o _ id
  leaving_held at s o _ _ (fixes_own x dep deps l e d) h = opening_held s c s o _ _
  leaving_held at s o _ _ (asks_register key l e d) h = opening_held s c s o (work.Read key) key.service
  leaving_held at s o _ _ (stamps_register key value l e d) h = opening_held s c s o (work.Write key value) key.service
  leaving_held at s o _ _ (begins_snapshot keys t l e d) h = tt
  leaving_held at s o _ _ (begins_txn reads guard writes t l e d) h = tt
  leaving_held at s o _ _ (fence_done l e) h = h
  leaving_held at s o _ _ (stub_done u l e) h = h

  working_held : (at : Reading) (s : State) (o : ℕ) (w : Owner) → Working at s o w → SessionHeld s (session_at s o) → HeldIn s w
  working_held at s o _ (owes_nothing id rest l) h = tt
  working_held at s o _ (is_past id time rest l e) h = tt
  working_held at s o _ (enters_own x l e f) h = h

  resting_held : (s : State) (o : ℕ) (w : Owner) → Resting s o w → HeldIn s w
  resting_held s o _ (plans e b) = tt
  resting_held s o _ (past id x rest time l e) = tt
  resting_held s o _ (fixed id x rest r e l a b d) = tt
  resting_held s o _ (cleared r e l a b d) = tt

  turning_held : (s : State) (o : ℕ) (x : Session) (outs : List Out) → ShardTurning s o x outs → SessionHeld s x
  turning_held s o _ _ (txn_heard t l at r e) = tt
  turning_held s o _ _ (txn_woken t l e) = tt
  turning_held s o _ _ (txn_passed t e) = tt
  turning_held s o _ _ (snap_heard t l r e) = tt
  turning_held s o _ _ (snap_woken t l e) = tt

  doing_held : (s : State) (o : ℕ) (w : Owner) (outs : List Out) (new : List Dep) → Doing s o w outs new → Proven c s → Rounding s → HeldIn s w
  doing_held s o _ _ _ (listens_one slot r d) g h = session_held s o h.rounds
  doing_held s o _ _ _ (fix_hears f slot r x d e) g h = hearing_held c s o slot r f n d (inl x) g h
  doing_held s o _ _ _ (fix_reached f slot r y x d e) g h = hearing_held c s o slot r f n d (inl x) g h
  doing_held s o _ _ _ (register_hears f slot r x d a e) g h = hearing_held c s o slot r f n d (inr x) g h
  doing_held s o _ _ _ (register_stores f slot r x d a e) g h = hearing_held c s o slot r f n d (inr x) g h
  doing_held s o _ _ _ (register_reached f slot r y x d e) g h = hearing_held c s o slot r f n d (inr x) g h
  doing_held s o _ _ _ (read_ends f key cell dep x a b) g h = session_held s o h.rounds
  doing_held s o _ _ _ (write_ends f key value e x a b) g h = session_held s o h.rounds
  doing_held s o _ _ _ (txn_ends y t time a b d) g h = session_held s o h.rounds
  doing_held s o _ _ _ (snap_ends y t time a b d) g h = session_held s o h.rounds
  doing_held s o _ _ _ (counts_one target) g h = session_held s o h.rounds
  doing_held s o _ _ _ (cuts_one id replica) g h = without_held s (session_at s o) id replica (session_held s o h.rounds)
  doing_held s o _ _ _ (is_closed f) g h = session_held s o h.rounds
  doing_held s o _ _ _ forgets_all g h = session_held s o h.rounds
  doing_held s o _ _ _ (turns x outs y) g h = turning_held s o x outs y
  doing_held s o _ _ _ (stub_asks attempt shards e b) g h = tt

  -- replicas that stay as they are
  up_same : (s t : State) → t.replicas ≡ s.replicas → Upward s t
  up_same s t e = record {
    rises = λ id place key. subst (λ (all : List (List (List RegReply))). stamp_le (stamp_in s id place key) (held_at (get_or (get_or all (service_index id) []) place []) key).stamp ≡ true) (sym e) (le_same (stamp_in s id place key));
    rows = λ id. ap (λ (all : List (List (List RegReply))). length (get_or all (service_index id) [])) e;
  }

  rounding_same : (s t : State) → t.replicas ≡ s.replicas → All (HeldIn s) t.owners → Rounding t
  rounding_same s t e h = record { rounds = All-weaker (HeldIn s) (HeldIn t) (λ w. session_up s t w.session (up_same s t e)) t.owners h }

  rounding_one : (o : ℕ) (s : State) (out : Out) → Rounding s → Rounding (sends_one s o out)
  rounding_one o s out h = rounding_same s (sends_one s o out) refl (All-set (HeldIn s) s.owners o _ (session_held s o h.rounds) h.rounds)

  rounding_sends : (o : ℕ) (outs : List Out) (s : State) → Rounding s → Rounding (sends s o outs)
  rounding_sends o [] s h = h
  rounding_sends o (out ∷ outs) s h = rounding_sends o outs (sends_one s o out) (rounding_one o s out h)

  rounding_changed : (new : List Dep) (s t : State) (owners : List Owner) → Changed new owners s t → All (HeldIn s) owners → Rounding t
  rounding_changed new s t owners d a = rounding_same s t d.stores.replicas (subst (All (HeldIn s)) (sym d.owned) a)

  rounding_own : (s t : State) (o : ℕ) (w : Owner) → Changed [] (set s.owners o w) s t → HeldIn s w → Rounding s → Rounding t
  rounding_own s t o w d v h = rounding_changed [] s t (set s.owners o w) d (All-set (HeldIn s) s.owners o w v h.rounds)

  rounding_serves : (s : State) (m replica : ℕ) (id : ServiceId) (r : Request) → Serves s m r (Replica id replica) → Rounding s → Rounding (notes_served (serves_replica s m id replica r) (message_at s.net m).envelope.owner id r)
  rounding_serves s m replica id r d h =
      record { rounds = All-weaker (HeldIn s) (HeldIn t) (λ w. session_up s t w.session up) t.owners (All-set (HeldIn s) s.owners (message_at s.net m).envelope.owner _ (session_held s (message_at s.net m).envelope.owner h.rounds) h.rounds) }
    where
      t : State
      t = notes_served (serves_replica s m id replica r) (message_at s.net m).envelope.owner id r

      up : Upward s t
      up = record { rises = ((later_keeps s).replicas s m id replica r d (later_same s)).stamps; rows = λ service. row_long s.replicas (service_index id) (replica - 1) (replica_after (cells_at s id replica) r) (service_index service) }

  rounding_settles : (s : State) (o slot : ℕ) (a : Attempt) (shards : List ℕ) (outcome : Outcome) → Rounding s → Rounding (plans_stub (sends (listens s o slot) o (tells_decision a outcome shards)) o)
  rounding_settles s o slot a shards outcome h =
      let u = listens s o slot in
      let v = sends u o (tells_decision a outcome shards) in
      let q : Rounding u = rounding_same s u refl (All-set (HeldIn s) s.owners o _ (session_held s o h.rounds) h.rounds) in
      let p : Rounding v = rounding_sends o (tells_decision a outcome shards) u q in
      rounding_same v (plans_stub v o) refl (All-set (HeldIn v) v.owners o _ tt p.rounds)

  pub rounding_under : (at : Reading) → OwnerKeepsUnder c at (Proven c) (ProvenAt c) Rounding (λ s o. Rounding s)
  rounding_under at = record {
    fates = λ s m f g h. rounding_same s (marks_message s m f) refl h.rounds;
    shards = λ s m shard r d g h. rounding_same s (serves_shard s m shard at.latest r) refl h.rounds;
    replicas = λ s m id replica r d g h. rounding_serves s m replica id r d h;
    again = λ s o exchange slot target r d g h. rounding_one o s (record { slot = Some slot; target = target; request = r }) h;
    stages = λ s t d g h. rounding_changed [] s t s.owners d h.rounds;
    dies = λ s t m u d g h. rounding_changed [] s t _ d (All-push (HeldIn s) s.owners _ h.rounds tt);
    begins = λ s t w b d g h. rounding_changed [] s t (s.owners ++ w ∷ []) d (All-push (HeldIn s) s.owners w h.rounds (subst (SessionHeld s) (sym (beginning_idle c s w b)) tt));
    rests = λ s t o w i b d g h. rounding_own s t o w d (resting_held s o w b) h;
    settles = λ s o slot a shards outcome i e d g h. rounding_settles s o slot a shards outcome h;
    settled = λ s o g h. h;
    works = λ s t o w i b d g h. rounding_own s t o w d (working_held at s o w b (session_held s o h.rounds)) h;
    leaves = λ s t o w outs i b d g h. rounding_sends o outs t (rounding_own s t o w d (leaving_held at s o w outs b (session_held s o h.rounds)) h);
    does = λ s t o w outs new b d g h. rounding_sends o outs t (rounding_changed new s t (set s.owners o w) d (All-set (HeldIn s) s.owners o w (doing_held s o w outs new b g h) h.rounds));
  }

  -- what all this is kept under
  abbrev pub Settled : State → Type 0
  Settled s = Proven c s × Rounding s

  abbrev pub SettledAt : State → ℕ → Type 0
  SettledAt s o = ProvenAt c s o × Rounding s

  pub settled_kept : IsKept c Settled SettledAt
  settled_kept = record {
    keeps = λ at. stacked c at (Proven c) (ProvenAt c) Rounding (λ s o. Rounding s) ((proven_kept c n).keeps at) (rounding_under at);
    ticked = λ s at h. ((proven_kept c n).ticked s at h.0, rounding_same s (ticks s at) refl h.1.rounds);
  }

  pub settled_start : Settled (start c)
  settled_start = (proven_start c n, record { rounds = All-cons (HeldIn (start c)) no_owner [] tt (All-nil (HeldIn (start c))) })

  pub settled_run : (steps : List Step) (s : State) → run c steps ≡ Some s → Settled s
  settled_run steps s e = kept_run c Settled SettledAt settled_kept settled_start steps s e
