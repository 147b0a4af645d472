-- A call whose write is done has had its store handled by some replica.
use Rattle.std.proofs.Common.{◌≡◌, ℕ, zero, suc, Bool, true, false, List, [], ◌∷◌, ◌++◌, length, get_or, Some, refl, ap, sym, ◌∙◌, subst}
use Rattle.std.specs.Prelude.{⊤}
use Rattle.std.proofs.Math.ListN.{set}
use Rattle.std.proofs.lemmas.Bool.{cond_both}
use Rattle.truetime.specs.Reading.{Reading}
use Rattle.rss_names.specs.declared.attempt.Attempt.{Attempt}
use Rattle.rss_names.specs.declared.service.ServiceId.{ServiceId}
use Rattle.rss_names.specs.declared.service.Target.TheVariants.{Replica}
use Rattle.rss_names.specs.Services.{same_service}
use Rattle.causal_context.specs.declared.dep.Dep.{Dep}
use Rattle.pipeline_lang.specs.declared.config.Config.{Config}
use Rattle.rss_wire.specs.Messages.{message_at}
use Rattle.rss_wire.specs.declared.messages.Outcome.{Outcome}
use Rattle.rss_wire.specs.declared.messages.RegReply.{RegReply}
use Rattle.rss_wire.specs.declared.messages.Reply.{Reply}
use Rattle.rss_tables.specs.Lines.{tells_decision}
use Rattle.rss_tables.specs.Outs.{Out}
use Rattle.rss_tables.specs.RegisterSession.{RegSession, session_after, reached, reply_cell, read_end, found_cell}
use Rattle.rss_tables.specs.Round.{hears, is_reached, greatest_heard, is_agreed}
use Rattle.rss_tables.specs.declared.register_session.RegEnd.TheVariants as ends
use Rattle.rss_tables.specs.declared.register_session.RegPhase.{RegPhase}
use Rattle.rss_tables.specs.declared.register_session.RegPhase.TheVariants as phase
use Rattle.rss_tables.specs.declared.register_session.RegWork.{RegWork}
use Rattle.rss_tables.specs.declared.register_session.RegWork.TheVariants as work
use Rattle.rss_machine.specs.Moves.{sends_one, sends, session_without, listens, plans_stub}
use Rattle.rss_machine.specs.Run.{run}
use Rattle.rss_machine.specs.Session.{Session}
use Rattle.rss_machine.specs.State.{State, Owner, start, no_owner}
use Rattle.rss_machine.specs.declared.session.Session.TheVariants as session
use Rattle.rss_machine.specs.declared.step.Step.{Step}
use Rattle.world_laws.proofs.Doings.{Resting, plans, past, fixed, cleared, Working, owes_nothing, is_past, enters_own, Leaving, waits, fixes_work, fixes_own, asks_register, stamps_register, begins_snapshot, begins_txn, fence_done, stub_done, ShardTurning, txn_heard, txn_woken, txn_passed, snap_heard, snap_woken, Doing, listens_one, fix_hears, fix_reached, register_hears, register_stores, register_reached, read_ends, write_ends, txn_ends, snap_ends, counts_one, cuts_one, is_closed, forgets_all, turns, stub_asks}
use Rattle.world_laws.proofs.Looks.{some_is, none_is_not, get_or_past}
use Rattle.std.proofs.Common.{◌⊎◌, inl, inr}
use Rattle.rss_wire.specs.declared.message.Message.{Message}
use Rattle.world_laws.proofs.SessionMoves.{session_at}
use Rattle.world_laws.proofs.Stacked.{OwnerKeepsUnder}
use Rattle.std.specs.Prelude.{◌==◌, if◌then◌else◌}
use Rattle.std.proofs.lemmas.Bool.{eqb-true}
use Rattle.rss_tables.specs.Outs.{slot_replica}
use Rattle.world_laws.proofs.Doings.{listened}
use Rattle.std.proofs.lemmas.Bool.{and_parts}
use Rattle.carstamps.specs.declared.carstamp.Carstamp.{Carstamp}
use Rattle.reg_laws.proofs.Awaiting.{set_each, grow_each}
use Rattle.reg_laws.proofs.Awaits.{beginning_idle}
use Rattle.reg_laws.proofs.Base.{Known, owned_of}
use Rattle.std.proofs.Common.{◌<◌, arith}
use Rattle.std.proofs.lemmas.Bool.{true≢false}
use Rattle.rss_names.specs.declared.service.Key.{Key}
use Rattle.rss_wire.specs.Messages.{meets, answers}
use Rattle.rss_wire.specs.declared.message.Body.{Body}
use Rattle.rss_wire.specs.declared.message.Body.TheVariants as body
use Rattle.rss_wire.specs.declared.messages.Request.{Request}
use Rattle.rss_wire.specs.declared.messages.Request.TheVariants as request
use Rattle.rss_names.specs.declared.service.Target.{Target}
use Rattle.rss_tables.specs.ReplicaRow.{replica_reply}
use Rattle.rss_tables.specs.ShardRow.{shard_reply}
use Rattle.rss_tables.specs.RegisterSession.{phase_request}
use Rattle.rss_machine.specs.Marks.{is_store}
use Rattle.rss_machine.specs.Moves.{marks_message, serves_shard, serves_replica, notes_served, ticks}
use Rattle.rss_machine.specs.State.{State, owner_at, cells_at, shard_at}
use Rattle.world_laws.specs.Own.{is_own_body}
use Rattle.world_laws.proofs.Doings.{Heard}
use Rattle.world_laws.proofs.Replies.{Sound, sound_keeps}
use Rattle.world_laws.proofs.StackRuns.{IsKept, kept_run}
use Rattle.world_laws.proofs.Stacked.{stacked}
use Rattle.world_laws.proofs.StoreMoves.{Serves}
use Rattle.reg_laws.specs.Files.{IsInOrder}
use Rattle.reg_laws.specs.Rounds.{Writes}
use Rattle.reg_laws.proofs.Base.{sound_of}
use Rattle.reg_laws.proofs.Hearing.{heard_asked}
use Rattle.reg_laws.proofs.OwnStamps.{round_call}
use Rattle.reg_laws.proofs.Proves.{Held, HeldAt, held_keeps, held_ticks, held_start, held_rest}
use Rattle.reg_laws.proofs.Tells.{RepliesHold, hold_weaker, hold_meets, hold_asks, hold_shard, hold_replica}
use Rattle.reg_laws.proofs.ValidSends.{leaving_flag, working_flag, resting_flag, doing_flag, flag_sends}
use Rattle.reg_laws.proofs.ValidServes.{ServedWell, served_well, flag_noted, flag_notes}

-- a reply to a store tells that its writer's store was handled
abbrev pub HandledOf : State → ℕ → ServiceId → ℕ → Request → Reply → Type 0
HandledOf s e id replica q answer = (key : Key) (value writer : ℕ) (stamp : Carstamp) → q ≡ request.Store key value stamp writer → (owner_at s writer).stored ≡ true

-- a write that is done is stored
abbrev pub PhaseHandled : RegPhase → Bool → Type 0
PhaseHandled phase.Fixing stored = ⊤
PhaseHandled phase.Asking stored = ⊤
PhaseHandled phase.Stamping stored = ⊤
PhaseHandled (phase.Storing stamp) stored = ⊤
PhaseHandled (phase.Done (ends.Written stamp)) stored = stored ≡ true
PhaseHandled (phase.Done (ends.Read cell dep)) stored = ⊤
PhaseHandled (phase.Done ends.Fixed) stored = ⊤

abbrev pub SessionHandled : Session → Bool → Type 0
SessionHandled (session.Register r) stored = PhaseHandled r.phase stored
SessionHandled session.Idle stored = ⊤
SessionHandled (session.Fixing r) stored = ⊤
SessionHandled (session.Transaction t) stored = ⊤
SessionHandled (session.Snapshot t) stored = ⊤
SessionHandled (session.Settling attempt shards) stored = ⊤

abbrev OwnerHandled : Owner → Type 0
OwnerHandled w = SessionHandled w.session w.stored

pub record Handling (s : State) : Type 0 where
  pub replies : RepliesHold (HandledOf s) s.net
  pub sessions : (o : ℕ) → OwnerHandled (owner_at s o)

-- a call's round that hears a reply
after_handled : (f : RegSession) (from : ℕ) (r : Reply) (b : Bool) → ((stamp : Carstamp) → f.phase ≡ phase.Storing stamp → b ≡ true) → PhaseHandled f.phase b → PhaseHandled (session_after f from r).phase b
after_handled f from r b h p = cond_both (is_reached g.round) (reached g f.phase) g (λ (x : RegSession). PhaseHandled x.phase b) (λ t. by_phase f.phase refl p) (λ t. p)
  where
    g : RegSession
    g = record f { round = hears f.round from (reply_cell r) }

    read_handled : (w : RegWork) (cell : RegReply) (agreed : Bool) → PhaseHandled (phase.Done (read_end w cell agreed)) b
    read_handled (work.Read key) cell agreed = tt
    read_handled (work.Write key value) cell agreed = tt
    read_handled (work.Fix deps) cell agreed = tt

    by_phase : (q : RegPhase) → f.phase ≡ q → PhaseHandled q b → PhaseHandled (reached g q).phase b
    by_phase phase.Fixing e k = tt
    by_phase phase.Asking e k = read_handled f.work (found_cell (greatest_heard g.round)) (is_agreed g.round)
    by_phase phase.Stamping e k = tt
    by_phase (phase.Storing stamp) e k = h stamp e
    by_phase (phase.Done end) e k = subst (λ (x : RegPhase). PhaseHandled x b) (sym e) k

without_handled : (x : Session) (id : ServiceId) (replica : ℕ) (b : Bool) → SessionHandled x b → SessionHandled (session_without x (Replica id replica)) b
without_handled (session.Register r) id replica b h = cond_both (same_service r.service id) _ r (λ (f : RegSession). PhaseHandled f.phase b) (λ t. h) (λ t. h)
without_handled (session.Fixing r) id replica b h = tt
without_handled session.Idle id replica b h = tt
without_handled (session.Transaction t) id replica b h = tt
without_handled (session.Snapshot t) id replica b h = tt
without_handled (session.Settling attempt shards) id replica b h = tt

leaving_handled : (c : Config) (at : Reading) (s : State) (o : ℕ) (w : Owner) (outs : List Out) → Leaving c at s o w outs → OwnerHandled (owner_at s o) → OwnerHandled w
leaving_handled c at s o _ _ (waits id time rest l) h = h
leaving_handled c at s o _ _ (fixes_work id rest l) h = tt
leaving_handled c at s o _ _ (fixes_own x dep deps l e d) h = tt
leaving_handled c at s o _ _ (asks_register key l e d) h = tt
leaving_handled c at s o _ _ (stamps_register key value l e d) h = tt
leaving_handled c at s o _ _ (begins_snapshot keys t l e d) h = tt
leaving_handled c at s o _ _ (begins_txn reads guard writes t l e d) h = tt
leaving_handled c at s o _ _ (fence_done l e) h = h
leaving_handled c at s o _ _ (stub_done u l e) h = h

working_handled : (at : Reading) (s : State) (o : ℕ) (w : Owner) → Working at s o w → OwnerHandled (owner_at s o) → OwnerHandled w
working_handled at s o _ (owes_nothing id rest l) h = tt
working_handled at s o _ (is_past id time rest l e) h = tt
working_handled at s o _ (enters_own x l e f) h = h

resting_handled : (s : State) (o : ℕ) (w : Owner) → Resting s o w → OwnerHandled w
resting_handled s o _ (plans e b) = tt
resting_handled s o _ (past id x rest time l e) = tt
resting_handled s o _ (fixed id x rest r e l a b d) = tt
resting_handled s o _ (cleared r e l a b d) = tt

turning_handled : (s : State) (o : ℕ) (x : Session) (outs : List Out) (b : Bool) → ShardTurning s o x outs → SessionHandled x b
turning_handled s o _ _ b (txn_heard t l at r e) = tt
turning_handled s o _ _ b (txn_woken t l e) = tt
turning_handled s o _ _ b (txn_passed t e) = tt
turning_handled s o _ _ b (snap_heard t l r e) = tt
turning_handled s o _ _ b (snap_woken t l e) = tt

-- a round that stores asks for what its call writes
store_asked : (call : ℕ) (w : RegWork) (stamp : Carstamp) (q : Request) → phase_request call w (phase.Storing stamp) ≡ Some q → (key : Key) × (value : ℕ) × (q ≡ request.Store key value stamp call)
store_asked call (work.Write key value) stamp q e = (key, value, sym (some_is (request.Store key value stamp call) q e))
store_asked call (work.Read key) stamp q e = absurd (none_is_not q e)
store_asked call (work.Fix deps) stamp q e = absurd (none_is_not q e)

-- so what it hears tells that its call's store was handled
heard_handled : (c : Config) (s : State) (o slot : ℕ) (r : Reply) (f : RegSession) → Heard s o slot r → session_at s o ≡ session.Register f → Known c s → Handling s → (stamp : Carstamp) → f.phase ≡ phase.Storing stamp → (owner_at s o).stored ≡ true
heard_handled c s o slot r f d x g h stamp e =
    let a = heard_asked s o slot r f d (inr x) g.1 in
    let q = store_asked f.call f.work stamp a.request (ap (λ (p : RegPhase). phase_request f.call f.work p) (sym e) ∙ a.of_phase) in
    let n = sound_of c s g in
    let k = h.replies.each d.number (slot_replica slot) f.service a.request r d.numbered d.sent ((n.sound d.number d.numbered d.sent).target ∙ a.target) d.says a.says q.0 q.1 f.call stamp q.2 in
    subst (λ (i : ℕ). (owner_at s i).stored ≡ true) (round_call s o f (owned_of c s g) x) k

register_handled : (c : Config) (s : State) (o slot : ℕ) (r : Reply) (f : RegSession) → Heard s o slot r → session_at s o ≡ session.Register f → Known c s → Handling s → PhaseHandled (session_after f (slot_replica slot) r).phase (owner_at s o).stored
register_handled c s o slot r f d x g h = after_handled f (slot_replica slot) r (owner_at s o).stored (heard_handled c s o slot r f d x g h) (subst (λ (y : Session). SessionHandled y (owner_at s o).stored) x (h.sessions o))

doing_handled : (c : Config) (s : State) (o : ℕ) (w : Owner) (outs : List Out) (new : List Dep) → Doing s o w outs new → Known c s → Handling s → OwnerHandled w
doing_handled c s o _ _ _ (listens_one slot r d) g h = h.sessions o
doing_handled c s o _ _ _ (fix_hears f slot r x d e) g h = tt
doing_handled c s o _ _ _ (fix_reached f slot r y x d e) g h = tt
doing_handled c s o _ _ _ (register_hears f slot r x d a e) g h = register_handled c s o slot r f d x g h
doing_handled c s o _ _ _ (register_stores f slot r x d a e) g h = register_handled c s o slot r f d x g h
doing_handled c s o _ _ _ (register_reached f slot r y x d e) g h = register_handled c s o slot r f d x g h
doing_handled c s o _ _ _ (read_ends f key cell dep x a b) g h = h.sessions o
doing_handled c s o _ _ _ (write_ends f key value e x a b) g h = h.sessions o
doing_handled c s o _ _ _ (txn_ends y t time a b d) g h = h.sessions o
doing_handled c s o _ _ _ (snap_ends y t time a b d) g h = h.sessions o
doing_handled c s o _ _ _ (counts_one target) g h = h.sessions o
doing_handled c s o _ _ _ (cuts_one id replica) g h = without_handled (session_at s o) id replica (owner_at s o).stored (h.sessions o)
doing_handled c s o _ _ _ (is_closed f) g h = h.sessions o
doing_handled c s o _ _ _ forgets_all g h = h.sessions o
doing_handled c s o _ _ _ (turns x outs y) g h = turning_handled s o x outs (owner_at s o).stored y
doing_handled c s o _ _ _ (stub_asks attempt shards e b) g h = tt

-- a flag that is set stays set
abbrev Flagged : State → State → Type 0
Flagged s t = (i : ℕ) → (owner_at s i).stored ≡ true → (owner_at t i).stored ≡ true

replies_moved : (s t : State) (net : List Message) → Flagged s t → RepliesHold (HandledOf s) net → RepliesHold (HandledOf t) net
replies_moved s t net f h = hold_weaker (HandledOf s) (HandledOf t) (λ e id replica q answer k key value writer stamp x. f writer (k key value writer stamp x)) net h

flagged_set : (s t : State) (o : ℕ) (w : Owner) → t.owners ≡ set s.owners o w → ((owner_at s o).stored ≡ true → w.stored ≡ true) → Flagged s t
flagged_set s t o w e f = subst (λ (owners : List Owner). (i : ℕ) → (owner_at s i).stored ≡ true → (get_or owners i no_owner).stored ≡ true) (sym e) (set_each (λ i v. (owner_at s i).stored ≡ true → v.stored ≡ true) s.owners o w f (λ i k. k))

handling_set : (s t : State) (o : ℕ) (w : Owner) → t.net ≡ s.net → t.owners ≡ set s.owners o w → w.stored ≡ (owner_at s o).stored → OwnerHandled w → Handling s → Handling t
handling_set s t o w n e f k h = record {
  replies = subst (RepliesHold (HandledOf t)) (sym n) (replies_moved s t s.net (flagged_set s t o w e (λ x. f ∙ x)) h.replies);
  sessions = subst (λ (owners : List Owner). (i : ℕ) → OwnerHandled (get_or owners i no_owner)) (sym e) (set_each (λ i v. OwnerHandled v) s.owners o w k h.sessions);
}

handling_same : (s t : State) → t.net ≡ s.net → t.owners ≡ s.owners → Handling s → Handling t
handling_same s t n e h = record {
  replies = subst (RepliesHold (HandledOf t)) (sym n) (replies_moved s t s.net (λ i x. ap (λ (owners : List Owner). (get_or owners i no_owner).stored) e ∙ x) h.replies);
  sessions = subst (λ (owners : List Owner). (i : ℕ) → OwnerHandled (get_or owners i no_owner)) (sym e) h.sessions;
}

handling_grow : (s t : State) (w : Owner) → t.net ≡ s.net → t.owners ≡ s.owners ++ w ∷ [] → w.session ≡ session.Idle → Handling s → Handling t
handling_grow s t w n e x h = record {
  replies = subst (RepliesHold (HandledOf t)) (sym n) (replies_moved s t s.net flagged h.replies);
  sessions = subst (λ (owners : List Owner). (i : ℕ) → OwnerHandled (get_or owners i no_owner)) (sym e) (grow_each (λ i v. OwnerHandled v) s.owners w (subst (λ (y : Session). SessionHandled y w.stored) (sym x) tt) h.sessions);
}
  where
    past : (i : ℕ) → (get_or s.owners (length s.owners) no_owner).stored ≡ true → w.stored ≡ true
    past i k = absurd (nobody s k)
      where
        nobody : (s : State) → (owner_at s (length s.owners)).stored ≡ true → ⊥
        nobody s k = by_end (get_or_past s.owners (length s.owners) no_owner)
          where
            by_end : (length s.owners < length s.owners) ⊎ (owner_at s (length s.owners) ≡ no_owner) → ⊥
            by_end (inl l) = omega (arith, l)
            by_end (inr f) = true≢false (sym k ∙ ap (λ (v : Owner). v.stored) f)

    flagged : Flagged s t
    flagged = subst (λ (owners : List Owner). (i : ℕ) → (owner_at s i).stored ≡ true → (get_or owners i no_owner).stored ≡ true) (sym e) (grow_each (λ i v. (owner_at s i).stored ≡ true → v.stored ≡ true) s.owners w (past 0) (λ i k. k))

handling_one : (o : ℕ) (s : State) (out : Out) → Sound s → Handling s → Handling (sends_one s o out)
handling_one o s out g h =
    let t = sends_one s o out in
    record {
      replies = replies_moved s t t.net (λ i x. flag_sends s o out i ∙ x) (hold_asks (HandledOf s) s.net o (owner_at s o).stage out.target out.request g.sound h.replies);
      sessions = set_each (λ i v. OwnerHandled v) s.owners o _ (h.sessions o) h.sessions;
    }

handling_sends : (o : ℕ) (outs : List Out) (s : State) → Sound s → Handling s → Handling (sends s o outs)
handling_sends o [] s g h = h
handling_sends o (out ∷ outs) s g h = handling_sends o outs (sends_one s o out) (sound_keeps.sends s o out g) (handling_one o s out g h)

handling_settles : (s : State) (o slot : ℕ) (a : Attempt) (shards : List ℕ) (outcome : Outcome) → Sound s → Handling s → Handling (plans_stub (sends (listens s o slot) o (tells_decision a outcome shards)) o)
handling_settles s o slot a shards outcome g h =
    let u = listens s o slot in
    let v = sends u o (tells_decision a outcome shards) in
    let q : Handling u = handling_set s u o (listened s o slot) refl refl refl (h.sessions o) h in
    let p : Handling v = handling_sends o (tells_decision a outcome shards) u (record { first = g.first; sound = g.sound }) q in
    handling_set v (plans_stub v o) o _ refl refl refl tt p

handling_serves : (c : Config) (s : State) (m replica : ℕ) (id : ServiceId) (r : Request) → Serves s m r (Replica id replica) → Held c s → Handling s → Handling (notes_served (serves_replica s m id replica r) (message_at s.net m).envelope.owner id r)
handling_serves c s m replica id r d g h = record {
  replies = hold_replica (HandledOf t) s m replica id r (replica_reply (cells_at s id replica) r) d (sound_of c s g.0.0).sound handled (replies_moved s t s.net (λ i x. flag_notes (serves_replica s m id replica r) o id r i x) h.replies);
  sessions = set_each (λ i v. OwnerHandled v) s.owners o _ own h.sessions;
}
  where
    o : ℕ
    o = (message_at s.net m).envelope.owner

    t : State
    t = notes_served (serves_replica s m id replica r) o id r

    well : ServedWell c s o id r
    well = served_well c s m replica id r d g.0.0 g.0.1

    handled : HandledOf t m id replica r (replica_reply (cells_at s id replica) r)
    handled key value writer stamp e =
        let own : is_own_body o (Replica id replica) (body.Request (request.Store key value stamp writer)) ≡ true = subst (λ (b : Body). is_own_body o (Replica id replica) b ≡ true) (d.asks ∙ ap body.Request e) (subst (λ (v : Target). is_own_body o v (message_at s.net m).body ≡ true) d.to ((owned_of c s g.0.0).messages m)) in
        let by : writer ≡ o = eqb-true writer o (and_parts (writer == o) (stamp.call == o) own).0 in
        subst (λ (n : ℕ). (owner_at t n).stored ≡ true) (sym by) (flag_noted (serves_replica s m id replica r) o id r well.there (ap is_store e))

    own : SessionHandled (session_at s o) (if is_store r then true else (owner_at s o).stored)
    own = by_store (is_store r)
      where
        all_handled : (x : Session) → SessionHandled x true
        all_handled (session.Register f) = by_phase f.phase
          where
            by_phase : (p : RegPhase) → PhaseHandled p true
            by_phase phase.Fixing = tt
            by_phase phase.Asking = tt
            by_phase phase.Stamping = tt
            by_phase (phase.Storing z) = tt
            by_phase (phase.Done (ends.Written z)) = refl
            by_phase (phase.Done (ends.Read cell dep)) = tt
            by_phase (phase.Done ends.Fixed) = tt
        all_handled session.Idle = tt
        all_handled (session.Fixing f) = tt
        all_handled (session.Transaction x) = tt
        all_handled (session.Snapshot x) = tt
        all_handled (session.Settling attempt shards) = tt

        by_store : (b : Bool) → SessionHandled (session_at s o) (if b then true else (owner_at s o).stored)
        by_store true = all_handled (session_at s o)
        by_store false = h.sessions o

handling_under : (c : Config) (at : Reading) → OwnerKeepsUnder c at (Held c) (HeldAt c) Handling (λ s o. Handling s)
handling_under c at = record {
  fates = λ s m f g h. record { replies = replies_moved s (marks_message s m f) (meets s.net m f) (λ i x. x) (hold_meets (HandledOf s) s.net m f h.replies); sessions = h.sessions };
  shards = λ s m shard r d g h. record { replies = replies_moved s (serves_shard s m shard at.latest r) (answers s.net m (shard_reply (shard_at s shard) at.latest r)) (λ i x. x) (hold_shard (HandledOf s) s m shard r (shard_reply (shard_at s shard) at.latest r) d (sound_of c s g.0.0).sound h.replies); sessions = h.sessions };
  replicas = λ s m id replica r d g h. handling_serves c s m replica id r d g h;
  again = λ s o exchange slot target r d g h. handling_one o s (record { slot = Some slot; target = target; request = r }) (sound_of c s g.0.0) h;
  stages = λ s t d g h. handling_same s t d.stores.net d.owned h;
  dies = λ s t m u d g h. handling_grow s t _ d.stores.net d.owned refl h;
  begins = λ s t w b d g h. handling_grow s t w d.stores.net d.owned (beginning_idle c s w b) h;
  rests = λ s t o w i b d g h. handling_set s t o w d.stores.net d.owned (resting_flag s o w b) (resting_handled s o w b) h;
  settles = λ s o slot a shards outcome i e d g h. handling_settles s o slot a shards outcome (sound_of c s g.0.0) h;
  settled = λ s o g h. h;
  works = λ s t o w i b d g h. handling_set s t o w d.stores.net d.owned (working_flag at s o w b) (working_handled at s o w b (h.sessions o)) h;
  leaves = λ s t o w outs i b d g h. handling_sends o outs t (sound_keeps.others s t d.stores (sound_of c s (held_rest c s o g).0.0)) (handling_set s t o w d.stores.net d.owned (leaving_flag c at s o w outs b) (leaving_handled c at s o w outs b (h.sessions o)) h);
  does = λ s t o w outs new b d g h. handling_sends o outs t (sound_keeps.others s t d.stores (sound_of c s g.0.0)) (handling_set s t o w d.stores.net d.owned (doing_flag s o w outs new b) (doing_handled c s o w outs new b g.0.0 h) h);
}

handling_kept : (c : Config) → IsInOrder c → IsKept c (λ s. Held c s × Handling s) (λ s o. HeldAt c s o × Handling s)
handling_kept c n = record {
  keeps = λ at. stacked c at (Held c) (HeldAt c) Handling (λ s o. Handling s) (held_keeps c n at) (handling_under c at);
  ticked = λ s at h. (held_ticks c n s at h.0, record { replies = replies_moved s (ticks s at) s.net (λ i x. x) h.1.replies; sessions = h.1.sessions });
}

handling_run : (c : Config) (n : IsInOrder c) (steps : List Step) (s : State) → run c steps ≡ Some s → Handling s
handling_run c n steps s e =
    (kept_run c (λ t. Held c t × Handling t) (λ t o. HeldAt c t o × Handling t) (handling_kept c n) (held_start c n, record { replies = record { each = λ m replica id q answer z l t b a. absurd (omega (arith, z, l)) }; sessions = each }) steps s e).1
  where
    each : (o : ℕ) → OwnerHandled (owner_at (start c) o)
    each zero = tt
    each (suc o) = tt

-- a write that is done was stored
pub stored_run : (c : Config) (n : IsInOrder c) (steps : List Step) (s : State) → run c steps ≡ Some s → (o : ℕ) (key : Key) (value : ℕ) (stamp : Carstamp) → Writes s o key value (phase.Done (ends.Written stamp)) → (owner_at s o).stored ≡ true
stored_run c n steps s e o key value stamp w =
    subst (λ (p : RegPhase). PhaseHandled p (owner_at s o).stored) w.in_phase (subst (λ (x : Session). SessionHandled x (owner_at s o).stored) w.under_way ((handling_run c n steps s e).sessions o))
