-- No stamp has a number above that of the steps, in every run.
use Rattle.std.proofs.Common.{◌≡◌, ◌⊎◌, inl, inr, ℕ, zero, suc, ◌+◌, ◌-◌, ◌≤◌, true, false, List, [], ◌∷◌, ◌++◌, length, get_or, Option, Some, None, refl, ap, sym, subst, arith}
use Rattle.std.specs.List.{All}
use Rattle.std.specs.Prelude.{⊤, replicate}
use Rattle.std.proofs.Math.ListN.{set}
use Rattle.std.proofs.lemmas.Bool.{false≢true}
use Rattle.std.proofs.lemmas.List.Elements.{All-nil, All-cons, All-head, All-tail}
use Rattle.truetime.specs.Reading.{Reading}
use Rattle.rss_names.specs.declared.service.ServiceId.{ServiceId}
use Rattle.rss_names.specs.declared.service.ServiceId.TheVariants as service
use Rattle.rss_names.specs.declared.service.Target.{Target}
use Rattle.rss_names.specs.declared.service.Target.TheVariants.{Shard, Replica}
use Rattle.causal_context.specs.declared.dep.Dep.{Dep}
use Rattle.causal_context.specs.Deps.{deps_of, given_dep}
use Rattle.pipeline_lang.specs.declared.config.Config.{Config}
use Rattle.pipeline_lang.specs.declared.config.ServiceDef.{ServiceDef}
use Rattle.rss_wire.specs.Messages.{no_message, message_at}
use Rattle.rss_wire.specs.declared.message.Body.{Body}
use Rattle.rss_wire.specs.declared.message.Body.TheVariants as body
use Rattle.rss_wire.specs.declared.message.Fate.{Fate}
use Rattle.rss_wire.specs.declared.message.Message.{Message}
use Rattle.rss_wire.specs.declared.messages.Outcome.{Outcome}
use Rattle.rss_wire.specs.declared.messages.RegReply.{RegReply}
use Rattle.rss_wire.specs.declared.messages.Reply.{Reply}
use Rattle.rss_wire.specs.declared.messages.Reply.TheVariants as reply
use Rattle.rss_wire.specs.declared.messages.Request.{Request}
use Rattle.rss_wire.specs.declared.messages.Request.TheVariants as request
use Rattle.rss_tables.specs.Lines.{tells_decision}
use Rattle.rss_tables.specs.Outs.{Out, slot_replica}
use Rattle.rss_tables.specs.RegisterSession.{RegSession}
use Rattle.rss_tables.specs.ReplicaRow.{opening_cell, replica_after}
use Rattle.rss_tables.specs.declared.register_session.RegEnd.{RegEnd}
use Rattle.rss_tables.specs.declared.register_session.RegEnd.TheVariants as ends
use Rattle.rss_tables.specs.declared.register_session.RegPhase.{RegPhase}
use Rattle.rss_tables.specs.declared.register_session.RegPhase.TheVariants as phase
use Rattle.rss_tables.specs.declared.register_session.RegWork.{RegWork}
use Rattle.rss_tables.specs.declared.register_session.RegWork.TheVariants as work
use Rattle.rss_machine.specs.Calls.{session_for}
use Rattle.rss_machine.specs.Effect.{stepped, request_comes}
use Rattle.rss_machine.specs.Moves.{ticks, marks_message, sends_one, sends, plans_stub, listens, serves_shard, serves_replica, notes_served}
use Rattle.rss_machine.specs.Refusal.{refusal}
use Rattle.rss_machine.specs.Run.{run}
use Rattle.rss_machine.specs.Session.{Session}
use Rattle.rss_machine.specs.State.{State, Owner, start, no_owner, owner_at, shard_at, cells_at, service_index, opening_replicas, replicas_before, replicas_of_services}
use Rattle.rss_machine.specs.declared.session.Session.TheVariants as session
use Rattle.rss_machine.specs.declared.step.Step.{Step}
use Rattle.world_laws.specs.Contexts.{AllDeps}
use Rattle.world_laws.specs.Stamps.{DepUpTo, DepsUpTo, RequestStampsUpTo, ReplyStampsUpTo, BodyStampsUpTo, WorkStampsUpTo, GivenUpTo, EndStampsUpTo, PhaseStampsUpTo, SessionStampsUpTo, StampsUpTo}
use Rattle.world_laws.proofs.Clock.{clock_step}
use Rattle.world_laws.proofs.Contexts.{copy_holds, of_hold, set_copies, deps_weaker, deps_start}
use Rattle.world_laws.proofs.Doings.{Changed, Heard, Beginning, calls, fences, Resting, plans, past, fixed, cleared, Working, owes_nothing, is_past, enters_own, Leaving, waits, fixes_work, fixes_own, asks_register, stamps_register, begins_snapshot, begins_txn, fence_done, stub_done, Doing, listens_one, fix_hears, fix_reached, register_hears, register_stores, register_reached, read_ends, write_ends, txn_ends, snap_ends, counts_one, cuts_one, is_closed, forgets_all, turns, stub_asks, ShardTurning, txn_heard, txn_woken, txn_passed, snap_heard, snap_woken}
use Rattle.world_laws.proofs.Looks.{looks, get_or_repeat}
use Rattle.world_laws.proofs.OwnerMoves.{OwnerMoves}
use Rattle.world_laws.proofs.OwnerWalk.{Served, moves_or_serves}
use Rattle.world_laws.proofs.Replies.{Sound, sound_keeps, sound_start}
use Rattle.world_laws.proofs.Runs.{passes, run_keeps}
use Rattle.world_laws.proofs.Sent.{to_shard, SessionOut, RoundOut, IsTold, decision_outs, leaving_outs, doing_outs, sends_each}
use Rattle.world_laws.proofs.SessionMoves.{IsAgain}
use Rattle.world_laws.proofs.Stacked.{sent_before}
use Rattle.world_laws.proofs.StoreWalk.{store_owner, store_walk}
use Rattle.world_laws.proofs.Told.{each_set, each_grow}
use Rattle.stamp_laws.proofs.Rounds.{HeldUpTo, shard_tells, after_held, reply_held, EndUpTo, PhaseUpTo, Rounds, SessionUpTo, none_heard, after_up, without_up, phase_asks}

-- a message: a request to a replica, or a reply
abbrev pub OutUpTo : ℕ → Target → Request → Type 0
OutUpTo d (Shard n) r = ⊤
OutUpTo d (Replica id replica) r = RequestStampsUpTo d r

abbrev pub SaysUpTo : ℕ → ℕ → Target → Body → Type 0
SaysUpTo b d target (body.Request r) = OutUpTo d target r
SaysUpTo b d target (body.Reply r) = ReplyStampsUpTo b r

abbrev pub MessageUpTo : ℕ → ℕ → Message → Type 0
MessageUpTo b d x = SaysUpTo b d x.envelope.target x.body

pub record Stamped (b d : ℕ) (s : State) : Type 0 where
  pub told : (m : ℕ) → MessageUpTo b d (message_at s.net m)
  pub sessions : (o : ℕ) → SessionUpTo b d (owner_at s o).session
  pub held : (i r : ℕ) → HeldUpTo b (get_or (get_or s.replicas i []) r [])
  pub depended : AllDeps (DepUpTo b) s

-- SENDING

more_told : (b d : ℕ) (net : List Message) (x : Message) → MessageUpTo b d x → ((m : ℕ) → MessageUpTo b d (message_at net m)) → (m : ℕ) → MessageUpTo b d (message_at (net ++ x ∷ []) m)
more_told b d net x k h m = by_place (at net x m)
  where
    at : (net : List Message) (x : Message) (m : ℕ) → (message_at (net ++ x ∷ []) m ≡ message_at net m) ⊎ (message_at (net ++ x ∷ []) m ≡ x) ⊎ (message_at (net ++ x ∷ []) m ≡ no_message)
    at net x m = grind (arith, looks)

    by_place : (message_at (net ++ x ∷ []) m ≡ message_at net m) ⊎ (message_at (net ++ x ∷ []) m ≡ x) ⊎ (message_at (net ++ x ∷ []) m ≡ no_message) → MessageUpTo b d (message_at (net ++ x ∷ []) m)
    by_place (inl e) = subst (MessageUpTo b d) (sym e) (h m)
    by_place (inr (inl e)) = subst (MessageUpTo b d) (sym e) k
    by_place (inr (inr e)) = subst (MessageUpTo b d) (sym e) tt

same_sessions : (b d : ℕ) (s : State) (o : ℕ) (w : Owner) → w.session ≡ (owner_at s o).session → ((i : ℕ) → SessionUpTo b d (owner_at s i).session) → (i : ℕ) → SessionUpTo b d (get_or (set s.owners o w) i no_owner).session
same_sessions b d s o w e h = each_set (λ i v. SessionUpTo b d v.session) s.owners o w (subst (SessionUpTo b d) (sym e) (h o)) h

sends_one_stamped : (b d o : ℕ) (s : State) (out : Out) → OutUpTo d out.target out.request → Stamped b d s → Stamped b d (sends_one s o out)
sends_one_stamped b d o s out q h = record {
  told = more_told b d s.net _ q h.told;
  sessions = same_sessions b d s o _ refl h.sessions;
  held = h.held;
  depended = record { stages = h.depended.stages; pipes = h.depended.pipes; copies = set_copies (DepUpTo b) s o _ refl h.depended };
}

-- what an owner with this under way sends
round_out : (b d : ℕ) (r : RegSession) (out : Out) → b ≤ d → Rounds b d r → RoundOut r out → OutUpTo d out.target out.request
round_out b d r out l h k = subst (λ (t : Target). OutUpTo d t out.request) (sym k.target) (phase_asks b d r.call r.work r.phase out.request l h.of_work h.of_phase k.asked)

shard_out : (d : ℕ) (target : Target) (r : Request) → to_shard target r ≡ true → OutUpTo d target r
shard_out d (Shard n) r e = tt
shard_out d (Replica id replica) r e = absurd (false≢true e)

session_out : (b d : ℕ) (x : Session) (out : Out) → b ≤ d → SessionUpTo b d x → SessionOut x out → OutUpTo d out.target out.request
session_out b d (session.Fixing r) out l h k = round_out b d r out l h k
session_out b d (session.Register r) out l h k = round_out b d r out l h k
session_out b d session.Idle out l h k = shard_out d out.target out.request k
session_out b d (session.Transaction t) out l h k = shard_out d out.target out.request k
session_out b d (session.Snapshot t) out l h k = shard_out d out.target out.request k
session_out b d (session.Settling attempt shards) out l h k = shard_out d out.target out.request k

sends_stamped : (b d o : ℕ) (s : State) (x : Session) (outs : List Out) → b ≤ d → SessionUpTo b d x → All (SessionOut x) outs → Stamped b d s → Stamped b d (sends s o outs)
sends_stamped b d o s x outs l h a k = sends_each (Stamped b d) (SessionOut x) o (λ t out q p. sends_one_stamped b d o t out (session_out b d x out l h q) p) outs s a k

-- an owner, or more, in the place of what they were
changed : (b d : ℕ) (new : List Dep) (s t : State) (owners : List Owner) → Changed new owners s t → All (DepUpTo b) new → ((i : ℕ) → SessionUpTo b d (get_or owners i no_owner).session) → Stamped b d s → Stamped b d t
changed b d new s t owners k a w h = record {
  told = subst (λ (net : List Message). (m : ℕ) → MessageUpTo b d (message_at net m)) (sym k.stores.net) h.told;
  sessions = subst (λ (xs : List Owner). (i : ℕ) → SessionUpTo b d (get_or xs i no_owner).session) (sym k.owned) w;
  held = subst (λ (xs : List (List (List RegReply))). (i r : ℕ) → HeldUpTo b (get_or (get_or xs i []) r [])) (sym k.stores.replicas) h.held;
  depended = k.deps (DepUpTo b) a h.depended;
}

changed_one : (b d : ℕ) (new : List Dep) (s t : State) (o : ℕ) (w : Owner) → Changed new (set s.owners o w) s t → All (DepUpTo b) new → SessionUpTo b d w.session → Stamped b d s → Stamped b d t
changed_one b d new s t o w k a x h = changed b d new s t (set s.owners o w) k a (each_set (λ i v. SessionUpTo b d v.session) s.owners o w x h.sessions) h

-- REASONS

fix_work : (b d : ℕ) (s : State) (o : ℕ) (id : ServiceId) → AllDeps (DepUpTo b) s → DepsUpTo b (deps_of id (owner_at s o).works.copy.deps)
fix_work b d s o id h = of_hold (DepUpTo b) id (owner_at s o).works.copy.deps (copy_holds (DepUpTo b) s o h)

opening : (b d : ℕ) (c : Config) (s : State) (o : ℕ) (w : RegWork) (id : ServiceId) → WorkStampsUpTo b w → Rounds b d (session_for c s o w id)
opening b d c s o (work.Fix deps) id k = record { of_work = k; heard = none_heard b; of_phase = tt }
opening b d c s o (work.Read key) id k = record { of_work = k; heard = none_heard b; of_phase = tt }
opening b d c s o (work.Write key value) id k = record { of_work = k; heard = none_heard b; of_phase = tt }

resting : (b d : ℕ) (s : State) (o : ℕ) (w : Owner) → Resting s o w → SessionUpTo b d w.session
resting b d s o _ (plans e k) = tt
resting b d s o _ (past id x rest time l e) = tt
resting b d s o _ (fixed id x rest r e l a k f) = tt
resting b d s o _ (cleared r e l a k f) = tt

working : (b d : ℕ) (at : Reading) (s : State) (o : ℕ) (w : Owner) → Working at s o w → SessionUpTo b d (owner_at s o).session → SessionUpTo b d w.session
working b d at s o _ (owes_nothing id rest l) h = tt
working b d at s o _ (is_past id time rest l e) h = tt
working b d at s o _ (enters_own x l e f) h = h

leaving : (b d : ℕ) (c : Config) (at : Reading) (s : State) (o : ℕ) (w : Owner) (outs : List Out) → Leaving c at s o w outs → Stamped b d s → SessionUpTo b d w.session
leaving b d c at s o _ _ (waits id time rest l) h = h.sessions o
leaving b d c at s o _ _ (fixes_work id rest l) h = opening b d c s o _ id (fix_work b d s o id h.depended)
leaving b d c at s o _ _ (fixes_own x dep deps l e f) h = opening b d c s o _ _ (fix_work b d s o _ h.depended)
leaving b d c at s o _ _ (asks_register key l e f) h = opening b d c s o (work.Read key) key.service tt
leaving b d c at s o _ _ (stamps_register key value l e f) h = opening b d c s o (work.Write key value) key.service tt
leaving b d c at s o _ _ (begins_snapshot keys t l e f) h = tt
leaving b d c at s o _ _ (begins_txn reads guard writes t l e f) h = tt
leaving b d c at s o _ _ (fence_done l e) h = h.sessions o
leaving b d c at s o _ _ (stub_done u l e) h = h.sessions o

turning : (b d : ℕ) (s : State) (o : ℕ) (x : Session) (outs : List Out) → ShardTurning s o x outs → SessionUpTo b d x
turning b d s o _ _ (txn_heard t l at r e) = tt
turning b d s o _ _ (txn_woken t l e) = tt
turning b d s o _ _ (txn_passed t e) = tt
turning b d s o _ _ (snap_heard t l r e) = tt
turning b d s o _ _ (snap_woken t l e) = tt

under : (b d : ℕ) (s : State) (o : ℕ) (x : Session) → (owner_at s o).session ≡ x → Stamped b d s → SessionUpTo b d x
under b d s o x e h = subst (SessionUpTo b d) e (h.sessions o)

heard_up : (b d : ℕ) (s : State) (o slot : ℕ) (r : Reply) → Heard s o slot r → Stamped b d s → ReplyStampsUpTo b r
heard_up b d s o slot r k h = subst (SaysUpTo b d (message_at s.net k.number).envelope.target) k.says (h.told k.number)

doing : (b : ℕ) (s : State) (o : ℕ) (w : Owner) (outs : List Out) (new : List Dep) → Doing s o w outs new → Stamped b (suc b) s → SessionUpTo b (suc b) w.session
doing b s o _ _ _ (listens_one slot r k) h = h.sessions o
doing b s o _ _ _ (fix_hears f slot r x k e) h = after_up b f (slot_replica slot) r (heard_up b (suc b) s o slot r k h) (under b (suc b) s o (session.Fixing f) x h)
doing b s o _ _ _ (fix_reached f slot r y x k e) h = after_up b f (slot_replica slot) r (heard_up b (suc b) s o slot r k h) (under b (suc b) s o (session.Fixing f) x h)
doing b s o _ _ _ (register_hears f slot r x k a e) h = after_up b f (slot_replica slot) r (heard_up b (suc b) s o slot r k h) (under b (suc b) s o (session.Register f) x h)
doing b s o _ _ _ (register_stores f slot r x k a e) h = after_up b f (slot_replica slot) r (heard_up b (suc b) s o slot r k h) (under b (suc b) s o (session.Register f) x h)
doing b s o _ _ _ (register_reached f slot r y x k e) h = after_up b f (slot_replica slot) r (heard_up b (suc b) s o slot r k h) (under b (suc b) s o (session.Register f) x h)
doing b s o _ _ _ (read_ends f key cell dep x a e) h = h.sessions o
doing b s o _ _ _ (write_ends f key value e x a k) h = h.sessions o
doing b s o _ _ _ (txn_ends x y time a e k) h = h.sessions o
doing b s o _ _ _ (snap_ends x y time a e k) h = h.sessions o
doing b s o _ _ _ (counts_one target) h = h.sessions o
doing b s o _ _ _ (cuts_one id replica) h = without_up b (suc b) (owner_at s o).session (Replica id replica) (h.sessions o)
doing b s o _ _ _ (is_closed f) h = h.sessions o
doing b s o _ _ _ forgets_all h = h.sessions o
doing b s o _ _ _ (turns x outs y) h = turning b (suc b) s o x outs y
doing b s o _ _ _ (stub_asks attempt shards e k) h = tt

given_up : (b d : ℕ) (dep : Option Dep) → GivenUpTo b dep → All (DepUpTo b) (given_dep dep)
given_up b d None h = All-nil (DepUpTo b)
given_up b d (Some dep) h = All-cons (DepUpTo b) dep [] h (All-nil (DepUpTo b))

new_up : (b : ℕ) (s : State) (o : ℕ) (w : Owner) (outs : List Out) (new : List Dep) → Doing s o w outs new → Stamped b (suc b) s → All (DepUpTo b) new
new_up b s o _ _ _ (listens_one slot r k) h = All-nil (DepUpTo b)
new_up b s o _ _ _ (fix_hears f slot r x k e) h = All-nil (DepUpTo b)
new_up b s o _ _ _ (fix_reached f slot r y x k e) h = All-nil (DepUpTo b)
new_up b s o _ _ _ (register_hears f slot r x k a e) h = All-nil (DepUpTo b)
new_up b s o _ _ _ (register_stores f slot r x k a e) h = All-nil (DepUpTo b)
new_up b s o _ _ _ (register_reached f slot r y x k e) h = All-nil (DepUpTo b)
new_up b s o _ _ _ (read_ends f key cell dep x a e) h = given_up b (suc b) dep (subst (PhaseUpTo b (suc b)) e (under b (suc b) s o (session.Register f) x h).of_phase).1
new_up b s o _ _ _ (write_ends f key value e x a k) h = All-nil (DepUpTo b)
new_up b s o _ _ _ (txn_ends x y time a e k) h = All-nil (DepUpTo b)
new_up b s o _ _ _ (snap_ends x y time a e k) h = All-nil (DepUpTo b)
new_up b s o _ _ _ (counts_one target) h = All-nil (DepUpTo b)
new_up b s o _ _ _ (cuts_one id replica) h = All-nil (DepUpTo b)
new_up b s o _ _ _ (is_closed f) h = All-nil (DepUpTo b)
new_up b s o _ _ _ forgets_all h = All-nil (DepUpTo b)
new_up b s o _ _ _ (turns x outs y) h = All-nil (DepUpTo b)
new_up b s o _ _ _ (stub_asks attempt shards e k) h = All-nil (DepUpTo b)

beginning : (b d : ℕ) (c : Config) (s : State) (w : Owner) → Beginning c s w → SessionUpTo b d w.session
beginning b d c s _ (calls n x e) = tt
beginning b d c s _ (fences n) = tt

-- MOVES OF OWNERS

listens_stamped : (b d : ℕ) (s : State) (o slot : ℕ) → Stamped b d s → Stamped b d (listens s o slot)
listens_stamped b d s o slot h = record { told = h.told; sessions = same_sessions b d s o _ refl h.sessions; held = h.held; depended = record { stages = h.depended.stages; pipes = h.depended.pipes; copies = set_copies (DepUpTo b) s o _ refl h.depended } }

plans_stamped : (b d : ℕ) (s : State) (o : ℕ) → Stamped b d s → Stamped b d (plans_stub s o)
plans_stamped b d s o h = record { told = h.told; sessions = each_set (λ i v. SessionUpTo b d v.session) s.owners o _ tt h.sessions; held = h.held; depended = record { stages = h.depended.stages; pipes = h.depended.pipes; copies = set_copies (DepUpTo b) s o _ refl h.depended } }

fated : (b d : ℕ) (net : List Message) (n : ℕ) (f : Fate) → ((m : ℕ) → MessageUpTo b d (message_at net m)) → (m : ℕ) → MessageUpTo b d (message_at (set net n (record (message_at net n) { fate = f })) m)
fated b d net n f h m = by_place (at net n (record (message_at net n) { fate = f }) m)
  where
    at : (net : List Message) (n : ℕ) (x : Message) (m : ℕ) → (message_at (set net n x) m ≡ x) ⊎ (message_at (set net n x) m ≡ message_at net m)
    at net n x m = grind (arith, looks)

    by_place : (message_at (set net n (record (message_at net n) { fate = f })) m ≡ record (message_at net n) { fate = f }) ⊎ (message_at (set net n (record (message_at net n) { fate = f })) m ≡ message_at net m) → MessageUpTo b d (message_at (set net n (record (message_at net n) { fate = f })) m)
    by_place (inl e) = subst (MessageUpTo b d) (sym e) (h n)
    by_place (inr e) = subst (MessageUpTo b d) (sym e) (h m)

again_up : (b d : ℕ) (s : State) (o exchange slot : ℕ) (target : Target) (r : Request) → IsAgain s o exchange slot target r → Sound s → Stamped b d s → OutUpTo d target r
again_up b d s o exchange slot target r k g h =
    let e = (sent_before s o exchange slot target r g k).target_of in
    subst (λ (t : Target). OutUpTo d t r) e (subst (SaysUpTo b d (message_at s.net exchange).envelope.target) k.asked (h.told exchange))

told_shard : (d : ℕ) (out : Out) → IsTold out → OutUpTo d out.target out.request
told_shard d out k = shard_out d out.target out.request k.to

abbrev Both : ℕ → State → Type 0
Both b s = Sound s × Stamped b (suc b) s

stamped_moves : (c : Config) (at : Reading) (b : ℕ) → OwnerMoves c at (Both b) (λ s o. Both b s)
stamped_moves c at b = record {
  fates = λ s m f h. (sound.fates s m f h.0, record { told = fated b (suc b) s.net m f h.1.told; sessions = h.1.sessions; held = h.1.held; depended = record { stages = h.1.depended.stages; pipes = h.1.depended.pipes; copies = h.1.depended.copies } });
  again = λ s o exchange slot target r k h. (sound.again s o exchange slot target r k h.0, sends_one_stamped b (suc b) o s (record { slot = Some slot; target = target; request = r }) (again_up b (suc b) s o exchange slot target r k h.0 h.1) h.1);
  stages = λ s t k h. (sound.stages s t k h.0, changed b (suc b) [] s t s.owners k (All-nil (DepUpTo b)) h.1.sessions h.1);
  dies = λ s t n u k h. (sound.dies s t n u k h.0, changed b (suc b) [] s t _ k (All-nil (DepUpTo b)) (each_grow (λ i v. SessionUpTo b (suc b) v.session) s.owners _ tt h.1.sessions) h.1);
  begins = λ s t w y k h. (sound.begins s t w y k h.0, changed b (suc b) [] s t (s.owners ++ w ∷ []) k (All-nil (DepUpTo b)) (each_grow (λ i v. SessionUpTo b (suc b) v.session) s.owners w (beginning b (suc b) c s w y) h.1.sessions) h.1);
  rests = λ s t o w i y k h. (sound.rests s t o w i y k h.0, changed_one b (suc b) [] s t o w k (All-nil (DepUpTo b)) (resting b (suc b) s o w y) h.1);
  settles = λ s o slot a shards outcome i e k h. (
    sound.settles s o slot a shards outcome i e k h.0,
    plans_stamped b (suc b) (sends (listens s o slot) o (tells_decision a outcome shards)) o
        (sends_each (Stamped b (suc b)) IsTold o (λ t out q p. sends_one_stamped b (suc b) o t out (told_shard (suc b) out q) p) (tells_decision a outcome shards) (listens s o slot) (decision_outs a outcome shards) (listens_stamped b (suc b) s o slot h.1)),
  );
  settled = λ s o h. h;
  works = λ s t o w i y k h. (sound.works s t o w i y k h.0, changed_one b (suc b) [] s t o w k (All-nil (DepUpTo b)) (working b (suc b) at s o w y (h.1.sessions o)) h.1);
  leaves = λ s t o w outs i y k h.
      let x = leaving b (suc b) c at s o w outs y h.1 in
      (sound.leaves s t o w outs i y k h.0, sends_stamped b (suc b) o t w.session outs (omega arith) x (leaving_outs c at s o w outs y) (changed_one b (suc b) [] s t o w k (All-nil (DepUpTo b)) x h.1));
  does = λ s t o w outs new y k h.
      let x = doing b s o w outs new y h.1 in
      (sound.does s t o w outs new y k h.0, sends_stamped b (suc b) o t w.session outs (omega arith) x (doing_outs s o w outs new y) (changed_one b (suc b) new s t o w k (new_up b s o w outs new y h.1) x h.1));
}
  where
    sound : OwnerMoves c at Sound (λ s o. Sound s)
    sound = (store_owner c at Sound sound_keeps).moves

-- A TARGET SERVES

shard_served : (b d : ℕ) (s : State) (m shard latest : ℕ) (r : Request) → Stamped b d s → Stamped b d (serves_shard s m shard latest r)
shard_served b d s m shard latest r h = record { told = more_told b d s.net _ (shard_tells b (shard_at s shard) latest r) h.told; sessions = h.sessions; held = h.held; depended = record { stages = h.depended.stages; pipes = h.depended.pipes; copies = h.depended.copies } }

-- what a replica holds once it has served
set_held : (b : ℕ) (replicas : List (List (List RegReply))) (i j : ℕ) (cells : List RegReply) → ((v r : ℕ) → HeldUpTo b (get_or (get_or replicas v []) r [])) → HeldUpTo b cells → (v r : ℕ) → HeldUpTo b (get_or (get_or (set replicas i (set (get_or replicas i []) j cells)) v []) r [])
set_held b replicas i j cells h g v r = by_place (at replicas i (set (get_or replicas i []) j cells) v)
  where
    at : {X : Type 0} (xs : List (List X)) (k : ℕ) (x : List X) (n : ℕ) → ((get_or (set xs k x) n [] ≡ x) × (n ≡ k)) ⊎ (get_or (set xs k x) n [] ≡ get_or xs n [])
    at xs k x n = grind (arith, looks)

    inner : (get_or (set (get_or replicas i []) j cells) r [] ≡ cells) ⊎ (get_or (set (get_or replicas i []) j cells) r [] ≡ get_or (get_or replicas i []) r []) → HeldUpTo b (get_or (set (get_or replicas i []) j cells) r [])
    inner (inl e) = subst (HeldUpTo b) (sym e) g
    inner (inr e) = subst (HeldUpTo b) (sym e) (h i r)

    in_one : ((get_or (set (get_or replicas i []) j cells) r [] ≡ cells) × (r ≡ j)) ⊎ (get_or (set (get_or replicas i []) j cells) r [] ≡ get_or (get_or replicas i []) r []) → (get_or (set (get_or replicas i []) j cells) r [] ≡ cells) ⊎ (get_or (set (get_or replicas i []) j cells) r [] ≡ get_or (get_or replicas i []) r [])
    in_one (inl e) = inl e.0
    in_one (inr e) = inr e

    by_place : ((get_or (set replicas i (set (get_or replicas i []) j cells)) v [] ≡ set (get_or replicas i []) j cells) × (v ≡ i)) ⊎ (get_or (set replicas i (set (get_or replicas i []) j cells)) v [] ≡ get_or replicas v []) → HeldUpTo b (get_or (get_or (set replicas i (set (get_or replicas i []) j cells)) v []) r [])
    by_place (inl e) = subst (λ (xs : List (List RegReply)). HeldUpTo b (get_or xs r [])) (sym e.0) (inner (in_one (at (get_or replicas i []) j cells r)))
    by_place (inr e) = subst (λ (xs : List (List RegReply)). HeldUpTo b (get_or xs r [])) (sym e) (h v r)

replica_served : (b d : ℕ) (s : State) (m o : ℕ) (id : ServiceId) (replica : ℕ) (r : Request) → RequestStampsUpTo b r → Stamped b d s → Stamped b d (notes_served (serves_replica s m id replica r) o id r)
replica_served b d s m o id replica r q h = record {
  told = more_told b d s.net _ (reply_held b (cells_at s id replica) r (h.held (service_index id) (replica - 1))) h.told;
  sessions = same_sessions b d s o _ refl h.sessions;
  held = set_held b s.replicas (service_index id) (replica - 1) (replica_after (cells_at s id replica) r) h.held (after_held b (cells_at s id replica) r q (h.held (service_index id) (replica - 1)));
  depended = record { stages = h.depended.stages; pipes = h.depended.pipes; copies = set_copies (DepUpTo b) s o _ refl h.depended };
}

comes_stamped : (b : ℕ) (s : State) (m o : ℕ) (at : Reading) (target : Target) (r : Request) → OutUpTo b target r → Stamped b b s → Stamped b b (request_comes s m o at target r)
comes_stamped b s m o at (Shard shard) r q h = shard_served b b s m shard at.latest r h
comes_stamped b s m o at (Replica id replica) r q h = replica_served b b s m o id replica r q h

-- BOUNDS RISE

deps_more : (b d : ℕ) (deps : List Dep) → b ≤ d → DepsUpTo b deps → DepsUpTo d deps
deps_more b d [] m h = All-nil (DepUpTo d)
deps_more b d (dep ∷ deps) m h = let l = All-head (DepUpTo b) dep deps h in All-cons (DepUpTo d) dep deps (omega (arith, l, m)) (deps_more b d deps m (All-tail (DepUpTo b) dep deps h))

request_more : (b d : ℕ) (r : Request) → b ≤ d → RequestStampsUpTo b r → RequestStampsUpTo d r
request_more b d (request.Store key value stamp writer) m h = omega (arith, h, m)
request_more b d (request.Fix deps) m h = deps_more b d deps m h
request_more b d (request.Ask key) m h = tt
request_more b d (request.Stamp key) m h = tt
request_more b d (request.Lock attempt coordinator reads writes) m h = tt
request_more b d (request.Prepare attempt least earliest_end writes) m h = tt
request_more b d (request.Decide attempt commit time) m h = tt
request_more b d (request.Commit attempt commit_time) m h = tt
request_more b d (request.Abort attempt) m h = tt
request_more b d (request.Inquire attempt) m h = tt
request_more b d (request.Release attempt time last) m h = tt
request_more b d (request.Snapshot read_time least keys skip) m h = tt

reply_more : (b d : ℕ) (r : Reply) → b ≤ d → ReplyStampsUpTo b r → ReplyStampsUpTo d r
reply_more b d (reply.Held value stamp writer) m h = omega (arith, h, m)
reply_more b d reply.Wounded m h = tt
reply_more b d (reply.Granted shown) m h = tt
reply_more b d (reply.Wait holders) m h = tt
reply_more b d (reply.Prepared time) m h = tt
reply_more b d (reply.Decided outcome) m h = tt
reply_more b d reply.Done m h = tt
reply_more b d (reply.Outcome outcome) m h = tt
reply_more b d reply.Open m h = tt
reply_more b d reply.Released m h = tt
reply_more b d (reply.Blocked holders) m h = tt
reply_more b d (reply.Values versions skipped) m h = tt
reply_more b d reply.Fixed m h = tt
reply_more b d reply.Stored m h = tt

out_more : (b d : ℕ) (target : Target) (r : Request) → b ≤ d → OutUpTo b target r → OutUpTo d target r
out_more b d (Shard n) r m h = tt
out_more b d (Replica id replica) r m h = request_more b d r m h

says_more : (b d e f : ℕ) (target : Target) (x : Body) → b ≤ e → d ≤ f → SaysUpTo b d target x → SaysUpTo e f target x
says_more b d e f target (body.Request r) m n h = out_more d f target r n h
says_more b d e f target (body.Reply r) m n h = reply_more b e r m h

work_more : (b d : ℕ) (w : RegWork) → b ≤ d → WorkStampsUpTo b w → WorkStampsUpTo d w
work_more b d (work.Fix deps) m h = deps_more b d deps m h
work_more b d (work.Read key) m h = tt
work_more b d (work.Write key value) m h = tt

given_more : (b d : ℕ) (dep : Option Dep) → b ≤ d → GivenUpTo b dep → GivenUpTo d dep
given_more b d None m h = tt
given_more b d (Some dep) m h = omega (arith, h, m)

end_more : (b d e f : ℕ) (x : RegEnd) → b ≤ e → d ≤ f → EndUpTo b d x → EndUpTo e f x
end_more b d e f (ends.Read cell dep) m n h = (let l = h.0 in omega (arith, l, m), given_more b e dep m h.1)
end_more b d e f (ends.Written stamp) m n h = omega (arith, h, n)
end_more b d e f ends.Fixed m n h = tt

phase_more : (b d e f : ℕ) (x : RegPhase) → b ≤ e → d ≤ f → PhaseUpTo b d x → PhaseUpTo e f x
phase_more b d e f phase.Fixing m n h = tt
phase_more b d e f phase.Asking m n h = tt
phase_more b d e f phase.Stamping m n h = tt
phase_more b d e f (phase.Storing stamp) m n h = omega (arith, h, n)
phase_more b d e f (phase.Done x) m n h = end_more b d e f x m n h

rounds_more : (b d e f : ℕ) (r : RegSession) → b ≤ e → d ≤ f → Rounds b d r → Rounds e f r
rounds_more b d e f r m n h = record { of_work = work_more b e r.work m h.of_work; heard = λ i. (let l = h.heard i in omega (arith, l, m)); of_phase = phase_more b d e f r.phase m n h.of_phase }

session_more : (b d e f : ℕ) (x : Session) → b ≤ e → d ≤ f → SessionUpTo b d x → SessionUpTo e f x
session_more b d e f (session.Register r) m n h = rounds_more b d e f r m n h
session_more b d e f (session.Fixing r) m n h = rounds_more b d e f r m n h
session_more b d e f session.Idle m n h = tt
session_more b d e f (session.Transaction t) m n h = tt
session_more b d e f (session.Snapshot t) m n h = tt
session_more b d e f (session.Settling attempt shards) m n h = tt

stamped_more : (b d e f : ℕ) (s : State) → b ≤ e → d ≤ f → Stamped b d s → Stamped e f s
stamped_more b d e f s m n h = record {
  told = λ i. says_more b d e f (message_at s.net i).envelope.target (message_at s.net i).body m n (h.told i);
  sessions = λ o. session_more b d e f (owner_at s o).session m n (h.sessions o);
  held = λ i r k. (let l = h.held i r k in omega (arith, l, m));
  depended = deps_weaker (DepUpTo b) (DepUpTo e) (λ dep l. omega (arith, l, m)) s h.depended;
}

-- STEPS AND RUNS

abbrev Now : State → Type 0
Now s = Sound s × Stamped s.steps s.steps s

sound_step : (c : Config) (s : State) (step : Step) → refusal c s step ≡ None → Sound s → Sound (stepped c s step)
sound_step c s step r h = store_walk c Sound sound_keeps (ticks s step.at) step.at step.kind (passes c s step r).kind (record { first = h.first; sound = h.sound })

stamped_step : (c : Config) (s : State) (step : Step) → refusal c s step ≡ None → Now s → Now (stepped c s step)
stamped_step c s step r h = by_way (moves_or_serves c step.at (Both s.steps) (λ t o. Both s.steps t) (stamped_moves c step.at s.steps) u step.kind (passes c s step r).kind (record { first = h.0.first; sound = h.0.sound }, before))
  where
    u : State
    u = ticks s step.at

    ticked : Stamped s.steps s.steps u
    ticked = record { told = h.1.told; sessions = h.1.sessions; held = h.1.held; depended = record { stages = h.1.depended.stages; pipes = h.1.depended.pipes; copies = h.1.depended.copies } }

    before : Stamped s.steps (suc s.steps) u
    before = stamped_more s.steps s.steps s.steps (suc s.steps) u (omega arith) (omega arith) ticked

    counted : (stepped c s step).steps ≡ s.steps + 1
    counted = (clock_step c s step r).0

    up : (b : ℕ) (t : State) → b ≤ s.steps + 1 → t.steps ≡ s.steps + 1 → (d : ℕ) → d ≤ s.steps + 1 → Stamped b d t → Stamped t.steps t.steps t
    up b t m e d n k = subst (λ (i : ℕ). Stamped i i t) (sym e) (stamped_more b d (s.steps + 1) (s.steps + 1) t m n k)

    by_way : (Both s.steps (stepped c s step)) ⊎ Served c step.at u (stepped c s step) → Now (stepped c s step)
    by_way (inl k) = (k.0, up s.steps (stepped c s step) (omega arith) counted (suc s.steps) (omega arith) k.1)
    by_way (inr k) =
        let v = marks_message u k.number k.fate in
        let x = message_at v.net k.number in
        let q : Stamped s.steps s.steps v = record { told = fated s.steps s.steps u.net k.number k.fate ticked.told; sessions = ticked.sessions; held = ticked.held; depended = record { stages = ticked.depended.stages; pipes = ticked.depended.pipes; copies = ticked.depended.copies } } in
        let y : Stamped s.steps s.steps (stepped c s step) = subst (Stamped s.steps s.steps) (sym k.same) (comes_stamped s.steps v k.number x.envelope.owner step.at x.envelope.target k.request (subst (SaysUpTo s.steps s.steps x.envelope.target) k.asks (q.told k.number)) q) in
        (sound_step c s step r h.0, up s.steps (stepped c s step) (omega arith) counted s.steps (omega arith) y)

-- THE START

opening_held : (b registers n : ℕ) (r : ℕ) → HeldUpTo b (get_or (opening_replicas registers n) r [])
opening_held b registers n r i = by_place (at n (replicate registers opening_cell) r)
  where
    at : {X : Type 0} (n : ℕ) (x : List X) (r : ℕ) → (get_or (replicate n x) r [] ≡ x) ⊎ (get_or (replicate n x) r [] ≡ [])
    at n x r = let q = get_or_repeat n x r [] in grind (arith, q)

    cell : (registers i : ℕ) → get_or (replicate registers opening_cell) i opening_cell ≡ opening_cell
    cell registers i = let q = get_or_repeat registers opening_cell i opening_cell in grind (arith, q)

    by_place : (get_or (opening_replicas registers n) r [] ≡ replicate registers opening_cell) ⊎ (get_or (opening_replicas registers n) r [] ≡ []) → (get_or (get_or (opening_replicas registers n) r []) i opening_cell).stamp.number ≤ b
    by_place (inl e) = let k = ap (λ (xs : List RegReply). (get_or xs i opening_cell).stamp.number) e in let l = ap (λ (x : RegReply). x.stamp.number) (cell registers i) in omega (arith, k, l)
    by_place (inr e) = let k = ap (λ (xs : List RegReply). (get_or xs i opening_cell).stamp.number) e in omega (arith, k)

before_held : (b registers n : ℕ) (id : ServiceId) (rest : List (List (List RegReply))) → ((i r : ℕ) → HeldUpTo b (get_or (get_or rest i []) r [])) → (i r : ℕ) → HeldUpTo b (get_or (get_or (replicas_before id (opening_replicas registers n) rest) i []) r [])
before_held b registers n (service.Txn number) rest h i r = h i r
before_held b registers n (service.Reg number) rest h zero r = opening_held b registers n r
before_held b registers n (service.Reg number) rest h (suc i) r = h i r

start_held : (b registers : ℕ) (services : List ServiceDef) (i r : ℕ) → HeldUpTo b (get_or (get_or (replicas_of_services registers services) i []) r [])
start_held b registers [] i r k = omega arith
start_held b registers (d ∷ services) i r k = before_held b registers d.replicas d.id (replicas_of_services registers services) (start_held b registers services) i r k

stamped_start : (c : Config) → Stamped 0 0 (start c)
stamped_start c = record {
  told = λ m. subst (MessageUpTo 0 0) (sym (first m)) tt;
  sessions = λ o. subst (λ (w : Owner). SessionUpTo 0 0 w.session) (sym (alone o)) tt;
  held = start_held 0 (length c.registers) c.services;
  depended = deps_start (DepUpTo 0) c;
}
  where
    alone : (o : ℕ) → get_or (no_owner ∷ []) o no_owner ≡ no_owner
    alone o = grind (arith, looks)

    first : (m : ℕ) → get_or (no_message ∷ []) m no_message ≡ no_message
    first m = grind (arith, looks)

stamped_run : (c : Config) (steps : List Step) (s : State) → run c steps ≡ Some s → Stamped s.steps s.steps s
stamped_run c steps s e = (run_keeps c Now (stamped_step c) (sound_start c, stamped_start c) steps s e).1

-- as the law says it
end_is : (b : ℕ) (x : RegEnd) → EndUpTo b b x → EndStampsUpTo b x
end_is b (ends.Read cell dep) h = h
end_is b (ends.Written stamp) h = h
end_is b ends.Fixed h = h

phase_is : (b : ℕ) (x : RegPhase) → PhaseUpTo b b x → PhaseStampsUpTo b x
phase_is b phase.Fixing h = h
phase_is b phase.Asking h = h
phase_is b phase.Stamping h = h
phase_is b (phase.Storing stamp) h = h
phase_is b (phase.Done x) h = end_is b x h

session_is : (b : ℕ) (x : Session) → SessionUpTo b b x → SessionStampsUpTo b x
session_is b (session.Register r) h = record { of_work = h.of_work; heard = h.heard; of_phase = phase_is b r.phase h.of_phase }
session_is b (session.Fixing r) h = record { of_work = h.of_work; heard = h.heard; of_phase = phase_is b r.phase h.of_phase }
session_is b session.Idle h = tt
session_is b (session.Transaction t) h = tt
session_is b (session.Snapshot t) h = tt
session_is b (session.Settling attempt shards) h = tt

says_is : (b : ℕ) (target : Target) (x : Body) → SaysUpTo b b target x → BodyStampsUpTo b target x
says_is b (Shard n) (body.Request r) h = h
says_is b (Replica id replica) (body.Request r) h = h
says_is b target (body.Reply r) h = h

pub stamps_run : (c : Config) (steps : List Step) (s : State) → run c steps ≡ Some s → StampsUpTo s.steps s
stamps_run c steps s e =
    let h = stamped_run c steps s e in
    record {
      told = λ m. says_is s.steps (message_at s.net m).envelope.target (message_at s.net m).body (h.told m);
      sessions = λ o. session_is s.steps (owner_at s o).session (h.sessions o);
      held = λ id replica key. h.held (service_index id) (replica - 1) key.index;
      depended = h.depended;
    }
