-- Each store that was sent is of what its owner has stored, and an owner stores one value with one stamp:
-- so one stamp is of one register, one value and one writer.
use Rattle.std.proofs.Common.{◌≡◌, ℕ, ◌<◌, Bool, true, false, List, [], ◌∷◌, ◌++◌, All, length, get_or, Some, refl, ap, sym, ◌∙◌, subst}
use Rattle.std.specs.Prelude.{⊤}
use Rattle.std.proofs.Math.ListN.{set}
use Rattle.std.proofs.lemmas.Bool.{cond_both}
use Rattle.truetime.specs.Reading.{Reading}
use Rattle.rss_names.specs.declared.attempt.Attempt.{Attempt}
use Rattle.rss_names.specs.declared.service.Key.{Key}
use Rattle.rss_names.specs.declared.service.ServiceId.{ServiceId}
use Rattle.rss_names.specs.declared.service.Target.{Target}
use Rattle.rss_names.specs.declared.service.Target.TheVariants.{Shard, Replica}
use Rattle.rss_names.specs.Services.{same_service}
use Rattle.causal_context.specs.declared.dep.Dep.{Dep}
use Rattle.pipeline_lang.specs.declared.config.Config.{Config}
use Rattle.rss_wire.specs.Messages.{message_at}
use Rattle.rss_wire.specs.declared.message.Message.{Message}
use Rattle.rss_wire.specs.declared.messages.Outcome.{Outcome}
use Rattle.rss_wire.specs.declared.messages.RegReply.{RegReply}
use Rattle.rss_wire.specs.declared.messages.Reply.{Reply}
use Rattle.rss_wire.specs.declared.messages.Request.{Request}
use Rattle.rss_wire.specs.declared.messages.Request.TheVariants as request
use Rattle.rss_tables.specs.Lines.{tells_decision}
use Rattle.rss_tables.specs.Outs.{Out}
use Rattle.rss_tables.specs.RegisterSession.{RegSession, phase_request, session_after, reached, reply_cell}
use Rattle.rss_tables.specs.Round.{hears, is_reached}
use Rattle.rss_tables.specs.declared.register_session.RegEnd.TheVariants as ends
use Rattle.rss_tables.specs.declared.register_session.RegPhase.{RegPhase}
use Rattle.rss_tables.specs.declared.register_session.RegPhase.TheVariants as phase
use Rattle.rss_tables.specs.declared.register_session.RegWork.{RegWork}
use Rattle.rss_tables.specs.declared.register_session.RegWork.TheVariants as work
use Rattle.rss_machine.specs.Moves.{sends_one, sends, session_without, serves_replica, listens, plans_stub}
use Rattle.rss_machine.specs.Run.{run}
use Rattle.rss_machine.specs.Session.{Session}
use Rattle.rss_machine.specs.State.{State, Owner, start, owner_at, no_owner}
use Rattle.rss_machine.specs.declared.session.Session.TheVariants as session
use Rattle.rss_machine.specs.declared.step.Step.{Step}
use Rattle.world_laws.proofs.Doings.{Changed, Resting, plans, past, fixed, cleared, ShardTurning, txn_heard, txn_woken, txn_passed, snap_heard, snap_woken, Doing, listens_one, fix_hears, fix_reached, register_hears, register_stores, register_reached, read_ends, write_ends, txn_ends, snap_ends, counts_one, cuts_one, is_closed, forgets_all, turns, stub_asks}
use Rattle.std.proofs.lemmas.Bool.{false≢true}
use Rattle.world_laws.proofs.Looks.{some_is, none_is_not}
use Rattle.world_laws.proofs.Sent.{SessionOut, to_shard, IsTold, decision_outs, leaving_outs, doing_outs, sent_weaker, sends_each, SentAll, sent_meets, sent_asks, sent_answers}
use Rattle.world_laws.proofs.SessionMoves.{session_at, IsAgain}
use Rattle.world_laws.proofs.Replies.{Sound}
use Rattle.world_laws.proofs.Stacked.{OwnerKeepsUnder, sent_before}
use Rattle.world_laws.proofs.Sent.{sent_none}
use Rattle.std.proofs.Common.{◌⊎◌, inl, inr}
use Rattle.std.specs.Prelude.{◌==◌, if◌then◌else◌}
use Rattle.std.proofs.lemmas.Bool.{eqb-true}
use Rattle.rss_tables.specs.Outs.{slot_replica}
use Rattle.world_laws.proofs.Doings.{listened}
use Rattle.world_laws.proofs.Looks.{get_or_past}
use Rattle.world_laws.proofs.RequestsProper.{sends_same}
use Rattle.std.proofs.lemmas.Bool.{and_parts, false≢true}
use Rattle.std.specs.Prelude.{◌&&◌}
use Rattle.carstamps.specs.declared.carstamp.Carstamp.{Carstamp}
use Rattle.rss_wire.specs.declared.message.Body.{Body}
use Rattle.rss_wire.specs.Messages.{answers}
use Rattle.world_laws.specs.Own.{is_own_body, AreOwn}
use Rattle.world_laws.specs.Registers.{NamesRegisters}
use Rattle.world_laws.proofs.RequestsProper.{served_same}
use Rattle.world_laws.proofs.SessionWalk.{same_sessions, grown_sessions}
use Rattle.reg_laws.specs.Stored.{WasStored, StampsName}
use Rattle.reg_laws.proofs.Awaiting.{IsFix, FixesOnly, OwnAwaited, set_each, set_there}
use Rattle.reg_laws.proofs.Awaits.{nobody_sends, leaving_fixes, doing_fixes, beginning_idle}
use Rattle.reg_laws.proofs.Base.{Known, KnownAt, sound_of, owned_of, known_run}

-- the stamp that a phase stores, or has stored
abbrev pub StoresIn : RegPhase → Carstamp → Type 0
StoresIn (phase.Storing x) stamp = x ≡ stamp
StoresIn (phase.Done (ends.Written x)) stamp = x ≡ stamp
StoresIn (phase.Done ends.Fixed) stamp = ⊥
StoresIn (phase.Done (ends.Read cell dep)) stamp = ⊥
StoresIn phase.Fixing stamp = ⊥
StoresIn phase.Asking stamp = ⊥
StoresIn phase.Stamping stamp = ⊥

pub record RoundStores (r : RegSession) (key : Key) (value : ℕ) (stamp : Carstamp) : Type 0 where
  pub work : r.work ≡ work.Write key value
  pub phase : StoresIn r.phase stamp

-- an owner with this under way has stored this
abbrev pub StoredBy : Session → Key → ℕ → Carstamp → Type 0
StoredBy (session.Register r) key value stamp = RoundStores r key value stamp
StoredBy session.Idle key value stamp = ⊥
StoredBy (session.Fixing r) key value stamp = ⊥
StoredBy (session.Transaction t) key value stamp = ⊥
StoredBy (session.Snapshot t) key value stamp = ⊥
StoredBy (session.Settling attempt shards) key value stamp = ⊥

-- a store to a replica is of what its owner has stored
abbrev pub StoreOf : (ℕ → Session) → ℕ → Target → Request → Type 0
StoreOf f o (Shard n) r = ⊤
StoreOf f o (Replica service replica) (request.Store key value stamp writer) = StoredBy (f o) key value stamp
StoreOf f o (Replica service replica) (request.Fix deps) = ⊤
StoreOf f o (Replica service replica) (request.Ask key) = ⊤
StoreOf f o (Replica service replica) (request.Stamp key) = ⊤
StoreOf f o (Replica service replica) (request.Lock attempt coordinator reads writes) = ⊤
StoreOf f o (Replica service replica) (request.Prepare attempt least earliest_end writes) = ⊤
StoreOf f o (Replica service replica) (request.Decide attempt commit time) = ⊤
StoreOf f o (Replica service replica) (request.Commit attempt commit_time) = ⊤
StoreOf f o (Replica service replica) (request.Abort attempt) = ⊤
StoreOf f o (Replica service replica) (request.Inquire attempt) = ⊤
StoreOf f o (Replica service replica) (request.Release attempt time last) = ⊤
StoreOf f o (Replica service replica) (request.Snapshot read_time least keys skip) = ⊤

-- each store that was sent is of what its owner has stored
pub record Stores (s : State) : Type 0 where
  pub stores : SentAll (StoreOf (session_at s)) s.net

-- what an owner has stored it has stored with this under way too
record KeepsStores (x y : Session) : Type 0 where
  keeps : (key : Key) (value : ℕ) (stamp : Carstamp) → StoredBy x key value stamp → StoredBy y key value stamp

store_more : (f g : ℕ → Session) (o : ℕ) → KeepsStores (f o) (g o) → (t : Target) (r : Request) → StoreOf f o t r → StoreOf g o t r
store_more f g o k (Shard n) r h = h
store_more f g o k (Replica service replica) (request.Store key value stamp writer) h = k.keeps key value stamp h
store_more f g o k (Replica service replica) (request.Fix deps) h = tt
store_more f g o k (Replica service replica) (request.Ask key) h = tt
store_more f g o k (Replica service replica) (request.Stamp key) h = tt
store_more f g o k (Replica service replica) (request.Lock attempt coordinator reads writes) h = tt
store_more f g o k (Replica service replica) (request.Prepare attempt least earliest_end writes) h = tt
store_more f g o k (Replica service replica) (request.Decide attempt commit time) h = tt
store_more f g o k (Replica service replica) (request.Commit attempt commit_time) h = tt
store_more f g o k (Replica service replica) (request.Abort attempt) h = tt
store_more f g o k (Replica service replica) (request.Inquire attempt) h = tt
store_more f g o k (Replica service replica) (request.Release attempt time last) h = tt
store_more f g o k (Replica service replica) (request.Snapshot read_time least keys skip) h = tt

-- the same net, with sessions that keep what was stored
stores_kept : (s t : State) → t.net ≡ s.net → ((o : ℕ) → KeepsStores (session_at s o) (session_at t o)) → Stores s → Stores t
stores_kept s t e k h = record {
  stores = subst (SentAll (StoreOf (session_at t))) (sym e) (sent_weaker (StoreOf (session_at s)) (StoreOf (session_at t)) (λ o target r. store_more (session_at s) (session_at t) o (k o) target r) s.net h.stores);
}

same_kept : (x y : Session) → y ≡ x → KeepsStores x y
same_kept x y e = record { keeps = λ key value stamp h. subst (λ (z : Session). StoredBy z key value stamp) (sym e) h }

-- one owner changes
stores_set : (s t : State) (o : ℕ) (w : Owner) → t.net ≡ s.net → t.owners ≡ set s.owners o w → KeepsStores (session_at s o) w.session → Stores s → Stores t
stores_set s t o w e d k h =
    stores_kept s t e
    (subst (λ (owners : List Owner). (i : ℕ) → KeepsStores (session_at s i) (get_or owners i no_owner).session) (sym d)
    (set_each (λ i v. KeepsStores (session_at s i) v.session) s.owners o w k (λ i. same_kept (session_at s i) (session_at s i) refl))) h

stores_grow : (s t : State) (w : Owner) → w.session ≡ session.Idle → t.net ≡ s.net → t.owners ≡ s.owners ++ w ∷ [] → Stores s → Stores t
stores_grow s t w i e d h = stores_kept s t e (λ o. same_kept (session_at s o) (session_at t o) ((grown_sessions s t w i d).same o)) h

nothing_stored : (x y z : Session) → x ≡ z → ((key : Key) (value : ℕ) (stamp : Carstamp) → StoredBy z key value stamp → ⊥) → KeepsStores x y
nothing_stored x y z e n = record { keeps = λ key value stamp h. absurd (n key value stamp (subst (λ (v : Session). StoredBy v key value stamp) e h)) }

idle_stored : (x y : Session) → x ≡ session.Idle → KeepsStores x y
idle_stored x y e = nothing_stored x y session.Idle e (λ key value stamp h. h)

fixing_stored : (x y : Session) (r : RegSession) → x ≡ session.Fixing r → KeepsStores x y
fixing_stored x y r e = nothing_stored x y (session.Fixing r) e (λ key value stamp h. h)

-- a register session keeps what it stored, whatever it hears
after_stores : (f : RegSession) (from : ℕ) (r : Reply) (key : Key) (value : ℕ) (stamp : Carstamp) → RoundStores f key value stamp → RoundStores (session_after f from r) key value stamp
after_stores f from r key value stamp d = by_reach (is_reached (hears f.round from (reply_cell r))) f.phase refl
  where
    h : RegSession
    h = record f { round = hears f.round from (reply_cell r) }

    by_reach : (t : Bool) (p : RegPhase) → f.phase ≡ p → RoundStores (if t then reached h p else h) key value stamp
    by_reach false p e = record { work = d.work; phase = d.phase }
    by_reach true phase.Fixing e = absurd (subst (λ (q : RegPhase). StoresIn q stamp) e d.phase)
    by_reach true phase.Asking e = absurd (subst (λ (q : RegPhase). StoresIn q stamp) e d.phase)
    by_reach true phase.Stamping e = absurd (subst (λ (q : RegPhase). StoresIn q stamp) e d.phase)
    by_reach true (phase.Storing x) e = record { work = d.work; phase = subst (λ (q : RegPhase). StoresIn q stamp) e d.phase }
    by_reach true (phase.Done end) e = record { work = d.work; phase = d.phase }

register_stored : (x : Session) (f : RegSession) (from : ℕ) (r : Reply) → x ≡ session.Register f → KeepsStores x (session.Register (session_after f from r))
register_stored x f from r e = record { keeps = λ key value stamp h. after_stores f from r key value stamp (subst (λ (v : Session). StoredBy v key value stamp) e h) }

without_stored : (x : Session) (id : ServiceId) (replica : ℕ) → KeepsStores x (session_without x (Replica id replica))
without_stored (session.Register r) id replica = record { keeps = λ key value stamp h. cond_both (same_service r.service id) _ r (λ (s : RegSession). RoundStores s key value stamp) (λ t. record { work = h.work; phase = h.phase }) (λ t. h) }
without_stored (session.Fixing r) id replica = record { keeps = λ key value stamp h. absurd h }
without_stored session.Idle id replica = record { keeps = λ key value stamp h. h }
without_stored (session.Transaction t) id replica = record { keeps = λ key value stamp h. h }
without_stored (session.Snapshot t) id replica = record { keeps = λ key value stamp h. h }
without_stored (session.Settling attempt shards) id replica = record { keeps = λ key value stamp h. h }

resting_stored : (net : List Message) (s : State) (o : ℕ) (w : Owner) → Resting s o w → OwnAwaited net o (owner_at s o) → KeepsStores (session_at s o) w.session
resting_stored net s o _ (plans e b) h = idle_stored _ _ (h.unstarted b).0
resting_stored net s o _ (past id x rest time l e) h = idle_stored _ _ (h.waiting time e)
resting_stored net s o _ (fixed id x rest r e l a b d) h = fixing_stored _ _ r a
resting_stored net s o _ (cleared r e l a b d) h = fixing_stored _ _ r a

turning_stored : (s : State) (o : ℕ) (x : Session) (outs : List Out) → ShardTurning s o x outs → KeepsStores (session_at s o) x
turning_stored s o _ _ (txn_heard t l at r e) = nothing_stored _ _ (session.Transaction t) e (λ key value stamp h. h)
turning_stored s o _ _ (txn_woken t l e) = nothing_stored _ _ (session.Transaction t) e (λ key value stamp h. h)
turning_stored s o _ _ (txn_passed t e) = nothing_stored _ _ (session.Transaction t) e (λ key value stamp h. h)
turning_stored s o _ _ (snap_heard t l r e) = nothing_stored _ _ (session.Snapshot t) e (λ key value stamp h. h)
turning_stored s o _ _ (snap_woken t l e) = nothing_stored _ _ (session.Snapshot t) e (λ key value stamp h. h)

doing_stored : (s : State) (o : ℕ) (w : Owner) (outs : List Out) (new : List Dep) → Doing s o w outs new → OwnAwaited s.net o (owner_at s o) → KeepsStores (session_at s o) w.session
doing_stored s o _ _ _ (listens_one slot r d) h = same_kept _ _ refl
doing_stored s o _ _ _ (fix_hears f slot r x d e) h = fixing_stored _ _ f x
doing_stored s o _ _ _ (fix_reached f slot r g x d e) h = fixing_stored _ _ f x
doing_stored s o _ _ _ (register_hears f slot r x d a e) h = register_stored _ f (slot_replica slot) r x
doing_stored s o _ _ _ (register_stores f slot r x d a e) h = register_stored _ f (slot_replica slot) r x
doing_stored s o _ _ _ (register_reached f slot r g x d e) h = register_stored _ f (slot_replica slot) r x
doing_stored s o _ _ _ (read_ends f key cell dep x a b) h = same_kept _ _ refl
doing_stored s o _ _ _ (write_ends f key value e x a b) h = same_kept _ _ refl
doing_stored s o _ _ _ (txn_ends y t time a b d) h = same_kept _ _ refl
doing_stored s o _ _ _ (snap_ends y t time a b d) h = same_kept _ _ refl
doing_stored s o _ _ _ (counts_one target) h = same_kept _ _ refl
doing_stored s o _ _ _ (cuts_one id replica) h = without_stored (session_at s o) id replica
doing_stored s o _ _ _ (is_closed f) h = same_kept _ _ refl
doing_stored s o _ _ _ forgets_all h = same_kept _ _ refl
doing_stored s o _ _ _ (turns x outs y) h = turning_stored s o x outs y
doing_stored s o _ _ _ (stub_asks attempt shards e b) h = idle_stored _ _ (h.unstarted b).0

-- what a round sends is of what it stores
phase_stores : (r : RegSession) (q : Request) (service : ServiceId) (replica : ℕ) (f : ℕ → Session) (o : ℕ) → f o ≡ session.Register r → phase_request r.call r.work r.phase ≡ Some q → StoreOf f o (Replica service replica) q
phase_stores r q service replica f o e a = by_work r.work r.phase refl refl a
  where
    by_work : (w : RegWork) (p : RegPhase) → r.work ≡ w → r.phase ≡ p → phase_request r.call w p ≡ Some q → StoreOf f o (Replica service replica) q
    by_work (work.Fix deps) phase.Fixing b d a = subst (StoreOf f o (Replica service replica)) (some_is (request.Fix deps) q a) tt
    by_work (work.Fix deps) phase.Asking b d a = absurd (none_is_not q a)
    by_work (work.Fix deps) phase.Stamping b d a = absurd (none_is_not q a)
    by_work (work.Fix deps) (phase.Storing stamp) b d a = absurd (none_is_not q a)
    by_work (work.Fix deps) (phase.Done end) b d a = absurd (none_is_not q a)
    by_work (work.Read key) phase.Fixing b d a = absurd (none_is_not q a)
    by_work (work.Read key) phase.Asking b d a = subst (StoreOf f o (Replica service replica)) (some_is (request.Ask key) q a) tt
    by_work (work.Read key) phase.Stamping b d a = absurd (none_is_not q a)
    by_work (work.Read key) (phase.Storing stamp) b d a = absurd (none_is_not q a)
    by_work (work.Read key) (phase.Done end) b d a = absurd (none_is_not q a)
    by_work (work.Write key value) phase.Fixing b d a = absurd (none_is_not q a)
    by_work (work.Write key value) phase.Asking b d a = absurd (none_is_not q a)
    by_work (work.Write key value) phase.Stamping b d a = subst (StoreOf f o (Replica service replica)) (some_is (request.Stamp key) q a) tt
    by_work (work.Write key value) (phase.Storing stamp) b d a =
        subst (StoreOf f o (Replica service replica)) (some_is (request.Store key value stamp r.call) q a)
        (subst (λ (x : Session). StoredBy x key value stamp) (sym e) (record { work = b; phase = subst (λ (x : RegPhase). StoresIn x stamp) (sym d) refl }))
    by_work (work.Write key value) (phase.Done end) b d a = absurd (none_is_not q a)

fix_stores : (r : RegSession) (q : Request) (service : ServiceId) (replica : ℕ) (f : ℕ → Session) (o : ℕ) → IsFix r.work → phase_request r.call r.work r.phase ≡ Some q → StoreOf f o (Replica service replica) q
fix_stores r q service replica f o i a = by_work r.work r.phase i a
  where
    by_work : (w : RegWork) (p : RegPhase) → IsFix w → phase_request r.call w p ≡ Some q → StoreOf f o (Replica service replica) q
    by_work (work.Fix deps) phase.Fixing i a = subst (StoreOf f o (Replica service replica)) (some_is (request.Fix deps) q a) tt
    by_work (work.Fix deps) phase.Asking i a = absurd (none_is_not q a)
    by_work (work.Fix deps) phase.Stamping i a = absurd (none_is_not q a)
    by_work (work.Fix deps) (phase.Storing stamp) i a = absurd (none_is_not q a)
    by_work (work.Fix deps) (phase.Done end) i a = absurd (none_is_not q a)
    by_work (work.Read key) p i a = absurd i
    by_work (work.Write key value) p i a = absurd i

shard_stores : (f : ℕ → Session) (o : ℕ) (target : Target) (r : Request) → to_shard target r ≡ true → StoreOf f o target r
shard_stores f o (Shard n) r e = tt
shard_stores f o (Replica service replica) r e = absurd (false≢true e)

out_stores : (x : Session) (f : ℕ → Session) (o : ℕ) (out : Out) → f o ≡ x → FixesOnly x → SessionOut x out → StoreOf f o out.target out.request
out_stores (session.Fixing r) f o out e i d = subst (λ (t : Target). StoreOf f o t out.request) (sym d.target) (fix_stores r out.request r.service d.replica f o i d.asked)
out_stores (session.Register r) f o out e i d = subst (λ (t : Target). StoreOf f o t out.request) (sym d.target) (phase_stores r out.request r.service d.replica f o e d.asked)
out_stores session.Idle f o out e i d = shard_stores f o out.target out.request d
out_stores (session.Transaction t) f o out e i d = shard_stores f o out.target out.request d
out_stores (session.Snapshot t) f o out e i d = shard_stores f o out.target out.request d
out_stores (session.Settling attempt shards) f o out e i d = shard_stores f o out.target out.request d

-- requests that are sent
stores_one : (o : ℕ) (s : State) (out : Out) → StoreOf (session_at s) o out.target out.request → Stores s → Stores (sends_one s o out)
stores_one o s out q h = record {
  stores = sent_weaker (StoreOf (session_at s)) (StoreOf (session_at (sends_one s o out))) (λ i target r. store_more (session_at s) (session_at (sends_one s o out)) i (same_kept _ _ (sends_same s o out i)) target r) _
      (sent_asks (StoreOf (session_at s)) s.net o (owner_at s o).stage out.target out.request q h.stores);
}

stores_sends : (o : ℕ) (x : Session) (outs : List Out) (s : State) → FixesOnly x → All (SessionOut x) outs → session_at s o ≡ x → Stores s → Stores (sends s o outs)
stores_sends o x outs s i a e h =
    (sends_each (λ t. Stores t × (session_at t o ≡ x)) (SessionOut x) o (λ t out d p. (stores_one o t out (out_stores x (session_at t) o out p.1 i d) p.0, sends_same t o out o ∙ p.1)) outs s a (h, e)).0

-- a reply that is sent, and what replicas note
stores_answers : (s t : State) (m : ℕ) (r : Reply) → t.net ≡ answers s.net m r → ((o : ℕ) → session_at t o ≡ session_at s o) → Stores s → Stores t
stores_answers s t m r e k h = record {
  stores = subst (SentAll (StoreOf (session_at t))) (sym e)
      (sent_weaker (StoreOf (session_at s)) (StoreOf (session_at t)) (λ i target q. store_more (session_at s) (session_at t) i (same_kept _ _ (k i)) target q) _ (sent_answers (StoreOf (session_at s)) s.net m r h.stores));
}

stores_settles : (s : State) (o slot : ℕ) (a : Attempt) (shards : List ℕ) (outcome : Outcome) → o < length s.owners → session_at s o ≡ session.Settling a shards → Stores s → Stores (plans_stub (sends (listens s o slot) o (tells_decision a outcome shards)) o)
stores_settles s o slot a shards outcome i x h =
    stores_set t (plans_stub t o) o _ refl refl (nothing_stored _ _ (session.Settling a shards) told.1 (λ key value stamp d. d)) told.0
  where
    u : State
    u = listens s o slot

    t : State
    t = sends u o (tells_decision a outcome shards)

    told : Stores t × (session_at t o ≡ session.Settling a shards)
    told =
        sends_each (λ v. Stores v × (session_at v o ≡ session.Settling a shards)) IsTold o (λ v out d p. (stores_one o v out (shard_stores (session_at v) o out.target out.request d.to) p.0, sends_same v o out o ∙ p.1)) (tells_decision a outcome shards) u (decision_outs a outcome shards)
        (stores_set s u o (listened s o slot) refl refl (same_kept _ _ refl) h, ap (λ (v : Owner). v.session) (set_there s u o (listened s o slot) i refl) ∙ x)

stores_again : (s : State) (o exchange slot : ℕ) (target : Target) (r : Request) → IsAgain s o exchange slot target r → Sound s → Stores s → StoreOf (session_at s) o target r
stores_again s o exchange slot target r d g h =
    let b = sent_before s o exchange slot target r g d in
    subst (λ (t : Target). StoreOf (session_at s) o t r) b.target_of (subst (λ (n : ℕ). StoreOf (session_at s) n (message_at s.net exchange).envelope.target r) b.owner (h.stores.each exchange r d.asked))

pub stores_under : (c : Config) (at : Reading) → OwnerKeepsUnder c at (Known c) (KnownAt c) Stores (λ s o. Stores s)
stores_under c at = record {
  fates = λ s m f g h. record { stores = sent_meets (StoreOf (session_at s)) s.net m f h.stores };
  shards = λ s m shard r d g h. stores_answers s _ m _ refl (λ o. refl) h;
  replicas = λ s m id replica r d g h. stores_answers s _ m _ refl (λ o. served_same (serves_replica s m id replica r) (message_at s.net m).envelope.owner id r o) h;
  again = λ s o exchange slot target r d g h. stores_one o s (record { slot = Some slot; target = target; request = r }) (stores_again s o exchange slot target r d (sound_of c s g) h) h;
  stages = λ s t d g h. stores_kept s t d.stores.net (λ o. same_kept _ _ ((same_sessions s t d.owned).same o)) h;
  dies = λ s t n u d g h. stores_grow s t _ refl d.stores.net d.owned h;
  begins = λ s t w b d g h. stores_grow s t w (beginning_idle c s w b) d.stores.net d.owned h;
  rests = λ s t o w i b d g h. stores_set s t o w d.stores.net d.owned (resting_stored s.net s o w b (g.1.each o)) h;
  settles = λ s o slot a shards outcome i e d g h. stores_settles s o slot a shards outcome i e h;
  settled = λ s o g h. h;
  works = λ s t o w i b d g h. stores_set s t o w d.stores.net d.owned (idle_stored _ _ g.1.1.idle) h;
  leaves = λ s t o w outs i b d g h.
      stores_sends o w.session outs t (leaving_fixes c at s o w outs b (g.1.0.each o).fixes) (leaving_outs c at s o w outs b) (ap (λ (v : Owner). v.session) (set_there s t o w i d.owned))
      (stores_set s t o w d.stores.net d.owned (idle_stored _ _ g.1.1.idle) h);
  does = λ s t o w outs new b d g h. doing_sends s t o w outs new b d (doing_fixes s o w outs new b (g.1.each o)) (stores_set s t o w d.stores.net d.owned (doing_stored s o w outs new b (g.1.each o)) h);
}
  where
    doing_sends : (s t : State) (o : ℕ) (w : Owner) (outs : List Out) (new : List Dep) → Doing s o w outs new → Changed new (set s.owners o w) s t → FixesOnly w.session → Stores t → Stores (sends t o outs)
    doing_sends s t o w outs new b d f h = by_place (get_or_past s.owners o no_owner)
      where
        by_place : (o < length s.owners) ⊎ (owner_at s o ≡ no_owner) → Stores (sends t o outs)
        by_place (inl i) = stores_sends o w.session outs t f (doing_outs s o w outs new b) (ap (λ (v : Owner). v.session) (set_there s t o w i d.owned)) h
        by_place (inr e) = subst (λ (xs : List Out). Stores (sends t o xs)) (sym (nobody_sends s o w outs new b e)) h

pub stores_start : (c : Config) → Stores (start c)
stores_start c = record { stores = sent_none (StoreOf (session_at (start c))) }

-- one stamp is of one register, one value and one writer
pub stored_by : (s : State) (key : Key) (cell : RegReply) (a : WasStored s.net key cell) → Stores s → StoredBy (session_at s (message_at s.net a.number).envelope.owner) key cell.value cell.stamp
stored_by s key cell a h = subst (λ (t : Target). StoreOf (session_at s) (message_at s.net a.number).envelope.owner t (request.Store key cell.value cell.stamp cell.writer)) a.target (h.stores.each a.number (request.Store key cell.value cell.stamp cell.writer) a.says)

-- a store names its owner
pub named_by : (s : State) (key : Key) (cell : RegReply) (a : WasStored s.net key cell) → AreOwn s → (cell.writer ≡ (message_at s.net a.number).envelope.owner) × (cell.stamp.call ≡ (message_at s.net a.number).envelope.owner)
named_by s key cell a h =
    let o = (message_at s.net a.number).envelope.owner in
    let e : is_own_body o (message_at s.net a.number).envelope.target (message_at s.net a.number).body ≡ true = h a.number in
    let f : is_own_body o (Replica a.service a.replica) (message_at s.net a.number).body ≡ true = subst (λ (t : Target). is_own_body o t (message_at s.net a.number).body ≡ true) a.target e in
    let g : ((cell.writer == o) && (cell.stamp.call == o)) ≡ true = subst (λ (b : Body). is_own_body o (Replica a.service a.replica) b ≡ true) a.says f in
    let p = and_parts (cell.writer == o) (cell.stamp.call == o) g in
    (eqb-true cell.writer o p.0, eqb-true cell.stamp.call o p.1)

work_key_same : (a b : Key) (v w : ℕ) → work.Write a v ≡ work.Write b w → (a ≡ b) × (v ≡ w)
work_key_same a b v w e = (cc, cc)

abbrev cell_with : ℕ → Carstamp → ℕ → RegReply
cell_with value stamp writer = record { value = value; stamp = stamp; writer = writer }

same_cells : (x y : RegReply) → x.value ≡ y.value → x.stamp ≡ y.stamp → x.writer ≡ y.writer → x ≡ y
same_cells x y a b d =
    let e : x ≡ cell_with y.value x.stamp x.writer = ap (λ (v : ℕ). cell_with v x.stamp x.writer) a in
    let f : cell_with y.value x.stamp x.writer ≡ cell_with y.value y.stamp x.writer = ap (λ (z : Carstamp). cell_with y.value z x.writer) b in
    let g : cell_with y.value y.stamp x.writer ≡ y = ap (λ (v : ℕ). cell_with y.value y.stamp v) d in
    e ∙ (f ∙ g)

one_session : (x : Session) (a b : Key) (v w : ℕ) (z y : Carstamp) → StoredBy x a v z → StoredBy x b w y → (a ≡ b) × (v ≡ w)
one_session (session.Register r) a b v w z y g h = work_key_same a b v w (sym g.work ∙ h.work)
one_session session.Idle a b v w z y g h = absurd g
one_session (session.Fixing r) a b v w z y g h = absurd g
one_session (session.Transaction t) a b v w z y g h = absurd g
one_session (session.Snapshot t) a b v w z y g h = absurd g
one_session (session.Settling attempt shards) a b v w z y g h = absurd g

one_stamp : (s : State) (a b : Key) (x y : RegReply) (g : WasStored s.net a x) (h : WasStored s.net b y) → Stores s → AreOwn s → x.stamp ≡ y.stamp → (a ≡ b) × (x ≡ y)
one_stamp s a b x y g h k n e =
    let p = named_by s a x g n in
    let q = named_by s b y h n in
    let o : (message_at s.net h.number).envelope.owner ≡ (message_at s.net g.number).envelope.owner = sym q.1 ∙ (ap (λ (z : Carstamp). z.call) (sym e) ∙ p.1) in
    let r = one_session (session_at s (message_at s.net g.number).envelope.owner) a b x.value y.value x.stamp y.stamp (stored_by s a x g k) (subst (λ (i : ℕ). StoredBy (session_at s i) b y.value y.stamp) o (stored_by s b y h k)) in
    (r.0, same_cells x y r.1 e (p.0 ∙ (sym o ∙ sym q.0)))

pub stamps_name : (s : State) → Stores s → AreOwn s → StampsName s.net
stamps_name s k n = record {
  register = λ a b x y g h e. (one_stamp s a b x y g h k n e).0;
  cell = λ a b x y g h e. (one_stamp s a b x y g h k n e).1;
}

pub stamps_run : (c : Config) (steps : List Step) (s : State) → NamesRegisters c → run c steps ≡ Some s → StampsName s.net
stamps_run c steps s n e =
    let h = known_run c n Stores (λ t o. Stores t) (stores_under c) (λ t at k. record { stores = k.stores }) (stores_start c) steps s e in
    stamps_name s h.1 (owned_of c s h.0).messages
