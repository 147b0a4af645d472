-- What an owner has sent is its due: one request for each round that it began, and one for each loss. How each
-- move of an owner keeps that.
use Rattle.std.proofs.Common.{◌≡◌, ℕ, ◌+◌, ◌<◌, ◌≤◌, ◌⊎◌, inl, inr, Bool, true, false, List, [], ◌∷◌, All, length, get_or, Option, refl, ap, sym, ◌∙◌, subst, arith}
use Rattle.std.specs.Prelude.{if◌then◌else◌}
use Rattle.std.proofs.Math.ListN.{length-set}
use Rattle.std.proofs.lemmas.Bool.{cond_both, and_parts, true≢false}
use Rattle.std.proofs.lemmas.List.{get_or-set_same}
use Rattle.std.proofs.lemmas.List.Elements.{All-cons, All-nil, All-head, All-tail}
use Rattle.truetime.specs.Reading.{Reading}
use Rattle.rss_names.specs.declared.service.ServiceId.{ServiceId}
use Rattle.rss_names.specs.declared.service.Target.{Target}
use Rattle.rss_names.specs.declared.service.Target.TheVariants.{Replica}
use Rattle.rss_names.specs.Services.{same_service}
use Rattle.carstamps.specs.declared.carstamp.Carstamp.{Carstamp}
use Rattle.carstamps.specs.Stamp.{next_stamp}
use Rattle.causal_context.specs.declared.dep.Dep.{Dep}
use Rattle.pipeline_lang.specs.declared.config.Config.{Config}
use Rattle.rss_wire.specs.declared.message.Message.{Message}
use Rattle.rss_wire.proofs.Lines.{same_target-true}
use Rattle.rss_wire.specs.Messages.{same_target}
use Rattle.rss_wire.specs.declared.messages.Reply.{Reply}
use Rattle.rss_wire.specs.declared.messages.Request.{Request}
use Rattle.rss_tables.specs.Losses.{losses_of, one_more_lost, replica_place, target_place, target_count}
use Rattle.rss_tables.specs.Outs.{Out, awaited, slot_replica}
use Rattle.rss_tables.specs.RegisterSession.{RegSession, session_after, reached, reply_cell, found_cell, phase_request, round_requests}
use Rattle.rss_tables.specs.Round.{hears, is_reached, greatest_heard}
use Rattle.rss_tables.specs.declared.register_session.RegPhase.{RegPhase}
use Rattle.rss_tables.specs.declared.register_session.RegPhase.TheVariants as phase
use Rattle.rss_tables.specs.declared.register_session.RegWork.{RegWork}
use Rattle.rss_tables.specs.declared.register_session.RegWork.TheVariants as work
use Rattle.rss_machine.specs.Calls.{session_for}
use Rattle.rss_machine.specs.Effect.{opens_round}
use Rattle.rss_machine.specs.Moves.{session_without}
use Rattle.rss_machine.specs.Session.{Session, service_of}
use Rattle.rss_machine.specs.State.{State, Owner, owner_at}
use Rattle.rss_machine.specs.declared.session.Session.TheVariants as session
use Rattle.world_laws.proofs.Doings.{turned, fix_session, Resting, plans, past, fixed, cleared, Working, owes_nothing, is_past, enters_own, Leaving, waits, fixes_work, fixes_own, asks_register, stamps_register, begins_snapshot, begins_txn, fence_done, stub_done, ShardTurning, txn_heard, txn_woken, txn_passed, snap_heard, snap_woken, Doing, listens_one, fix_hears, fix_reached, register_hears, register_stores, register_reached, read_ends, write_ends, txn_ends, snap_ends, counts_one, cuts_one, is_closed, forgets_all, turns, stub_asks}
use Rattle.world_laws.proofs.Looks.{get_or_set}
use Rattle.world_laws.proofs.Properly.{after-stays}
use Rattle.world_laws.proofs.Sent.{IsTold, ToShard, SessionOut, leaving_outs, doing_outs}
use Rattle.world_laws.proofs.SessionMoves.{session_at}
use Rattle.reg_laws.proofs.Awaiting.{OwnAwaited, IsFree}
use Rattle.bound_laws.specs.Counts.{stores_dependencies, own_requests, rounds_by, rounds_of}
use Rattle.bound_laws.proofs.Counting.{counts, outs_to, shards_none, round_few, fix_none, asks_none}

-- what an owner has sent, with these requests still to send, is its due
pub record Spared (net : List Message) (o : ℕ) (w : Owner) (outs : List Out) : Type 0 where
  pub size : length w.losses ≡ target_count
  pub due : (service : ServiceId) (replica : ℕ) → replica_place service replica < target_count → own_requests o (Replica service replica) net + outs_to (Replica service replica) outs ≤ rounds_of w.session + losses_of w.losses (Replica service replica)

abbrev pub Due : List Message → ℕ → Owner → Type 0
Due net o w = Spared net o w []

-- an owner begins as many rounds as it sends requests
abbrev Pays : Session → Session → List Out → Type 0
Pays x y outs = (service : ServiceId) (replica : ℕ) → outs_to (Replica service replica) outs + rounds_of x ≤ rounds_of y

pays : (net : List Message) (o : ℕ) (v w : Owner) (outs : List Out) → w.losses ≡ v.losses → Pays v.session w.session outs → Due net o v → Spared net o w outs
pays net o v w outs e p h = record {
  size = ap (λ (xs : List ℕ). length xs) e ∙ h.size;
  due = λ service replica l.
      let d = h.due service replica l in
      let q = p service replica in
      let f : losses_of w.losses (Replica service replica) ≡ losses_of v.losses (Replica service replica) = ap (λ (xs : List ℕ). losses_of xs (Replica service replica)) e in
      omega (arith, d, q, f);
}

pub due_same : (net : List Message) (o : ℕ) (v w : Owner) → w.losses ≡ v.losses → w.session ≡ v.session → Due net o v → Due net o w
due_same net o v w e f h = pays net o v w [] e (λ service replica. let q : rounds_of w.session ≡ rounds_of v.session = ap rounds_of f in omega (arith, q)) h

-- sessions of shards
to_shards : (x y : Session) (outs : List Out) → rounds_of x ≡ 0 → All ToShard outs → Pays x y outs
to_shards x y outs e a service replica = let z = shards_none service replica outs a in omega (arith, e, z)

none : (x y : Session) → rounds_of x ≤ rounds_of y → Pays x y []
none x y l service replica = omega (arith, l)

-- a decision that is told is told to shards
told_shards : (outs : List Out) → All IsTold outs → All ToShard outs
told_shards [] a = All-nil ToShard
told_shards (out ∷ outs) a = All-cons ToShard out outs (All-head IsTold out outs a).to (told_shards outs (All-tail IsTold out outs a))

pub told_spared : (net : List Message) (o : ℕ) (v w : Owner) (outs : List Out) → w.losses ≡ v.losses → w.session ≡ v.session → All IsTold outs → Due net o v → Spared net o w outs
told_spared net o v w outs e f a h = pays net o v w outs e (λ service replica. let z = shards_none service replica outs (told_shards outs a) in let q : rounds_of w.session ≡ rounds_of v.session = ap rounds_of f in omega (arith, z, q)) h

-- a round that goes on has begun no less than before
after_rounds : (f : RegSession) (from : ℕ) (r : Reply) → rounds_by f.work f.phase ≤ rounds_by (session_after f from r).work (session_after f from r).phase
after_rounds f from r = subst (λ (w : RegWork). rounds_by f.work f.phase ≤ rounds_by w (session_after f from r).phase) (sym (after-stays f from r).0) (by_reach (is_reached (hears f.round from (reply_cell r))) f.phase refl)
  where
    g : RegSession
    g = record f { round = hears f.round from (reply_cell r) }

    up : (w : RegWork) (p : RegPhase) → f.phase ≡ p → rounds_by w p ≤ rounds_by w (reached g p).phase
    up (work.Read key) p e = omega arith
    up (work.Fix deps) p e = omega arith
    up (work.Write key value) phase.Fixing e = omega arith
    up (work.Write key value) phase.Asking e = omega arith
    up (work.Write key value) phase.Stamping e = omega arith
    up (work.Write key value) (phase.Storing stamp) e = omega arith
    up (work.Write key value) (phase.Done end) e = subst (λ (q : RegPhase). 2 ≤ rounds_by (work.Write key value) q) (sym e) (omega arith)

    by_reach : (t : Bool) (p : RegPhase) → f.phase ≡ p → rounds_by f.work f.phase ≤ rounds_by f.work (if t then reached g p else g).phase
    by_reach false p e = omega arith
    by_reach true p e = subst (λ (q : RegPhase). rounds_by f.work q ≤ rounds_by f.work (reached g p).phase) (sym e) (up f.work p e)

-- where another round begins behind one, it is the second of a write
record Opened (f g : RegSession) : Type 0 where
  first : f.phase ≡ phase.Stamping
  stamp : Carstamp
  second : g.phase ≡ phase.Storing stamp

opened : (f : RegSession) (from : ℕ) (r : Reply) → opens_round f.phase (session_after f from r).phase ≡ true → Opened f (session_after f from r)
opened f from r = by_reach (is_reached (hears f.round from (reply_cell r))) f.phase refl
  where
    g : RegSession
    g = record f { round = hears f.round from (reply_cell r) }

    by_reach : (t : Bool) (p : RegPhase) → f.phase ≡ p → opens_round f.phase (if t then reached g p else g).phase ≡ true → Opened f (if t then reached g p else g)
    by_reach false p e a = absurd (true≢false (sym a ∙ itself f.phase))
      where
        itself : (q : RegPhase) → opens_round q q ≡ false
        itself phase.Fixing = refl
        itself phase.Asking = refl
        itself phase.Stamping = refl
        itself (phase.Storing stamp) = refl
        itself (phase.Done end) = refl
    by_reach true phase.Stamping e a = record { first = e; stamp = next_stamp (found_cell (greatest_heard g.round)).stamp g.call; second = refl }
    by_reach true phase.Fixing e a = absurd (true≢false (sym a ∙ ap (λ (q : RegPhase). opens_round q (reached g phase.Fixing).phase) e))
    by_reach true phase.Asking e a = absurd (true≢false (sym a ∙ ap (λ (q : RegPhase). opens_round q (reached g phase.Asking).phase) e))
    by_reach true (phase.Storing stamp) e a = absurd (true≢false (sym a ∙ ap (λ (q : RegPhase). opens_round q (reached g (phase.Storing stamp)).phase) e))
    by_reach true (phase.Done end) e a = absurd (true≢false (sym a ∙ ap (λ (q : RegPhase). opens_round q (reached g (phase.Done end)).phase) e))

second_pays : (f g : RegSession) → g.work ≡ f.work → Opened f g → Pays (session.Register f) (session.Register g) (awaited (round_requests g))
second_pays f g e d service replica = by_work f.work refl
  where
    by_work : (w : RegWork) → f.work ≡ w → outs_to (Replica service replica) (awaited (round_requests g)) + rounds_by f.work f.phase ≤ rounds_by g.work g.phase
    by_work (work.Read key) a =
        let z = asks_none service replica g (ap (λ (w : RegWork). phase_request g.call w g.phase) (e ∙ a) ∙ ap (λ (p : RegPhase). phase_request g.call (work.Read key) p) d.second) in
        let b : rounds_by f.work f.phase ≡ 1 = ap (λ (w : RegWork). rounds_by w f.phase) a in
        let y : rounds_by g.work g.phase ≡ 1 = ap (λ (w : RegWork). rounds_by w g.phase) (e ∙ a) in
        omega (arith, z, b, y)
    by_work (work.Fix deps) a =
        let z = asks_none service replica g (ap (λ (w : RegWork). phase_request g.call w g.phase) (e ∙ a) ∙ ap (λ (p : RegPhase). phase_request g.call (work.Fix deps) p) d.second) in
        let b : rounds_by f.work f.phase ≡ 1 = ap (λ (w : RegWork). rounds_by w f.phase) a in
        let y : rounds_by g.work g.phase ≡ 1 = ap (λ (w : RegWork). rounds_by w g.phase) (e ∙ a) in
        omega (arith, z, b, y)
    by_work (work.Write key value) a =
        let z = round_few service replica g in
        let b : rounds_by f.work f.phase ≡ 1 = ap (λ (w : RegWork). rounds_by w f.phase) a ∙ ap (λ (p : RegPhase). rounds_by (work.Write key value) p) d.first in
        let y : rounds_by g.work g.phase ≡ 2 = ap (λ (w : RegWork). rounds_by w g.phase) (e ∙ a) ∙ ap (λ (p : RegPhase). rounds_by (work.Write key value) p) d.second in
        omega (arith, z, b, y)

-- a round that loses a replica
without_rounds : (x : Session) (id : ServiceId) (replica : ℕ) → rounds_of (session_without x (Replica id replica)) ≡ rounds_of x
without_rounds session.Idle id replica = refl
without_rounds (session.Fixing r) id replica = refl
without_rounds (session.Register r) id replica = cond_both (same_service r.service id) _ r (λ (g : RegSession). rounds_by g.work g.phase ≡ rounds_by r.work r.phase) (λ t. refl) (λ t. refl)
without_rounds (session.Transaction t) id replica = refl
without_rounds (session.Snapshot t) id replica = refl
without_rounds (session.Settling attempt shards) id replica = refl

pub same_rounds : (net : List Message) (o : ℕ) (v w : Owner) → w.losses ≡ v.losses → rounds_of w.session ≡ rounds_of v.session → Due net o v → Due net o w
same_rounds net o v w e f h = pays net o v w [] e (none v.session w.session (omega (arith, f))) h

-- an owner comes to rest, and goes from work to work
pub resting_due : (net : List Message) (s : State) (o : ℕ) (w : Owner) → Resting s o w → OwnAwaited net o (owner_at s o) → Due net o (owner_at s o) → Due net o w
resting_due net s o _ (plans e b) g h = same_rounds net o (owner_at s o) _ refl (sym (ap rounds_of (g.unstarted b).0)) h
resting_due net s o _ (past id x rest time l e) g h = same_rounds net o (owner_at s o) _ refl (sym (ap rounds_of (g.waiting time e))) h
resting_due net s o _ (fixed id x rest r e l a b d) g h = same_rounds net o (owner_at s o) _ refl (sym (ap rounds_of a)) h
resting_due net s o _ (cleared r e l a b d) g h = same_rounds net o (owner_at s o) _ refl (sym (ap rounds_of a)) h

pub working_due : (net : List Message) (at : Reading) (s : State) (o : ℕ) (w : Owner) → Working at s o w → IsFree (owner_at s o) → Due net o (owner_at s o) → Due net o w
working_due net at s o _ (owes_nothing id rest l) f h = same_rounds net o (owner_at s o) _ refl (sym (ap rounds_of f.idle)) h
working_due net at s o _ (is_past id time rest l e) f h = same_rounds net o (owner_at s o) _ refl (sym (ap rounds_of f.idle)) h
working_due net at s o _ (enters_own x l e g) f h = due_same net o (owner_at s o) _ refl refl h

-- an owner that leaves its works begins what it then sends
fix_pays : (x : Session) (r : RegSession) (deps : List Dep) → r.work ≡ work.Fix deps → r.phase ≡ phase.Fixing → rounds_of x ≡ 0 → Pays x (session.Fixing r) (awaited (round_requests r))
fix_pays x r deps e f z service replica = let y = fix_none service replica r deps e f in omega (arith, y, z)

first_pays : (x : Session) (r : RegSession) → rounds_by r.work r.phase ≡ 1 → rounds_of x ≡ 0 → Pays x (session.Register r) (awaited (round_requests r))
first_pays x r e z service replica = let y = round_few service replica r in omega (arith, y, z, e)

pub leaving_spared : (c : Config) (at : Reading) (net : List Message) (s : State) (o : ℕ) (w : Owner) (outs : List Out) → Leaving c at s o w outs → IsFree (owner_at s o) → Due net o (owner_at s o) → Spared net o w outs
leaving_spared c at net s o _ _ (waits id time rest l) f h = due_same net o (owner_at s o) _ refl refl h
leaving_spared c at net s o _ _ (fixes_work id rest l) f h = pays net o (owner_at s o) _ _ refl (fix_pays (session_at s o) (fix_session c s o id) _ refl refl (ap rounds_of f.idle)) h
leaving_spared c at net s o _ _ (fixes_own x dep deps l e d) f h = pays net o (owner_at s o) _ _ refl (fix_pays (session_at s o) (fix_session c s o (service_of x)) _ refl refl (ap rounds_of f.idle)) h
leaving_spared c at net s o _ _ (asks_register key l e d) f h = pays net o (owner_at s o) _ _ refl (first_pays (session_at s o) (session_for c s o (work.Read key) key.service) refl (ap rounds_of f.idle)) h
leaving_spared c at net s o _ _ (stamps_register key value l e d) f h = pays net o (owner_at s o) _ _ refl (first_pays (session_at s o) (session_for c s o (work.Write key value) key.service) refl (ap rounds_of f.idle)) h
leaving_spared c at net s o w outs (begins_snapshot keys t l e d) f h = pays net o (owner_at s o) w outs refl (to_shards (session_at s o) w.session outs (ap rounds_of f.idle) (leaving_outs c at s o w outs (begins_snapshot keys t l e d))) h
leaving_spared c at net s o w outs (begins_txn reads guard writes t l e d) f h = pays net o (owner_at s o) w outs refl (to_shards (session_at s o) w.session outs (ap rounds_of f.idle) (leaving_outs c at s o w outs (begins_txn reads guard writes t l e d))) h
leaving_spared c at net s o _ _ (fence_done l e) f h = due_same net o (owner_at s o) _ refl refl h
leaving_spared c at net s o _ _ (stub_done u l e) f h = due_same net o (owner_at s o) _ refl refl h

-- losses only grow
more_lost : (xs : List ℕ) (target t : Target) → losses_of xs t ≤ losses_of (one_more_lost xs target) t
more_lost xs target t = by_place (get_or_set xs (target_place target) (losses_of xs target + 1) (target_place t) 0)
  where
    by_place : ((losses_of (one_more_lost xs target) t ≡ losses_of xs target + 1) × (target_place t ≡ target_place target) × (target_place target < length xs)) ⊎ ((losses_of (one_more_lost xs target) t ≡ losses_of xs t) × ((target_place t ≡ target_place target → ⊥) ⊎ (length xs ≤ target_place t))) → losses_of xs t ≤ losses_of (one_more_lost xs target) t
    by_place (inl e) = let a = e.0 in let b : losses_of xs t ≡ losses_of xs target = ap (λ (n : ℕ). get_or xs n 0) e.1 in omega (arith, a, b)
    by_place (inr e) = let a = e.0 in omega (arith, a)

one_lost : (xs : List ℕ) (t : Target) → target_place t < length xs → losses_of (one_more_lost xs t) t ≡ losses_of xs t + 1
one_lost xs t l = get_or-set_same xs (target_place t) (losses_of xs t + 1) 0 l

pub counted_due : (net : List Message) (o : ℕ) (v : Owner) (target : Target) → Due net o v → Due net o (record v { losses = one_more_lost v.losses target })
counted_due net o v target h = record {
  size = length-set v.losses (target_place target) _ ∙ h.size;
  due = λ service replica l. let d = h.due service replica l in let m = more_lost v.losses target (Replica service replica) in omega (arith, d, m);
}

-- a loss is as much as the request that is sent again for it
pub again_spared : (net : List Message) (o : ℕ) (v : Owner) (slot : Option ℕ) (target : Target) (r : Request) → Due net o v → Spared net o (record v { losses = one_more_lost v.losses target }) (record { slot = slot; target = target; request = r } ∷ [])
again_spared net o v slot target r h = record {
  size = length-set v.losses (target_place target) _ ∙ h.size;
  due = λ service replica l. by_same service replica l (counts (Replica service replica) target r) refl;
}
  where
    by_same : (service : ServiceId) (replica : ℕ) → replica_place service replica < target_count → (b : Bool) → counts (Replica service replica) target r ≡ b → own_requests o (Replica service replica) net + (if b then 1 else 0) ≤ rounds_of v.session + losses_of (one_more_lost v.losses target) (Replica service replica)
    by_same service replica l false e = let d = h.due service replica l in let m = more_lost v.losses target (Replica service replica) in omega (arith, d, m)
    by_same service replica l true e =
        let q : target ≡ Replica service replica = same_target-true target (Replica service replica) (and_parts (if stores_dependencies r then false else true) (same_target target (Replica service replica)) e).1 in
        let d = h.due service replica l in
        let m : losses_of (one_more_lost v.losses target) (Replica service replica) ≡ losses_of v.losses (Replica service replica) + 1 =
        subst (λ (x : Target). losses_of (one_more_lost v.losses x) (Replica service replica) ≡ losses_of v.losses (Replica service replica) + 1) (sym q) (one_lost v.losses (Replica service replica) (subst (λ (n : ℕ). replica_place service replica < n) (sym h.size) l)) in
        omega (arith, d, m)

turning_none : (s : State) (o : ℕ) (x : Session) (outs : List Out) → ShardTurning s o x outs → rounds_of (session_at s o) ≡ 0
turning_none s o _ _ (txn_heard t l at r e) = ap rounds_of e
turning_none s o _ _ (txn_woken t l e) = ap rounds_of e
turning_none s o _ _ (txn_passed t e) = ap rounds_of e
turning_none s o _ _ (snap_heard t l r e) = ap rounds_of e
turning_none s o _ _ (snap_woken t l e) = ap rounds_of e

turning_shards : (s : State) (o : ℕ) (x : Session) (outs : List Out) → ShardTurning s o x outs → All (SessionOut x) outs → All ToShard outs
turning_shards s o _ _ (txn_heard t l at r e) a = a
turning_shards s o _ _ (txn_woken t l e) a = a
turning_shards s o _ _ (txn_passed t e) a = a
turning_shards s o _ _ (snap_heard t l r e) a = a
turning_shards s o _ _ (snap_woken t l e) a = a

hears_pays : (x : Session) (f : RegSession) (from : ℕ) (r : Reply) → x ≡ session.Register f → Pays x (session.Register (session_after f from r)) []
hears_pays x f from r e = let a = after_rounds f from r in let b = ap rounds_of e in none x (session.Register (session_after f from r)) (omega (arith, a, b))

pub doing_spared : (net : List Message) (s : State) (o : ℕ) (w : Owner) (outs : List Out) (new : List Dep) → Doing s o w outs new → OwnAwaited net o (owner_at s o) → Due net o (owner_at s o) → Spared net o w outs
doing_spared net s o _ _ _ (listens_one slot r d) g h = due_same net o (owner_at s o) _ refl refl h
doing_spared net s o _ _ _ (fix_hears f slot r x d e) g h = same_rounds net o (owner_at s o) _ refl (sym (ap rounds_of x)) h
doing_spared net s o _ _ _ (fix_reached f slot r y x d e) g h = same_rounds net o (owner_at s o) _ refl (sym (ap rounds_of x)) h
doing_spared net s o _ _ _ (register_hears f slot r x d a e) g h = pays net o (owner_at s o) _ [] refl (hears_pays (session_at s o) f (slot_replica slot) r x) h
doing_spared net s o _ _ _ (register_stores f slot r x d a e) g h =
    pays net o (owner_at s o) _ _ refl (subst (λ (y : Session). Pays y (session.Register (session_after f (slot_replica slot) r)) (awaited (round_requests (session_after f (slot_replica slot) r)))) (sym x) (second_pays f (session_after f (slot_replica slot) r) (after-stays f (slot_replica slot) r).0 (opened f (slot_replica slot) r a))) h
doing_spared net s o _ _ _ (register_reached f slot r y x d e) g h = pays net o (owner_at s o) _ [] refl (hears_pays (session_at s o) f (slot_replica slot) r x) h
doing_spared net s o _ _ _ (read_ends f key cell dep x a b) g h = due_same net o (owner_at s o) _ refl refl h
doing_spared net s o _ _ _ (write_ends f key value e x a b) g h = due_same net o (owner_at s o) _ refl refl h
doing_spared net s o _ _ _ (txn_ends y t time a b d) g h = due_same net o (owner_at s o) _ refl refl h
doing_spared net s o _ _ _ (snap_ends y t time a b d) g h = due_same net o (owner_at s o) _ refl refl h
doing_spared net s o _ _ _ (counts_one target) g h = counted_due net o (owner_at s o) target h
doing_spared net s o _ _ _ (cuts_one id replica) g h = same_rounds net o (owner_at s o) _ refl (without_rounds (session_at s o) id replica) h
doing_spared net s o _ _ _ (is_closed f) g h = due_same net o (owner_at s o) _ refl refl h
doing_spared net s o _ _ _ forgets_all g h = due_same net o (owner_at s o) _ refl refl h
doing_spared net s o _ _ _ (turns x outs y) g h = pays net o (owner_at s o) _ outs refl (to_shards (session_at s o) x outs (turning_none s o x outs y) (turning_shards s o x outs y (doing_outs s o (turned s o x) outs [] (turns x outs y)))) h
doing_spared net s o w outs new (stub_asks attempt shards e b) g h = pays net o (owner_at s o) w outs refl (to_shards (session_at s o) w.session outs (ap rounds_of (g.unstarted b).0) (doing_outs s o w outs new (stub_asks attempt shards e b))) h
