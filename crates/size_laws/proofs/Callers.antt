-- In every run attempts that others wait for are of calls.
use Rattle.std.proofs.Common.{◌≡◌, ℕ, zero, suc, ◌+◌, ◌-◌, ◌<◌, ◌≤◌, Bool, true, false, List, [], ◌∷◌, ◌++◌, length, get_or, Option, Some, None, All, refl, sym, ◌∙◌, subst, arith}
use Rattle.std.specs.Prelude.{⊤, if◌then◌else◌}
use Rattle.std.proofs.Math.ListN.{set}
use Rattle.std.proofs.lemmas.List.Elements.{All-nil, All-cons, All-head, All-tail, All-weaker}
use Rattle.truetime.specs.Reading.{Reading}
use Rattle.rss_names.specs.declared.attempt.Attempt.{Attempt}
use Rattle.rss_names.specs.declared.service.Key.{Key}
use Rattle.rss_names.specs.declared.service.ServiceId.{ServiceId}
use Rattle.rss_names.specs.declared.service.Target.{Target}
use Rattle.rss_names.specs.declared.service.Target.TheVariants.{Shard as OnShard, Replica}
use Rattle.causal_context.specs.declared.dep.Dep.{Dep}
use Rattle.pipeline_lang.specs.Config.{body_of, home_of}
use Rattle.pipeline_lang.specs.declared.config.Config.{Config}
use Rattle.rss_model.specs.declared.history.How.{How}
use Rattle.rss_model.specs.declared.op.Op.{Op}
use Rattle.rss_model.specs.declared.op.Op.TheVariants as op
use Rattle.rss_model.specs.declared.op.Shown.{Shown}
use Rattle.rss_wire.specs.Messages.{no_message, message_at}
use Rattle.rss_wire.specs.declared.message.Fate.{Fate}
use Rattle.rss_wire.specs.declared.message.Message.{Message}
use Rattle.rss_wire.specs.declared.messages.Outcome.{Outcome}
use Rattle.rss_wire.specs.declared.messages.Reply.{Reply}
use Rattle.rss_wire.specs.declared.messages.Request.{Request}
use Rattle.rss_tables.specs.Lines.{Line, tells_decision, line_at}
use Rattle.rss_tables.specs.Outs.{Out, awaited, slot_replica, slot_shard}
use Rattle.rss_tables.specs.RegisterSession.{RegSession, round_requests, phase_request, session_after}
use Rattle.rss_tables.specs.ShardRow.{opening_shard}
use Rattle.rss_tables.specs.SnapshotSession.{SnapSession, snap_starts, snap_end, snap_hears, snap_wakes}
use Rattle.rss_tables.specs.TransactionSession.{TxnSession, txn_starts, txn_end, txn_hears, txn_wakes, txn_passes, shown_reply}
use Rattle.rss_tables.specs.Turns.{Turn}
use Rattle.rss_tables.specs.declared.register_session.RegPhase.{RegPhase}
use Rattle.rss_tables.specs.declared.register_session.RegPhase.TheVariants as phase
use Rattle.rss_tables.specs.declared.register_session.RegWork.{RegWork}
use Rattle.rss_tables.specs.declared.register_session.RegWork.TheVariants as work
use Rattle.rss_machine.specs.Calls.{session_for, least_for, ends_at, forgets_if, txn_turns, snap_turns}
use Rattle.rss_machine.specs.Effect.{stepped, waking_line}
use Rattle.rss_machine.specs.Enabling.{can_wake}
use Rattle.rss_machine.specs.Moves.{ticks, sends_one, sends, plans_stub, listens, turns_session, goes_on, closed, closes_owner, dies, session_without, serves_shard, serves_replica, notes_served}
use Rattle.rss_machine.specs.Refusal.{refusal}
use Rattle.rss_machine.specs.Run.{run}
use Rattle.rss_machine.specs.Session.{Session, service_of}
use Rattle.rss_machine.specs.State.{State, Owner, start, no_owner, owner_at, stage_at, shard_at, cells_at, shards_from, keys_from}
use Rattle.rss_machine.specs.declared.session.OwnerKind.{OwnerKind}
use Rattle.rss_machine.specs.declared.session.OwnerKind.TheVariants as kind
use Rattle.rss_machine.specs.declared.session.Session.TheVariants as session
use Rattle.rss_machine.specs.declared.state.OwnerFate.{OwnerFate}
use Rattle.rss_machine.specs.declared.step.Step.{Step}
use Rattle.world_laws.proofs.Doings.{Changed, Heard, Beginning, calls, fences, Resting, plans, past, fixed, cleared, Working, owes_nothing, is_past, enters_own, Leaving, waits, fixes_work, fixes_own, asks_register, stamps_register, begins_snapshot, begins_txn, fence_done, stub_done, Doing, listens_one, fix_hears, fix_reached, register_hears, register_stores, register_reached, read_ends, write_ends, txn_ends, snap_ends, counts_one, cuts_one, is_closed, forgets_all, turns, stub_asks, fix_session}
use Rattle.world_laws.proofs.Looks.{looks, some_is, none_is_not}
use Rattle.world_laws.proofs.OwnerWalk.{StepKeeps, step_walk}
use Rattle.world_laws.proofs.Runs.{passes, run_keeps}
use Rattle.world_laws.proofs.Sent.{RoundOut, round_outs, sends_each}
use Rattle.world_laws.proofs.SessionMoves.{session_at}
use Rattle.world_laws.proofs.StageMoves.{AnyFate, AnyState, ended_to}
use Rattle.world_laws.proofs.StoreMoves.{Serves}
use Rattle.world_laws.proofs.TurnMoves.{StepMoves, IsNoTurn, ShardTurn, txn_answered, snap_answered, txn_wakes_one, snap_wakes_one, txn_passes_time}
use Rattle.size_laws.specs.Callers.{LocksCall, PreparesCall, ShardCalls, RequestCalls, ReplyCalls, BodyCalls, LineCalls, TxnCalls, SessionCalls, OwnersCall, NetCalls, ShardsCall, AllCalls}
use Rattle.size_laws.proofs.CallerRows.{OutCalls, after_calls, reply_calls, replica_calls, line_calls, tells_calls, TxnTurns, txn_hears_calls, txn_wakes_calls, txn_passes_calls, txn_starts_calls, SnapTurns, snap_hears_calls, snap_wakes_calls, snap_starts_calls}
use Rattle.size_laws.proofs.Moves.{set_each, push_each}

-- THE NET AND OWNERS

abbrev Says : Message → Type 0
Says x = BodyCalls x.body

more_told : (net : List Message) (x : Message) → Says x → NetCalls net → NetCalls (net ++ x ∷ [])
more_told net x k h = push_each Says no_message net x k h

fated : (net : List Message) (n : ℕ) (f : Fate) → NetCalls net → NetCalls (set net n (record (message_at net n) { fate = f }))
fated net n f h = set_each Says no_message net n (record (message_at net n) { fate = f }) (h n) h

abbrev Under : Owner → Type 0
Under w = SessionCalls w.session

set_owner : (owners : List Owner) (o : ℕ) (w : Owner) → w.kind ≡ (get_or owners o no_owner).kind → Under w → OwnersCall owners → OwnersCall (set owners o w)
set_owner owners o w e q h = record {
  some = long owners o w h.some;
  nobody = first owners o w e h.nobody;
  each = set_each Under no_owner owners o w q h.each;
}
  where
    long : (xs : List Owner) (o : ℕ) (w : Owner) → 0 < length xs → 0 < length (set xs o w)
    long xs o w l = grind (arith, looks, l)

    first : (xs : List Owner) (o : ℕ) (w : Owner) → w.kind ≡ (get_or xs o no_owner).kind → (get_or xs 0 no_owner).kind ≡ kind.Fencing → (get_or (set xs o w) 0 no_owner).kind ≡ kind.Fencing
    first xs o w e f = grind (arith, looks, e, f)

push_owner : (owners : List Owner) (w : Owner) → Under w → OwnersCall owners → OwnersCall (owners ++ w ∷ [])
push_owner owners w q h = record { some = long owners w h.some; nobody = first owners w h.some h.nobody; each = push_each Under no_owner owners w q h.each }
  where
    long : (xs : List Owner) (w : Owner) → 0 < length xs → 0 < length (xs ++ w ∷ [])
    long xs w l = grind (arith, looks, l)

    first : (xs : List Owner) (w : Owner) → 0 < length xs → (get_or xs 0 no_owner).kind ≡ kind.Fencing → (get_or (xs ++ w ∷ []) 0 no_owner).kind ≡ kind.Fencing
    first xs w l f = grind (arith, looks, l, f)

same_owner : (s : State) (o : ℕ) (w : Owner) → w.kind ≡ (owner_at s o).kind → w.session ≡ (owner_at s o).session → AllCalls s → OwnersCall (set s.owners o w)
same_owner s o w e f h = set_owner s.owners o w e (subst SessionCalls (sym f) (h.owners.each o)) h.owners

send_one : (o : ℕ) (s : State) (out : Out) → OutCalls out → AllCalls s → AllCalls (sends_one s o out)
send_one o s out q h = record { told = more_told s.net _ q h.told; owners = same_owner s o _ refl refl h; shards = h.shards }

send_all : (o : ℕ) (outs : List Out) (s : State) → All OutCalls outs → AllCalls s → AllCalls (sends s o outs)
send_all o outs s a h = sends_each AllCalls OutCalls o (λ t out q p. send_one o t out q p) outs s a h

changed : (new : List Dep) (s t : State) (owners : List Owner) → Changed new owners s t → OwnersCall owners → AllCalls s → AllCalls t
changed new s t owners d w h = record { told = subst NetCalls (sym d.stores.net) h.told; owners = subst OwnersCall (sym d.owned) w; shards = subst ShardsCall (sym d.stores.shards) h.shards }

changed_one : (new : List Dep) (s t : State) (o : ℕ) (w : Owner) → Changed new (set s.owners o w) s t → w.kind ≡ (owner_at s o).kind → SessionCalls w.session → AllCalls s → AllCalls t
changed_one new s t o w d e q h = changed new s t (set s.owners o w) d (set_owner s.owners o w e q h.owners) h

-- ROUNDS ASK FOR NO LOCKS

abbrev AskCalls : Option Request → Type 0
AskCalls None = ⊤
AskCalls (Some r) = RequestCalls r

ask_calls : (call : ℕ) (w : RegWork) (x : RegPhase) → AskCalls (phase_request call w x)
ask_calls call (work.Fix deps) phase.Fixing = tt
ask_calls call (work.Fix deps) phase.Asking = tt
ask_calls call (work.Fix deps) phase.Stamping = tt
ask_calls call (work.Fix deps) (phase.Storing stamp) = tt
ask_calls call (work.Fix deps) (phase.Done end) = tt
ask_calls call (work.Read key) phase.Fixing = tt
ask_calls call (work.Read key) phase.Asking = tt
ask_calls call (work.Read key) phase.Stamping = tt
ask_calls call (work.Read key) (phase.Storing stamp) = tt
ask_calls call (work.Read key) (phase.Done end) = tt
ask_calls call (work.Write key value) phase.Fixing = tt
ask_calls call (work.Write key value) phase.Asking = tt
ask_calls call (work.Write key value) phase.Stamping = tt
ask_calls call (work.Write key value) (phase.Storing stamp) = tt
ask_calls call (work.Write key value) (phase.Done end) = tt

round_calls : (r : RegSession) → All OutCalls (awaited (round_requests r))
round_calls r = All-weaker (RoundOut r) OutCalls (λ out k. subst AskCalls k.asked (ask_calls r.call r.work r.phase)) (awaited (round_requests r)) (round_outs r)

without_calls : (x : Session) (target : Target) → SessionCalls x → SessionCalls (session_without x target)
without_calls session.Idle target h = tt
without_calls (session.Register r) (Replica service replica) h = tt
without_calls (session.Register r) (OnShard n) h = tt
without_calls (session.Fixing r) (Replica service replica) h = tt
without_calls (session.Fixing r) (OnShard n) h = tt
without_calls (session.Transaction t) target h = h
without_calls (session.Snapshot t) target h = h
without_calls (session.Settling attempt shards) target h = tt

-- MOVES

closes_calls : (s : State) (o : Option ℕ) (f : OwnerFate) → AllCalls s → AllCalls (closes_owner s o f)
closes_calls s None f h = h
closes_calls s (Some o) f h = record { told = h.told; owners = same_owner s o (closed s o f) refl refl h; shards = h.shards }

dies_calls : (s : State) (n : ℕ) (how : How) (f : OwnerFate) → AllCalls s → AllCalls (dies s n how f)
dies_calls s n how f h =
    let t = closes_owner s (stage_at s n).owner f in
    let k : AllCalls t = closes_calls s (stage_at s n).owner f h in
    record { told = k.told; owners = push_owner t.owners _ tt k.owners; shards = k.shards }

begins_calls : (c : Config) (s t : State) (w : Owner) → Beginning c s w → Changed [] (s.owners ++ w ∷ []) s t → AllCalls s → AllCalls t
begins_calls c s t w (calls n x e) d h = changed [] s t (s.owners ++ w ∷ []) d (push_owner s.owners w tt h.owners) h
begins_calls c s t w (fences n) d h = changed [] s t (s.owners ++ w ∷ []) d (push_owner s.owners w tt h.owners) h

rests_calls : (s t : State) (o : ℕ) (w : Owner) → Resting s o w → Changed [] (set s.owners o w) s t → AllCalls s → AllCalls t
rests_calls s t o w (plans e b) d h = changed_one [] s t o w d refl tt h
rests_calls s t o w (past id x rest time l e) d h = changed_one [] s t o w d refl tt h
rests_calls s t o w (fixed id x rest r e l a b f) d h = changed_one [] s t o w d refl tt h
rests_calls s t o w (cleared r e l a b f) d h = changed_one [] s t o w d refl tt h

works_calls : (at : Reading) (s t : State) (o : ℕ) (w : Owner) → Working at s o w → Changed [] (set s.owners o w) s t → AllCalls s → AllCalls t
works_calls at s t o w (owes_nothing id rest l) d h = changed_one [] s t o w d refl tt h
works_calls at s t o w (is_past id time rest l e) d h = changed_one [] s t o w d refl tt h
works_calls at s t o w (enters_own x l e f) d h = changed_one [] s t o w d refl (h.owners.each o) h

-- a call has a number from 1 on
numbered : (s : State) (o : ℕ) (x : Op) → (owner_at s o).kind ≡ kind.Calling x → AllCalls s → 1 ≤ o
numbered s zero x e h = absurd (calling_not x (sym e ∙ h.owners.nobody))
  where
    calling_not : (x : Op) → ◌≡◌ {A = OwnerKind} (kind.Calling x) kind.Fencing → ⊥
    calling_not x e = cc
numbered s (suc o) x e h = omega arith

leaves_calls : (c : Config) (at : Reading) (s t : State) (o : ℕ) (w : Owner) (outs : List Out) → Leaving c at s o w outs → Changed [] (set s.owners o w) s t → AllCalls s → AllCalls (sends t o outs)
leaves_calls c at s t o w _ (waits id time rest l) d h = changed_one [] s t o w d refl (h.owners.each o) h
leaves_calls c at s t o w outs (fixes_work id rest l) d h = send_all o outs t (round_calls (fix_session c s o id)) (changed_one [] s t o w d refl tt h)
leaves_calls c at s t o w outs (fixes_own x dep deps l e f) d h = send_all o outs t (round_calls (fix_session c s o (service_of x))) (changed_one [] s t o w d refl tt h)
leaves_calls c at s t o w outs (asks_register key l e f) d h = send_all o outs t (round_calls (session_for c s o (work.Read key) key.service)) (changed_one [] s t o w d refl tt h)
leaves_calls c at s t o w outs (stamps_register key value l e f) d h = send_all o outs t (round_calls (session_for c s o (work.Write key value) key.service)) (changed_one [] s t o w d refl tt h)
leaves_calls c at s t o w outs (begins_snapshot keys x l e f) d h =
    let k = snap_starts_calls (home_of c) o keys (least_for s o (service_of (op.Snap keys))) at in
    send_all o outs t (subst (λ (y : SnapSession). All OutCalls (snap_starts y).outs) (sym f) k.outs) (changed_one [] s t o w d refl (subst (λ (y : SnapSession). All LineCalls (snap_starts y).after.lines) (sym f) k.after) h)
leaves_calls c at s t o w outs (begins_txn reads guard writes x l e f) d h =
    let k = txn_starts_calls (home_of c) o reads guard writes (least_for s o (service_of (op.Txn reads guard writes))) (body_of c (owner_at s o).stage).earliest_end (numbered s o (op.Txn reads guard writes) e h) in
    send_all o outs t (subst (λ (y : TxnSession). All OutCalls (txn_starts y).outs) (sym f) k.outs) (changed_one [] s t o w d refl (subst (λ (y : TxnSession). TxnCalls (txn_starts y).after) (sym f) k.after) h)
leaves_calls c at s t o w _ (fence_done l e) d h = changed_one [] s t o w d refl (h.owners.each o) h
leaves_calls c at s t o w _ (stub_done u l e) d h = changed_one [] s t o w d refl (h.owners.each o) h

does_calls : (s t : State) (o : ℕ) (w : Owner) (outs : List Out) (new : List Dep) → (x : Doing s o w outs new) → IsNoTurn s o w outs new x → Changed new (set s.owners o w) s t → AllCalls s → AllCalls (sends t o outs)
does_calls s t o w _ new (listens_one slot r k) n d h = changed_one new s t o w d refl (h.owners.each o) h
does_calls s t o w _ new (fix_hears f slot r x k e) n d h = changed_one new s t o w d refl tt h
does_calls s t o w _ new (fix_reached f slot r y x k e) n d h = changed_one new s t o w d refl tt h
does_calls s t o w _ new (register_hears f slot r x k a e) n d h = changed_one new s t o w d refl tt h
does_calls s t o w outs new (register_stores f slot r x k a e) n d h = send_all o outs t (round_calls (session_after f (slot_replica slot) r)) (changed_one new s t o w d refl tt h)
does_calls s t o w _ new (register_reached f slot r y x k e) n d h = changed_one new s t o w d refl tt h
does_calls s t o w _ new (read_ends f key cell dep x a e) n d h = changed_one new s t o w d refl (h.owners.each o) h
does_calls s t o w _ new (write_ends f key value e x a k) n d h = changed_one new s t o w d refl (h.owners.each o) h
does_calls s t o w _ new (txn_ends x y time a e k) n d h = absurd n
does_calls s t o w _ new (snap_ends x y time a e k) n d h = absurd n
does_calls s t o w _ new (counts_one target) n d h = changed_one new s t o w d refl (h.owners.each o) h
does_calls s t o w _ new (cuts_one id replica) n d h = changed_one new s t o w d refl (without_calls (owner_at s o).session (Replica id replica) (h.owners.each o)) h
does_calls s t o w _ new (is_closed f) n d h = changed_one new s t o w d refl (h.owners.each o) h
does_calls s t o w _ new forgets_all n d h = absurd n
does_calls s t o w _ new (turns x outs y) n d h = absurd n
does_calls s t o w outs new (stub_asks attempt shards e k) n d h = send_all o outs t (All-cons OutCalls _ [] tt (All-nil OutCalls)) (changed_one new s t o w d refl tt h)

-- TURNS

ends_at_calls : (c : Config) (s : State) (o : ℕ) (k : OwnerKind) (shown : List Shown) (time : Option ℕ) → AllCalls s → AllCalls (ends_at c s o k shown time)
ends_at_calls c s o (kind.Calling x) shown (Some time) h = record { told = h.told; owners = same_owner s o _ refl refl h; shards = h.shards }
ends_at_calls c s o (kind.Calling x) shown None h = h
ends_at_calls c s o kind.Fencing shown time h = h
ends_at_calls c s o (kind.Stubbing u) shown time h = h

forgets_calls : (x : Bool) (s : State) (o : ℕ) → AllCalls s → AllCalls (forgets_if x s o)
forgets_calls true s o h = record { told = h.told; owners = same_owner s o _ refl refl h; shards = h.shards }
forgets_calls false s o h = h

goes_on_calls : (s : State) (o : ℕ) (x : Session) (outs : List Out) → SessionCalls x → All OutCalls outs → AllCalls s → AllCalls (goes_on s o x outs)
goes_on_calls s o x outs q a h = send_all o outs (turns_session s o x) a (record { told = h.told; owners = set_owner s.owners o _ refl q h.owners; shards = h.shards })

txn_turns_calls : (c : Config) (s : State) (o : ℕ) (turn : Turn TxnSession) → TxnTurns turn → AllCalls s → AllCalls (txn_turns c s o turn)
txn_turns_calls c s o turn k h =
    ends_at_calls c (goes_on (forgets_if turn.anew s o) o (session.Transaction turn.after) turn.outs) o (owner_at s o).kind (shown_reply turn.after.reads turn.after.lines) (txn_end turn.after.phase)
    (goes_on_calls (forgets_if turn.anew s o) o (session.Transaction turn.after) turn.outs k.after k.outs (forgets_calls turn.anew s o h))

snap_turns_calls : (c : Config) (s : State) (o : ℕ) (turn : Turn SnapSession) → SnapTurns turn → AllCalls s → AllCalls (snap_turns c s o turn)
snap_turns_calls c s o turn k h =
    ends_at_calls c (goes_on (forgets_if turn.anew s o) o (session.Snapshot turn.after) turn.outs) o (owner_at s o).kind (shown_reply turn.after.keys turn.after.lines) (snap_end turn.after.phase)
    (goes_on_calls (forgets_if turn.anew s o) o (session.Snapshot turn.after) turn.outs k.after k.outs (forgets_calls turn.anew s o h))

listens_calls : (s : State) (o slot : ℕ) → AllCalls s → AllCalls (listens s o slot)
listens_calls s o slot h = record { told = h.told; owners = same_owner s o _ refl refl h; shards = h.shards }

waking_calls : (s : State) (lines : List Line) (l : Line) → All LineCalls lines → waking_line s lines ≡ Some l → LineCalls l
waking_calls s [] l h e = absurd (none_is_not l e)
waking_calls s (x ∷ lines) l h e = by_test (waking_calls s lines l (All-tail LineCalls x lines h)) (can_wake s x) e
  where
    by_test : (waking_line s lines ≡ Some l → LineCalls l) → (t : Bool) → (if t then Some x else waking_line s lines) ≡ Some l → LineCalls l
    by_test r true p = subst LineCalls (some_is x l p) (All-head LineCalls x lines h)
    by_test r false p = r p

under : (s : State) (o : ℕ) (x : Session) → session_at s o ≡ x → AllCalls s → SessionCalls x
under s o x e h = subst SessionCalls e (h.owners.each o)

heard_calls : (s : State) (o slot : ℕ) (r : Reply) → Heard s o slot r → AllCalls s → ReplyCalls r
heard_calls s o slot r d h = subst BodyCalls d.says (h.told d.number)

turns_calls : (c : Config) (at : Reading) (s t : State) (o : ℕ) → ShardTurn c at s o t → AllCalls s → AllCalls t
turns_calls c at s _ o (txn_answered t slot r e d) h =
    let k : TxnCalls t = under s o (session.Transaction t) e h in
    txn_turns_calls c (listens s o slot) o (txn_hears t (line_at t.lines (slot_shard slot)) at r) (txn_hears_calls t (line_at t.lines (slot_shard slot)) at r (line_calls t.lines (slot_shard slot) k.lines) (heard_calls s o slot r d h) k) (listens_calls s o slot h)
turns_calls c at s _ o (snap_answered t slot r e d) h =
    let k : All LineCalls t.lines = under s o (session.Snapshot t) e h in
    snap_turns_calls c (listens s o slot) o (snap_hears t (line_at t.lines (slot_shard slot)) r) (snap_hears_calls t (line_at t.lines (slot_shard slot)) r (line_calls t.lines (slot_shard slot) k) (heard_calls s o slot r d h) k) (listens_calls s o slot h)
turns_calls c at s _ o (txn_wakes_one t x e w f) h = let k : TxnCalls t = under s o (session.Transaction t) e h in txn_turns_calls c s o (txn_wakes t x) (txn_wakes_calls t x (waking_calls s t.lines x k.lines f) k) h
turns_calls c at s _ o (snap_wakes_one t x e f) h = let k : All LineCalls t.lines = under s o (session.Snapshot t) e h in snap_turns_calls c s o (snap_wakes t x) (snap_wakes_calls t x (waking_calls s t.lines x k f) k) h
turns_calls c at s _ o (txn_passes_time t time e w f) h = let k : TxnCalls t = under s o (session.Transaction t) e h in txn_turns_calls c s o (txn_passes t t.phase) (txn_passes_calls t t.phase k) h

settles_calls : (s : State) (o slot : ℕ) (a : Attempt) (shards : List ℕ) (outcome : Outcome) → AllCalls s → AllCalls (plans_stub (sends (listens s o slot) o (tells_decision a outcome shards)) o)
settles_calls s o slot a shards outcome h =
    let v = sends (listens s o slot) o (tells_decision a outcome shards) in
    let k : AllCalls v = send_all o (tells_decision a outcome shards) (listens s o slot) (tells_calls a outcome shards) (listens_calls s o slot h) in
    record { told = k.told; owners = set_owner v.owners o _ refl tt k.owners; shards = k.shards }

-- THE WALK

calls_moves : (c : Config) (at : Reading) → StepMoves c at AnyFate AnyState AllCalls (λ s o. AllCalls s) (λ s o. AllCalls s)
calls_moves c at = record {
  E = λ s o. ⊤;
  ready = λ s o x k e g h. tt;
  clears = λ s t o x r e i a k g d y z q n h m. tt;
  acting = λ s n o e h. tt;
  heard = λ s o slot exchange e h. tt;
  runs = λ x e. tt;
  counted = λ s n h. tt;
  fates = λ s m x h. record { told = fated s.net m x h.told; owners = h.owners; shards = h.shards };
  again = λ s o exchange slot target r d h. send_one o s (record { slot = Some slot; target = target; request = r }) (subst BodyCalls d.asked (h.told exchange)) h;
  stages = λ s t y d h. changed [] s t s.owners d h.owners h;
  dies = λ s n how x y h. dies_calls s n how x h;
  begins = λ s t w x y a d h. begins_calls c s t w x d h;
  rests = λ s t o w i a x y q d h. rests_calls s t o w x d h;
  settles = λ s o slot attempt shards outcome i a e d h. settles_calls s o slot attempt shards outcome h;
  settled = λ s o h. h;
  works = λ s t o w i x q d h. works_calls at s t o w x d h;
  leaves = λ s t o w outs i x q y d h. leaves_calls c at s t o w outs x d h;
  does = λ s t o w outs new a x n q d h. does_calls s t o w outs new x n d h;
  reaches = λ s t o g slot r e i a x y z q d h. changed_one [] s t o (ended_to s o g slot r) d refl tt h;
  reads = λ s t o g key cell dep a x y z q d h. changed_one _ s t o _ d refl (h.owners.each o) h;
  writes = λ s t o g key value stamp a x y z q d h. changed_one _ s t o _ d refl (h.owners.each o) h;
  unfit = λ s o g e x y z h. h;
  turns = λ s t o a x h. turns_calls c at s t o x h;
}

shard_served : (s : State) (m shard latest : ℕ) (r : Request) → Serves s m r (OnShard shard) → AllCalls s → AllCalls (serves_shard s m shard latest r)
shard_served s m shard latest r d h =
    let q : RequestCalls r = subst BodyCalls d.asks (h.told m) in
    record {
      told = more_told s.net _ (reply_calls (shard_at s shard) latest r q (h.shards (shard - 1))) h.told;
      owners = h.owners;
      shards = set_each ShardCalls (opening_shard []) s.shards (shard - 1) _ (after_calls (shard_at s shard) latest r q (h.shards (shard - 1))) h.shards;
    }

replica_served : (s : State) (m o : ℕ) (id : ServiceId) (replica : ℕ) (r : Request) → AllCalls s → AllCalls (notes_served (serves_replica s m id replica r) o id r)
replica_served s m o id replica r h = record { told = more_told s.net _ (replica_calls (cells_at s id replica) r) h.told; owners = same_owner s o _ refl refl h; shards = h.shards }

calls_keep : (c : Config) (at : Reading) → StepKeeps c at AnyFate AnyState AllCalls (λ s o. AllCalls s) (λ s o. AllCalls s)
calls_keep c at = record {
  moves = calls_moves c at;
  shards = λ s m shard r d h. shard_served s m shard at.latest r d h;
  replicas = λ s m id replica r d h. replica_served s m (message_at s.net m).envelope.owner id replica r h;
}

calls_step : (c : Config) (s : State) (step : Step) → refusal c s step ≡ None → AllCalls s → AllCalls (stepped c s step)
calls_step c s step r h = step_walk c step.at AnyFate AnyState AllCalls (λ t o. AllCalls t) (λ t o. AllCalls t) (calls_keep c step.at) (ticks s step.at) step.kind (passes c s step r).kind tt (record { told = h.told; owners = h.owners; shards = h.shards })

-- THE START

opening_calls : (keys : List Key) → ShardCalls (opening_shard keys)
opening_calls keys = record { locks = All-nil LocksCall; prepared = All-nil PreparesCall }

shards_start : (c : Config) (n : ℕ) (services : List ServiceId) (i : ℕ) → ShardCalls (get_or (shards_from c n services) i (opening_shard []))
shards_start c n [] i = opening_calls []
shards_start c n (id ∷ services) zero = opening_calls (keys_from id n c.homes 0)
shards_start c n (id ∷ services) (suc i) = shards_start c (n + 1) services i

calls_start : (c : Config) → AllCalls (start c)
calls_start c = record {
  told = λ m. subst Says (sym (first m)) tt;
  owners = record { some = omega arith; nobody = refl; each = λ o. subst Under (sym (alone o)) tt };
  shards = shards_start c 1 c.shard_services;
}
  where
    first : (m : ℕ) → get_or (no_message ∷ []) m no_message ≡ no_message
    first m = grind (arith, looks)

    alone : (o : ℕ) → get_or (no_owner ∷ []) o no_owner ≡ no_owner
    alone o = grind (arith, looks)

pub calls_run : (c : Config) (steps : List Step) (s : State) → run c steps ≡ Some s → AllCalls s
calls_run c steps s e = run_keeps c AllCalls (calls_step c) (calls_start c) steps s e
