-- What owners do keeps them, what they send, and what they leave fine.
use Rattle.std.proofs.Common.{◌≡◌, ℕ, ◌-◌, ◌≤◌, false, List, ◌∷◌, length, Option, Some, None, All, refl, sym, subst, arith}
use Rattle.std.specs.Prelude.{⊤}
use Rattle.std.proofs.lemmas.Bool.{cond_both}
use Rattle.std.proofs.lemmas.List.{length-drop}
use Rattle.std.proofs.lemmas.List.Elements.{All-nil, All-head, All-weaker, All-drop}
use Rattle.truetime.specs.Reading.{Reading}
use Rattle.rss_names.specs.declared.service.ServiceId.{ServiceId}
use Rattle.rss_names.specs.declared.service.Target.{Target}
use Rattle.rss_names.specs.declared.service.Target.TheVariants.{Shard as OnShard, Replica}
use Rattle.pipeline_lang.specs.Config.{body_of, home_of}
use Rattle.pipeline_lang.specs.declared.config.Config.{Config}
use Rattle.rss_model.specs.declared.op.Op.{Op}
use Rattle.rss_model.specs.declared.op.Op.TheVariants as op
use Rattle.rss_wire.specs.declared.messages.Reply.{Reply}
use Rattle.rss_wire.specs.declared.messages.Request.{Request}
use Rattle.rss_tables.specs.Outs.{Out, awaited}
use Rattle.rss_tables.specs.RegisterSession.{RegSession, round_requests, phase_request, session_after, reached, reply_cell}
use Rattle.rss_tables.specs.Round.{hears, is_reached}
use Rattle.rss_tables.specs.SnapshotSession.{SnapSession, snap_starts}
use Rattle.rss_tables.specs.TransactionSession.{TxnSession, txn_starts}
use Rattle.causal_context.specs.Seen.{Seen}
use Rattle.rss_tables.specs.Works.{Works, plan_all, planned, no_works}
use Rattle.rss_tables.specs.declared.fences.FenceWork.{FenceWork}
use Rattle.rss_tables.specs.declared.fences.FenceWork.TheVariants.{Past}
use Rattle.rss_tables.specs.declared.register_session.RegPhase.{RegPhase}
use Rattle.rss_tables.specs.declared.register_session.RegPhase.TheVariants as phase
use Rattle.rss_tables.specs.declared.register_session.RegWork.{RegWork}
use Rattle.rss_tables.specs.declared.register_session.RegWork.TheVariants as work
use Rattle.rss_machine.specs.Calls.{session_for, least_for}
use Rattle.rss_machine.specs.Moves.{round_without, session_without}
use Rattle.rss_machine.specs.Session.{Session, service_of}
use Rattle.rss_machine.specs.State.{State, Owner, owner_at, opening_owner}
use Rattle.rss_machine.specs.declared.session.OwnerKind.{OwnerKind}
use Rattle.rss_machine.specs.declared.session.Session.TheVariants as session
use Rattle.rss_names.specs.Services.{same_service}
use Rattle.causal_context.specs.Services.{IsService}
use Rattle.world_laws.specs.Served.{IsServed}
use Rattle.world_laws.specs.Shapes.{IsSoundFile}
use Rattle.world_laws.specs.Times.{RequestTimesUpTo, TxnUpTo, SnapUpTo, WaitUpTo}
use Rattle.world_laws.proofs.Doings.{Beginning, calls, fences, Resting, plans, past, fixed, cleared, Working, owes_nothing, is_past, enters_own, Leaving, waits, fixes_work, fixes_own, asks_register, stamps_register, begins_snapshot, begins_txn, fence_done, stub_done, fence_ended, fix_session}
use Rattle.world_laws.proofs.Sent.{RoundOut, round_outs}
use Rattle.world_laws.proofs.Sound.{operation_fits}
use Rattle.rss_machine.specs.State.{stage_at}
use Rattle.size_laws.specs.Fine.{Fine, WorkFine, WorkServed, SessionFine, KindFine, OwnerFine, AllFine}
use Rattle.size_laws.proofs.Contexts.{least_up, fence_fine, outside_fine, entered_fine, cleared_fine, all_fences, few_fences, for_fences, few_for}
use Rattle.size_laws.proofs.Turns.{OutUpTo, txn_starts_up, snap_starts_up}

-- SERVICES

-- the service of a call is one of sixteen
pub served_is : (c : Config) (x : Op) → IsServed c x → IsService (service_of x)
served_is c (op.Read key) h = subst IsService (sym h.is) (h.first, h.last)
served_is c (op.Write key value) h = subst IsService (sym h.is) (h.first, h.last)
served_is c (op.Snap keys) h = subst IsService (sym h.is) h.service
served_is c (op.Txn reads guard writes) h = subst IsService (sym h.is) h.service

-- REQUESTS OF ROUNDS

abbrev AskIs : ℕ → Option Request → Type 0
AskIs b None = ⊤
AskIs b (Some r) = RequestTimesUpTo b r

ask_is : (b call : ℕ) (w : RegWork) (x : RegPhase) → AskIs b (phase_request call w x)
ask_is b call (work.Fix deps) phase.Fixing = tt
ask_is b call (work.Fix deps) phase.Asking = tt
ask_is b call (work.Fix deps) phase.Stamping = tt
ask_is b call (work.Fix deps) (phase.Storing stamp) = tt
ask_is b call (work.Fix deps) (phase.Done end) = tt
ask_is b call (work.Read key) phase.Fixing = tt
ask_is b call (work.Read key) phase.Asking = tt
ask_is b call (work.Read key) phase.Stamping = tt
ask_is b call (work.Read key) (phase.Storing stamp) = tt
ask_is b call (work.Read key) (phase.Done end) = tt
ask_is b call (work.Write key value) phase.Fixing = tt
ask_is b call (work.Write key value) phase.Asking = tt
ask_is b call (work.Write key value) phase.Stamping = tt
ask_is b call (work.Write key value) (phase.Storing stamp) = tt
ask_is b call (work.Write key value) (phase.Done end) = tt

-- a round asks with no time
pub round_up : (b : ℕ) (r : RegSession) → All (OutUpTo b) (awaited (round_requests r))
round_up b r = All-weaker (RoundOut r) (OutUpTo b) (λ out k. subst (AskIs b) k.asked (ask_is b r.call r.work r.phase)) (awaited (round_requests r)) (round_outs r)

-- SESSIONS OF REGISTERS

-- a round goes on with the same work
reached_work : (r : RegSession) (x : RegPhase) → (reached r x).work ≡ r.work
reached_work r phase.Fixing = refl
reached_work r phase.Asking = refl
reached_work r phase.Stamping = refl
reached_work r (phase.Storing stamp) = refl
reached_work r (phase.Done end) = refl

after_work : (f : RegSession) (from : ℕ) (r : Reply) → (session_after f from r).work ≡ f.work
after_work f from r =
    let g = record f { round = hears f.round from (reply_cell r) } in
    cond_both (is_reached (hears f.round from (reply_cell r))) (reached g f.phase) g (λ (x : RegSession). x.work ≡ f.work) (λ e. reached_work g f.phase) (λ e. refl)

pub after_served : (f : RegSession) (from : ℕ) (r : Reply) → WorkServed f.work → WorkServed (session_after f from r).work
after_served f from r h = subst WorkServed (sym (after_work f from r)) h

without_served : (r : RegSession) (service : ServiceId) (replica : ℕ) → WorkServed r.work → WorkServed (round_without r service replica).work
without_served r service replica h = cond_both (same_service r.service service) _ r (λ (x : RegSession). WorkServed x.work) (λ e. h) (λ e. h)

pub without_fine : (b : ℕ) (x : Session) (target : Target) → SessionFine b x → SessionFine b (session_without x target)
without_fine b session.Idle target h = tt
without_fine b (session.Register r) (Replica service replica) h = without_served r service replica h
without_fine b (session.Register r) (OnShard n) h = h
without_fine b (session.Fixing r) (Replica service replica) h = tt
without_fine b (session.Fixing r) (OnShard n) h = tt
without_fine b (session.Transaction t) target h = h
without_fine b (session.Snapshot t) target h = h
without_fine b (session.Settling attempt shards) target h = tt

-- OWNERS

-- with the works, the session and the kind that it had
pub owner_kept : (b : ℕ) (v w : Owner) → w.works ≡ v.works → w.session ≡ v.session → w.kind ≡ v.kind → OwnerFine b v → OwnerFine b w
owner_kept b v w e f g h = record {
  copy = subst (λ (x : Works). Fine b x.copy) (sym e) h.copy;
  left = subst (λ (x : Works). All (WorkFine b) x.left) (sym e) h.left;
  few = subst (λ (x : Works). length x.left ≤ 16) (sym e) h.few;
  wait = subst (λ (x : Works). WaitUpTo b x.wait) (sym e) h.wait;
  session = subst (SessionFine b) (sym f) h.session;
  kind = subst KindFine (sym g) h.kind;
}

-- with another session
pub owner_turned : (b : ℕ) (v w : Owner) → w.works ≡ v.works → w.kind ≡ v.kind → SessionFine b w.session → OwnerFine b v → OwnerFine b w
owner_turned b v w e g k h = owner_kept b (record v { session = w.session }) w e refl g (record { copy = h.copy; left = h.left; few = h.few; wait = h.wait; session = k; kind = h.kind })

-- one that begins without works, or with those of a plan
pub bare_fine : (b n step : ℕ) (k : OwnerKind) (x : Seen) → KindFine k → Fine b x → OwnerFine b (opening_owner n k false (no_works x) step)
bare_fine b n step k x i h = record { copy = h; left = All-nil (WorkFine b); few = omega arith; wait = tt; session = tt; kind = i }

pub planned_all : (b : ℕ) (w : Owner) → Fine b w.works.copy → w.works ≡ planned w.works.copy (plan_all w.works.copy) → w.session ≡ session.Idle → KindFine w.kind → OwnerFine b w
planned_all b w h e f k = record {
  copy = h;
  left = subst (λ (x : Works). All (WorkFine b) x.left) (sym e) (all_fences b w.works.copy h);
  few = subst (λ (x : Works). length x.left ≤ 16) (sym e) (few_fences b w.works.copy h);
  wait = subst (λ (x : Works). WaitUpTo b x.wait) (sym e) tt;
  session = subst (SessionFine b) (sym f) tt;
  kind = k;
}

-- how a call or a fence statement begins
pub beginning_fine : (b : ℕ) (c : Config) (s : State) (w : Owner) → IsSoundFile c → Beginning c s w → AllFine b s → OwnerFine b w
beginning_fine b c s _ f (calls n x e) h =
    let seen = (stage_at s n).context in
    let g : Fine b seen = h.stages (n - 1) in
    record {
      copy = g;
      left = for_fences b seen (service_of x) g;
      few = few_for b seen (service_of x) g;
      wait = tt;
      session = tt;
      kind = served_is c x (operation_fits c n (stage_at s n).cursor.position (stage_at s n).cursor.variables x f e).served;
    }
beginning_fine b c s _ f (fences n) h = planned_all b _ (h.stages (n - 1)) refl refl tt

-- behind a fence
pub ended_fine : (b : ℕ) (s : State) (o : ℕ) (id : ServiceId) → OwnerFine b (owner_at s o) → OwnerFine b (fence_ended s o id)
ended_fine b s o id h = record {
  copy = fence_fine b (owner_at s o).works.copy id h.copy;
  left = All-drop (WorkFine b) 1 (owner_at s o).works.left h.left;
  few = let e = length-drop 1 (owner_at s o).works.left in let l = h.few in omega (arith, e, l);
  wait = tt;
  session = tt;
  kind = h.kind;
}

pub resting_fine : (b : ℕ) (s : State) (o : ℕ) (w : Owner) → Resting s o w → OwnerFine b (owner_at s o) → OwnerFine b w
resting_fine b s o _ (plans e k) h = planned_all b _ h.copy refl refl h.kind
resting_fine b s o _ (past id x rest time l e) h = ended_fine b s o id h
resting_fine b s o _ (fixed id x rest r e l a k f) h = ended_fine b s o id h
resting_fine b s o _ (cleared r e l a k f) h = record { copy = cleared_fine b (owner_at s o).works.copy h.copy; left = h.left; few = h.few; wait = h.wait; session = tt; kind = h.kind }

pub working_fine : (b : ℕ) (at : Reading) (s : State) (o : ℕ) (w : Owner) → at.latest ≤ b → Working at s o w → OwnerFine b (owner_at s o) → OwnerFine b w
working_fine b at s o _ l (owes_nothing id rest k) h = ended_fine b s o id h
working_fine b at s o _ l (is_past id time rest k e) h = ended_fine b s o id h
working_fine b at s o _ l (enters_own x k e f) h = record { copy = entered_fine b (owner_at s o).works.copy (service_of x) at.latest (subst KindFine e h.kind) l h.copy; left = h.left; few = h.few; wait = h.wait; session = h.session; kind = h.kind }

-- the session and the works that an owner leaves with
first_time : (b time : ℕ) (id : ServiceId) (works rest : List (ServiceId × FenceWork)) → works ≡ (id, Past time) ∷ rest → All (WorkFine b) works → time ≤ b
first_time b time id works rest e h = (All-head (WorkFine b) (id, Past time) rest (subst (All (WorkFine b)) e h)).0

-- a transaction and a snapshot begin
pub record Left (b : ℕ) (w : Owner) (outs : List Out) : Type 0 where
  pub owner : OwnerFine b w
  pub sent : All (OutUpTo b) outs

pub leaving_fine : (b : ℕ) (c : Config) (at : Reading) (s : State) (o : ℕ) (w : Owner) (outs : List Out) → IsSoundFile c → at.latest ≤ b → Leaving c at s o w outs → OwnerFine b (owner_at s o) → Left b w outs
leaving_fine b c at s o _ _ f l (waits id time rest k) h = record { owner = record { copy = h.copy; left = h.left; few = h.few; wait = first_time b time id (owner_at s o).works.left rest k h.left; session = h.session; kind = h.kind }; sent = All-nil (OutUpTo b) }
leaving_fine b c at s o _ _ f l (fixes_work id rest k) h = record { owner = owner_turned b (owner_at s o) _ refl refl tt h; sent = round_up b (fix_session c s o id) }
leaving_fine b c at s o _ _ f l (fixes_own x dep deps k e d) h = record { owner = owner_turned b (owner_at s o) _ refl refl tt h; sent = round_up b (fix_session c s o (service_of x)) }
leaving_fine b c at s o _ _ f l (asks_register key k e d) h = record { owner = owner_turned b (owner_at s o) _ refl refl (subst KindFine e h.kind) h; sent = round_up b (session_for c s o (work.Read key) key.service) }
leaving_fine b c at s o _ _ f l (stamps_register key value k e d) h = record { owner = owner_turned b (owner_at s o) _ refl refl (subst KindFine e h.kind) h; sent = round_up b (session_for c s o (work.Write key value) key.service) }
leaving_fine b c at s o _ _ f l (begins_snapshot keys t k e d) h =
    let least = least_for s o (service_of (op.Snap keys)) in
    let u = snap_starts_up b (home_of c) o keys least at (least_up b (owner_at s o).works.copy.least (service_of (op.Snap keys)) h.copy.times) l in
    record { owner = owner_turned b (owner_at s o) _ refl refl (subst (λ (x : SnapSession). SnapUpTo b (snap_starts x).after) (sym d) u.after) h; sent = subst (λ (x : SnapSession). All (OutUpTo b) (snap_starts x).outs) (sym d) u.outs }
leaving_fine b c at s o _ _ f l (begins_txn reads guard writes t k e d) h =
    let id = service_of (op.Txn reads guard writes) in
    let u = txn_starts_up b (home_of c) o reads guard writes (least_for s o id) (body_of c (owner_at s o).stage).earliest_end (least_up b (owner_at s o).works.copy.least id h.copy.times) (f.within.margins (owner_at s o).stage) in
    record { owner = owner_turned b (owner_at s o) _ refl refl (subst (λ (x : TxnSession). TxnUpTo b (txn_starts x).after) (sym d) u.after) h; sent = subst (λ (x : TxnSession). All (OutUpTo b) (txn_starts x).outs) (sym d) u.outs }
leaving_fine b c at s o _ _ f l (fence_done k e) h = record { owner = owner_kept b (owner_at s o) _ refl refl refl h; sent = All-nil (OutUpTo b) }
leaving_fine b c at s o _ _ f l (stub_done u k e) h = record { owner = record { copy = outside_fine b (owner_at s o).works.copy h.copy; left = h.left; few = h.few; wait = h.wait; session = h.session; kind = h.kind }; sent = All-nil (OutUpTo b) }
