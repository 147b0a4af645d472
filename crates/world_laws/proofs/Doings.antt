-- What owners do, each with the reason that the rows have for it: how an owner begins, comes to rest
-- between its works, goes from work to work, leaves them for a round or its end, and hears replies.
use Rattle.std.proofs.Common.{◌≡◌, ℕ, ◌<◌, true, false, List, [], ◌∷◌, All, drop, length, Option, Some, None}
use Rattle.std.specs.Prelude.{nat_lt}
use Rattle.std.proofs.Math.ListN.{set}
use Rattle.truetime.specs.Reading.{Reading}
use Rattle.rss_names.specs.declared.attempt.Attempt.{Attempt}
use Rattle.rss_names.specs.declared.service.Key.{Key}
use Rattle.rss_names.specs.declared.service.ServiceId.{ServiceId}
use Rattle.rss_names.specs.declared.service.Target.{Target}
use Rattle.rss_names.specs.declared.service.Target.TheVariants.{Replica}
use Rattle.causal_context.specs.declared.dep.Dep.{Dep}
use Rattle.causal_context.specs.Deps.{deps_of, given_dep}
use Rattle.causal_context.specs.Seen.{after_fence, fenced_outside, entered, deps_cleared}
use Rattle.pipeline_lang.specs.Config.{home_of, body_of}
use Rattle.pipeline_lang.specs.declared.config.Config.{Config}
use Rattle.pipeline_lang.specs.declared.script.Compare.{Compare}
use Rattle.pipeline_lang.specs.declared.script.Expr.{Expr}
use Rattle.rss_model.specs.CallStatement.{op_of_statement}
use Rattle.rss_model.specs.declared.op.Op.{Op}
use Rattle.rss_model.specs.declared.op.Op.TheVariants as op
use Rattle.rss_wire.specs.Messages.{message_at}
use Rattle.rss_wire.specs.declared.message.Body.TheVariants as body
use Rattle.rss_wire.specs.declared.messages.RegReply.{RegReply}
use Rattle.rss_wire.specs.declared.messages.Reply.{Reply}
use Rattle.rss_wire.specs.declared.messages.Request.TheVariants as request
use Rattle.rss_tables.specs.Lines.{Line}
use Rattle.rss_tables.specs.Losses.{one_more_lost}
use Rattle.rss_tables.specs.Outs.{Out, awaited, line_out, slot_replica}
use Rattle.rss_tables.specs.RegisterSession.{RegSession, round_requests, session_after, phase_end}
use Rattle.rss_tables.specs.SnapshotSession.{SnapSession, opening_snapshot, snap_starts, snap_end, snap_hears, snap_wakes}
use Rattle.rss_tables.specs.TransactionSession.{TxnSession, opening_txn, txn_starts, txn_end, txn_hears, txn_wakes, txn_passes}
use Rattle.rss_tables.specs.Works.{planned, plan_for, plan_all}
use Rattle.rss_tables.specs.declared.fences.FenceWork.{FenceWork}
use Rattle.rss_tables.specs.declared.fences.FenceWork.TheVariants.{Nothing, Past, Fix}
use Rattle.rss_tables.specs.declared.register_session.RegEnd.{RegEnd}
use Rattle.rss_tables.specs.declared.register_session.RegEnd.TheVariants as ends
use Rattle.rss_tables.specs.declared.register_session.RegPhase.TheVariants as phase
use Rattle.rss_tables.specs.declared.register_session.RegWork.TheVariants as work
use Rattle.rss_machine.specs.Calls.{session_for, least_for}
use Rattle.rss_machine.specs.Effect.{opens_round, least_shard}
use Rattle.rss_machine.specs.Enabling.{next_statement}
use Rattle.rss_machine.specs.Moves.{closed, session_without}
use Rattle.rss_machine.specs.Session.{Session, service_of}
use Rattle.rss_machine.specs.Slots.{slot_in, without_target}
use Rattle.rss_machine.specs.State.{State, Owner, stage_at, owner_at, opening_owner, no_currents}
use Rattle.rss_machine.specs.declared.session.OwnerKind.TheVariants as kind
use Rattle.rss_machine.specs.declared.session.Session.TheVariants as session
use Rattle.rss_machine.specs.declared.state.OwnerFate.{OwnerFate}
use Rattle.rss_machine.specs.declared.state.OwnerFate.TheVariants.{Ended}
use Rattle.world_laws.specs.Contexts.{AllDeps}
use Rattle.world_laws.proofs.SessionMoves.{session_at}
use Rattle.world_laws.proofs.StoreMoves.{SameStores}

-- the stores stay, the owners become these, and what is true of each dependency that stood, and of
-- these new ones, is true of each that stands
pub record Changed (new : List Dep) (owners : List Owner) (s t : State) : Type 1 where
  pub stores : SameStores s t
  pub owned : t.owners ≡ owners
  pub deps : (G : Dep → Type 0) → All G new → AllDeps G s → AllDeps G t

-- the reply of the current exchange of a slot was sent, and comes
pub record Heard (s : State) (o slot : ℕ) (r : Reply) : Type 0 where
  pub number : ℕ
  pub numbered : 0 < number
  pub sent : number < length s.net
  pub by : (message_at s.net number).envelope.owner ≡ o
  pub says : (message_at s.net number).body ≡ body.Reply r
  pub current : slot_in (owner_at s o).currents (message_at s.net number).envelope.exchange ≡ Some slot

-- an owner behind the fence of a service
abbrev pub fence_ended : State → ℕ → ServiceId → Owner
fence_ended s o id = record (owner_at s o) {
  works = record (owner_at s o).works {
    copy = after_fence (owner_at s o).works.copy id;
    left = drop 1 (owner_at s o).works.left;
    wait = None;
  };
  session = session.Idle;
}

-- an owner with another session, or with one and its first round sent
abbrev pub turned : State → ℕ → Session → Owner
turned s o x = record (owner_at s o) { session = x }

abbrev pub launched : State → ℕ → Session → Owner
launched s o x = record (owner_at s o) { session = x; dates = record (owner_at s o).dates { launched = s.steps } }

-- an owner that has heard a slot, with what it then has under way; and one that awaits nothing more
abbrev pub listened : State → ℕ → ℕ → Owner
listened s o slot = record (owner_at s o) { currents = set (owner_at s o).currents slot None }

abbrev pub heard_to : State → ℕ → ℕ → Session → Owner
heard_to s o slot x = record (owner_at s o) { currents = set (owner_at s o).currents slot None; session = x }

abbrev pub reached_to : State → ℕ → Session → Owner
reached_to s o x = record (owner_at s o) { currents = no_currents; session = x }

-- the round that stores a copy's dependencies on a service's registers
abbrev pub fix_session : Config → State → ℕ → ServiceId → RegSession
fix_session c s o id = session_for c s o (work.Fix (deps_of id (owner_at s o).works.copy.deps)) id

-- how a call or a fence statement begins
pub data Beginning (c : Config) (s : State) : Owner → Type 0 where
  calls : (n : ℕ) (x : Op) → op_of_statement (next_statement c s n) (stage_at s n).cursor.variables ≡ Some x →
      Beginning c s (opening_owner n (kind.Calling x) true (planned (stage_at s n).context (plan_for (stage_at s n).context (service_of x))) s.steps)
  fences : (n : ℕ) → Beginning c s (opening_owner n kind.Fencing true (planned (stage_at s n).context (plan_all (stage_at s n).context)) s.steps)

-- how an owner comes to rest between its works
pub data Resting (s : State) (o : ℕ) : Owner → Type 0 where
  plans : (owner_at s o).kind ≡ kind.Stubbing None → (owner_at s o).started ≡ false →
      Resting s o (record (owner_at s o) { started = true; session = session.Idle; works = planned (owner_at s o).works.copy (plan_all (owner_at s o).works.copy) })
  past : (id : ServiceId) (w : FenceWork) (rest : List (ServiceId × FenceWork)) (time : ℕ) → (owner_at s o).works.left ≡ (id, w) ∷ rest → (owner_at s o).works.wait ≡ Some time → Resting s o (fence_ended s o id)
  fixed : (id : ServiceId) (w : FenceWork) (rest : List (ServiceId × FenceWork)) (r : RegSession) (e : RegEnd) → (owner_at s o).works.left ≡ (id, w) ∷ rest → session_at s o ≡ session.Fixing r → phase_end r.phase ≡ Some e → (owner_at s o).currents ≡ no_currents →
      Resting s o (fence_ended s o id)
  cleared : (r : RegSession) (e : RegEnd) → (owner_at s o).works.left ≡ [] → session_at s o ≡ session.Fixing r → phase_end r.phase ≡ Some e → (owner_at s o).currents ≡ no_currents →
      Resting s o (record (owner_at s o) { works = record (owner_at s o).works { copy = deps_cleared (owner_at s o).works.copy }; session = session.Idle })

-- how an owner goes from work to work
pub data Working (at : Reading) (s : State) (o : ℕ) : Owner → Type 0 where
  owes_nothing : (id : ServiceId) (rest : List (ServiceId × FenceWork)) → (owner_at s o).works.left ≡ (id, Nothing) ∷ rest → Working at s o (fence_ended s o id)
  is_past : (id : ServiceId) (time : ℕ) (rest : List (ServiceId × FenceWork)) → (owner_at s o).works.left ≡ (id, Past time) ∷ rest → nat_lt time at.earliest ≡ true → Working at s o (fence_ended s o id)
  enters_own : (x : Op) → (owner_at s o).works.left ≡ [] → (owner_at s o).kind ≡ kind.Calling x → (owner_at s o).works.enter ≡ true →
      Working at s o (record (owner_at s o) {
        works = record (owner_at s o).works { copy = entered (owner_at s o).works.copy (service_of x) at.latest; enter = false };
        dates = record (owner_at s o).dates { entered = s.steps };
      })

-- how an owner leaves its works: it waits, sends a round, or ends
pub data Leaving (c : Config) (at : Reading) (s : State) (o : ℕ) : Owner → List Out → Type 0 where
  waits : (id : ServiceId) (time : ℕ) (rest : List (ServiceId × FenceWork)) → (owner_at s o).works.left ≡ (id, Past time) ∷ rest →
      Leaving c at s o (record (owner_at s o) { works = record (owner_at s o).works { wait = Some time } }) []
  fixes_work : (id : ServiceId) (rest : List (ServiceId × FenceWork)) → (owner_at s o).works.left ≡ (id, Fix) ∷ rest →
      Leaving c at s o (turned s o (session.Fixing (fix_session c s o id))) (awaited (round_requests (fix_session c s o id)))
  fixes_own : (x : Op) (dep : Dep) (deps : List Dep) → (owner_at s o).works.left ≡ [] → (owner_at s o).kind ≡ kind.Calling x → (owner_at s o).works.copy.deps ≡ dep ∷ deps →
      Leaving c at s o (turned s o (session.Fixing (fix_session c s o (service_of x)))) (awaited (round_requests (fix_session c s o (service_of x))))
  asks_register : (key : Key) → (owner_at s o).works.left ≡ [] → (owner_at s o).kind ≡ kind.Calling (op.Read key) → (owner_at s o).works.copy.deps ≡ [] →
      Leaving c at s o (launched s o (session.Register (session_for c s o (work.Read key) key.service))) (awaited (round_requests (session_for c s o (work.Read key) key.service)))
  stamps_register : (key : Key) (value : ℕ) → (owner_at s o).works.left ≡ [] → (owner_at s o).kind ≡ kind.Calling (op.Write key value) → (owner_at s o).works.copy.deps ≡ [] →
      Leaving c at s o (launched s o (session.Register (session_for c s o (work.Write key value) key.service))) (awaited (round_requests (session_for c s o (work.Write key value) key.service)))
  begins_snapshot : (keys : List Key) (t : SnapSession) → (owner_at s o).works.left ≡ [] → (owner_at s o).kind ≡ kind.Calling (op.Snap keys) → t ≡ opening_snapshot (home_of c) o keys (least_for s o (service_of (op.Snap keys))) at →
      Leaving c at s o (launched s o (session.Snapshot (snap_starts t).after)) (snap_starts t).outs
  begins_txn : (reads : List Key) (guard : Option (Compare ℕ)) (writes : List (Key × Expr ℕ)) (t : TxnSession) → (owner_at s o).works.left ≡ [] → (owner_at s o).kind ≡ kind.Calling (op.Txn reads guard writes) →
      t ≡ opening_txn (home_of c) o reads guard writes (least_for s o (service_of (op.Txn reads guard writes))) (body_of c (owner_at s o).stage).earliest_end →
      Leaving c at s o (launched s o (session.Transaction (txn_starts t).after)) (txn_starts t).outs
  fence_done : (owner_at s o).works.left ≡ [] → (owner_at s o).kind ≡ kind.Fencing → Leaving c at s o (closed s o Ended) []
  stub_done : (u : Option (Attempt × List ℕ)) → (owner_at s o).works.left ≡ [] → (owner_at s o).kind ≡ kind.Stubbing u →
      Leaving c at s o (record (closed s o Ended) { works = record (owner_at s o).works { copy = fenced_outside (owner_at s o).works.copy } }) []

-- how what an owner has under way with shards changes
pub data ShardTurning (s : State) (o : ℕ) : Session → List Out → Type 0 where
  txn_heard : (t : TxnSession) (l : Line) (at : Reading) (r : Reply) → session_at s o ≡ session.Transaction t → ShardTurning s o (session.Transaction (txn_hears t l at r).after) (txn_hears t l at r).outs
  txn_woken : (t : TxnSession) (l : Line) → session_at s o ≡ session.Transaction t → ShardTurning s o (session.Transaction (txn_wakes t l).after) (txn_wakes t l).outs
  txn_passed : (t : TxnSession) → session_at s o ≡ session.Transaction t → ShardTurning s o (session.Transaction (txn_passes t t.phase).after) (txn_passes t t.phase).outs
  snap_heard : (t : SnapSession) (l : Line) (r : Reply) → session_at s o ≡ session.Snapshot t → ShardTurning s o (session.Snapshot (snap_hears t l r).after) (snap_hears t l r).outs
  snap_woken : (t : SnapSession) (l : Line) → session_at s o ≡ session.Snapshot t → ShardTurning s o (session.Snapshot (snap_wakes t l).after) (snap_wakes t l).outs

-- what else an owner does, with the requests that it sends and the dependencies that are new
pub data Doing (s : State) (o : ℕ) : Owner → List Out → List Dep → Type 0 where
  listens_one : (slot : ℕ) (r : Reply) → Heard s o slot r → Doing s o (listened s o slot) [] []
  fix_hears : (f : RegSession) (slot : ℕ) (r : Reply) → session_at s o ≡ session.Fixing f → Heard s o slot r → phase_end (session_after f (slot_replica slot) r).phase ≡ None →
      Doing s o (heard_to s o slot (session.Fixing (session_after f (slot_replica slot) r))) [] []
  fix_reached : (f : RegSession) (slot : ℕ) (r : Reply) (e : RegEnd) → session_at s o ≡ session.Fixing f → Heard s o slot r → phase_end (session_after f (slot_replica slot) r).phase ≡ Some e →
      Doing s o (reached_to s o (session.Fixing (session_after f (slot_replica slot) r))) [] []
  register_hears : (f : RegSession) (slot : ℕ) (r : Reply) → session_at s o ≡ session.Register f → Heard s o slot r → opens_round f.phase (session_after f (slot_replica slot) r).phase ≡ false → phase_end (session_after f (slot_replica slot) r).phase ≡ None →
      Doing s o (heard_to s o slot (session.Register (session_after f (slot_replica slot) r))) [] []
  register_stores : (f : RegSession) (slot : ℕ) (r : Reply) → session_at s o ≡ session.Register f → Heard s o slot r → opens_round f.phase (session_after f (slot_replica slot) r).phase ≡ true → phase_end (session_after f (slot_replica slot) r).phase ≡ None →
      Doing s o (reached_to s o (session.Register (session_after f (slot_replica slot) r))) (awaited (round_requests (session_after f (slot_replica slot) r))) []
  register_reached : (f : RegSession) (slot : ℕ) (r : Reply) (e : RegEnd) → session_at s o ≡ session.Register f → Heard s o slot r → phase_end (session_after f (slot_replica slot) r).phase ≡ Some e →
      Doing s o (reached_to s o (session.Register (session_after f (slot_replica slot) r))) [] []
  read_ends : (f : RegSession) (key : Key) (cell : RegReply) (dep : Option Dep) → session_at s o ≡ session.Register f → f.work ≡ work.Read key → f.phase ≡ phase.Done (ends.Read cell dep) → Doing s o (closed s o Ended) [] (given_dep dep)
  write_ends : (f : RegSession) (key : Key) (value : ℕ) (e : RegEnd) → session_at s o ≡ session.Register f → f.work ≡ work.Write key value → f.phase ≡ phase.Done e → Doing s o (closed s o Ended) [] []
  txn_ends : (x : Op) (t : TxnSession) (time : ℕ) → (owner_at s o).kind ≡ kind.Calling x → session_at s o ≡ session.Transaction t → txn_end t.phase ≡ Some time → Doing s o (closed s o Ended) [] []
  snap_ends : (x : Op) (t : SnapSession) (time : ℕ) → (owner_at s o).kind ≡ kind.Calling x → session_at s o ≡ session.Snapshot t → snap_end t.phase ≡ Some time → Doing s o (closed s o Ended) [] []
  counts_one : (target : Target) → Doing s o (record (owner_at s o) { losses = one_more_lost (owner_at s o).losses target }) [] []
  cuts_one : (service : ServiceId) (replica : ℕ) →
      Doing s o (record (owner_at s o) { currents = without_target s.net (Replica service replica) (owner_at s o).currents; session = session_without (session_at s o) (Replica service replica) }) [] []
  is_closed : (f : OwnerFate) → Doing s o (closed s o f) [] []
  forgets_all : Doing s o (record (owner_at s o) { currents = no_currents }) [] []
  turns : (x : Session) (outs : List Out) → ShardTurning s o x outs → Doing s o (turned s o x) outs []
  stub_asks : (attempt : Attempt) (shards : List ℕ) → (owner_at s o).kind ≡ kind.Stubbing (Some (attempt, shards)) → (owner_at s o).started ≡ false →
      Doing s o (record (owner_at s o) { started = true; session = session.Settling attempt shards }) (line_out (least_shard shards) (request.Decide attempt false 0) ∷ []) []
