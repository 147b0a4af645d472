-- What has to be shown of a predicate on what a step does to the stores and to what owners have under way: each
-- change of a session, and each request that is sent, comes with the reason that the rows have for it.
use Rattle.std.proofs.Common.{◌≡◌, ℕ, ◌<◌, ◌⊎◌, true, false, List, [], ◌∷◌, ◌++◌, length, get_or, Option, Some, arith}
use Rattle.std.proofs.Math.ListN.{set}
use Rattle.truetime.specs.Reading.{Reading}
use Rattle.rss_names.specs.declared.attempt.Attempt.{Attempt}
use Rattle.rss_names.specs.declared.service.Key.{Key}
use Rattle.rss_names.specs.declared.service.ServiceId.{ServiceId}
use Rattle.rss_names.specs.declared.service.Target.{Target}
use Rattle.rss_names.specs.declared.service.Target.TheVariants.{Shard, Replica}
use Rattle.causal_context.specs.declared.dep.Dep.{Dep}
use Rattle.causal_context.specs.Deps.{deps_of}
use Rattle.pipeline_lang.specs.declared.config.Config.{Config}
use Rattle.pipeline_lang.specs.declared.script.Compare.{Compare}
use Rattle.pipeline_lang.specs.declared.script.Expr.{Expr}
use Rattle.pipeline_lang.specs.Config.{home_of}
use Rattle.rss_wire.specs.declared.message.Body.TheVariants as body
use Rattle.rss_wire.specs.declared.message.Fate.{Fate}
use Rattle.rss_wire.specs.declared.messages.Outcome.{Outcome}
use Rattle.rss_wire.specs.declared.messages.Request.{Request}
use Rattle.rss_wire.specs.declared.messages.Request.TheVariants as request
use Rattle.rss_wire.specs.declared.messages.Reply.{Reply}
use Rattle.rss_wire.specs.Messages.{message_at}
use Rattle.world_laws.proofs.Looks.{looks, get_or_past}
use Rattle.world_laws.proofs.StoreMoves.{SameStores, Serves}
use Rattle.rss_tables.specs.declared.register_session.RegWork.TheVariants as work
use Rattle.rss_tables.specs.Lines.{Line, tells_decision}
use Rattle.rss_tables.specs.Outs.{Out, awaited, line_out}
use Rattle.rss_tables.specs.RegisterSession.{RegSession, round_requests, session_after}
use Rattle.rss_tables.specs.SnapshotSession.{SnapSession, opening_snapshot, snap_starts, snap_hears, snap_wakes}
use Rattle.rss_tables.specs.TransactionSession.{TxnSession, opening_txn, txn_starts, txn_hears, txn_wakes, txn_passes}
use Rattle.rss_machine.specs.Calls.{session_for}
use Rattle.rss_machine.specs.Effect.{opens_round, least_shard}
use Rattle.rss_machine.specs.Moves.{marks_message, sends_one, sends, serves_shard, serves_replica, notes_served, session_without}
use Rattle.rss_machine.specs.Slots.{slot_in}
use Rattle.rss_machine.specs.State.{State, Owner, no_owner, owner_at}
use Rattle.rss_machine.specs.declared.session.Session.TheVariants as session
use Rattle.rss_machine.specs.Session.{Session}

-- what an owner has under way
abbrev pub session_at : State → ℕ → Session
session_at s o = (owner_at s o).session

-- what all owners have under way is the same
pub record SameSessions (s t : State) : Type 0 where
  pub same : (o : ℕ) → session_at t o ≡ session_at s o

-- an owner has something else under way, and all others the same
pub record TurnsTo (s t : State) (o : ℕ) (x : Session) : Type 0 where
  pub turned : (session_at t o ≡ x) ⊎ (session_at t o ≡ session_at s o)
  pub others : (i : ℕ) → (i ≡ o → ⊥) → session_at t i ≡ session_at s i

-- why an owner turns to a session and sends these requests
pub data Turning (c : Config) (s : State) (o : ℕ) : Session → List Out → Type 0 where
  idles : Turning c s o session.Idle []
  loses_one : (target : Target) → Turning c s o (session_without (session_at s o) target) []
  fixes_first : (service : ServiceId) (deps : List Dep) (w : State) →
      Turning c s o (session.Fixing (session_for c w o (work.Fix (deps_of service deps)) service)) (awaited (round_requests (session_for c w o (work.Fix (deps_of service deps)) service)))
  asks_register : (w : State) (key : Key) →
      Turning c s o (session.Register (session_for c w o (work.Read key) key.service)) (awaited (round_requests (session_for c w o (work.Read key) key.service)))
  stamps_register : (w : State) (key : Key) (value : ℕ) →
      Turning c s o (session.Register (session_for c w o (work.Write key value) key.service)) (awaited (round_requests (session_for c w o (work.Write key value) key.service)))
  fix_hears : (f : RegSession) (from : ℕ) (r : Reply) → session_at s o ≡ session.Fixing f → Turning c s o (session.Fixing (session_after f from r)) []
  register_hears : (f : RegSession) (from : ℕ) (r : Reply) → session_at s o ≡ session.Register f → Turning c s o (session.Register (session_after f from r)) []
  register_stores : (f : RegSession) (from : ℕ) (r : Reply) → session_at s o ≡ session.Register f → opens_round f.phase (session_after f from r).phase ≡ true →
      Turning c s o (session.Register (session_after f from r)) (awaited (round_requests (session_after f from r)))
  snapshot_begins : (keys : List Key) (least : ℕ) (at : Reading) →
      Turning c s o (session.Snapshot (snap_starts (opening_snapshot (home_of c) o keys least at)).after) (snap_starts (opening_snapshot (home_of c) o keys least at)).outs
  txn_begins : (reads : List Key) (guard : Option (Compare ℕ)) (writes : List (Key × Expr ℕ)) (least margin : ℕ) →
      Turning c s o (session.Transaction (txn_starts (opening_txn (home_of c) o reads guard writes least margin)).after) (txn_starts (opening_txn (home_of c) o reads guard writes least margin)).outs
  txn_heard : (t : TxnSession) (l : Line) (at : Reading) (r : Reply) → session_at s o ≡ session.Transaction t → Turning c s o (session.Transaction (txn_hears t l at r).after) (txn_hears t l at r).outs
  txn_woken : (t : TxnSession) (l : Line) → session_at s o ≡ session.Transaction t → Turning c s o (session.Transaction (txn_wakes t l).after) (txn_wakes t l).outs
  txn_passed : (t : TxnSession) → session_at s o ≡ session.Transaction t → Turning c s o (session.Transaction (txn_passes t t.phase).after) (txn_passes t t.phase).outs
  snap_heard : (t : SnapSession) (l : Line) (r : Reply) → session_at s o ≡ session.Snapshot t → Turning c s o (session.Snapshot (snap_hears t l r).after) (snap_hears t l r).outs
  snap_woken : (t : SnapSession) (l : Line) → session_at s o ≡ session.Snapshot t → Turning c s o (session.Snapshot (snap_wakes t l).after) (snap_wakes t l).outs
  stub_asks : (attempt : Attempt) (shards : List ℕ) → Turning c s o (session.Settling attempt shards) (line_out (least_shard shards) (request.Decide attempt false 0) ∷ [])
  stub_tells : (attempt : Attempt) (shards : List ℕ) (outcome : Outcome) → session_at s o ≡ session.Settling attempt shards → Turning c s o (session.Settling attempt shards) (tells_decision attempt outcome shards)

-- a message of an owner's exchange, from or to a target, that was sent
pub record IsLost (s : State) (o exchange : ℕ) (target : Target) : Type 0 where
  pub number : ℕ
  pub by : (message_at s.net number).envelope.owner ≡ o
  pub numbered : 0 < number
  pub sent : number < length s.net
  pub of : (message_at s.net number).envelope.exchange ≡ exchange
  pub to : (message_at s.net number).envelope.target ≡ target

-- a request that was lost in its exchange
pub record IsAgain (s : State) (o exchange slot : ℕ) (target : Target) (r : Request) : Type 0 where
  pub lost : IsLost s o exchange target
  pub current : slot_in (owner_at s o).currents exchange ≡ Some slot
  pub asked : (message_at s.net exchange).body ≡ body.Request r

-- what has to be shown of a predicate
pub record SessionKeeps (c : Config) (P : State → Type 0) : Type 0 where
  pub fates : (s : State) (m : ℕ) (f : Fate) → P s → P (marks_message s m f)
  pub shards : (s : State) (m shard latest : ℕ) (r : Request) → Serves s m r (Shard shard) → P s → P (serves_shard s m shard latest r)
  pub replicas : (s : State) (m : ℕ) (service : ServiceId) (replica : ℕ) (r : Request) → Serves s m r (Replica service replica) → P s → P (notes_served (serves_replica s m service replica r) (message_at s.net m).envelope.owner service r)
  pub others : (s t : State) → SameStores s t → SameSessions s t → P s → P t
  pub turns : (s t : State) (o : ℕ) (x : Session) (outs : List Out) → SameStores s t → TurnsTo s t o x → Turning c s o x outs → P s → P (sends t o outs)
  pub again : (s : State) (o exchange slot : ℕ) (target : Target) (r : Request) → IsAgain s o exchange slot target r → P s → P (sends_one s o (record { slot = Some slot; target = target; request = r }))

-- sessions after a change of one owner, and after a new owner
pub set_same : (s : State) (o : ℕ) (w : Owner) (i : ℕ) → w.session ≡ session_at s o → (get_or (set s.owners o w) i no_owner).session ≡ session_at s i
set_same s o w i e = grind (arith, looks, e)

pub grow_same : (s : State) (w : Owner) (i : ℕ) → w.session ≡ session.Idle → (get_or (s.owners ++ w ∷ []) i no_owner).session ≡ session_at s i
grow_same s w i e = let p = get_or_past s.owners i no_owner in grind (arith, looks, e, p)

pub set_turned : (s : State) (o : ℕ) (w : Owner) (x : Session) → w.session ≡ x → ((get_or (set s.owners o w) o no_owner).session ≡ x) ⊎ ((get_or (set s.owners o w) o no_owner).session ≡ session_at s o)
set_turned s o w x e = grind (arith, looks, e)

pub set_others : (s : State) (o : ℕ) (w : Owner) (i : ℕ) → (i ≡ o → ⊥) → (get_or (set s.owners o w) i no_owner).session ≡ session_at s i
set_others s o w i n = grind (arith, looks, n)
