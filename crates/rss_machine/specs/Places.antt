-- Places: the placed calls in the one legal order, sorted by keys and numbered from 1.
use Rattle.std.specs.Prelude.{ℕ, zero, suc, ◌+◌, ◌-◌, ◌==◌, max, Bool, true, false, ◌&&◌, ◌||◌, not, List, [], ◌∷◌, length, map, Option, Some, None, nat_lt, if◌then◌else◌}
use Rattle.rss_names.specs.declared.attempt.Attempt.{Attempt}
use Rattle.rss_names.specs.declared.service.Key.{Key}
use Rattle.carstamps.specs.declared.carstamp.Carstamp.{Carstamp}
use Rattle.carstamps.specs.Stamp.{stamp_lt, stamp_le}
use Rattle.pipeline_lang.specs.declared.config.Config.{Config}
use Rattle.rss_wire.specs.declared.messages.Outcome.{Outcome}
use Rattle.rss_wire.specs.declared.messages.Outcome.TheVariants.{Committed, Aborted}
use Rattle.rss_tables.specs.Lines.{coordinator_of}
use Rattle.rss_tables.specs.SnapshotSession.{snap_end}
use Rattle.rss_tables.specs.TransactionSession.{TxnSession}
use Rattle.rss_tables.specs.declared.phases.TxnPhase.{TxnPhase}
use Rattle.rss_tables.specs.declared.phases.TxnPhase.TheVariants as phase
use Rattle.rss_tables.specs.declared.register_session.RegWork.{RegWork}
use Rattle.rss_tables.specs.declared.register_session.RegWork.TheVariants as work
use Rattle.rss_tables.specs.declared.register_session.RegEnd.{RegEnd}
use Rattle.rss_tables.specs.declared.register_session.RegEnd.TheVariants as ends
use Rattle.rss_tables.specs.declared.register_session.RegPhase.{RegPhase}
use Rattle.rss_tables.specs.declared.register_session.RegPhase.TheVariants.{Fixing, Asking, Stamping, Storing, Done}
use Rattle.rss_machine.specs.Run.{run}
use Rattle.rss_machine.specs.Session.{Session}
use Rattle.rss_machine.specs.declared.session.Session.TheVariants as session
use Rattle.rss_machine.specs.State.{State, Owner, owner_at, shard_at}
use Rattle.rss_machine.specs.Times.{step_of_time, marked_step}
use Rattle.rss_machine.specs.declared.state.OwnerFate.{OwnerFate}
use Rattle.rss_machine.specs.declared.state.OwnerFate.TheVariants.{Running, Ended, Dropped, CutOff}
use Rattle.rss_machine.specs.declared.step.Step.{Step}
use Rattle.rss_machine.specs.declared.place.PlaceKey.{PlaceKey}
use Rattle.rss_machine.specs.declared.place.PlacePart.{PlacePart}
use Rattle.rss_machine.specs.declared.place.PlacePart.TheVariants.{Txn, Register}
use Rattle.rss_machine.specs.declared.place.KeyedCall.{KeyedCall}
use Rattle.rss_machine.specs.declared.place.Placed.{Placed}

-- the time of a decision, if it is a commit
abbrev pub committed_time : Outcome → Option ℕ
committed_time (Committed time) = Some time
committed_time Aborted = None

-- of two times the first that there is
abbrev pub first_time : Option ℕ → Option ℕ → Option ℕ
first_time None other = other
first_time (Some time) other = Some time

-- the commit time of a call by the decisions of its coordinator
abbrev pub committed_in : List (Attempt × Outcome) → ℕ → Option ℕ
committed_in [] call = None
committed_in (d ∷ decisions) call =
    first_time (if d.0.call == call then committed_time d.1 else None) (committed_in decisions call)

-- the time of a transaction whose guard has failed
abbrev pub failed_time : TxnPhase → Option ℕ
failed_time (phase.Failed time) = Some time
failed_time (phase.Committed time) = None
failed_time phase.Locking = None
failed_time phase.Preparing = None
failed_time (phase.Freeing time) = None
failed_time (phase.FreeingLast time) = None
failed_time (phase.Deciding time) = None
failed_time (phase.Waiting time) = None
failed_time phase.Undoing = None

-- the commit time that the coordinator of a transaction keeps for it
abbrev pub commit_of : State → TxnSession → Option ℕ
commit_of s t = committed_in (shard_at s (coordinator_of t.lines)).decisions t.call

-- the time of a call of a transaction service: its transaction is decided committed, its guard has
-- failed, or its snapshot has ended
abbrev pub session_time : State → Session → Option ℕ
session_time s (session.Transaction t) = first_time (commit_of s t) (failed_time t.phase)
session_time s (session.Snapshot t) = snap_end t.phase
session_time s session.Idle = None
session_time s (session.Fixing r) = None
session_time s (session.Register r) = None
session_time s (session.Settling attempt shards) = None

abbrev pub time_of : State → ℕ → Option ℕ
time_of s call = session_time s (owner_at s call).session

-- the stamp that a register session's end tells
abbrev pub end_stamp : RegEnd → Option Carstamp
end_stamp (ends.Read cell dep) = Some cell.stamp
end_stamp (ends.Written stamp) = Some stamp
end_stamp ends.Fixed = None

-- the stamp that a register session has taken or read
abbrev pub phase_stamp : RegPhase → Option Carstamp
phase_stamp Fixing = None
phase_stamp Asking = None
phase_stamp Stamping = None
phase_stamp (Storing stamp) = Some stamp
phase_stamp (Done end) = end_stamp end

-- a register with a stamp on it
abbrev pub keyed_stamp : Key → Option Carstamp → Option (Key × Carstamp)
keyed_stamp key None = None
keyed_stamp key (Some stamp) = Some (key, stamp)

-- the register and stamp of a work: of a write once its store was handled, of a read once it has ended
abbrev pub work_stamp : RegWork → RegPhase → Bool → Option (Key × Carstamp)
work_stamp (work.Write key value) phase true = keyed_stamp key (phase_stamp phase)
work_stamp (work.Write key value) phase false = None
work_stamp (work.Read key) phase stored = keyed_stamp key (phase_stamp phase)
work_stamp (work.Fix deps) phase stored = None

-- the register and stamp of a register call
abbrev pub session_stamp : Session → Bool → Option (Key × Carstamp)
session_stamp (session.Register r) stored = work_stamp r.work r.phase stored
session_stamp session.Idle stored = None
session_stamp (session.Fixing r) stored = None
session_stamp (session.Transaction t) stored = None
session_stamp (session.Snapshot t) stored = None
session_stamp (session.Settling attempt shards) stored = None

abbrev pub stamp_of : State → ℕ → Option (Key × Carstamp)
stamp_of s call = session_stamp (owner_at s call).session (owner_at s call).stored

-- whether a register call reads
abbrev pub is_read_work : RegWork → Bool
is_read_work (work.Read key) = true
is_read_work (work.Write key value) = false
is_read_work (work.Fix deps) = false

-- whether a call of a transaction service reads: a snapshot, or a transaction that is not committed
abbrev pub is_absent : Option ℕ → Bool
is_absent None = true
is_absent (Some time) = false

-- the step in which a register call takes effect: that of its stamp, and for a read not before its own round
abbrev pub effect_step : Bool → ℕ → ℕ → ℕ
effect_step true stamp_step round_step = max stamp_step round_step
effect_step false stamp_step round_step = stamp_step

-- the key of a register call on a register, with its stamp
abbrev pub register_key : State → ℕ → Bool → Key × Carstamp → PlaceKey
register_key s call reads stamped = record {
  step = effect_step reads (marked_step s stamped.0 stamped.1) (owner_at s call).dates.launched;
  part = Register stamped.0.index stamped.1 reads call;
}

-- the key of a call of a transaction service, with its time
abbrev pub txn_key : State → ℕ → Bool → ℕ → PlaceKey
txn_key s call reads time = record { step = step_of_time s time; part = Txn time reads call }

-- a key under an option
abbrev pub keyed_at : Option PlaceKey → ℕ → Bool → Option KeyedCall
keyed_at None call finished = None
keyed_at (Some key) call finished = Some record { key = key; call = call; finished = finished }

abbrev pub txn_key_of : State → ℕ → Bool → Option ℕ → Option PlaceKey
txn_key_of s call reads None = None
txn_key_of s call reads (Some time) = Some (txn_key s call reads time)

abbrev pub register_key_of : State → ℕ → Bool → Option (Key × Carstamp) → Option PlaceKey
register_key_of s call reads None = None
register_key_of s call reads (Some stamped) = Some (register_key s call reads stamped)

-- the key of a call by what it has under way, if it is placed
abbrev pub session_key : State → ℕ → Session → Option PlaceKey
session_key s call (session.Register r) = register_key_of s call (is_read_work r.work) (stamp_of s call)
session_key s call (session.Transaction t) = txn_key_of s call (is_absent (commit_of s t)) (time_of s call)
session_key s call (session.Snapshot t) = txn_key_of s call true (time_of s call)
session_key s call session.Idle = None
session_key s call (session.Fixing r) = None
session_key s call (session.Settling attempt shards) = None

-- whether an owner has ended
abbrev pub has_ended : OwnerFate → Bool
has_ended Ended = true
has_ended Running = false
has_ended Dropped = false
has_ended (CutOff target) = false

-- a call with its key, if it is placed
abbrev pub keyed_call : State → ℕ → Option KeyedCall
keyed_call s call = keyed_at (session_key s call (owner_at s call).session) call (has_ended (owner_at s call).fate)

-- before the others, if it is placed
abbrev pub keyed_before : Option KeyedCall → List KeyedCall → List KeyedCall
keyed_before None rest = rest
keyed_before (Some keyed) rest = keyed ∷ rest

-- the placed calls among these many from a number on, in the order of their numbers
abbrev pub keyed_from : State → ℕ → ℕ → List KeyedCall
keyed_from s call zero = []
keyed_from s call (suc left) = keyed_before (keyed_call s call) (keyed_from s (call + 1) left)

-- all placed calls with their keys, in the order of their numbers
abbrev pub keyed_calls : State → List KeyedCall
keyed_calls s = keyed_from s 1 (length s.owners - 1)

-- those that write stand before those that read, and else the earlier call first
abbrev pub reads_lt : Bool → ℕ → Bool → ℕ → Bool
reads_lt false call true call' = true
reads_lt true call false call' = false
reads_lt false call false call' = nat_lt call call'
reads_lt true call true call' = nat_lt call call'

-- whether two stamps are the same
abbrev pub same_stamp : Carstamp → Carstamp → Bool
same_stamp a b = stamp_le a b && stamp_le b a

-- the order of calls at one step: transactions before register calls
abbrev pub part_lt : PlacePart → PlacePart → Bool
part_lt (Txn t reads call) (Txn t' reads' call') = nat_lt t t' || (t == t' && reads_lt reads call reads' call')
part_lt (Txn t reads call) (Register r stamp reads' call') = true
part_lt (Register r stamp reads call) (Txn t reads' call') = false
part_lt (Register r stamp reads call) (Register r' stamp' reads' call') =
    nat_lt r r' || (r == r' && (stamp_lt stamp stamp' || (same_stamp stamp stamp' && reads_lt reads call reads' call')))

-- keys are compared part by part
abbrev pub key_lt : PlaceKey → PlaceKey → Bool
key_lt a b = nat_lt a.step b.step || (a.step == b.step && part_lt a.part b.part)

-- a call among calls in the order of keys
abbrev pub put_keyed : KeyedCall → List KeyedCall → List KeyedCall
put_keyed new [] = new ∷ []
put_keyed new (k ∷ keyed) = if key_lt new.key k.key then new ∷ k ∷ keyed else k ∷ put_keyed new keyed

-- calls in the order of their keys
abbrev pub sorted : List KeyedCall → List KeyedCall
sorted [] = []
sorted (k ∷ keyed) = put_keyed k (sorted keyed)

-- calls numbered from a place on
abbrev pub numbered : ℕ → List KeyedCall → List Placed
numbered place [] = []
numbered place (k ∷ keyed) = record { call = k.call; place = place; finished = k.finished } ∷ numbered (place + 1) keyed

-- the places of a state
abbrev pub places_of : State → List Placed
places_of s = numbered 1 (sorted (keyed_calls s))

-- the calls of places, in order
abbrev pub placed_calls : List Placed → List ℕ
placed_calls places = map (λ (p : Placed). p.call) places

-- the placed calls of a run, in order; where there is no run, none
abbrev pub order_in : Option State → List ℕ
order_in None = []
order_in (Some s) = placed_calls (places_of s)

abbrev pub order_of : Config → List Step → List ℕ
order_of c steps = order_in (run c steps)
