-- What happens to transactions, snapshots and shards within a step, one event after the other.
use Rattle.std.specs.Prelude.{◌≡◌, ◌⊎◌, ℕ, ◌<◌, Bool, true, false, List, [], ◌∷◌, length, set, Option, Some, None, nat_lt}
use Rattle.truetime.specs.Reading.{Reading}
use Rattle.rss_names.specs.declared.attempt.Attempt.{Attempt}
use Rattle.rss_names.specs.declared.service.Key.{Key}
use Rattle.rss_names.specs.declared.service.Target.{Target}
use Rattle.rss_names.specs.declared.service.Target.TheVariants.{Shard}
use Rattle.pipeline_lang.specs.Config.{home_of, body_of}
use Rattle.pipeline_lang.specs.declared.config.Config.{Config}
use Rattle.pipeline_lang.specs.declared.script.Compare.{Compare}
use Rattle.pipeline_lang.specs.declared.script.Expr.{Expr}
use Rattle.rss_model.specs.declared.op.Op.TheVariants as op
use Rattle.rss_wire.specs.Messages.{message_at}
use Rattle.rss_wire.specs.declared.message.Body.TheVariants as body
use Rattle.rss_wire.specs.declared.messages.Outcome.{Outcome}
use Rattle.rss_wire.specs.declared.messages.Reply.{Reply}
use Rattle.rss_wire.specs.declared.messages.Reply.TheVariants as reply
use Rattle.rss_wire.specs.declared.messages.Request.{Request}
use Rattle.rss_wire.specs.declared.messages.Request.TheVariants as request
use Rattle.rss_tables.specs.Lines.{Line, line_at, tells_decision}
use Rattle.rss_tables.specs.Outs.{Out, slot_shard, line_out}
use Rattle.rss_tables.specs.SnapshotSession.{SnapSession, opening_snapshot, snap_starts, snap_hears, snap_wakes, snap_end}
use Rattle.rss_tables.specs.TransactionSession.{TxnSession, opening_txn, txn_starts, txn_hears, txn_wakes, txn_passes, txn_end, waiting_time}
use Rattle.rss_tables.specs.Turns.{Turn}
use Rattle.rss_machine.specs.Calls.{least_for}
use Rattle.rss_machine.specs.Effect.{waking_line, least_shard}
use Rattle.rss_machine.specs.Moves.{serves_shard}
use Rattle.rss_machine.specs.Session.{Session, service_of}
use Rattle.rss_machine.specs.Slots.{slot_in}
use Rattle.rss_machine.specs.State.{State, Owner, owner_at, no_currents}
use Rattle.rss_machine.specs.declared.session.OwnerKind.TheVariants as kind
use Rattle.rss_machine.specs.declared.session.Session.TheVariants as session
use Rattle.rss_machine.specs.declared.state.OwnerFate.TheVariants.{Ended}
use Rattle.shard_event_laws.specs.Facts.{Aside, SameShards, OneOwner, Sends, current_at, currents_after}

-- nothing is awaited by an owner
abbrev pub AwaitsNothing : Owner → Type 0
AwaitsNothing w = (slot : ℕ) → current_at w slot ≡ None

-- an owner hears a reply to its current exchange of a slot
pub record Hears (s : State) (o slot : ℕ) (r : Reply) : Type 0 where
  pub number : ℕ
  pub numbered : 0 < number
  pub sent : number < length s.net
  pub by : (message_at s.net number).envelope.owner ≡ o
  pub says : (message_at s.net number).body ≡ body.Reply r
  pub current : slot_in (owner_at s o).currents (message_at s.net number).envelope.exchange ≡ Some slot

-- an owner begins something with shards: it has nothing under way, and awaits nothing
pub record Launches (s t : State) (o : ℕ) (x : Session) (outs : List Out) : Type 0 where
  pub same : SameShards s t
  pub idle : (owner_at s o).session ≡ session.Idle
  pub free : AwaitsNothing (owner_at s o)
  pub owned : OneOwner s t o (record (owner_at s o) {
    currents = currents_after (owner_at s o).currents outs (length s.net);
    session = x;
    dates = record (owner_at s o).dates { launched = s.steps };
  })
  pub sends : Sends s t o outs

-- an owner behind a turn, with what it awaited but for what it has heard: it goes on, or its call has ended
abbrev pub turned_owner : State → ℕ → List (Option ℕ) → Session → List Out → Option ℕ → Owner
turned_owner s o currents x outs None = record (owner_at s o) { currents = currents_after currents outs (length s.net); session = x }
turned_owner s o currents x outs (Some time) = record (owner_at s o) {
  fate = Ended;
  currents = no_currents;
  session = x;
  dates = record (owner_at s o).dates { ended = s.steps };
}

-- what is left to await where a new phase may begin
abbrev pub left_to_await : Bool → List (Option ℕ) → List (Option ℕ)
left_to_await true currents = no_currents
left_to_await false currents = currents

-- an owner takes a turn
pub record Turns (s t : State) (o : ℕ) (anew : Bool) (currents : List (Option ℕ)) (x : Session) (outs : List Out) (end : Option ℕ) : Type 0 where
  pub same : SameShards s t
  pub owned : OneOwner s t o (turned_owner s o (left_to_await anew currents) x outs end)
  pub sends : Sends s t o outs

abbrev pub TxnTurns : State → State → ℕ → List (Option ℕ) → Turn TxnSession → Type 0
TxnTurns s t o currents turn = Turns s t o turn.anew currents (session.Transaction turn.after) turn.outs (txn_end turn.after.phase)

abbrev pub SnapTurns : State → State → ℕ → List (Option ℕ) → Turn SnapSession → Type 0
SnapTurns s t o currents turn = Turns s t o turn.anew currents (session.Snapshot turn.after) turn.outs (snap_end turn.after.phase)

-- the current exchanges of an owner that has heard a slot
abbrev pub heard_at : State → ℕ → ℕ → List (Option ℕ)
heard_at s o slot = set (owner_at s o).currents slot None

-- a request of a current exchange is sent once more, in a new one
pub record SendsAgain (s t : State) (o slot : ℕ) (target : Target) (r : Request) : Type 0 where
  pub exchange : ℕ
  pub current : current_at (owner_at s o) slot ≡ Some exchange
  pub by : (message_at s.net exchange).envelope.owner ≡ o
  pub to : (message_at s.net exchange).envelope.target ≡ target
  pub asked : (message_at s.net exchange).body ≡ body.Request r
  pub sent : exchange < length s.net
  pub numbered : 0 < exchange
  pub same : SameShards s t
  pub owned : OneOwner s t o (record (owner_at s o) { currents = set (owner_at s o).currents slot (Some (length s.net)) })
  pub sends : Sends s t o (record { slot = Some slot; target = target; request = r } ∷ [])

-- a request that was sent to a shard
pub record WasAsked (s : State) (m shard : ℕ) (q : Request) : Type 0 where
  pub numbered : 0 < m
  pub sent : m < length s.net
  pub asks : (message_at s.net m).body ≡ body.Request q
  pub to : (message_at s.net m).envelope.target ≡ Shard shard

-- a stub goes on with the attempt that its stage left: it asks for the decision, or has learnt of it and tells it
pub record SettlesTo (s t : State) (o : ℕ) (x : Session) (outs : List Out) : Type 0 where
  pub same : SameShards s t
  pub owner : Owner
  pub owned : OneOwner s t o owner
  pub kind : owner.kind ≡ (owner_at s o).kind
  pub stage : owner.stage ≡ (owner_at s o).stage
  pub begun : owner.dates.begun ≡ (owner_at s o).dates.begun
  pub session : owner.session ≡ x
  pub awaits : (slot m : ℕ) → current_at owner slot ≡ Some m → (current_at (owner_at s o) slot ≡ Some m) ⊎ (m ≡ length s.net)
  pub sends : Sends s t o outs

-- one event
pub data Event (c : Config) (at : Reading) (s t : State) : Type 0 where
  aside : Aside c s t → Event c at s t
  begins_txn : (o : ℕ) (reads : List Key) (guard : Option (Compare ℕ)) (writes : List (Key × Expr ℕ)) (x : TxnSession) → (owner_at s o).kind ≡ kind.Calling (op.Txn reads guard writes)
      → x ≡ opening_txn (home_of c) o reads guard writes (least_for s o (service_of (op.Txn reads guard writes))) (body_of c (owner_at s o).stage).earliest_end
      → Launches s t o (session.Transaction x) (txn_starts x).outs → Event c at s t
  begins_snapshot : (o : ℕ) (keys : List Key) (x : SnapSession) → (owner_at s o).kind ≡ kind.Calling (op.Snap keys)
      → x ≡ opening_snapshot (home_of c) o keys (least_for s o (service_of (op.Snap keys))) at
      → Launches s t o (session.Snapshot x) (snap_starts x).outs → Event c at s t
  txn_hears_one : (o slot : ℕ) (x : TxnSession) (r : Reply) → (owner_at s o).session ≡ session.Transaction x → Hears s o slot r
      → TxnTurns s t o (heard_at s o slot) (txn_hears x (line_at x.lines (slot_shard slot)) at r) → Event c at s t
  snap_hears_one : (o slot : ℕ) (x : SnapSession) (r : Reply) → (owner_at s o).session ≡ session.Snapshot x → Hears s o slot r
      → SnapTurns s t o (heard_at s o slot) (snap_hears x (line_at x.lines (slot_shard slot)) r) → Event c at s t
  txn_wakes_one : (o : ℕ) (x : TxnSession) (l : Line) → (owner_at s o).session ≡ session.Transaction x → waking_line s x.lines ≡ Some l
      → TxnTurns s t o (owner_at s o).currents (txn_wakes x l) → Event c at s t
  snap_wakes_one : (o : ℕ) (x : SnapSession) (l : Line) → (owner_at s o).session ≡ session.Snapshot x → waking_line s x.lines ≡ Some l
      → SnapTurns s t o (owner_at s o).currents (snap_wakes x l) → Event c at s t
  txn_passes_time : (o time : ℕ) (x : TxnSession) → (owner_at s o).session ≡ session.Transaction x → waiting_time x x.phase ≡ Some time → nat_lt time at.earliest ≡ true
      → TxnTurns s t o (owner_at s o).currents (txn_passes x x.phase) → Event c at s t
  sends_again : (o slot : ℕ) (target : Target) (r : Request) → SendsAgain s t o slot target r → Event c at s t
  serves_one : (m shard : ℕ) (q : Request) → WasAsked s m shard q → t ≡ serves_shard s m shard at.latest q → Event c at s t
  stub_asks : (o : ℕ) (attempt : Attempt) (shards : List ℕ) → (owner_at s o).kind ≡ kind.Stubbing (Some (attempt, shards)) → AwaitsNothing (owner_at s o) → (owner_at s o).session ≡ session.Idle
      → SettlesTo s t o (session.Settling attempt shards) (line_out (least_shard shards) (request.Decide attempt false 0) ∷ []) → Event c at s t
  stub_tells : (o slot : ℕ) (attempt : Attempt) (shards : List ℕ) (outcome : Outcome) → (owner_at s o).session ≡ session.Settling attempt shards → Hears s o slot (reply.Decided outcome)
      → SettlesTo s t o session.Idle (tells_decision attempt outcome shards) → Event c at s t
