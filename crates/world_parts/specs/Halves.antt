-- What a move over two parts makes of each of them: its halves, which are moves of one part.
use Rattle.std.specs.Prelude.{ℕ, ◌-◌, Bool, true, false, List, [], ◌∷◌, ◌++◌, get_or, set, length, Option, Some, None, if◌then◌else◌}
use Rattle.causal_context.specs.Seen.{Seen, fenced_outside}
use Rattle.rss_names.specs.declared.attempt.Attempt.{Attempt}
use Rattle.rss_names.specs.declared.service.ServiceId.{ServiceId}
use Rattle.rss_model.specs.Cursor.{Cursor}
use Rattle.rss_model.specs.declared.history.Entry.{Entry}
use Rattle.rss_model.specs.declared.history.Entry.TheVariants.{Begin, End, Over}
use Rattle.rss_model.specs.declared.history.How.{How}
use Rattle.rss_model.specs.declared.op.Op.{Op}
use Rattle.rss_model.specs.declared.op.Shown.{Shown}
use Rattle.rss_wire.specs.declared.messages.Reply.{Reply}
use Rattle.rss_wire.specs.declared.messages.Request.{Request}
use Rattle.rss_wire.specs.Messages.{answers}
use Rattle.rss_tables.specs.ReplicaRow.{replica_after, replica_reply}
use Rattle.rss_tables.specs.ShardRow.{Shard, shard_after, shard_reply, opening_shard}
use Rattle.rss_tables.specs.Works.{Plan, no_works, planned}
use Rattle.rss_tables.specs.declared.fences.FenceWork.{FenceWork}
use Rattle.rss_wire.specs.declared.messages.RegReply.{RegReply}
use Rattle.rss_machine.specs.Marks.{raised_by, is_store, notes_keys}
use Rattle.rss_machine.specs.Moves.{counts_fences}
use Rattle.rss_machine.specs.Session.{left_unsettled}
use Rattle.rss_machine.specs.State.{State, Stage, Owner, opening_owner, no_currents, service_index}
use Rattle.rss_machine.specs.declared.session.OwnerKind.{OwnerKind}
use Rattle.rss_machine.specs.declared.session.OwnerKind.TheVariants as kind
use Rattle.rss_machine.specs.declared.state.Life.TheVariants as life
use Rattle.rss_machine.specs.declared.state.OwnerFate.{OwnerFate}
use Rattle.rss_machine.specs.declared.state.OwnerFate.TheVariants.{Ended, CutOff}
use Rattle.world_parts.specs.Parts.{Staging, Traffic, Stores, stage_in, owner_in}

-- OWNERS AND THE NET

-- an owner in the place of what it was
abbrev pub put_owner : Traffic → ℕ → Owner → Traffic
put_owner t o w = record t { owners = set t.owners o w }

-- one more owner, whose fences are counted
abbrev pub adds_owner : Traffic → Owner → List (ServiceId × FenceWork) → Traffic
adds_owner t w fences = record t { owners = t.owners ++ w ∷ []; planned = counts_fences fences t.planned }

-- a call or a fence statement of a stage begins, with this copy of its context and this plan
abbrev pub opens_owner : ℕ → Traffic → ℕ → OwnerKind → Seen → Plan → Traffic
opens_owner step t n k seen plan = adds_owner t (opening_owner n k true (planned seen plan) step) plan.fences

-- the stub of a stage begins, with this copy of its context
abbrev pub opens_stub : ℕ → Traffic → ℕ → Option (Attempt × List ℕ) → Seen → Traffic
opens_stub step t n unsettled seen = adds_owner t (opening_owner n (kind.Stubbing unsettled) false (no_works seen) step) []

-- an owner that is closed in this step
abbrev pub closed_owner : ℕ → OwnerFate → Owner → Owner
closed_owner step f w = record w { fate = f; currents = no_currents; dates = record w.dates { ended = step } }

-- an owner is closed in this step
abbrev pub closes_in : ℕ → Traffic → ℕ → OwnerFate → Traffic
closes_in step t o f = put_owner t o (closed_owner step f (owner_in t o))

-- the owner that a stage leaves, if it has one, is closed in this step
abbrev pub closes_left : ℕ → Traffic → Option ℕ → OwnerFate → Traffic
closes_left step t None f = t
closes_left step t (Some o) f = closes_in step t o f

-- what the owner under way leaves unsettled
abbrev pub unsettled_in : Traffic → Option ℕ → Option (Attempt × List ℕ)
unsettled_in t None = None
unsettled_in t (Some o) = left_unsettled (owner_in t o).session

-- a stub that is done and fenced
abbrev pub fenced_stub : ℕ → Owner → Owner
fenced_stub step w = record (closed_owner step Ended w) { works = record w.works { copy = fenced_outside w.works.copy } }

abbrev pub closes_stub_in : ℕ → Traffic → ℕ → Traffic
closes_stub_in step t o = put_owner t o (fenced_stub step (owner_in t o))

-- a reply to the request of this number is sent
abbrev pub answers_in : Traffic → ℕ → Reply → Traffic
answers_in t m r = record t { net = answers t.net m r }

-- it is noted that a replica has handled an owner's store, where this request is one
abbrev pub notes_stored : Traffic → ℕ → Request → Traffic
notes_stored t o r = put_owner t o (record (owner_in t o) { stored = if is_store r then true else (owner_in t o).stored })

-- STAGES

-- a stage has an owner under way, and the history these entries more
abbrev pub has_owner : Staging → ℕ → ℕ → List Entry → Staging
has_owner g n o entries = record g {
  stages = set g.stages (n - 1) (record (stage_in g n) { owner = Some o });
  history = g.history ++ entries;
}

-- a stage goes on behind its owner, with this context
abbrev pub behind_owner : Staging → ℕ → Cursor → Seen → List Entry → Staging
behind_owner g n cursor seen entries = record g {
  stages = set g.stages (n - 1) (record (stage_in g n) { cursor = cursor; context = seen; owner = None });
  history = g.history ++ entries;
}

-- a stage is over, with this stub
abbrev pub leaves_stub : Staging → ℕ → How → ℕ → Staging
leaves_stub g n how stub = record g {
  stages = set g.stages (n - 1) (record (stage_in g n) { life = life.Over how; owner = None; stub = Some stub });
  history = g.history ++ Over n how ∷ [];
}

-- SHARDS AND REPLICAS

abbrev pub shard_in : Stores → ℕ → Shard
shard_in d n = get_or d.shards (n - 1) (opening_shard [])

abbrev pub replicas_in : Stores → ServiceId → List (List RegReply)
replicas_in d service = get_or d.replicas (service_index service) []

abbrev pub cells_in : Stores → ServiceId → ℕ → List RegReply
cells_in d service replica = get_or (replicas_in d service) (replica - 1) []

-- a shard serves a request
abbrev pub served_shard : Stores → ℕ → ℕ → Request → Stores
served_shard d shard latest r = record d { shards = set d.shards (shard - 1) (shard_after (shard_in d shard) latest r) }

-- a replica serves a request
abbrev pub served_replica : Stores → ServiceId → ℕ → Request → Stores
served_replica d service replica r = record d {
  replicas = set d.replicas (service_index service) (set (replicas_in d service) (replica - 1) (replica_after (cells_in d service replica) r));
}

-- what a majority then holds is noted in this step
abbrev pub noted_marks : ℕ → Stores → ServiceId → Request → Stores
noted_marks step d service r = record d { marks = notes_keys (replicas_in d service) step (raised_by r) d.marks }
