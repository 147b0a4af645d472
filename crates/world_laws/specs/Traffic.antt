-- What messages, links, operations and works of a state are, so far as the file tells.
use Rattle.std.specs.Prelude.{◌≡◌, ℕ, ◌-◌, ◌*◌, ◌<◌, ◌≤◌, ⊤, Bool, true, false, List, [], ◌++◌, length, map, get_or, Some, None, is_some}
use Rattle.std.specs.List.{All}
use Rattle.rss_names.specs.declared.service.Key.{Key}
use Rattle.rss_names.specs.declared.service.ServiceId.{ServiceId}
use Rattle.rss_names.specs.declared.service.ServiceId.TheVariants.{Txn, Reg}
use Rattle.rss_names.specs.declared.service.Target.{Target}
use Rattle.rss_names.specs.declared.service.Target.TheVariants.{Shard, Replica}
use Rattle.causal_context.specs.Services.{IsService}
use Rattle.causal_context.specs.declared.dep.Dep.{Dep}
use Rattle.pipeline_lang.specs.Config.{home_of, replicas_of}
use Rattle.pipeline_lang.specs.declared.config.Config.{Config}
use Rattle.rss_model.specs.declared.op.Op.{Op}
use Rattle.rss_model.specs.declared.op.Op.TheVariants as op
use Rattle.rss_wire.specs.Messages.{no_message, message_at, request_at, is_sent}
use Rattle.rss_wire.specs.declared.messages.Request.{Request}
use Rattle.rss_wire.specs.declared.messages.Request.TheVariants.{Lock, Prepare, Decide, Commit, Abort, Inquire, Release, Snapshot, Fix, Ask, Stamp, Store}
use Rattle.rss_tables.specs.declared.fences.FenceWork.{FenceWork}
use Rattle.rss_tables.specs.declared.register_session.RegWork.{RegWork}
use Rattle.rss_tables.specs.declared.register_session.RegWork.TheVariants as work
use Rattle.rss_tables.specs.RegisterSession.{RegSession}
use Rattle.rss_machine.specs.Standing.{is_running, is_over}
use Rattle.rss_machine.specs.State.{State, stage_at, owner_at}
use Rattle.rss_machine.specs.declared.session.OwnerKind.TheVariants as kind
use Rattle.rss_machine.specs.declared.session.Session.TheVariants as session
use Rattle.world_laws.specs.Calls.{StagesOwn, is_stub}
use Rattle.world_laws.specs.Contexts.{AllDeps}
use Rattle.world_laws.specs.NamedKeys.{IsKey, op_keys}
use Rattle.world_laws.specs.Registers.{IsRegister}
use Rattle.world_laws.specs.Served.{IsServed}

-- a target of the file: one of its shards, or a replica of one of its register services
abbrev pub IsTargetOf : Config → Target → Type 0
IsTargetOf c (Shard shard) = (1 ≤ shard) × (shard ≤ length c.shard_services)
IsTargetOf c (Replica (Reg number) replica) = (1 ≤ number) × (number ≤ 8) × (1 ≤ replica) × (replica ≤ replicas_of c (Reg number))
IsTargetOf c (Replica (Txn number) replica) = ⊥

-- the keys of transaction services that a request names
abbrev pub request_keys : Request → List Key
request_keys (Lock attempt coordinator reads writes) = reads ++ writes
request_keys (Prepare attempt least earliest_end writes) = map (λ (write : Key × ℕ). write.0) writes
request_keys (Snapshot read_time least keys skip) = keys
request_keys (Decide attempt commit time) = []
request_keys (Commit attempt commit_time) = []
request_keys (Abort attempt) = []
request_keys (Inquire attempt) = []
request_keys (Release attempt time last) = []
request_keys (Fix deps) = []
request_keys (Ask key) = []
request_keys (Stamp key) = []
request_keys (Store key value stamp writer) = []

-- a key of the file whose home is this shard
pub record LivesOn (c : Config) (shard : ℕ) (key : Key) : Type 0 where
  pub is_key : IsKey c key
  pub home : home_of c key.index ≡ shard

-- a request of a target: a shard is asked about its own keys alone
abbrev pub AsksOwn : Config → Target → Request → Type 0
AsksOwn c (Shard shard) r = All (LivesOn c shard) (request_keys r)
AsksOwn c (Replica service replica) r = ⊤

-- place 0 holds no message; a message is of an owner that has begun, from 1 on; and its exchange is a request that was sent
pub record MessagesFit (s : State) : Type 0 where
  pub first : (message_at s.net 0).envelope ≡ no_message.envelope
  pub owned : (m : ℕ) → is_sent s.net m ≡ true → 1 ≤ (message_at s.net m).envelope.owner
  pub begun : (m : ℕ) → is_sent s.net m ≡ true → (message_at s.net m).envelope.owner < length s.owners
  pub exchanges : (m : ℕ) → is_sent s.net m ≡ true → is_some (request_at s.net (message_at s.net m).envelope.exchange) ≡ true

-- a message is with a target of the file, and a shard is asked about its own keys
pub record TargetsFit (c : Config) (s : State) : Type 0 where
  pub targets : (m : ℕ) → is_sent s.net m ≡ true → IsTargetOf c (message_at s.net m).envelope.target
  pub keys : (m : ℕ) (r : Request) → request_at s.net m ≡ Some r → AsksOwn c (message_at s.net m).envelope.target r

-- whether a work is to store dependencies
abbrev pub stores_deps : RegWork → Bool
stores_deps (work.Fix deps) = true
stores_deps (work.Read key) = false
stores_deps (work.Write key value) = false

-- an exchange that is current is a request of that owner
pub record IsCurrentOf (s : State) (o exchange : ℕ) : Type 0 where
  pub sent : is_sent s.net exchange ≡ true
  pub owner : (message_at s.net exchange).envelope.owner ≡ o
  pub request : (message_at s.net exchange).envelope.request ≡ true

-- what a stage has under way is numbered from 1; a current exchange is its owner's; and an owner that is over has none
pub record LinksFit (s : State) : Type 0 where
  pub own : StagesOwn s
  pub called : (n o : ℕ) → (stage_at s n).owner ≡ Some o → 1 ≤ o
  pub currents : (o slot exchange : ℕ) → get_or (owner_at s o).currents slot None ≡ Some exchange → IsCurrentOf s o exchange
  pub quiet : (o slot : ℕ) → is_running (owner_at s o).fate ≡ false → get_or (owner_at s o).currents slot None ≡ None

-- the stub of a stage is one of it, and the stage is over; and a round of dependencies stores them
pub record StubsFit (s : State) : Type 0 where
  pub stubs : (n o : ℕ) → (stage_at s n).stub ≡ Some o → is_stub (owner_at s o).kind ≡ true
  pub stub_stages : (n o : ℕ) → (stage_at s n).stub ≡ Some o → (owner_at s o).stage - 1 ≡ n - 1
  pub dead : (n o : ℕ) → (stage_at s n).stub ≡ Some o → is_over (stage_at s n).life ≡ true
  pub fixing : (o : ℕ) (r : RegSession) → (owner_at s o).session ≡ session.Fixing r → stores_deps r.work ≡ true

-- an operation: of a service of the file, with keys of the file, eight in each list at most
abbrev pub HasFewKeys : Op → Type 0
HasFewKeys (op.Read key) = ⊤
HasFewKeys (op.Write key value) = ⊤
HasFewKeys (op.Snap keys) = (1 ≤ length keys) × (length keys ≤ 8)
HasFewKeys (op.Txn reads guard writes) = (length reads ≤ 8) × (1 ≤ length writes) × (length writes ≤ 8)

pub record OperationFits (c : Config) (x : Op) : Type 0 where
  pub served : IsServed c x
  pub keys : All (IsKey c) (op_keys x)
  pub few : HasFewKeys x

-- the works left are sixteen fences at most, of services numbered from 1 to 8; a step plans sixteen fences of a service at
-- most; and what is depended on are registers of the file, of each one dependency at most
pub record WorksFit (c : Config) (s : State) : Type 0 where
  pub few : (o : ℕ) → length (owner_at s o).works.left ≤ 16
  pub services : (o : ℕ) → All (λ (work : ServiceId × FenceWork). IsService work.0) (owner_at s o).works.left
  pub planned : (place : ℕ) → get_or s.planned place 0 ≤ 16 * s.steps
  pub registers : AllDeps (λ (dep : Dep). IsRegister c dep.key) s
  pub copies : (o : ℕ) → length (owner_at s o).works.copy.deps ≤ length c.registers
  pub stages : (n : ℕ) → length (stage_at s n).context.deps ≤ length c.registers
