-- The state of the machine, part by part, and its readers.
use Rattle.std.specs.Prelude.{ℕ, zero, suc, ◌+◌, ◌-◌, ◌==◌, Bool, true, false, List, [], ◌∷◌, ◌++◌, get_or, set, map, replicate, Option, Some, None, length, if◌then◌else◌}
use Rattle.rss_names.specs.declared.service.Key.{Key}
use Rattle.rss_names.specs.declared.service.ServiceId.{ServiceId}
use Rattle.rss_names.specs.declared.service.ServiceId.TheVariants.{Txn, Reg}
use Rattle.rss_names.specs.declared.attempt.Attempt.{Attempt}
use Rattle.causal_context.specs.Seen.{Seen, nothing_seen}
use Rattle.pipeline_lang.specs.declared.config.Config.{Config}
use Rattle.pipeline_lang.specs.declared.config.ServiceDef.{ServiceDef}
use Rattle.rss_model.specs.declared.op.Op.{Op}
use Rattle.rss_model.specs.declared.op.Op.TheVariants as op
use Rattle.rss_model.specs.declared.history.Entry.{Entry}
use Rattle.rss_model.specs.declared.history.How.{How}
use Rattle.rss_model.specs.Cursor.{Cursor}
use Rattle.rss_model.specs.Scripts.{is_spawned}
use Rattle.rss_model.specs.Walk.{all_zero}
use Rattle.rss_wire.specs.declared.message.Message.{Message}
use Rattle.rss_wire.specs.Messages.{no_messages}
use Rattle.rss_wire.specs.declared.messages.RegReply.{RegReply}
use Rattle.rss_tables.specs.ReplicaRow.{opening_cell}
use Rattle.rss_tables.specs.ShardRow.{Shard, opening_shard}
use Rattle.rss_tables.specs.Pipes.{Pipe, opening_pipe}
use Rattle.rss_tables.specs.Works.{Works, no_works}
use Rattle.rss_tables.specs.Losses.{no_losses}
use Rattle.rss_tables.specs.Outs.{slot_count}
use Rattle.rss_machine.specs.Session.{Session}
use Rattle.rss_machine.specs.declared.session.Session.TheVariants as session
use Rattle.rss_machine.specs.declared.session.OwnerKind.{OwnerKind}
use Rattle.rss_machine.specs.declared.session.OwnerKind.TheVariants as kind
use Rattle.rss_machine.specs.declared.state.Life.{Life}
use Rattle.rss_machine.specs.declared.state.Life.TheVariants.{Unborn, Live, Over}
use Rattle.rss_machine.specs.declared.state.OwnerFate.{OwnerFate}
use Rattle.rss_machine.specs.declared.state.OwnerFate.TheVariants.{Running, Ended, Dropped, CutOff}
use Rattle.rss_machine.specs.declared.state.Dates.{Dates}
use Rattle.rss_machine.specs.declared.state.Mark.{Mark}

-- an owner of messages: its stage, what it does, how it stands, whether it has started (a stub
-- begins unstarted), its works, what it has under way, the current exchange of each slot, its
-- losses by target, when it did what, and whether some replica has handled its store
pub record Owner : Type 0 where
  pub stage : ℕ
  pub kind : OwnerKind
  pub fate : OwnerFate
  pub started : Bool
  pub works : Works
  pub session : Session
  pub currents : List (Option ℕ)
  pub losses : List ℕ
  pub dates : Dates
  pub stored : Bool

-- a stage: its life, where its script stands, its context, the call or fence statement under way,
-- the number of acts it made, and its stub
pub record Stage : Type 0 where
  pub life : Life
  pub cursor : Cursor
  pub context : Seen
  pub owner : Option ℕ
  pub acts : ℕ
  pub stub : Option ℕ

pub record State : Type 0 where
  -- the clock: the number of steps made, the true moment, and the true moment of each step
  pub steps : ℕ
  pub moment : ℕ
  pub moments : List ℕ
  -- the stages and the pipes: number n stands at place n - 1
  pub stages : List Stage
  pub pipes : List Pipe
  -- every owner there ever was, each at its number; place 0 holds none
  pub owners : List Owner
  -- every message ever sent, each at its number
  pub net : List Message
  -- the shards: number n stands at place n - 1
  pub shards : List Shard
  -- the replicas of each register service: what each holds of each register, by the register's
  -- index over all services; service and replica number n stand at place n - 1
  pub replicas : List (List (List RegReply))
  -- of each register, when a majority first held which stamp, in ascending order
  pub marks : List (List Mark)
  -- how many fences were planned of each service, by its place in the order of services
  pub planned : List ℕ
  -- what the stages did
  pub history : List Entry

-- a script that stands at its beginning
abbrev pub opening_cursor : Cursor
opening_cursor = record { position = 0; blocks = []; variables = all_zero }

-- a stage that has made nothing yet
abbrev pub opening_stage : Life → Stage
opening_stage life = record {
  life = life;
  cursor = opening_cursor;
  context = nothing_seen;
  owner = None;
  acts = 0;
  stub = None;
}

-- a stage that is not there
abbrev pub no_stage : Stage
no_stage = opening_stage Unborn

-- the stage of a number
abbrev pub stage_at : State → ℕ → Stage
stage_at s n = get_or s.stages (n - 1) no_stage

-- the pipe of a number
abbrev pub pipe_at : State → ℕ → Pipe
pipe_at s n = get_or s.pipes (n - 1) opening_pipe

-- the shard of a number
abbrev pub shard_at : State → ℕ → Shard
shard_at s n = get_or s.shards (n - 1) (opening_shard [])

-- nothing is awaited
abbrev pub no_currents : List (Option ℕ)
no_currents = replicate slot_count None

-- nothing has happened to an owner yet but that it began
abbrev pub dated : ℕ → Dates
dated step = record { begun = step; entered = 0; launched = 0; ended = 0 }

-- an owner that begins in a step
abbrev pub opening_owner : ℕ → OwnerKind → Bool → Works → ℕ → Owner
opening_owner stage kind started works step = record {
  stage = stage;
  kind = kind;
  fate = Running;
  started = started;
  works = works;
  session = session.Idle;
  currents = no_currents;
  losses = no_losses;
  dates = dated step;
  stored = false;
}

-- an owner that is not there: a fence statement that has ended
abbrev pub no_owner : Owner
no_owner = record (opening_owner 0 kind.Fencing true (no_works nothing_seen) 0) { fate = Ended }

-- the owner of a number
abbrev pub owner_at : State → ℕ → Owner
owner_at s o = get_or s.owners o no_owner

-- the place of a register service among the replicas; a transaction service has none
abbrev pub service_index : ServiceId → ℕ
service_index (Reg number) = number - 1
service_index (Txn number) = 8

-- the replicas of a register service
abbrev pub replicas_at : State → ServiceId → List (List RegReply)
replicas_at s service = get_or s.replicas (service_index service) []

-- what one of them holds
abbrev pub cells_at : State → ServiceId → ℕ → List RegReply
cells_at s service replica = get_or (replicas_at s service) (replica - 1) []

-- the marks of a register
abbrev pub marks_at : State → Key → List Mark
marks_at s key = get_or s.marks key.index []

-- the stages before the first step: those that no script spawns live from the beginning
abbrev pub stages_from : Config → ℕ → ℕ → List Stage
stages_from c n zero = []
stages_from c n (suc left) =
    opening_stage (if is_spawned c n then Unborn else Live) ∷ stages_from c (n + 1) left

-- the keys of a shard, by their homes from an index on
abbrev pub keys_from : ServiceId → ℕ → List ℕ → ℕ → List Key
keys_from service shard [] index = []
keys_from service shard (home ∷ homes) index =
    if home == shard
    then record { service = service; index = index } ∷ keys_from service shard homes (index + 1)
    else keys_from service shard homes (index + 1)

-- the shards before the first step, from a number on
abbrev pub shards_from : Config → ℕ → List ServiceId → List Shard
shards_from c shard [] = []
shards_from c shard (service ∷ services) =
    opening_shard (keys_from service shard c.homes 0) ∷ shards_from c (shard + 1) services

-- the replicas of a service, which hold the opening value of each register
abbrev pub opening_replicas : ℕ → ℕ → List (List RegReply)
opening_replicas registers n = replicate n (replicate registers opening_cell)

-- the replicas of the register services among services, in order
abbrev pub replicas_before : ServiceId → List (List RegReply) → List (List (List RegReply)) → List (List (List RegReply))
replicas_before (Reg number) replicas rest = replicas ∷ rest
replicas_before (Txn number) replicas rest = rest

abbrev pub replicas_of_services : ℕ → List ServiceDef → List (List (List RegReply))
replicas_of_services registers [] = []
replicas_of_services registers (d ∷ services) =
    replicas_before d.id (opening_replicas registers d.replicas) (replicas_of_services registers services)

-- the state before the first step
abbrev pub start : Config → State
start c = record {
  steps = 0;
  moment = 0;
  moments = [];
  stages = stages_from c 1 (length c.bodies);
  pipes = replicate (length c.pipe_ends) opening_pipe;
  owners = no_owner ∷ [];
  net = no_messages;
  shards = shards_from c 1 c.shard_services;
  replicas = replicas_of_services (length c.registers) c.services;
  marks = replicate (length c.registers) [];
  planned = replicate 16 0;
  history = [];
}
