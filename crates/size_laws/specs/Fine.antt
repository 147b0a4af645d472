-- What is kept together, under a bound of times: contexts in their orders, works that are fences of services numbered from
-- 1 to 8, sixteen at most, sessions of such services; and no time above the bound.
use Rattle.std.specs.Prelude.{ℕ, ◌≤◌, ⊤, List, [], length, get_or}
use Rattle.std.specs.List.{All}
use Rattle.rss_names.specs.declared.service.ServiceId.{ServiceId}
use Rattle.causal_context.specs.Forms.{IsSeen}
use Rattle.causal_context.specs.Seen.{Seen}
use Rattle.causal_context.specs.Services.{IsService}
use Rattle.rss_wire.specs.declared.message.Message.{Message}
use Rattle.rss_wire.specs.Messages.{message_at}
use Rattle.rss_tables.specs.Pipes.{Pipe, Chunk, EndMark, no_mark, fenced_mark, bare_mark, opening_pipe}
use Rattle.rss_tables.specs.ShardRow.{Shard, opening_shard}
use Rattle.rss_tables.specs.declared.fences.FenceWork.{FenceWork}
use Rattle.rss_tables.specs.declared.register_session.RegWork.{RegWork}
use Rattle.rss_tables.specs.declared.register_session.RegWork.TheVariants as work
use Rattle.rss_machine.specs.Session.{Session, service_of}
use Rattle.rss_machine.specs.State.{State, Stage, Owner, no_stage, no_owner}
use Rattle.rss_machine.specs.declared.session.OwnerKind.{OwnerKind}
use Rattle.rss_machine.specs.declared.session.OwnerKind.TheVariants as kind
use Rattle.rss_machine.specs.declared.session.Session.TheVariants as session
use Rattle.world_laws.specs.Times.{SeenUpTo, BodyTimesUpTo, TxnUpTo, SnapUpTo, FenceUpTo, WaitUpTo, ShardUpTo}

-- a context
pub record Fine (b : ℕ) (seen : Seen) : Type 0 where
  pub times : SeenUpTo b seen
  pub orders : IsSeen seen

-- a work that is left
abbrev pub WorkFine : ℕ → ServiceId × FenceWork → Type 0
WorkFine b w = FenceUpTo b w.1 × IsService w.0

-- what a register call reads or writes
abbrev pub WorkServed : RegWork → Type 0
WorkServed (work.Read key) = IsService key.service
WorkServed (work.Write key value) = IsService key.service
WorkServed (work.Fix deps) = ⊤

abbrev pub SessionFine : ℕ → Session → Type 0
SessionFine b (session.Transaction t) = TxnUpTo b t
SessionFine b (session.Snapshot t) = SnapUpTo b t
SessionFine b (session.Register r) = WorkServed r.work
SessionFine b (session.Fixing r) = ⊤
SessionFine b session.Idle = ⊤
SessionFine b (session.Settling attempt shards) = ⊤

abbrev pub KindFine : OwnerKind → Type 0
KindFine (kind.Calling x) = IsService (service_of x)
KindFine kind.Fencing = ⊤
KindFine (kind.Stubbing u) = ⊤

-- an owner
pub record OwnerFine (b : ℕ) (w : Owner) : Type 0 where
  pub copy : Fine b w.works.copy
  pub left : All (WorkFine b) w.works.left
  pub few : length w.works.left ≤ 16
  pub wait : WaitUpTo b w.works.wait
  pub session : SessionFine b w.session
  pub kind : KindFine w.kind

-- a pipe
abbrev pub ChunkFine : ℕ → Chunk → Type 0
ChunkFine b chunk = Fine b chunk.context

abbrev pub MarkFine : ℕ → EndMark → Type 0
MarkFine b no_mark = ⊤
MarkFine b (fenced_mark number seen) = Fine b seen
MarkFine b bare_mark = ⊤

pub record PipeFine (b : ℕ) (pipe : Pipe) : Type 0 where
  pub chunks : All (ChunkFine b) pipe.chunks
  pub mark : MarkFine b pipe.mark

-- all of them
abbrev pub NetFine : ℕ → List Message → Type 0
NetFine b net = (m : ℕ) → BodyTimesUpTo b (message_at net m).body

abbrev pub OwnersFine : ℕ → List Owner → Type 0
OwnersFine b owners = (o : ℕ) → OwnerFine b (get_or owners o no_owner)

abbrev pub StagesFine : ℕ → List Stage → Type 0
StagesFine b stages = (i : ℕ) → Fine b (get_or stages i no_stage).context

abbrev pub PipesFine : ℕ → List Pipe → Type 0
PipesFine b pipes = (i : ℕ) → PipeFine b (get_or pipes i opening_pipe)

abbrev pub ShardsFine : ℕ → List Shard → Type 0
ShardsFine b shards = (i : ℕ) → ShardUpTo b (get_or shards i (opening_shard []))

-- a state
pub record AllFine (b : ℕ) (s : State) : Type 0 where
  pub told : NetFine b s.net
  pub owners : OwnersFine b s.owners
  pub stages : StagesFine b s.stages
  pub pipes : PipesFine b s.pipes
  pub shards : ShardsFine b s.shards
