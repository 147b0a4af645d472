-- How much there is of everything in a state, against the number of its steps.
use Rattle.std.specs.Prelude.{◌≡◌, ℕ, ◌+◌, ◌*◌, ◌≤◌, ◌<◌, length}
use Rattle.rss_names.specs.declared.service.Target.{Target}
use Rattle.pipeline_lang.specs.Config.{ends_of}
use Rattle.pipeline_lang.specs.declared.config.Config.{Config}
use Rattle.rss_wire.specs.Messages.{message_at}
use Rattle.rss_tables.specs.Losses.{losses_of}
use Rattle.rss_tables.specs.TransactionSession.{TxnSession}
use Rattle.rss_machine.specs.State.{State, stage_at, owner_at, pipe_at}
use Rattle.rss_machine.specs.declared.session.Session.TheVariants as session

-- a step adds one owner, thirty-two messages and eighteen entries at most, and an act of a stage, a number of a pipe, a
-- loss and an attempt of a transaction once at most; and stages, pipes and shards are as many as the file's
pub record FitsSizes (c : Config) (s : State) : Type 0 where
  pub steps : s.steps ≤ c.max_steps
  pub stages : length s.stages ≡ length c.bodies
  pub pipes : length s.pipes ≡ length c.pipe_ends
  pub shards : length s.shards ≡ length c.shard_services
  pub owners : length s.owners ≤ s.steps + 1
  pub messages : length s.net ≤ 32 * s.steps + 1
  pub entries : length s.history ≤ 18 * s.steps
  pub acts : (n : ℕ) → (stage_at s n).acts ≤ s.steps
  pub next : (p : ℕ) → (pipe_at s p).next ≤ s.steps + 1
  pub losses : (o : ℕ) (target : Target) → losses_of (owner_at s o).losses target ≤ s.steps
  pub attempts : (o : ℕ) (t : TxnSession) → (owner_at s o).session ≡ session.Transaction t → t.k ≤ s.steps + 1
  pub ordinals : (m : ℕ) → (message_at s.net m).envelope.ordinal ≤ length s.net

-- a pipe holds no more chunks than it has room for
pub record HasRoom (c : Config) (s : State) : Type 0 where
  pub chunks : (p : ℕ) → length (pipe_at s p).chunks ≤ (ends_of c p).capacity
