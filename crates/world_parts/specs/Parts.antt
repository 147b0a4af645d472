-- The machine's state in four parts, and what a move makes of one of them.
use Rattle.std.specs.Prelude.{ℕ, List, [], get_or, ◌-◌}
use Rattle.pipeline_lang.specs.declared.config.Config.{Config}
use Rattle.rss_model.specs.declared.history.Entry.{Entry}
use Rattle.rss_names.specs.declared.service.Key.{Key}
use Rattle.rss_wire.specs.declared.message.Message.{Message}
use Rattle.rss_wire.specs.declared.messages.RegReply.{RegReply}
use Rattle.rss_tables.specs.Pipes.{Pipe, opening_pipe}
use Rattle.rss_tables.specs.ShardRow.{Shard}
use Rattle.rss_machine.specs.State.{State, Stage, Owner, no_stage, no_owner}
use Rattle.rss_machine.specs.declared.state.Mark.{Mark}

-- the number of steps made, the true moment, and the true moment of each step
pub record Clock : Type 0 where
  pub steps : ℕ
  pub moment : ℕ
  pub moments : List ℕ

-- the stages, the pipes between them, and what the stages did
pub record Staging : Type 0 where
  pub stages : List Stage
  pub pipes : List Pipe
  pub history : List Entry

-- all owners, all messages, and how many fences were planned of each service
pub record Traffic : Type 0 where
  pub owners : List Owner
  pub net : List Message
  pub planned : List ℕ

-- what shards and replicas keep, and when a majority first held which stamp
pub record Stores : Type 0 where
  pub shards : List Shard
  pub replicas : List (List (List RegReply))
  pub marks : List (List Mark)

-- the state that these parts make
abbrev pub assembled : Clock → Staging → Traffic → Stores → State
assembled k g t d = record {
  steps = k.steps;
  moment = k.moment;
  moments = k.moments;
  stages = g.stages;
  pipes = g.pipes;
  owners = t.owners;
  net = t.net;
  shards = d.shards;
  replicas = d.replicas;
  marks = d.marks;
  planned = t.planned;
  history = g.history;
}

-- the parts of a state
abbrev pub clock_of : State → Clock
clock_of s = record { steps = s.steps; moment = s.moment; moments = s.moments }

abbrev pub staging_of : State → Staging
staging_of s = record { stages = s.stages; pipes = s.pipes; history = s.history }

abbrev pub traffic_of : State → Traffic
traffic_of s = record { owners = s.owners; net = s.net; planned = s.planned }

abbrev pub stores_of : State → Stores
stores_of s = record { shards = s.shards; replicas = s.replicas; marks = s.marks }

-- parts that hold nothing
abbrev pub no_staging : Staging
no_staging = record { stages = []; pipes = []; history = [] }

abbrev pub no_traffic : Traffic
no_traffic = record { owners = []; net = []; planned = [] }

abbrev pub no_stores : Stores
no_stores = record { shards = []; replicas = []; marks = [] }

-- a clock that stands at a step, with nothing else
abbrev pub at_step : ℕ → Clock
at_step step = record { steps = step; moment = 0; moments = [] }

-- what a move of stages, pipes and the history makes of them
abbrev pub in_staging : (State → State) → Staging → Staging
in_staging f g = staging_of (f (assembled (at_step 0) g no_traffic no_stores))

-- what a move of owners and the net makes of them, in the step of this number
abbrev pub in_traffic : ℕ → (State → State) → Traffic → Traffic
in_traffic step f t = traffic_of (f (assembled (at_step step) no_staging t no_stores))

-- what a move of shards and replicas makes of them, in the step of this number
abbrev pub in_stores : ℕ → (State → State) → Stores → Stores
in_stores step f d = stores_of (f (assembled (at_step step) no_staging no_traffic d))

-- the stage, the pipe and the owner of a number
abbrev pub stage_in : Staging → ℕ → Stage
stage_in g n = get_or g.stages (n - 1) no_stage

abbrev pub pipe_in : Staging → ℕ → Pipe
pipe_in g p = get_or g.pipes (p - 1) opening_pipe

abbrev pub owner_in : Traffic → ℕ → Owner
owner_in t o = get_or t.owners o no_owner
