-- What rounds that have reached a majority leave: what a call ends with a majority holds, and a call finds
-- what a majority held before it sent its own first round.
use Rattle.std.specs.Prelude.{◌≡◌, ℕ, ◌<◌, ◌≤◌, true, List, Some, None, Option}
use Rattle.rss_names.specs.declared.service.Key.{Key}
use Rattle.carstamps.specs.declared.carstamp.Carstamp.{Carstamp}
use Rattle.carstamps.specs.Stamp.{stamp_le, stamp_lt}
use Rattle.causal_context.specs.declared.dep.Dep.{Dep}
use Rattle.rss_wire.specs.declared.messages.RegReply.{RegReply}
use Rattle.rss_tables.specs.RegisterSession.{RegSession}
use Rattle.rss_tables.specs.declared.register_session.RegEnd.TheVariants as ends
use Rattle.rss_tables.specs.declared.register_session.RegPhase.{RegPhase}
use Rattle.rss_tables.specs.declared.register_session.RegPhase.TheVariants as phase
use Rattle.rss_tables.specs.declared.register_session.RegWork.TheVariants as work
use Rattle.pipeline_lang.specs.declared.config.Config.{Config}
use Rattle.rss_machine.specs.Times.{step_of_stamp}
use Rattle.rss_machine.specs.declared.step.Step.{Step}
use Rattle.rss_machine.specs.Marks.{is_held}
use Rattle.rss_machine.specs.State.{State, owner_at, replicas_at}
use Rattle.rss_machine.specs.declared.session.Session.TheVariants as session

-- an owner's call writes a register, and its phase is this one
pub record Writes (s : State) (o : ℕ) (key : Key) (value : ℕ) (p : RegPhase) : Type 0 where
  pub round : RegSession
  pub under_way : (owner_at s o).session ≡ session.Register round
  pub of_work : round.work ≡ work.Write key value
  pub in_phase : round.phase ≡ p

-- an owner's call reads a register, and its phase is this one
pub record Reads (s : State) (o : ℕ) (key : Key) (p : RegPhase) : Type 0 where
  pub round : RegSession
  pub under_way : (owner_at s o).session ≡ session.Register round
  pub of_work : round.work ≡ work.Read key
  pub in_phase : round.phase ≡ p

-- a majority holds the stamp of a write that has ended, and the stamp that a read has ended with, or the
-- read has left what it read as a dependency
pub record EndsHeld (s : State) : Type 0 where
  pub written : (o : ℕ) (key : Key) (value : ℕ) (stamp : Carstamp) → Writes s o key value (phase.Done (ends.Written stamp)) → is_held (replicas_at s key.service) key stamp ≡ true
  pub agreed : (o : ℕ) (key : Key) (cell : RegReply) → Reads s o key (phase.Done (ends.Read cell None)) → is_held (replicas_at s key.service) key cell.stamp ≡ true
  pub left : (o : ℕ) (key : Key) (cell : RegReply) (dep : Dep) → Reads s o key (phase.Done (ends.Read cell (Some dep))) → dep ≡ record { key = key; value = cell.value; stamp = cell.stamp; writer = cell.writer }

-- a call that sent its own first round after a state finds what a majority held in that state: a write's
-- stamp is above it, and a read's is not below it
pub record RoundsSee (u s : State) : Type 0 where
  pub stored : (o : ℕ) (key : Key) (value : ℕ) (stamp held : Carstamp) → u.steps < (owner_at s o).dates.launched → Writes s o key value (phase.Storing stamp) → is_held (replicas_at u key.service) key held ≡ true → stamp_lt held stamp ≡ true
  pub written : (o : ℕ) (key : Key) (value : ℕ) (stamp held : Carstamp) → u.steps < (owner_at s o).dates.launched → Writes s o key value (phase.Done (ends.Written stamp)) → is_held (replicas_at u key.service) key held ≡ true → stamp_lt held stamp ≡ true
  pub read : (o : ℕ) (key : Key) (cell : RegReply) (dep : Option Dep) (held : Carstamp) → u.steps < (owner_at s o).dates.launched → Reads s o key (phase.Done (ends.Read cell dep)) → is_held (replicas_at u key.service) key held ≡ true → stamp_le held cell.stamp ≡ true

-- a call sees each stamp whose step is not later than that of its own first round: a write's stamp is above
-- it, and a read's is not below it
pub record SeesSteps (c : Config) (steps : List Step) (s : State) : Type 0 where
  pub stored : (o : ℕ) (key : Key) (value : ℕ) (stamp other : Carstamp) → Writes s o key value (phase.Storing stamp) → step_of_stamp c steps key other ≤ (owner_at s o).dates.launched → stamp_lt other stamp ≡ true
  pub written : (o : ℕ) (key : Key) (value : ℕ) (stamp other : Carstamp) → Writes s o key value (phase.Done (ends.Written stamp)) → step_of_stamp c steps key other ≤ (owner_at s o).dates.launched → stamp_lt other stamp ≡ true
  pub read : (o : ℕ) (key : Key) (cell : RegReply) (dep : Option Dep) (other : Carstamp) → Reads s o key (phase.Done (ends.Read cell dep)) → step_of_stamp c steps key other ≤ (owner_at s o).dates.launched → stamp_le other cell.stamp ≡ true
