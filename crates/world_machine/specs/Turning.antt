-- What the turns of owners need in a step.
use Rattle.std.specs.Prelude.{◌≡◌, ℕ, true, Option, Some, None}
use Rattle.truetime.specs.Reading.{Reading}
use Rattle.owner_turns.specs.Going.{line_of, PlaceFits, may_start}
use Rattle.rss_machine.specs.declared.session.Session.TheVariants.{Idle}
use Rattle.world_parts.specs.Parts.{owner_in}
use Rattle.world_traffic.specs.Turned.{MayTake, MayHear, beginning, hearing, acting, stubbing, said_in}
use Rattle.world_traffic.specs.View.{HasTurnRoom}
use Rattle.world_machine.specs.declared.machine.Machine.{Machine}
use Rattle.world_machine.specs.Ending.{CanEnd}

-- an owner that was begun goes through its works
pub record CanGoThrough (m : Machine) (o : ℕ) (at : Reading) : Type 0 where
  pub may : MayTake m.config m.traffic o (beginning m.config o m.clock.steps at m.traffic.traffic)
  pub idle : (owner_in m.traffic.traffic o).session ≡ Idle
  pub room : HasTurnRoom m.config at m.traffic o None
  pub ends : CanEnd m o (beginning m.config o m.clock.steps at m.traffic.traffic).ending

-- an owner hears what a message says, in a slot
pub record CanListen (m : Machine) (o slot message : ℕ) (at : Reading) : Type 0 where
  pub may : MayTake m.config m.traffic o (hearing m.config o m.clock.steps at slot message m.traffic.traffic)
  pub hears : MayHear m.traffic.traffic o slot message
  pub room : HasTurnRoom m.config at m.traffic o (Some (said_in m.traffic.traffic.net message))
  pub ends : CanEnd m o (hearing m.config o m.clock.steps at slot message m.traffic.traffic).ending

-- an owner goes on by itself, by the line of a place if one can wake
pub record CanProceed (m : Machine) (o : ℕ) (line : Option ℕ) (at : Reading) : Type 0 where
  pub may : MayTake m.config m.traffic o (acting m.config o m.clock.steps at line m.traffic.traffic)
  pub place : PlaceFits (owner_in m.traffic.traffic o).session line
  pub room : HasTurnRoom m.config at m.traffic o None
  pub ends : CanEnd m o (acting m.config o m.clock.steps at line m.traffic.traffic).ending

-- a stub takes its step
pub record CanStub (m : Machine) (o : ℕ) (at : Reading) : Type 0 where
  pub may : MayTake m.config m.traffic o (stubbing m.config o m.clock.steps at m.traffic.traffic)
  pub starts : may_start (owner_in m.traffic.traffic o).works.wait (owner_in m.traffic.traffic o).session ≡ true
  pub room : HasTurnRoom m.config at m.traffic o None
  pub ends : CanEnd m o (stubbing m.config o m.clock.steps at m.traffic.traffic).ending
