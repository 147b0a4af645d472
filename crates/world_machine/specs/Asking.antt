-- What is asked of a machine, and what must be so where it is asked.
use Rattle.std.specs.Prelude.{◌≡◌, ℕ, ◌≤◌, List, length, get_or, Some}
use Rattle.rss_wire.specs.declared.messages.Holder.{Holder}
use Rattle.rss_tables.specs.Lines.{Line, asleep_on, no_line}
use Rattle.rss_machine.specs.State.{State, owner_at, stage_at}
use Rattle.turn_laws.specs.Turns.{lines_in}
use Rattle.world_laws.specs.Shapes.{IsSoundFile}
use Rattle.world_machine.specs.declared.machine.Machine.{Machine}
use Rattle.world_machine.specs.Machine.{state_of}

-- the coordinators that sleeping lines wait for are shards that are there
abbrev pub HoldersThere : State → List Line → Type 0
HoldersThere s lines = (place : ℕ) (h : Holder) → asleep_on (get_or lines place no_line).state ≡ Some h → h.coordinator ≤ length s.shards

-- a machine may be asked when its stages can act
pub record CanAsk (m : Machine) : Type 0 where
  pub file : IsSoundFile m.config
  pub holders : (n o : ℕ) → (stage_at (state_of m) n).owner ≡ Some o → HoldersThere (state_of m) (lines_in (owner_at (state_of m) o).session)
