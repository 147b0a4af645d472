-- What the death of a stage needs of owners.
use Rattle.std.specs.Prelude.{◌≡◌, ℕ, ◌<◌, ◌≤◌, ◌^◌, false, length, Some}
use Rattle.world_laws.specs.Calls.{is_stub}
use Rattle.world_parts.specs.Parts.{Staging, Traffic, stage_in, owner_in}
use Rattle.world_traffic.specs.View.{IsBegun}
use Rattle.world_machine.specs.declared.machine.Machine.{Machine}
use Rattle.world_machine.specs.Rooms.{DeathRoom}

-- what the stage has under way was begun, and one more owner can be numbered
pub record OwnersIn (g : Staging) (t : Traffic) (n : ℕ) : Type 0 where
  pub begun : (o : ℕ) → (stage_in g n).owner ≡ Some o → IsBegun t o
  pub few : length t.owners < 2 ^ 32

abbrev pub OwnersFit : Machine → ℕ → Type 0
OwnersFit m n = OwnersIn m.staging.staging m.traffic.traffic n

-- what a lost target needs: a call or a fence statement what the death of its stage needs
pub record CanLose (m : Machine) (o : ℕ) : Type 0 where
  pub pipes : length m.config.pipe_ends ≤ 16
  pub owners : is_stub (owner_in m.traffic.traffic o).kind ≡ false → OwnersFit m (owner_in m.traffic.traffic o).stage
  pub room : is_stub (owner_in m.traffic.traffic o).kind ≡ false → DeathRoom m (owner_in m.traffic.traffic o).stage
