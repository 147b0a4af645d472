-- An act of a stage, and what it needs.
use Rattle.std.specs.Prelude.{◌≡◌, ℕ, ◌+◌, ◌<◌, ◌^◌, true, Option, Some, None}
use Rattle.truetime.specs.Reading.{Reading}
use Rattle.rss_machine.specs.Effect.{waking_line}
use Rattle.rss_machine.specs.Enabling.{can_make, next_statement}
use Rattle.rss_machine.specs.Moves.{counts_act}
use Rattle.rss_machine.specs.State.{stage_at, owner_at}
use Rattle.turn_laws.specs.Turns.{lines_in}
use Rattle.world_parts.specs.Parts.{in_staging}
use Rattle.world_machine.specs.declared.machine.Machine.{Machine}
use Rattle.world_machine.specs.Acting.{IsActing}
use Rattle.world_machine.specs.Asking.{HoldersThere}
use Rattle.owner_turns.specs.Going.{line_of, PlaceFits}
use Rattle.world_machine.specs.Turning.{CanProceed}
use Rattle.world_machine.specs.Machine.{state_of}
use Rattle.world_machine.specs.Rooms.{StatementRoom}

-- a stage whose act was counted
abbrev pub counted : Machine → ℕ → Machine
counted m n = record m { staging = record m.staging { staging = in_staging (λ s. counts_act s n) m.staging.staging } }

-- a stage can make its next statement
pub record CanMake (m : Machine) (n : ℕ) (at : Reading) : Type 0 where
  pub acting : IsActing m n
  pub allowed : can_make m.config (state_of m) (next_statement m.config (state_of m) n) ≡ true
  pub room : StatementRoom m n at (next_statement m.config (state_of m) n)

-- an owner can go on by itself, by its line that can wake
pub record CanGoOn (m : Machine) (o : ℕ) (at : Reading) : Type 0 where
  pub holders : HoldersThere (state_of m) (lines_in (owner_at (state_of m) o).session)
  pub proceeds : (line : Option ℕ) → PlaceFits (owner_at (state_of m) o).session line → line_of (owner_at (state_of m) o).session line ≡ waking_line (state_of m) (lines_in (owner_at (state_of m) o).session) → CanProceed m o line at

-- a stage can act
pub record CanAct (m : Machine) (n : ℕ) (at : Reading) : Type 0 where
  pub few : (stage_at (state_of m) n).acts + 1 < 2 ^ 32
  pub idle : (stage_at (state_of m) n).owner ≡ None → CanMake (counted m n) n at
  pub owned : (o : ℕ) → (stage_at (state_of m) n).owner ≡ Some o → CanGoOn (counted m n) o at
