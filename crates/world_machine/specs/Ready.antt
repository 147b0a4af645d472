-- A machine between two steps, so far as its steps need it.
use Rattle.std.specs.Prelude.{◌≡◌, ℕ, ◌+◌, ◌<◌, ◌≤◌, ◌^◌, true, length}
use Rattle.pipeline_stage.specs.Statements.{opens_block}
use Rattle.rss_machine.specs.Enabling.{next_statement}
use Rattle.rss_machine.specs.Session.{left_unsettled}
use Rattle.rss_machine.specs.Standing.{is_live}
use Rattle.rss_machine.specs.State.{stage_at, owner_at}
use Rattle.rss_machine.specs.declared.session.OwnerKind.TheVariants as kind
use Rattle.turn_laws.specs.Turns.{lines_in}
use Rattle.owner_turns.specs.Whole.{KindFits}
use Rattle.parts_ready.specs.Ready.{AreReady}
use Rattle.turn_facts.specs.Facts.{TurnFacts}
use Rattle.world_machine.specs.declared.machine.Machine.{Machine}
use Rattle.world_machine.specs.Asking.{HoldersThere}
use Rattle.world_machine.specs.Machine.{state_of}

abbrev pub IsReady : Machine → Type 0
IsReady m = AreReady m.config m.staging.staging m.traffic.traffic m.stores.stores

-- what else every run leaves: a stage that lives can open the block that comes next; lines wait for shards that are there; the
-- owner that stands for none is no stub; what an owner leaves to settle fits; cursors stand within scripts; and what turns of
-- owners need
pub record HasFacts (m : Machine) : Type 0 where
  pub shallow : (n : ℕ) → 1 ≤ n → is_live (stage_at (state_of m) n).life ≡ true → opens_block (next_statement m.config (state_of m) n) ≡ true → length (stage_at (state_of m) n).cursor.blocks < 4
  pub holders : (o : ℕ) → HoldersThere (state_of m) (lines_in (owner_at (state_of m) o).session)
  pub first : (owner_at (state_of m) 0).kind ≡ kind.Fencing
  pub left : (o : ℕ) → KindFits (kind.Stubbing (left_unsettled (owner_at (state_of m) o).session))
  pub positions : (n : ℕ) → (stage_at (state_of m) n).cursor.position + 1 < 2 ^ 64
  pub turn : TurnFacts m.config (state_of m)
