-- Of whom it is told that he is over.
use Rattle.std.specs.Prelude.{◌≡◌, ◌⊎◌, ℕ, true, Some, None}
use Rattle.pipeline_lang.specs.declared.config.Config.{Config}
use Rattle.rss_machine.specs.Enabling.{session_enabling}
use Rattle.rss_machine.specs.Endings.{awaits_in}
use Rattle.rss_machine.specs.Standing.{is_over}
use Rattle.rss_machine.specs.State.{State, stage_at, owner_at}
use Rattle.rss_machine.specs.Turns.{due_message, next_for}
use Rattle.rss_machine.specs.declared.state.Life.TheVariants.{Live}
use Rattle.rss_machine.specs.declared.turn.Enabling.TheVariants.{Never}
use Rattle.rss_machine.specs.declared.turn.Turn.TheVariants as turn

-- a live stage whose call or fence statement awaits replies alone, none of which is to come
pub record IsForsaken (c : Config) (s : State) (n : ℕ) : Type 0 where
  pub live : (stage_at s n).life ≡ Live
  pub due : due_message n s.net ≡ None
  pub owner : ℕ
  pub under_way : (stage_at s n).owner ≡ Some owner
  pub wait : (owner_at s owner).works.wait ≡ None
  pub still : session_enabling s (owner_at s owner).session ≡ Never
  pub nobody : awaits_in (owner_at s owner).session ≡ None

abbrev pub OverIsTold : Type 0
OverIsTold = (c : Config) (s : State) (n : ℕ) → next_for c s n ≡ turn.Over → (is_over (stage_at s n).life ≡ true) ⊎ IsForsaken c s n
