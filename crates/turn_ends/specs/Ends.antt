-- How a turn ends that is no call's.
use Rattle.std.specs.Prelude.{◌≡◌, ℕ, ⊤, Option}
use Rattle.pipeline_lang.specs.declared.config.Config.{Config}
use Rattle.truetime.specs.Reading.{Reading}
use Rattle.rss_wire.specs.declared.messages.Reply.{Reply}
use Rattle.rss_tables.specs.Lines.{Line}
use Rattle.rss_machine.specs.State.{Owner}
use Rattle.turn_laws.specs.Turns.{TurnEnd, goes, replied, fence_over, stub_over, OwnerTurn, begin_turn, hear_turn, act_turn, stub_turn}

-- a fence statement or a stub is done
abbrev pub IsOver : TurnEnd → Type 0
IsOver goes = ⊥
IsOver (replied shown seen) = ⊥
IsOver fence_over = ⊤
IsOver stub_over = ⊤

-- an owner stays of its stage, and where a turn ends one of these, its least times are those that it had before
abbrev pub EndsAsBefore : Owner → OwnerTurn → Type 0
EndsAsBefore w t = (t.after.stage ≡ w.stage) × (IsOver t.ending → t.after.works.copy.least ≡ w.works.copy.least)

-- so does each turn
pub record EndsKeepLeastTimes : Type 0 where
  pub begins : (c : Config) (o step : ℕ) (at : Reading) (w : Owner) → EndsAsBefore w (begin_turn c o step at w)
  pub hears : (c : Config) (o step : ℕ) (at : Reading) (slot : ℕ) (r : Reply) (w : Owner) → EndsAsBefore w (hear_turn c o step at slot r w)
  pub acts : (c : Config) (o step : ℕ) (at : Reading) (line : Option Line) (w : Owner) → EndsAsBefore w (act_turn c o step at line w)
  pub settles : (c : Config) (o step : ℕ) (at : Reading) (w : Owner) → EndsAsBefore w (stub_turn c o step at w)
