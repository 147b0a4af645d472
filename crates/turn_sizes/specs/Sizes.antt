-- How much a turn of an owner sends and plans at most.
use Rattle.std.specs.Prelude.{◌≡◌, ℕ, List, Option, Some}
use Rattle.truetime.specs.Reading.{Reading}
use Rattle.causal_context.specs.Services.{AreServices}
use Rattle.pipeline_lang.specs.declared.config.Config.{Config}
use Rattle.rss_wire.specs.declared.messages.Reply.{Reply}
use Rattle.rss_tables.specs.Lines.{Line}
use Rattle.rss_machine.specs.Run.{run}
use Rattle.rss_machine.specs.State.{State, Owner, owner_at}
use Rattle.rss_machine.specs.declared.step.Step.{Step}
use Rattle.turn_laws.specs.Few.{IsFew}
use Rattle.turn_laws.specs.Turns.{begin_turn, hear_turn, act_turn, stub_turn}
use Rattle.world_laws.specs.Shapes.{IsSoundFile}

-- whatever turn an owner takes, it is few
pub record FewTurns (c : Config) (o step : ℕ) (at : Reading) (w : Owner) : Type 0 where
  pub begins : IsFew (begin_turn c o step at w)
  pub hears : (slot : ℕ) (r : Reply) → IsFew (hear_turn c o step at slot r w)
  pub acts : (line : Option Line) → IsFew (act_turn c o step at line w)
  pub stubs : IsFew (stub_turn c o step at w)

-- every owner of every run takes only turns that are few, where the services that its copy used last stand in their order
abbrev pub TurnsAreFew : Type 0
TurnsAreFew =
    (c : Config) (steps : List Step) (s : State) (o step : ℕ) (at : Reading) → IsSoundFile c → run c steps ≡ Some s → AreServices (owner_at s o).works.copy.last.services → FewTurns c o step at (owner_at s o)

-- every owner begins by a turn that is few
abbrev pub BeginningsAreFew : Type 0
BeginningsAreFew = (c : Config) (o step : ℕ) (at : Reading) (w : Owner) → IsSoundFile c → IsFew (begin_turn c o step at w)
