-- A stage that makes its next statement.
use Rattle.std.specs.Prelude.{◌≡◌, ℕ, ◌<◌, ◌≤◌, true, length, None}
use Rattle.pipeline_lang.specs.Config.{statement_at}
use Rattle.pipeline_lang.specs.declared.config.Config.{Config}
use Rattle.pipeline_lang.specs.declared.script.Statement.{Statement}
use Rattle.rss_names.specs.declared.service.Key.{Key}
use Rattle.pipeline_stage.specs.Statements.{opens_block}
use Rattle.truetime.specs.Reading.{Reading}
use Rattle.rss_machine.specs.Effect.{makes}
use Rattle.rss_machine.specs.State.{Owner}
use Rattle.turn_laws.specs.Few.{IsFew}
use Rattle.turn_laws.specs.Turns.{begin_turn}
use Rattle.world_parts.specs.Parts.{Staging, Traffic, stage_in}
use Rattle.world_machine.specs.declared.machine.Machine.{Machine}
use Rattle.world_machine.specs.Machine.{state_of}
use Rattle.world_laws.specs.Shapes.{IsSoundFile}
use Rattle.parts_ready.specs.Few.{AreFew}

-- a stage of a sound file that has nothing under way, where what begins takes turns that are few
pub record ActsIn (c : Config) (g : Staging) (t : Traffic) (n : ℕ) : Type 0 where
  pub first : 1 ≤ n
  pub there : n ≤ length g.stages
  pub idle : (stage_in g n).owner ≡ None
  pub shallow : opens_block (statement_at c n (stage_in g n).cursor.position) ≡ true → length (stage_in g n).cursor.blocks < 4
  pub file : IsSoundFile c
  pub few : AreFew g t
  pub begins : (o step : ℕ) (at : Reading) (w : Owner) → IsFew (begin_turn c o step at w)

abbrev pub IsActing : Machine → ℕ → Type 0
IsActing m n = ActsIn m.config m.staging.staging m.traffic.traffic n

-- what a statement makes that needs no reading
abbrev pub MakesNext : Machine → Machine → ℕ → Statement ℕ Key ℕ ℕ → Type 0
MakesNext old new n statement = (at : Reading) → state_of new ≡ makes old.config (state_of old) n at statement
