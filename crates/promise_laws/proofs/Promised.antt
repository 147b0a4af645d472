-- Each run keeps the promise: its parts are laws of runs.
use Rattle.std.proofs.Common.{◌≡◌, ℕ, true, List, Option, Some, sym, subst}
use Rattle.std.specs.List.{All}
use Rattle.pipeline_lang.specs.declared.config.Config.{Config}
use Rattle.rss_model.specs.ScriptRun.{ScriptRun}
use Rattle.rss_machine.specs.Headline.{KeepsPromise}
use Rattle.rss_machine.specs.Run.{run, readings_of, history_in}
use Rattle.rss_machine.specs.State.{State}
use Rattle.rss_machine.specs.declared.step.Step.{Step}
use Rattle.world_laws.specs.Laws.{IsOrdered}
use Rattle.world_laws.specs.Numbered.{are_numbered}
use Rattle.world_laws.specs.Shapes.{IsSoundFile}
use Rattle.world_laws.proofs.Readings.{readings_consistent}
use Rattle.token_laws.proofs.ScriptRuns.{script_run}
use Rattle.loss_laws.proofs.Files.{withheld, stages}
use Rattle.target_laws.proofs.Runs.{targets_placed}
use Rattle.regular_laws.proofs.Runs.{orders_run}

-- what holds of the state's history holds of the run's
scripts_of_run : (c : Config) (h : Option State) (s : State) → h ≡ Some s → ((stage : ℕ) → ScriptRun c s.history stage) → (stage : ℕ) → ScriptRun c (history_in h) stage
scripts_of_run c h s e o = subst (λ (h : Option State). (stage : ℕ) → ScriptRun c (history_in h) stage) (sym e) o

pub promised_run : (c : Config) (steps : List Step) (s : State) → IsSoundFile c → All IsOrdered (readings_of steps) → are_numbered steps ≡ true → run c steps ≡ Some s → KeepsPromise c steps
promised_run c steps s f a m e =
    let p = targets_placed c steps s f a e in
    record {
      state = s;
      runs = e;
      readings = readings_consistent c steps s e a;
      order = orders_run c f steps a m;
      scripts = scripts_of_run c (run c steps) s e (λ n. script_run c steps s n f.spawns f.pipes m e);
      withheld = λ o target cut. withheld c steps s o target e f.within.places p cut;
      hurt = (stages c steps s e f.within.places p).unavailable;
    }
