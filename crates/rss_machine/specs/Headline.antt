-- What every reported run owes.
use Rattle.std.specs.Prelude.{◌≡◌, ℕ, List, Some}
use Rattle.rss_names.specs.declared.service.Target.{Target}
use Rattle.truetime.specs.Reading.{AreConsistent}
use Rattle.pipeline_lang.specs.declared.config.Config.{Config}
use Rattle.rss_model.specs.declared.history.How.TheVariants.{Unavailable}
use Rattle.rss_model.specs.Regular.{Regular}
use Rattle.rss_model.specs.ScriptRun.{ScriptRun}
use Rattle.rss_machine.specs.Places.{order_of}
use Rattle.rss_machine.specs.Run.{run, readings_of, history_of}
use Rattle.rss_machine.specs.State.{State, stage_at, owner_at}
use Rattle.rss_machine.specs.Withheld.{IsWithheld, HurtBy}
use Rattle.rss_machine.specs.declared.state.Life.TheVariants.{Over}
use Rattle.rss_machine.specs.declared.state.OwnerFate.TheVariants.{CutOff}
use Rattle.rss_machine.specs.declared.step.Step.{Step}

-- the steps are a run of the tables, whose readings can hold one true moment; all completed calls of
-- all services, with some unfinished mutations, stand at the printed places in one legal order that
-- keeps potential causality and real time; each stage's history is a run of its script; what was cut
-- off was withheld by the steps; and a stage is over as unavailable only where a call or a fence
-- statement of it was cut off from a target that was withheld
pub record KeepsPromise (c : Config) (steps : List Step) : Type 0 where
  pub state : State
  pub runs : run c steps ≡ Some state
  pub readings : AreConsistent (readings_of steps)
  pub order : Regular (history_of c steps) (order_of c steps)
  pub scripts : (stage : ℕ) → ScriptRun c (history_of c steps) stage
  pub withheld : (o : ℕ) (target : Target) → (owner_at state o).fate ≡ CutOff target → IsWithheld c steps o target
  pub hurt : (stage : ℕ) → (stage_at state stage).life ≡ Over Unavailable → HurtBy c steps state stage
