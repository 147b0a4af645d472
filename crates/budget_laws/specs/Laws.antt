-- How many steps a run has, against what was sent in it.
use Rattle.std.specs.Prelude.{◌≡◌, ℕ, ◌+◌, ◌*◌, ◌≤◌, List, length, Some}
use Rattle.pipeline_lang.specs.declared.config.Config.{Config}
use Rattle.rss_machine.specs.Budget.{all_withheld, budget}
use Rattle.rss_machine.specs.Endings.{ending_of}
use Rattle.rss_machine.specs.Run.{run}
use Rattle.rss_machine.specs.Serial.{strays}
use Rattle.rss_machine.specs.State.{State}
use Rattle.rss_machine.specs.declared.ending.Ending.TheVariants as ending
use Rattle.rss_machine.specs.declared.step.Step.{Step}
use Rattle.budget_laws.specs.Bounds.{cost_of}
use Rattle.budget_laws.specs.Counts.{own_steps, lost_steps, again_steps, requests, open_count}

-- a request and its reply are two messages, each of which comes or is lost once: beside what stages, stubs and kills
-- do, a run has two steps at most for each request, less those messages that are still to come, and two for each repeat
abbrev pub StepsArePaid : Type 0
StepsArePaid =
    (c : Config) (steps : List Step) (s : State) → run c steps ≡ Some s → length steps + open_count s.net ≤ own_steps steps + 2 * requests s.net + 2 * again_steps steps

-- in a run of turns no message comes once more
abbrev pub TurnsArePaid : Type 0
TurnsArePaid =
    (c : Config) (steps : List Step) (s : State) → run c steps ≡ Some s → strays c steps ≡ 0 → length steps + open_count s.net ≤ own_steps steps + 2 * requests s.net

-- and no more messages are lost than the file withholds
abbrev pub LossesAreWithheld : Type 0
LossesAreWithheld =
    (c : Config) (steps : List Step) (s : State) → run c steps ≡ Some s → strays c steps ≡ 0 → lost_steps steps ≤ all_withheld c.withholds

-- a run of turns in which stages, stubs and kills, and two for each request, cost no more than the file's stages may,
-- with eight for each message that was lost, does not end with a full log that allows the budget
abbrev pub CostsAreEnough : Type 0
CostsAreEnough =
    (c : Config) (steps : List Step) (s : State) → run c steps ≡ Some s → strays c steps ≡ 0 → 1 ≤ length c.bodies → budget c ≤ c.max_steps → own_steps steps + 2 * requests s.net ≤ cost_of c c.bodies + 8 * lost_steps steps → ending_of c s ≡ ending.Limit → ⊥
