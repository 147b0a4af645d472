-- What becomes of a printed log that is replayed.
use Rattle.std.specs.Prelude.{ℕ, ◌≡◌, List, ◌++◌, Ok, All}
use Rattle.command_words.specs.declared.command.Form.{Form}
use Rattle.command_words.specs.declared.command.Form.TheVariants.{Log}
use Rattle.log_laws.specs.Laws.{IsWholeFile, tail_of}
use Rattle.pipeline_file.specs.Document.{config_of}
use Rattle.pipeline_lang.specs.declared.config.Config.{Config}
use Rattle.rss_machine.specs.declared.step.Step.{Step}
use Rattle.step_text.specs.Spelling.{IsStep}
use Rattle.rss_cli.specs.Answer.{IsReported, IsRead, IsTooLong}
use Rattle.rss_cli.specs.declared.asked.Asked.TheVariants.{Report}
use Rattle.rss_cli.specs.declared.status.Status.{Status}

-- the answer in this form is the report of the same steps, with the same status
pub record IsToldAgain (form : Form) (c : Config) (steps : List Step) (status : Status) (again : List ℕ) (other : Status) : Type 0 where
  pub reported : IsReported form c steps again other
  pub same : other ≡ status

-- a report of these steps over this file was printed with its log: what `replay` then answers
pub record IsReplayable (c : Config) (file : List ℕ) (steps : List Step) (status : Status) : Type 0 where
  pub answers : (form : Form) (again : List ℕ) (other : Status) → IsRead (Report form) (file ++ tail_of steps) again other → IsToldAgain form c steps status again other
  pub short : (again : List ℕ) (other : Status) → IsTooLong (file ++ tail_of steps) again other → ⊥

abbrev pub PrintedLogsReplay : Type 0
PrintedLogsReplay =
    (c : Config) (file : List ℕ) (steps : List Step) (text : List ℕ) (status : Status) → IsWholeFile file → config_of file ≡ Ok c → All IsStep steps → IsReported Log c steps text status → IsReplayable c file steps status
