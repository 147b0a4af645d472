-- What is told of a run: its report, and what the form adds or leaves out.
use Rattle.std.specs.Prelude.{ℕ, ◌≡◌, List, [], ◌++◌, true}
use Rattle.command_words.specs.declared.command.Form.{Form}
use Rattle.command_words.specs.declared.command.Form.TheVariants.{Plain, Log, Sum}
use Rattle.log_laws.specs.Laws.{tail_of}
use Rattle.pipeline_lang.specs.declared.config.Config.{Config}
use Rattle.rss_machine.specs.Places.{places_of}
use Rattle.rss_machine.specs.ReportText.{report_of, report_text}
use Rattle.rss_machine.specs.State.{State}
use Rattle.rss_machine.specs.declared.step.Step.{Step}

-- the report with one line of sums in the place of the lines of calls
abbrev pub summary_of : Config → State → List ℕ
summary_of c s = report_text c s (places_of s) [] true

-- this is what the form tells of the state to which these steps lead
abbrev pub IsReport : Form → Config → State → List Step → List ℕ → Type 0
IsReport Plain c s steps text = text ≡ report_of c s
IsReport Log c s steps text = text ≡ report_of c s ++ tail_of steps
IsReport Sum c s steps text = text ≡ summary_of c s
