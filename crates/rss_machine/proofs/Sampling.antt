-- What worked runs show: their reports.
use Rattle.std.specs.Prelude.{ℕ, true, List, [], ◌∷◌, ◌++◌, Option}
use Rattle.std.specs.Option.{option_map}
use Rattle.pipeline_lang.specs.declared.config.Config.{Config}
use Rattle.rss_machine.specs.Places.{places_of}
use Rattle.rss_machine.specs.ReportText.{report_text, report_of, newline}
use Rattle.rss_machine.specs.Run.{run}
use Rattle.rss_machine.specs.Serial.{serial}
use Rattle.rss_machine.specs.declared.step.Step.{Step}
use Rattle.rss_machine.specs.declared.step.StepKind.{StepKind}

-- a step of a kind with the two ends of its reading
abbrev pub step : StepKind → ℕ → ℕ → Step
step kind earliest latest = record { kind = kind; at = record { earliest = earliest; latest = latest } }

-- texts as lines
abbrev pub lines : List (List ℕ) → List ℕ
lines [] = []
lines (text ∷ texts) = text ++ newline ++ lines texts

-- the report of the run of these steps, if they are one
abbrev pub replay_report : Config → List Step → Option (List ℕ)
replay_report c steps = option_map (report_of c) (run c steps)

-- the report of the run that the serial policy makes
abbrev pub serial_report : Config → Option (List ℕ)
serial_report c = replay_report c (serial c)

-- the same with sums in the place of calls
abbrev pub serial_sum : Config → Option (List ℕ)
serial_sum c = option_map (λ s. report_text c s (places_of s) [] true) (run c (serial c))
