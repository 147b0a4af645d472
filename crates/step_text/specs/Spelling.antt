-- The step text: the one spelling of each list of steps.
-- Each line is `act S E L`, `go M E L`, `lose M E L`, `again M E L`, `kill S E L` or `stub S E L` and a newline, with single spaces.
-- S is a stage, from 1 to 16, and M a message, from 1 to 2^32 - 1.
-- E and L are the two ends of a reading: E is at most L, and L is below 2^62. All numbers are decimal without leading zeros.
use Rattle.std.specs.Prelude.{ℕ, ◌≤◌, ◌<◌, ◌^◌, List, [], ◌∷◌, ◌++◌, codes}
use Rattle.std.specs.Fmt.{decimal}
use Rattle.truetime.specs.Reading.{Reading, IsReading}
use Rattle.rss_machine.specs.declared.step.Step.{Step}
use Rattle.rss_machine.specs.declared.step.StepKind.{StepKind}
use Rattle.rss_machine.specs.declared.step.StepKind.TheVariants.{Act, Go, Lose, Again, Kill, Stub}

-- the word of a kind and its number, decimal without leading zeros, with a single space
unfoldable pub kind_text : StepKind → List ℕ
kind_text (Act stage) = codes "act " ++ decimal stage
kind_text (Go message) = codes "go " ++ decimal message
kind_text (Lose message) = codes "lose " ++ decimal message
kind_text (Again message) = codes "again " ++ decimal message
kind_text (Kill stage) = codes "kill " ++ decimal stage
kind_text (Stub stage) = codes "stub " ++ decimal stage

-- the two ends of a reading, with a space before each, and the newline
unfoldable pub clock_text : Reading → List ℕ
clock_text at = codes " " ++ decimal at.earliest ++ codes " " ++ decimal at.latest ++ codes "\n"

-- the line of a step
unfoldable pub line_of : Step → List ℕ
line_of step = kind_text step.kind ++ clock_text step.at

-- the lines of these steps, one behind another
abbrev pub text_of : List Step → List ℕ
text_of [] = []
text_of (step ∷ steps) = line_of step ++ text_of steps

-- a kind whose number is in range: stages from 1 to 16, messages from 1 on
unfoldable pub IsKind : StepKind → Type 0
IsKind (Act stage) = (1 ≤ stage) × (stage ≤ 16)
IsKind (Go message) = (1 ≤ message) × (message < 2 ^ 32)
IsKind (Lose message) = (1 ≤ message) × (message < 2 ^ 32)
IsKind (Again message) = (1 ≤ message) × (message < 2 ^ 32)
IsKind (Kill stage) = (1 ≤ stage) × (stage ≤ 16)
IsKind (Stub stage) = (1 ≤ stage) × (stage ≤ 16)

-- a step whose line is on the grammar
pub record IsStep (step : Step) : Type 0 where
  pub kind : IsKind step.kind
  pub at : IsReading step.at
