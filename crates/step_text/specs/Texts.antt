-- How a step text is read: one line behind another, up to its end or the first line that is off the grammar.
use Rattle.std.specs.Prelude.{◌≡◌, ℕ, ◌+◌, ◌<◌, List, [], ◌∷◌, length, Ok, Err}
use Rattle.rss_machine.specs.declared.step.Step.{Step}
use Rattle.step_text.specs.declared.error.StepTextError.{StepTextError}
use Rattle.step_text.specs.declared.error.StepTextError.TheVariants.{BadStep, OutOfMemory}
use Rattle.step_text.specs.Lines.{step_at}

-- the lines of these steps are read one behind another, and this text is left
abbrev pub Reads : List ℕ → List Step → List ℕ → Type 0
Reads bytes [] rest = bytes ≡ rest
Reads bytes (step ∷ steps) rest = (behind : List ℕ) × (step_at bytes ≡ Ok (step, behind)) × Reads behind steps rest

-- the first line that is off the grammar has this number, counted from 1, and goes off it at this column, counted from 1
pub record IsBadStep (bytes : List ℕ) (number column : ℕ) : Type 0 where
  -- the steps of the lines before it
  pub front : List Step
  -- the text from its first byte on
  pub line : List ℕ
  -- how much of the text is left at the place
  pub left : ℕ
  pub before : Reads bytes front line
  pub more : 0 < length line
  pub place : step_at line ≡ Err left
  pub number_is : number ≡ length front + 1
  pub column_is : column + left ≡ length line + 1

-- what a refusal says of the text
abbrev pub IsRefusal : List ℕ → StepTextError → Type 0
IsRefusal bytes (BadStep number column) = IsBadStep bytes number column
IsRefusal bytes OutOfMemory = Unit {0}
