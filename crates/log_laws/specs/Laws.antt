-- Printed logs, read again.
use Rattle.std.specs.Prelude.{ℕ, ◌≡◌, ◌≤◌, ◌<◌, true, false, List, ◌++◌, length, All, codes}
use Rattle.input_parts.specs.Split.{line_begins, is_mark, Splits}
use Rattle.pipeline_lang.specs.declared.config.Config.{Config}
use Rattle.rss_machine.specs.Serial.{serial}
use Rattle.rss_machine.specs.declared.step.Step.{Step}
use Rattle.step_text.specs.Spelling.{IsStep, text_of}
use Rattle.step_text.specs.Texts.{IsBadStep}
use Rattle.world_laws.specs.Shapes.{IsSoundFile}

-- the tail by which a file with these steps can be replayed
abbrev pub tail_of : List Step → List ℕ
tail_of steps = codes "%steps\n" ++ text_of steps

-- a file without a line `%steps`, which is empty or whose last line ends
pub record IsWholeFile (file : List ℕ) : Type 0 where
  pub unmarked : (k : ℕ) → k < length file → is_mark file k ≡ false
  pub ended : line_begins file (length file) ≡ true

-- parts of an input are these
pub record AreParts (file steps one other : List ℕ) : Type 0 where
  pub file_is : file ≡ one
  pub steps_are : steps ≡ other

-- a whole file with a tail splits into the file and the text of the steps, and no other way
abbrev pub PrintedLogsSplit : Type 0
PrintedLogsSplit =
    (file behind one other : List ℕ) → IsWholeFile file → Splits (file ++ (codes "%steps\n" ++ behind)) one other → AreParts one other file behind

-- the text of steps of the grammar is these steps' and no others', and has no bad line
pub record IsReadAlone (steps : List Step) : Type 0 where
  pub alone : (others : List Step) → All IsStep others → text_of steps ≡ text_of others → steps ≡ others
  pub no_bad : (number column : ℕ) → IsBadStep (text_of steps) number column → ⊥

abbrev pub PrintedStepsAreRead : Type 0
PrintedStepsAreRead = (steps : List Step) → All IsStep steps → IsReadAlone steps

-- the text of as many steps as a log can have is short
abbrev pub PrintedLogsAreShort : Type 0
PrintedLogsAreShort = (steps : List Step) → All IsStep steps → length steps ≤ 200000 → length (text_of steps) ≤ 11400000

-- each step of the serial policy is one that the grammar has
abbrev pub PoliciesArePrintable : Type 0
PoliciesArePrintable = (c : Config) → IsSoundFile c → All IsStep (serial c)
