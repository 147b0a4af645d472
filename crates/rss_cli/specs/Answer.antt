-- What the top call answers: which text and status, for which words and input.
use Rattle.std.specs.Prelude.{ℕ, ◌≡◌, ◌<◌, ◌≤◌, ◌⊎◌, Bool, true, false, List, [], ◌∷◌, length, Option, Ok, Err, All, codes}
use Rattle.std.specs.Io.KnownBytes.{Appends, Keeps}
use Rattle.rss_io.specs.Pieces.{AppendsFront}
use Rattle.pipeline_lang.specs.declared.config.Config.{Config}
use Rattle.rss_machine.specs.Endings.{ending_of}
use Rattle.rss_machine.specs.Headline.{KeepsPromise}
use Rattle.rss_machine.specs.Serial.{serial}
use Rattle.rss_machine.specs.State.{State}
use Rattle.rss_machine.specs.declared.step.Step.{Step}
use Rattle.rss_machine.specs.declared.step.StepRefusal.{StepRefusal}
use Rattle.step_text.specs.Spelling.{IsStep, text_of}
use Rattle.step_text.specs.Texts.{IsBadStep}
use Rattle.rss_cli.specs.FaultText.{fault_text}
use Rattle.rss_cli.specs.Played.{IsFirstRefused}
use Rattle.rss_cli.specs.Disk.{IsDiskAnswer, TellsDisk}
use Rattle.rss_cli.specs.Reported.{IsReport}
use Rattle.input_parts.specs.Split.{Splits}
use Rattle.rss_cli.specs.Statuses.{status_of}
use Rattle.command_words.specs.Generated.{IsNoGen}
use Rattle.command_words.specs.Words.{IsCalled, IsCommand}
use Rattle.command_words.specs.declared.command.Command.{Command}
use Rattle.command_words.specs.declared.command.Command.TheVariants as command
use Rattle.command_words.specs.declared.command.Form.{Form}
use Rattle.ending_laws.specs.Laws.{IsCalm, AreUnhurt}
use Rattle.rss_cli.specs.Generated.{IsGenerated}
use Rattle.rss_cli.specs.declared.asked.Asked.{Asked}
use Rattle.rss_cli.specs.declared.asked.Asked.TheVariants as asked
use Rattle.rss_cli.specs.declared.fault.Fault.TheVariants as fault
use Rattle.pipeline_tables.specs.declared.fault.FileFault.{FileFault}
use Rattle.pipeline_file.specs.Document.{config_of}
use Rattle.rss_cli.specs.declared.status.Status.{Status}
use Rattle.rss_cli.specs.declared.status.Status.TheVariants.{Done, Unfinished, Limit, Stuck, Hurt, Usage, File, BadStep, ReadFault, WriteFault, OutOfMemory}

-- the text tells of the state that these steps lead to, in a form, the run keeps what every reported run owes,
-- and the status is the ending's
pub record IsReported (form : Form) (c : Config) (steps : List Step) (text : List ℕ) (status : Status) : Type 0 where
  pub promise : KeepsPromise c steps
  pub report : IsReport form c promise.state steps text
  pub ending : status ≡ status_of (ending_of c promise.state)

-- the text names the first of these steps that the machine refuses, with the cause
pub record IsRefusedStep (c : Config) (steps : List Step) (text : List ℕ) (status : Status) : Type 0 where
  pub number : ℕ
  pub cause : StepRefusal
  pub first : IsFirstRefused c steps number cause
  pub told : text ≡ fault_text (fault.Refused number cause)
  pub status_is : status ≡ BadStep

-- the text and the status tell what is asked of this state, to which these steps lead
abbrev pub Tells : Asked → Config → State → List Step → List ℕ → Status → Type 0
Tells (asked.Report form) c s steps text status = IsReport form c s steps text × (status ≡ status_of (ending_of c s))
Tells (asked.Disk replica stop) c s steps text status = TellsDisk replica stop c s steps text status

-- no step is refused, and what is asked is told
abbrev pub IsTold : Asked → Config → List Step → List ℕ → Status → Type 0
IsTold (asked.Report form) c steps text status = IsReported form c steps text status
IsTold (asked.Disk replica stop) c steps text status = IsDiskAnswer replica stop c steps text status

-- the answer to a list of steps
abbrev pub IsPlayed : Asked → Config → List Step → List ℕ → Status → Type 0
IsPlayed what c steps text status = IsTold what c steps text status ⊎ IsRefusedStep c steps text status

-- the step text spells these steps, each of which the grammar has, and they were played
pub record IsSpelled (what : Asked) (c : Config) (behind text : List ℕ) (status : Status) : Type 0 where
  pub steps : List Step
  pub grammar : All IsStep steps
  pub spelled : behind ≡ text_of steps
  pub played : IsPlayed what c steps text status

-- the text names the first line of the step text that is off the grammar
pub record IsOffGrammar (behind text : List ℕ) (status : Status) : Type 0 where
  pub number : ℕ
  pub column : ℕ
  pub bad : IsBadStep behind number column
  pub told : text ≡ fault_text (fault.OffGrammar number column)
  pub status_is : status ≡ BadStep

-- the answer to a step text
abbrev pub IsStepsAnswer : Asked → Config → List ℕ → List ℕ → Status → Type 0
IsStepsAnswer what c behind text status = IsSpelled what c behind text status ⊎ IsOffGrammar behind text status

-- the file says this configuration
pub record IsValidFile (what : Asked) (file behind text : List ℕ) (status : Status) : Type 0 where
  pub config : Config
  pub says : config_of file ≡ Ok config
  pub answer : IsStepsAnswer what config behind text status

-- the file has this fault first
pub record IsFaultyFile (file text : List ℕ) (status : Status) : Type 0 where
  pub first : FileFault
  pub says : config_of file ≡ Err first
  pub told : text ≡ fault_text (fault.File first)
  pub status_is : status ≡ File

-- the longest step text
abbrev pub steps_limit : ℕ
steps_limit = 16777216

-- the step text is longer than its limit
pub record AreStepsTooLong (behind text : List ℕ) (status : Status) : Type 0 where
  pub long : steps_limit < length behind
  pub told : text ≡ fault_text fault.TooLong
  pub status_is : status ≡ File

-- the step text is no longer than its limit
pub record IsFileAnswer (what : Asked) (file behind text : List ℕ) (status : Status) : Type 0 where
  pub short : length behind ≤ steps_limit
  pub answer : IsValidFile what file behind text status ⊎ IsFaultyFile file text status

-- the answer to a file and the step text behind it
abbrev pub IsReplayed : Asked → List ℕ → List ℕ → List ℕ → Status → Type 0
IsReplayed what file behind text status = IsFileAnswer what file behind text status ⊎ AreStepsTooLong behind text status

-- the longest input: a file, the line `%steps`, and step text
abbrev pub input_limit : ℕ
input_limit = 17825799

-- the input was read, and is no longer than its limit
pub record IsRead (what : Asked) (input text : List ℕ) (status : Status) : Type 0 where
  pub short : length input ≤ input_limit
  pub file : List ℕ
  pub behind : List ℕ
  pub parts : Splits input file behind
  pub replayed : IsReplayed what file behind text status

-- the input is longer than its limit
pub record IsTooLong (input text : List ℕ) (status : Status) : Type 0 where
  pub long : input_limit < length input
  pub told : text ≡ fault_text fault.TooLong
  pub status_is : status ≡ File

-- the text tells how the program is called
pub record IsUsageAnswer (text : List ℕ) (status : Status) : Type 0 where
  pub told : text ≡ fault_text fault.Usage
  pub status_is : status ≡ Usage

-- the words are no command, and not `gen` with a number either
pub record IsUsage (words : List (List ℕ)) (text : List ℕ) (status : Status) : Type 0 where
  pub other : IsCommand words → ⊥
  pub no_gen : IsNoGen words
  pub answer : IsUsageAnswer text status

-- the text tells of the state that the steps of the serial policy lead to; the run has come to its end, and where
-- the file withholds nothing and kills nothing, no stage is killed or unavailable
pub record IsWholeReport (form : Form) (c : Config) (text : List ℕ) (status : Status) : Type 0 where
  pub reported : IsReported form c (serial c) text status
  pub finished : status ≡ Unfinished → ⊥
  pub unhurt : IsCalm c → AreUnhurt reported.promise.state

-- the answer to a file by the steps of the serial policy
pub record IsValidForPolicy (form : Form) (file text : List ℕ) (status : Status) : Type 0 where
  pub config : Config
  pub says : config_of file ≡ Ok config
  pub answer : IsWholeReport form config text status

-- the input was read, is no longer than its limit, and is a file alone
pub record IsReadForPolicy (form : Form) (input text : List ℕ) (status : Status) : Type 0 where
  pub short : length input ≤ input_limit
  pub answer : IsValidForPolicy form input text status ⊎ IsFaultyFile input text status

-- the answer of a command to an input that was read
abbrev pub IsReadBy : Command → List ℕ → List ℕ → Status → Type 0
IsReadBy (command.Replay form) input text status = IsRead (asked.Report form) input text status
IsReadBy (command.Serial form) input text status = IsReadForPolicy form input text status
IsReadBy (command.Disk replica stop) input text status = IsRead (asked.Disk replica stop) input text status

-- the words are this command
pub record IsServed (words : List (List ℕ)) (input text : List ℕ) (status : Status) : Type 0 where
  pub command : Command
  pub called : IsCalled command words
  pub answer : IsReadBy command input text status ⊎ IsTooLong input text status

-- which text and status are the answer to these words and this input
abbrev pub IsAnswer : List (List ℕ) → List ℕ → List ℕ → Status → Type 0
IsAnswer words input text status = IsUsage words text status ⊎ (IsServed words input text status ⊎ IsGenerated words text status)

-- the whole text of the answer with this status was written
pub record Told (old new : Option (List ℕ)) (words : List (List ℕ)) (input : List ℕ) (status : Status) : Type 0 where
  pub text : List ℕ
  pub answer : IsAnswer words input text status
  pub written : Appends old new text

-- a front of the text of the answer was written
pub record ToldInPart (old new : Option (List ℕ)) (words : List (List ℕ)) (input : List ℕ) : Type 0 where
  pub status : Status
  pub text : List ℕ
  pub answer : IsAnswer words input text status
  pub front : AppendsFront old new text

-- what the sink has after a status: the whole text of the answer, a front of it, or nothing
abbrev pub Wrote : Option (List ℕ) → Option (List ℕ) → List (List ℕ) → List ℕ → Status → Type 0
Wrote old new words input ReadFault = Keeps old new
Wrote old new words input OutOfMemory = Keeps old new
Wrote old new words input WriteFault = ToldInPart old new words input
Wrote old new words input Done = Told old new words input Done
Wrote old new words input Unfinished = Told old new words input Unfinished
Wrote old new words input Limit = Told old new words input Limit
Wrote old new words input Stuck = Told old new words input Stuck
Wrote old new words input Hurt = Told old new words input Hurt
Wrote old new words input Usage = Told old new words input Usage
Wrote old new words input File = Told old new words input File
Wrote old new words input BadStep = Told old new words input BadStep

-- what the sink has where the words are no command: how the program is called, a front of that, or nothing
abbrev pub WroteUsage : Option (List ℕ) → Option (List ℕ) → Status → Type 0
WroteUsage old new Usage = Appends old new (fault_text fault.Usage)
WroteUsage old new WriteFault = AppendsFront old new (fault_text fault.Usage)
WroteUsage old new OutOfMemory = Keeps old new
WroteUsage old new _ = ⊥

-- whether an answer can have this status: it comes with a text
abbrev pub is_answer : Status → Bool
is_answer ReadFault = false
is_answer WriteFault = false
is_answer OutOfMemory = false
is_answer Done = true
is_answer Unfinished = true
is_answer Limit = true
is_answer Stuck = true
is_answer Hurt = true
is_answer Usage = true
is_answer File = true
is_answer BadStep = true

-- whether this status comes with a report
abbrev pub is_report : Status → Bool
is_report Done = true
is_report Unfinished = true
is_report Limit = true
is_report Stuck = true
is_report Hurt = true
is_report Usage = false
is_report File = false
is_report BadStep = false
is_report ReadFault = false
is_report WriteFault = false
is_report OutOfMemory = false
