-- The words of commands.
use Rattle.std.specs.Prelude.{ℕ, ◌≡◌, ◌≤◌, List, [], ◌∷◌, codes}
use Rattle.std.specs.Fmt.{decimal}
use Rattle.command_words.specs.declared.command.Command.{Command}
use Rattle.command_words.specs.declared.command.Command.TheVariants.{Replay, Serial, Disk}
use Rattle.command_words.specs.declared.command.Form.{Form}
use Rattle.command_words.specs.declared.command.Form.TheVariants.{Plain, Log, Sum}

-- the option that asks for a form
abbrev pub option_words : Form → List (List ℕ)
option_words Plain = []
option_words Log = codes "--log" ∷ []
option_words Sum = codes "--sum" ∷ []

-- the words of a command
abbrev pub words_of : Command → List (List ℕ)
words_of (Replay form) = codes "replay" ∷ option_words form
words_of (Serial form) = codes "serial" ∷ option_words form
words_of (Disk replica stop) = codes "disk" ∷ decimal replica ∷ decimal stop ∷ []

-- the numbers of a command lie in their ranges
abbrev pub IsInRange : Command → Type 0
IsInRange (Replay form) = Unit {0}
IsInRange (Serial form) = Unit {0}
IsInRange (Disk replica stop) = (1 ≤ replica) × (replica ≤ 7) × (stop ≤ 1000000)

-- the words are this command
pub record IsCalled (command : Command) (words : List (List ℕ)) : Type 0 where
  pub range : IsInRange command
  pub spelled : words ≡ words_of command

-- the words are some command
pub record IsCommand (words : List (List ℕ)) : Type 0 where
  pub command : Command
  pub called : IsCalled command words

-- a word is no command's name
pub record NamesNone (word : List ℕ) : Type 0 where
  pub no_replay : word ≡ codes "replay" → ⊥
  pub no_serial : word ≡ codes "serial" → ⊥

-- a word is no option
pub record IsNoOption (word : List ℕ) : Type 0 where
  pub no_log : word ≡ codes "--log" → ⊥
  pub no_sum : word ≡ codes "--sum" → ⊥

-- the words are `disk` with no two numbers
abbrev pub IsNoDisk : List (List ℕ) → Type 0
IsNoDisk words = (replica stop : ℕ) → IsCalled (Disk replica stop) words → ⊥
