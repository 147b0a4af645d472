-- What is answered to the words `gen N`.
use Rattle.std.specs.Prelude.{ℕ, ◌≡◌, List, Option}
use Rattle.std.specs.Io.KnownBytes.{Appends, Keeps}
use Rattle.command_words.specs.Generated.{IsGen}
use Rattle.rss_io.specs.Pieces.{AppendsFront}
use Rattle.rss_machine.specs.Generated.{generated_file}
use Rattle.rss_cli.specs.declared.status.Status.{Status}
use Rattle.rss_cli.specs.declared.status.Status.TheVariants.{Done, WriteFault, OutOfMemory}

-- the text is the generated file of the number that the words name
pub record IsGenerated (words : List (List ℕ)) (text : List ℕ) (status : Status) : Type 0 where
  pub number : ℕ
  pub gen : IsGen words number
  pub told : text ≡ generated_file number
  pub status_is : status ≡ Done

-- what the sink has where the words are `gen` and this number: the file, a front of it, or nothing
abbrev pub WroteGenerated : Option (List ℕ) → Option (List ℕ) → ℕ → Status → Type 0
WroteGenerated old new n Done = Appends old new (generated_file n)
WroteGenerated old new n WriteFault = AppendsFront old new (generated_file n)
WroteGenerated old new n OutOfMemory = Keeps old new
WroteGenerated old new n _ = ⊥
