-- What holds of the configuration of every file that is read: scripts name registers and keys of the file, and register services are numbered in order.
use Rattle.std.specs.Prelude.{◌≡◌, ℕ, List, Ok}
use Rattle.pipeline_lang.specs.declared.config.Config.{Config}
use Rattle.pipeline_file.specs.Document.{config_of}
use Rattle.reg_laws.specs.Files.{IsInOrder}
use Rattle.txn_laws.specs.Files.{NamesKeys}

-- each configuration that bytes say is in order
abbrev pub FilesAreInOrder : Type 0
FilesAreInOrder = (bytes : List ℕ) (c : Config) → config_of bytes ≡ Ok c → IsInOrder c

-- each configuration that bytes say names keys of its shards, and some in each snapshot and transaction
abbrev pub FilesNameKeys : Type 0
FilesNameKeys = (bytes : List ℕ) (c : Config) → config_of bytes ≡ Ok c → NamesKeys c
