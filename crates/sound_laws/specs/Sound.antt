-- What every file that is read keeps.
use Rattle.std.specs.Prelude.{◌≡◌, ℕ, List, Ok}
use Rattle.pipeline_lang.specs.declared.config.Config.{Config}
use Rattle.pipeline_file.specs.Document.{config_of}
use Rattle.world_laws.specs.Shapes.{IsSoundFile}

-- each configuration that bytes say is sound
abbrev pub FilesAreSound : Type 0
FilesAreSound = (bytes : List ℕ) (c : Config) → config_of bytes ≡ Ok c → IsSoundFile c
