-- Pieces of the report's text, as they are written one after another.
use Rattle.std.specs.Prelude.{ℕ, List, [], ◌∷◌, ◌++◌, map, Option, Some, None, codes}
use Rattle.std.specs.Fmt.{decimal}
use Rattle.pipeline_lang.specs.declared.config.Config.{Config}
use Rattle.pipeline_lang.specs.Config.{key_name}
use Rattle.rss_names.specs.declared.service.Key.{Key}
use Rattle.rss_model.specs.declared.op.Op.{Op}
use Rattle.rss_model.specs.declared.op.Op.TheVariants.{Read, Write, Snap, Txn}
use Rattle.rss_model.specs.declared.op.Shown.{Shown}
use Rattle.rss_model.specs.Operation.{values_of}
use Rattle.rss_tables.specs.declared.endings.Await.{Await}
use Rattle.rss_machine.specs.declared.ending.StageState.{StageState}
use Rattle.rss_machine.specs.declared.ending.StageState.TheVariants as standing
use Rattle.rss_machine.specs.ReportText.{shown_text, written_text, reads_text, writes_text, await_text, how_text, stub_text}

-- texts with `, ` before each
abbrev pub behind_commas : List (List ℕ) → List ℕ
behind_commas [] = []
behind_commas (t ∷ texts) = codes ", " ++ t ++ behind_commas texts

-- what more was read
abbrev pub more_reads : Config → List Shown → List ℕ
more_reads c reply = behind_commas (map (shown_text c) reply)

-- what more was written
abbrev pub more_writes : Config → List (Key × ℕ) → List ℕ
more_writes c writes = behind_commas (map (written_text c) writes)

-- the word of an operation
abbrev pub op_word : Op → List ℕ
op_word (Read key) = codes "read"
op_word (Write key value) = codes "write"
op_word (Snap keys) = codes "snap"
op_word (Txn reads guard writes) = codes "txn"

-- what an operation has read and written
abbrev pub known_text : Config → Op → List Shown → List ℕ
known_text c (Read key) reply = reads_text c reply
known_text c (Write key value) reply = codes " " ++ key_name c key ++ codes " " ++ decimal value
known_text c (Snap keys) reply = reads_text c reply
known_text c (Txn reads guard writes) reply =
    reads_text c reply ++ codes " : " ++ writes_text c (Txn reads guard writes) (values_of reply)

-- a live stage by what it waits for
abbrev pub waits_text : Config → Option Await → List ℕ
waits_text c None = codes "running"
waits_text c (Some a) = await_text c a

-- how a stage stands that waits for this
abbrev pub standing_text : Config → Option Await → StageState → List ℕ
standing_text c blocked standing.Unborn = codes "unborn"
standing_text c blocked standing.Live = waits_text c blocked
standing_text c blocked standing.Exited = codes "exited"
standing_text c blocked (standing.Ended how end) = how_text how ++ stub_text end
