-- The text of a history and an order of its calls: the one spelling of each.
-- Each entry is a line, with single spaces; numbers are decimal without leading zeros.
use Rattle.std.specs.Prelude.{ℕ, ◌+◌, List, [], ◌∷◌, ◌++◌, Option, Some, None, codes}
use Rattle.std.specs.Fmt.{decimal}
use Rattle.rss_names.specs.declared.service.Key.{Key}
use Rattle.pipeline_lang.specs.declared.config.Config.{Config}
use Rattle.pipeline_lang.specs.declared.script.Term.{Term}
use Rattle.pipeline_lang.specs.declared.script.Term.TheVariants.{Number, Variable}
use Rattle.pipeline_lang.specs.declared.script.Expr.{Expr}
use Rattle.pipeline_lang.specs.declared.script.Expr.TheVariants.{One, Plus, Minus}
use Rattle.pipeline_lang.specs.declared.script.Compare.{Compare}
use Rattle.pipeline_lang.specs.declared.script.Compare.TheVariants.{Equal, Less}
use Rattle.pipeline_lang.specs.Config.{stage_name, pipe_name, key_name}
use Rattle.rss_model.specs.declared.op.Op.{Op}
use Rattle.rss_model.specs.declared.op.Op.TheVariants.{Read, Write, Snap, Txn}
use Rattle.rss_model.specs.declared.op.Shown.{Shown}
use Rattle.rss_model.specs.declared.history.Entry.{Entry}
use Rattle.rss_model.specs.declared.history.Entry.TheVariants.{Begin, End, Give, Get, Over}
use Rattle.rss_model.specs.declared.history.Token.{Token}
use Rattle.rss_model.specs.declared.history.Token.TheVariants.{Spawn, Chunk, Exit}
use Rattle.rss_model.specs.declared.history.How.{How}
use Rattle.rss_model.specs.declared.history.How.TheVariants.{Exited, Killed, Unavailable}

-- a number, or `#P`, the position of a read, counted from 1
unfoldable pub term_text : Term ℕ → List ℕ
term_text (Number n) = decimal n
term_text (Variable i) = codes "#" ++ decimal (i + 1)

-- a term, or the sum or difference of two
unfoldable pub formula_text : Expr ℕ → List ℕ
formula_text (One a) = term_text a
formula_text (Plus a b) = term_text a ++ codes " + " ++ term_text b
formula_text (Minus a b) = term_text a ++ codes " - " ++ term_text b

-- a comparison of two formulas
unfoldable pub guard_text : Compare ℕ → List ℕ
guard_text (Equal a b) = formula_text a ++ codes " = " ++ formula_text b
guard_text (Less a b) = formula_text a ++ codes " < " ++ formula_text b

-- the guard of a transaction, if it has one
unfoldable pub when_text : Option (Compare ℕ) → List ℕ
when_text None = []
when_text (Some guard) = codes " when " ++ guard_text guard

-- the members of a list behind the first one
unfoldable pub more_text : {X : Type 0} → (X → List ℕ) → List X → List ℕ
more_text text [] = []
more_text text (x ∷ xs) = codes ", " ++ text x ++ more_text text xs

-- the members of a list, each behind a space, with `,` between
unfoldable pub list_text : {X : Type 0} → (X → List ℕ) → List X → List ℕ
list_text text [] = []
list_text text (x ∷ xs) = codes " " ++ text x ++ more_text text xs

-- a write of a transaction
unfoldable pub write_text : Config → Key × Expr ℕ → List ℕ
write_text config write = key_name config write.0 ++ codes " = " ++ formula_text write.1

-- an operation
unfoldable pub op_text : Config → Op → List ℕ
op_text config (Read key) = codes "read " ++ key_name config key
op_text config (Write key value) =
    codes "write " ++ key_name config key ++ codes " " ++ decimal value
op_text config (Snap keys) = codes "snap" ++ list_text (key_name config) keys
op_text config (Txn keys guard writes) =
    codes "txn" ++ list_text (key_name config) keys ++ when_text guard ++ codes " :" ++
    list_text (write_text config) writes

-- what a call was shown of a key
unfoldable pub shown_text : Config → Shown → List ℕ
shown_text config shown =
    key_name config shown.key ++ codes " = " ++ decimal shown.value ++
    codes " by " ++ decimal shown.writer

-- a message
unfoldable pub token_text : Config → Token → List ℕ
token_text config (Spawn stage) = codes "spawn " ++ stage_name config stage
token_text config (Chunk pipe number) =
    codes "chunk " ++ pipe_name config pipe ++ codes " " ++ decimal number
token_text config (Exit stage) = codes "exit " ++ stage_name config stage

-- how a stage is over
unfoldable pub how_text : How → List ℕ
how_text Exited = codes "exited"
how_text Killed = codes "killed"
how_text Unavailable = codes "unavailable"

-- an entry, without its newline
unfoldable pub entry_text : Config → Entry → List ℕ
entry_text config (Begin call stage op) =
    codes "begin " ++ decimal call ++ codes " " ++ stage_name config stage ++
    codes " " ++ op_text config op
entry_text config (End call reply) =
    codes "end " ++ decimal call ++ list_text (shown_text config) reply
entry_text config (Give stage token) =
    codes "give " ++ stage_name config stage ++ codes " " ++ token_text config token
entry_text config (Get stage token) =
    codes "get " ++ stage_name config stage ++ codes " " ++ token_text config token
entry_text config (Over stage how) =
    codes "over " ++ stage_name config stage ++ codes " " ++ how_text how

-- the lines of a history
unfoldable pub entries_text : Config → List Entry → List ℕ
entries_text config [] = []
entries_text config (e ∷ h) = entry_text config e ++ codes "\n" ++ entries_text config h

-- the lines of an order: a line for each call, from the first to the last
unfoldable pub places_text : List ℕ → List ℕ
places_text [] = []
places_text (call ∷ calls) = codes "place " ++ decimal call ++ codes "\n" ++ places_text calls

-- the text of a history and an order of its calls
unfoldable pub history_text : Config → List Entry → List ℕ → List ℕ
history_text config h c = entries_text config h ++ codes "%places\n" ++ places_text c
