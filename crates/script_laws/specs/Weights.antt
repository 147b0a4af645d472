-- How far a script can still go without an entry: a bound that falls with each silent step.
use Rattle.std.specs.Prelude.{ℕ, zero, suc, ◌+◌, ◌-◌, ◌*◌, List, [], ◌∷◌, length}
use Rattle.pipeline_lang.specs.declared.script.Statement.TheVariants.{Let, Read, Write, Snap, Txn, Spawn, Wait, Put, Take, Close, Fence, Repeat, When, End, Exit}
use Rattle.rss_model.specs.Cursor.{NumberedStatement, Block, Cursor}

-- the turns of a `repeat`
abbrev pub turns_of : NumberedStatement → ℕ
turns_of (Let variable value) = 0
turns_of (Read variable key) = 0
turns_of (Write key value) = 0
turns_of (Snap pairs) = 0
turns_of (Txn pairs guard writes) = 0
turns_of (Spawn stage) = 0
turns_of (Wait stage) = 0
turns_of (Put pipe value) = 0
turns_of (Take variable pipe) = 0
turns_of (Close pipe) = 0
turns_of Fence = 0
turns_of (Repeat turns) = turns
turns_of (When test) = 0
turns_of End = 0
turns_of Exit = 0

-- at least the turns of each block of a script, and one
unfoldable pub most_turns : List NumberedStatement → ℕ
most_turns [] = 1
most_turns (s ∷ rest) = turns_of s + most_turns rest

-- at least the steps through so many statements, where each block has so many turns at most
unfoldable pub weight : ℕ → ℕ → ℕ
weight most zero = 0
weight most (suc left) = suc (most * weight most left)

-- at least the steps of the turns that open blocks have left
unfoldable pub held : ℕ → ℕ → List Block → ℕ
held most size [] = 0
held most size (b ∷ blocks) = (b.turns - 1) * weight most (size - b.first) + held most size blocks

-- at least the silent steps that are left
abbrev pub weigh : List NumberedStatement → Cursor → ℕ
weigh script at =
    weight (most_turns script) (length script - at.position) +
    held (most_turns script) (length script) at.blocks
