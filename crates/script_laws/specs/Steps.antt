-- The steps of a stage's walk as functions: what a silent step and an entry lead to.
use Rattle.std.specs.Prelude.{ℕ, ◌||◌, ◌&&◌, ◌==◌, Bool, false, not, nat_le, List, [], ◌∷◌, get_or, Option, Some, None, if◌then◌else◌}
use Rattle.pipeline_lang.specs.declared.config.Config.{Config}
use Rattle.pipeline_lang.specs.declared.script.Statement.TheVariants as statement
use Rattle.pipeline_lang.specs.Config.{script_of, statement_at}
use Rattle.rss_model.specs.declared.history.Entry.{Entry}
use Rattle.rss_model.specs.declared.history.Entry.TheVariants.{Begin, End, Give, Get, Over}
use Rattle.rss_model.specs.declared.history.Token.TheVariants as token
use Rattle.rss_model.specs.Stages.{ending_of, is_death}
use Rattle.rss_model.specs.Cursor.{NumberedStatement, after_local}
use Rattle.rss_model.specs.Scripts.{giver_of}
use Rattle.rss_model.specs.Walk.{Walk, Mode, unborn, ready, in_call, over, past_statement, after_take, after_wait}

-- whether an entry gives away the exit of this stage, by the stage itself
abbrev pub gives_exit : ℕ → Entry → Bool
gives_exit stage (Begin call s op) = false
gives_exit stage (End call reply) = false
gives_exit stage (Give s (token.Spawn child)) = false
gives_exit stage (Give s (token.Chunk pipe number)) = false
gives_exit stage (Give s (token.Exit t)) = (s == stage) && (t == stage)
gives_exit stage (Get s t) = false
gives_exit stage (Over s how) = false

-- whether some entry does
abbrev pub gave_exit : ℕ → List Entry → Bool
gave_exit stage [] = false
gave_exit stage (e ∷ h) = gives_exit stage e || gave_exit stage h

-- whether a stage died, and its exit was not given
abbrev pub is_dead : List Entry → ℕ → Bool
is_dead h stage = is_death (ending_of h stage) && not (gave_exit stage h)

-- whether an entry gives a chunk of this pipe, by this giver, past this number
abbrev pub gives_past : ℕ → ℕ → ℕ → Entry → Bool
gives_past giver pipe number (Begin call s op) = false
gives_past giver pipe number (End call reply) = false
gives_past giver pipe number (Give s (token.Spawn child)) = false
gives_past giver pipe number (Give s (token.Chunk p n)) =
    (s == giver) && ((p == pipe) && not (nat_le n number))
gives_past giver pipe number (Give s (token.Exit t)) = false
gives_past giver pipe number (Get s t) = false
gives_past giver pipe number (Over s how) = false

-- whether some entry does
abbrev pub gave_past : ℕ → ℕ → ℕ → List Entry → Bool
gave_past giver pipe number [] = false
gave_past giver pipe number (e ∷ h) =
    gives_past giver pipe number e || gave_past giver pipe number h

-- whether a pipe gives no more: its giver is dead, and all that it gave was taken
abbrev pub is_dry : Config → List Entry → Walk → ℕ → Bool
is_dry config h w pipe =
    is_dead h (giver_of config pipe) &&
    not (gave_past (giver_of config pipe) pipe (get_or w.taken pipe 0) h)

-- where a walk that stands before this statement comes to without an entry
abbrev pub silent_at : Config → List Entry → ℕ → Walk → NumberedStatement → Option Walk
silent_at config h stage w (statement.Let variable value) =
    Some (record w { cursor = after_local (script_of config stage) w.cursor (statement.Let variable value) })
silent_at config h stage w (statement.Read variable key) = None
silent_at config h stage w (statement.Write key value) = None
silent_at config h stage w (statement.Snap pairs) = None
silent_at config h stage w (statement.Txn pairs guard writes) = None
silent_at config h stage w (statement.Spawn child) = None
silent_at config h stage w (statement.Wait child) =
    if is_dead h child then Some (after_wait w 2) else None
silent_at config h stage w (statement.Put pipe value) = None
silent_at config h stage w (statement.Take variable pipe) =
    if is_dry config h w pipe then Some (after_take w variable 0 2) else None
silent_at config h stage w (statement.Close pipe) = None
silent_at config h stage w statement.Fence = Some (past_statement w)
silent_at config h stage w (statement.Repeat turns) =
    Some (record w { cursor = after_local (script_of config stage) w.cursor (statement.Repeat turns) })
silent_at config h stage w (statement.When test) =
    Some (record w { cursor = after_local (script_of config stage) w.cursor (statement.When test) })
silent_at config h stage w statement.End =
    Some (record w { cursor = after_local (script_of config stage) w.cursor statement.End })
silent_at config h stage w statement.Exit = None

-- where a walk in this mode comes to without an entry
abbrev pub silent_in : Config → List Entry → ℕ → Walk → Mode → Option Walk
silent_in config h stage w unborn = None
silent_in config h stage w ready =
    silent_at config h stage w (statement_at config stage w.cursor.position)
silent_in config h stage w (in_call call) = None
silent_in config h stage w (over how owed) = None

-- where a walk comes to without an entry
abbrev pub silent_step : Config → List Entry → ℕ → Walk → Option Walk
silent_step config h stage w = silent_in config h stage w w.mode
