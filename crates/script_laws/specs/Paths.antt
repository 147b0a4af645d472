-- All states of a walk that stand at one place of a history, and what they tell of a pipe.
use Rattle.std.specs.Prelude.{◌≡◌, ℕ, ◌+◌, ◌==◌, ◌&&◌, List, [], ◌∷◌, get_or, Option, Some, None, if◌then◌else◌}
use Rattle.pipeline_lang.specs.declared.config.Config.{Config}
use Rattle.pipeline_lang.specs.declared.script.Statement.TheVariants as statement
use Rattle.pipeline_lang.specs.Config.{statement_at}
use Rattle.rss_model.specs.Tokens.{same_token}
use Rattle.rss_model.specs.declared.history.Entry.{Entry}
use Rattle.rss_model.specs.declared.history.Token.{Token}
use Rattle.rss_model.specs.declared.history.Token.TheVariants as token
use Rattle.rss_model.specs.Formula.{formula_value}
use Rattle.rss_model.specs.Cursor.{NumberedStatement}
use Rattle.rss_model.specs.Walk.{Walk, Mode, unborn, ready, in_call, over, next_given, after_take, after_chunk}
use Rattle.script_laws.specs.Steps.{silent_step}
use Rattle.script_laws.specs.Entries.{next_statement}

-- a walk can come to a state without an entry
pub data Path (config : Config) (h : List Entry) (stage : ℕ) (to : Walk) : Walk → Type 0 where
  stays : Path config h stage to to
  goes : {w m : Walk} → silent_step config h stage w ≡ Some m → Path config h stage to m →
      Path config h stage to w

-- what a statement tells of the pipe's number: the value that it puts, or the end mark
abbrev pub tells_at : Walk → ℕ → ℕ → NumberedStatement → Option (Option ℕ)
tells_at w pipe number (statement.Let variable value) = None
tells_at w pipe number (statement.Read variable key) = None
tells_at w pipe number (statement.Write key value) = None
tells_at w pipe number (statement.Snap pairs) = None
tells_at w pipe number (statement.Txn pairs guard writes) = None
tells_at w pipe number (statement.Spawn child) = None
tells_at w pipe number (statement.Wait child) = None
tells_at w pipe number (statement.Put p formula) =
    if (p == pipe) && (number == next_given w pipe)
    then Some (Some (formula_value formula w.cursor.variables))
    else None
tells_at w pipe number (statement.Take variable p) = None
tells_at w pipe number (statement.Close p) =
    if (p == pipe) && (number == next_given w pipe) then Some None else None
tells_at w pipe number statement.Fence = None
tells_at w pipe number (statement.Repeat turns) = None
tells_at w pipe number (statement.When test) = None
tells_at w pipe number statement.End = None
tells_at w pipe number statement.Exit = None

-- what a stage that is over tells: its end mark, if that is owed first
abbrev pub tells_owing : ℕ → ℕ → List Token → Option (Option ℕ)
tells_owing pipe number [] = None
tells_owing pipe number (o ∷ owed) =
    if same_token o (token.Chunk pipe number) then Some None else None

abbrev pub tells_in : Config → ℕ → Walk → ℕ → ℕ → Mode → Option (Option ℕ)
tells_in config stage w pipe number unborn = None
tells_in config stage w pipe number ready =
    tells_at w pipe number (statement_at config stage w.cursor.position)
tells_in config stage w pipe number (in_call call) = None
tells_in config stage w pipe number (over how owed) = tells_owing pipe number owed

-- what a giver's walk tells of a number of a pipe where it stands: a value, or the end mark
abbrev pub tells : Config → ℕ → Walk → ℕ → ℕ → Option (Option ℕ)
tells config stage w pipe number = tells_in config stage w pipe number w.mode

-- behind a `take` of this number, which was told to be this value, or the end mark
abbrev pub took : Walk → ℕ → ℕ → ℕ → Option ℕ → Option Walk
took w variable pipe number None = Some (after_take w variable 0 1)
took w variable pipe number (Some value) =
    if number == get_or w.taken pipe 0 + 1 then Some (after_chunk w variable pipe number value) else None

abbrev pub takes_at : Walk → ℕ → ℕ → Option ℕ → Option NumberedStatement → Option Walk
takes_at w pipe number value None = None
takes_at w pipe number value (Some (statement.Let variable formula)) = None
takes_at w pipe number value (Some (statement.Read variable key)) = None
takes_at w pipe number value (Some (statement.Write key formula)) = None
takes_at w pipe number value (Some (statement.Snap pairs)) = None
takes_at w pipe number value (Some (statement.Txn pairs guard writes)) = None
takes_at w pipe number value (Some (statement.Spawn child)) = None
takes_at w pipe number value (Some (statement.Wait child)) = None
takes_at w pipe number value (Some (statement.Put p formula)) = None
takes_at w pipe number value (Some (statement.Take variable p)) =
    if p == pipe then took w variable pipe number value else None
takes_at w pipe number value (Some (statement.Close p)) = None
takes_at w pipe number value (Some statement.Fence) = None
takes_at w pipe number value (Some (statement.Repeat turns)) = None
takes_at w pipe number value (Some (statement.When test)) = None
takes_at w pipe number value (Some statement.End) = None
takes_at w pipe number value (Some statement.Exit) = None

-- where a walk comes to by taking this number of a pipe
abbrev pub take_step : Config → ℕ → Walk → ℕ → ℕ → Option ℕ → Option Walk
take_step config stage w pipe number value =
    takes_at w pipe number value (next_statement config stage w)
