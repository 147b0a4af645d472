-- Where the walk of a stage's script along a history stands, and what each statement does to it.
use Rattle.std.specs.Prelude.{◌≡◌, ℕ, ◌+◌, ◌==◌, ◌&&◌, Bool, true, false, not, List, [], ◌∷◌, ◌++◌, get_or, set, replicate, if◌then◌else◌}
use Rattle.pipeline_lang.specs.declared.config.Config.{Config}
use Rattle.pipeline_lang.specs.declared.config.PipeEnds.{PipeEnds}
use Rattle.pipeline_lang.specs.Config.{statement_at}
use Rattle.rss_model.specs.declared.history.Token.{Token}
use Rattle.rss_model.specs.declared.history.Token.TheVariants as token
use Rattle.rss_model.specs.declared.history.How.{How}
use Rattle.rss_model.specs.Cursor.{NumberedStatement, Cursor, next_cursor, with_variable}
use Rattle.rss_model.specs.CallStatement.{after_call}
use Rattle.rss_model.specs.Scripts.{is_spawned}

-- a stage is not spawned yet, between statements, in a call, or over with this still to give
pub data Mode : Type 0 where
  unborn : Mode
  ready : Mode
  in_call : ℕ → Mode
  over : How → List Token → Mode

-- whether a stage has begun and is not over
abbrev pub is_alive : Mode → Bool
is_alive unborn = false
is_alive ready = true
is_alive (in_call call) = true
is_alive (over how owed) = false

-- by pipe: the last number given, the last chunk taken, and whether its end mark was given
pub record Walk : Type 0 where
  pub cursor : Cursor
  pub given : List ℕ
  pub taken : List ℕ
  pub closed : List Bool
  pub mode : Mode

-- a zero for each number that a variable or a pipe can have
unfoldable pub all_zero : List ℕ
all_zero = replicate 256 0

-- no end mark for any number that a pipe can have
unfoldable pub all_open : List Bool
all_open = replicate 256 false

-- before the first entry
abbrev pub first_walk : Config → ℕ → Walk
first_walk config stage = record {
  cursor = record { position = 0; blocks = []; variables = all_zero };
  given = all_zero;
  taken = all_zero;
  closed = all_open;
  mode = if is_spawned config stage then unborn else ready;
}

-- this statement comes next
pub record IsNext (config : Config) (stage : ℕ) (w : Walk) (s : NumberedStatement) : Type 0 where
  pub ready : w.mode ≡ ready
  pub statement : statement_at config stage w.cursor.position ≡ s

-- the number of the next chunk or end mark that the stage gives to a pipe
abbrev pub next_given : Walk → ℕ → ℕ
next_given w pipe = get_or w.given pipe 0 + 1

-- behind a `spawn` or a `fence`
abbrev pub past_statement : Walk → Walk
past_statement w = record w { cursor = next_cursor w.cursor }

-- behind a `put`
abbrev pub after_put : Walk → ℕ → Walk
after_put w pipe = record w {
  cursor = next_cursor w.cursor;
  given = set w.given pipe (next_given w pipe);
}

-- behind a `close`
abbrev pub after_close : Walk → ℕ → Walk
after_close w pipe = record w {
  cursor = next_cursor w.cursor;
  given = set w.given pipe (next_given w pipe);
  closed = set w.closed pipe true;
}

-- behind a call that was shown these values
abbrev pub after_reply : Config → ℕ → Walk → List ℕ → Walk
after_reply config stage w values = record w {
  cursor = after_call w.cursor (statement_at config stage w.cursor.position) values;
  mode = ready;
}

-- behind a `wait` with this status
abbrev pub after_wait : Walk → ℕ → Walk
after_wait w status = record w { cursor = next_cursor (with_variable w.cursor 0 status) }

-- behind a `take` with this value and status
abbrev pub after_take : Walk → ℕ → ℕ → ℕ → Walk
after_take w variable value status = record w {
  cursor = next_cursor (with_variable (with_variable w.cursor variable value) 0 status);
}

-- behind a `take` of a chunk with this number and value
abbrev pub after_chunk : Walk → ℕ → ℕ → ℕ → ℕ → Walk
after_chunk w variable pipe number value =
    record (after_take w variable value 0) { taken = set w.taken pipe number }

-- the end marks of those of these pipes, the first of which has this number, that have none yet
unfoldable pub end_marks : ℕ → List ℕ → List Bool → ℕ → List PipeEnds → List Token
end_marks stage given closed pipe [] = []
end_marks stage given closed pipe (ends ∷ pipes) =
    let rest : List Token = end_marks stage given closed (pipe + 1) pipes in
    if (ends.giver == stage) && not (get_or closed pipe false)
    then token.Chunk pipe (get_or given pipe 0 + 1) ∷ rest
    else rest

-- what a stage gives at its exit: the end marks in file order, and then its exit
abbrev pub last_gives : Config → ℕ → Walk → List Token
last_gives config stage w =
    end_marks stage w.given w.closed 1 config.pipe_ends ++ token.Exit stage ∷ []

-- over, with all of it still to give
abbrev pub over_as : Config → ℕ → Walk → How → Walk
over_as config stage w how = record w { mode = over how (last_gives config stage w) }
