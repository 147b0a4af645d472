-- Where an entry leads a stage's walk, as a function.
use Rattle.std.specs.Prelude.{ℕ, ◌||◌, ◌&&◌, ◌==◌, Bool, false, List, [], ◌∷◌, Option, Some, None, if◌then◌else◌}
use Rattle.pipeline_lang.specs.declared.config.Config.{Config}
use Rattle.pipeline_lang.specs.declared.script.Statement.TheVariants as statement
use Rattle.pipeline_lang.specs.Config.{statement_at}
use Rattle.rss_model.specs.Tokens.{same_token}
use Rattle.rss_model.specs.declared.op.Op.{Op}
use Rattle.rss_model.specs.declared.op.Shown.{Shown}
use Rattle.rss_model.specs.declared.history.Entry.{Entry}
use Rattle.rss_model.specs.declared.history.Entry.TheVariants.{Begin, End, Give, Get, Over}
use Rattle.rss_model.specs.declared.history.Token.{Token}
use Rattle.rss_model.specs.declared.history.Token.TheVariants as token
use Rattle.rss_model.specs.declared.history.How.{How}
use Rattle.rss_model.specs.declared.history.How.TheVariants.{Exited, Killed, Unavailable}
use Rattle.rss_model.specs.Operation.{values_of}
use Rattle.rss_model.specs.Stages.{wait_status}
use Rattle.rss_model.specs.Cursor.{NumberedStatement}
use Rattle.rss_model.specs.CallStatement.{op_of_statement}
use Rattle.script_laws.specs.SameOps.{same_op}
use Rattle.rss_model.specs.Walk.{Walk, Mode, unborn, ready, in_call, over, is_alive, next_given, past_statement, after_put, after_close, after_reply, after_wait, over_as}

-- whether an entry gives this token
abbrev pub gives : Token → Entry → Bool
gives t (Begin call s op) = false
gives t (End call reply) = false
gives t (Give s given) = same_token given t
gives t (Get s got) = false
gives t (Over s how) = false

-- whether one of these entries does
abbrev pub gave : Token → List Entry → Bool
gave t [] = false
gave t (e ∷ h) = gives t e || gave t h

-- the mode before the next statement, or else no statement
abbrev pub next_in : Config → ℕ → Walk → Mode → Option NumberedStatement
next_in config stage w unborn = None
next_in config stage w ready = Some (statement_at config stage w.cursor.position)
next_in config stage w (in_call call) = None
next_in config stage w (over how owed) = None

-- the statement that comes next, if the walk is before one
abbrev pub next_statement : Config → ℕ → Walk → Option NumberedStatement
next_statement config stage w = next_in config stage w w.mode

-- whether an operation is this one
abbrev pub is_op : Option Op → Op → Bool
is_op None op = false
is_op (Some made) op = same_op made op

-- into a call, if the statement makes this operation
abbrev pub begun : Walk → Option NumberedStatement → ℕ → Op → Option Walk
begun w None call op = None
begun w (Some s) call op =
    if is_op (op_of_statement s w.cursor.variables) op
    then Some (record w { mode = in_call call })
    else None

-- behind the call that the walk is in
abbrev pub ended : Config → ℕ → Walk → Mode → ℕ → List Shown → Option Walk
ended config stage w unborn call reply = None
ended config stage w ready call reply = None
ended config stage w (in_call c) call reply =
    if c == call then Some (after_reply config stage w (values_of reply)) else None
ended config stage w (over how owed) call reply = None

-- behind a statement that gives this token
abbrev pub gave_at : Walk → Option NumberedStatement → Token → Option Walk
gave_at w None t = None
gave_at w (Some (statement.Let variable value)) t = None
gave_at w (Some (statement.Read variable key)) t = None
gave_at w (Some (statement.Write key value)) t = None
gave_at w (Some (statement.Snap pairs)) t = None
gave_at w (Some (statement.Txn pairs guard writes)) t = None
gave_at w (Some (statement.Spawn child)) t =
    if same_token (token.Spawn child) t then Some (past_statement w) else None
gave_at w (Some (statement.Wait child)) t = None
gave_at w (Some (statement.Put pipe value)) t =
    if same_token (token.Chunk pipe (next_given w pipe)) t then Some (after_put w pipe) else None
gave_at w (Some (statement.Take variable pipe)) t = None
gave_at w (Some (statement.Close pipe)) t =
    if same_token (token.Chunk pipe (next_given w pipe)) t then Some (after_close w pipe) else None
gave_at w (Some statement.Fence) t = None
gave_at w (Some (statement.Repeat turns)) t = None
gave_at w (Some (statement.When test)) t = None
gave_at w (Some statement.End) t = None
gave_at w (Some statement.Exit) t = None

-- behind what a stage that is over still owes first
abbrev pub paid : Walk → How → List Token → Token → Option Walk
paid w how [] t = None
paid w how (o ∷ owed) t = if same_token o t then Some (record w { mode = over how owed }) else None

-- behind a token given
abbrev pub given_in : Config → ℕ → Walk → Mode → Token → Option Walk
given_in config stage w unborn t = None
given_in config stage w ready t =
    gave_at w (Some (statement_at config stage w.cursor.position)) t
given_in config stage w (in_call call) t = None
given_in config stage w (over how owed) t = paid w how owed t

-- behind the spawn of the stage
abbrev pub born : Walk → Mode → Option Walk
born w unborn = Some (record w { mode = ready })
born w ready = None
born w (in_call call) = None
born w (over how owed) = None

-- behind a `wait` for this stage
abbrev pub waited : List Entry → Walk → Option NumberedStatement → ℕ → Option Walk
waited h w None child = None
waited h w (Some (statement.Let variable value)) child = None
waited h w (Some (statement.Read variable key)) child = None
waited h w (Some (statement.Write key value)) child = None
waited h w (Some (statement.Snap pairs)) child = None
waited h w (Some (statement.Txn pairs guard writes)) child = None
waited h w (Some (statement.Spawn s)) child = None
waited h w (Some (statement.Wait s)) child =
    if s == child then Some (after_wait w (wait_status h child)) else None
waited h w (Some (statement.Put pipe value)) child = None
waited h w (Some (statement.Take variable pipe)) child = None
waited h w (Some (statement.Close pipe)) child = None
waited h w (Some statement.Fence) child = None
waited h w (Some (statement.Repeat turns)) child = None
waited h w (Some (statement.When test)) child = None
waited h w (Some statement.End) child = None
waited h w (Some statement.Exit) child = None

-- behind a spawn or an exit that was got
abbrev pub got : Config → List Entry → ℕ → Walk → Token → Option Walk
got config h stage w (token.Spawn s) = if s == stage then born w w.mode else None
got config h stage w (token.Chunk pipe number) = None
got config h stage w (token.Exit child) = waited h w (next_statement config stage w) child

-- over by its own exit
abbrev pub exited : Config → ℕ → Walk → Option NumberedStatement → Option Walk
exited config stage w None = None
exited config stage w (Some (statement.Let variable value)) = None
exited config stage w (Some (statement.Read variable key)) = None
exited config stage w (Some (statement.Write key value)) = None
exited config stage w (Some (statement.Snap pairs)) = None
exited config stage w (Some (statement.Txn pairs guard writes)) = None
exited config stage w (Some (statement.Spawn s)) = None
exited config stage w (Some (statement.Wait s)) = None
exited config stage w (Some (statement.Put pipe value)) = None
exited config stage w (Some (statement.Take variable pipe)) = None
exited config stage w (Some (statement.Close pipe)) = None
exited config stage w (Some statement.Fence) = None
exited config stage w (Some (statement.Repeat turns)) = None
exited config stage w (Some (statement.When test)) = None
exited config stage w (Some statement.End) = None
exited config stage w (Some statement.Exit) = Some (over_as config stage w Exited)

-- over, by its own exit or by death
abbrev pub ended_as : Config → ℕ → Walk → How → Option Walk
ended_as config stage w Exited = exited config stage w (next_statement config stage w)
ended_as config stage w Killed =
    if is_alive w.mode then Some (over_as config stage w Killed) else None
ended_as config stage w Unavailable =
    if is_alive w.mode then Some (over_as config stage w Unavailable) else None

-- where an entry below these leads the walk, but for the chunks and end marks that it takes
abbrev pub entry_step : Config → List Entry → ℕ → List Entry → Entry → Walk → Option Walk
entry_step config h stage above (Begin call s op) w =
    if s == stage then begun w (next_statement config stage w) call op else None
entry_step config h stage above (End call reply) w = ended config stage w w.mode call reply
entry_step config h stage above (Give s t) w =
    if s == stage then given_in config stage w w.mode t else None
entry_step config h stage above (Get s t) w =
    if (s == stage) && gave t above then got config h stage w t else None
entry_step config h stage above (Over s how) w =
    if s == stage then ended_as config stage w how else None
