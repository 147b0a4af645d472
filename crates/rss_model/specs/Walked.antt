-- The walk of a stage's script along a history, sentence by sentence.
use Rattle.std.specs.Prelude.{◌≡◌, ℕ, suc, ◌+◌, ◌<◌, ◌==◌, List, ◌∷◌, get_or, Some, IsTrue, IsFalse}
use Rattle.pipeline_lang.specs.declared.config.Config.{Config}
use Rattle.pipeline_lang.specs.declared.script.Expr.{Expr}
use Rattle.pipeline_lang.specs.declared.script.Statement.TheVariants as statement
use Rattle.pipeline_lang.specs.Config.{script_of}
use Rattle.rss_model.specs.declared.op.Op.{Op}
use Rattle.rss_model.specs.declared.op.Shown.{Shown}
use Rattle.rss_model.specs.declared.history.Entry.{Entry}
use Rattle.rss_model.specs.declared.history.Entry.TheVariants.{Begin, End, Give, Get, Over}
use Rattle.rss_model.specs.declared.history.Token.{Token}
use Rattle.rss_model.specs.declared.history.Token.TheVariants as token
use Rattle.rss_model.specs.declared.history.How.{How}
use Rattle.rss_model.specs.declared.history.How.TheVariants.{Exited}
use Rattle.rss_model.specs.Operation.{values_of}
use Rattle.rss_model.specs.History.{entry_at}
use Rattle.rss_model.specs.Stages.{stage_at, is_death, wait_status}
use Rattle.rss_model.specs.Cursor.{NumberedStatement, is_local, after_local}
use Rattle.rss_model.specs.CallStatement.{op_of_statement}
use Rattle.rss_model.specs.Scripts.{giver_of}
use Rattle.rss_model.specs.Walk.{unborn, ready, in_call, over, Walk, is_alive, first_walk, IsNext, next_given}
use Rattle.rss_model.specs.Walk.{past_statement, after_put, after_close, after_reply, after_wait, after_take, after_chunk, over_as}
use Rattle.rss_model.specs.Given.{GivenAbove, DiedUnfenced, IsCutOff, Puts, Marks}

module _ (config : Config) (h : List Entry) (stage : ℕ) where
  -- this statement comes next in the stage's walk
  abbrev pub Next : Walk → NumberedStatement → Type 0
  Next w s = IsNext config stage w s

  -- a statement that gives no entry leads from one state of the walk to another
  pub data Silent : Walk → Walk → Type 0 where
    local : {w : Walk} {s : NumberedStatement} →
        Next w s → IsTrue (is_local s) →
        Silent w (record w { cursor = after_local (script_of config stage) w.cursor s })
    fence : {w : Walk} →
        Next w statement.Fence →
        Silent w (past_statement w)
    take_nothing : {w : Walk} {variable pipe : ℕ} →
        Next w (statement.Take variable pipe) → IsCutOff config h w pipe →
        Silent w (after_take w variable 0 2)
    wait_in_vain : {w : Walk} {child : ℕ} →
        Next w (statement.Wait child) → DiedUnfenced h child →
        Silent w (after_wait w 2)

  -- so does an entry of the stage at this place, but for those of a `take`
  pub data Makes (place : ℕ) : Entry → Walk → Walk → Type 0 where
    birth : {w : Walk} →
        w.mode ≡ unborn → GivenAbove h place (token.Spawn stage) →
        Makes place (Get stage (token.Spawn stage)) w (record w { mode = ready })
    begin_call : {w : Walk} {s : NumberedStatement} {op : Op} {call : ℕ} →
        Next w s → op_of_statement s w.cursor.variables ≡ Some op →
        Makes place (Begin call stage op) w (record w { mode = in_call call })
    end_call : {w : Walk} {call : ℕ} {reply : List Shown} →
        w.mode ≡ in_call call →
        Makes place (End call reply) w (after_reply config stage w (values_of reply))
    spawn : {w : Walk} {child : ℕ} →
        Next w (statement.Spawn child) →
        Makes place (Give stage (token.Spawn child)) w (past_statement w)
    put : {w : Walk} {pipe : ℕ} {formula : Expr ℕ} →
        Next w (statement.Put pipe formula) →
        Makes place (Give stage (token.Chunk pipe (next_given w pipe))) w (after_put w pipe)
    close : {w : Walk} {pipe : ℕ} →
        Next w (statement.Close pipe) →
        Makes place (Give stage (token.Chunk pipe (next_given w pipe))) w (after_close w pipe)
    wait : {w : Walk} {child : ℕ} →
        Next w (statement.Wait child) → GivenAbove h place (token.Exit child) →
        Makes place (Get stage (token.Exit child)) w (after_wait w (wait_status h child))
    exit : {w : Walk} →
        Next w statement.Exit →
        Makes place (Over stage Exited) w (over_as config stage w Exited)
    death : {w : Walk} {how : How} →
        IsTrue (is_alive w.mode) → IsTrue (is_death (Some how)) →
        Makes place (Over stage how) w (over_as config stage w how)
    last_give : {w : Walk} {how : How} {token : Token} {owed : List Token} →
        w.mode ≡ over how (token ∷ owed) →
        Makes place (Give stage token) w (record w { mode = over how owed })

  -- so does a `take` of this number, which the pipe's giver gave at that state of its own walk
  pub data Takes (pipe number : ℕ) (giving : Walk) : Walk → Walk → Type 0 where
    chunk : {w : Walk} {variable value : ℕ} →
        Next w (statement.Take variable pipe) → number ≡ get_or w.taken pipe 0 + 1 →
        Puts config (giver_of config pipe) giving pipe number value →
        Takes pipe number giving w (after_chunk w variable pipe number value)
    end_mark : {w : Walk} {variable : ℕ} →
        Next w (statement.Take variable pipe) →
        Marks config (giver_of config pipe) giving pipe number →
        Takes pipe number giving w (after_take w variable 0 1)

-- the walk of a stage can stand at this state after the first n entries of the history
pub data Walked (config : Config) (h : List Entry) : ℕ → ℕ → Walk → Type 0 where
  starts : {stage : ℕ} →
      Walked config h stage 0 (first_walk config stage)
  passes : {stage n : ℕ} {w : Walk} →
      Walked config h stage n w → IsFalse (stage_at h n == stage) →
      Walked config h stage (suc n) w
  silently : {stage n : ℕ} {w v : Walk} →
      Walked config h stage n w → Silent config h stage w v →
      Walked config h stage n v
  makes : {stage n : ℕ} {w v : Walk} {e : Entry} →
      Walked config h stage n w → entry_at h n ≡ e → Makes config h stage n e w v →
      Walked config h stage (suc n) v
  takes : {stage n pipe number i : ℕ} {w giving v : Walk} →
      Walked config h stage n w → entry_at h n ≡ Get stage (token.Chunk pipe number) →
      i < n → entry_at h i ≡ Give (giver_of config pipe) (token.Chunk pipe number) →
      Walked config h (giver_of config pipe) i giving →
      Takes config h stage pipe number giving w v →
      Walked config h stage (suc n) v
