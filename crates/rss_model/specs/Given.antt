-- What was given above a place, by what statement, and what is given no more.
use Rattle.std.specs.Prelude.{◌≡◌, ℕ, ◌<◌, ◌≤◌, List, ◌∷◌, get_or, IsTrue}
use Rattle.pipeline_lang.specs.declared.config.Config.{Config}
use Rattle.pipeline_lang.specs.declared.script.Expr.{Expr}
use Rattle.pipeline_lang.specs.declared.script.Statement.TheVariants as statement
use Rattle.rss_model.specs.declared.history.Entry.{Entry}
use Rattle.rss_model.specs.declared.history.Entry.TheVariants.{Give}
use Rattle.rss_model.specs.declared.history.Token.{Token}
use Rattle.rss_model.specs.declared.history.Token.TheVariants as token
use Rattle.rss_model.specs.declared.history.How.{How}
use Rattle.rss_model.specs.Formula.{formula_value}
use Rattle.rss_model.specs.History.{entry_at}
use Rattle.rss_model.specs.Stages.{ending_of, is_death}
use Rattle.rss_model.specs.Scripts.{giver_of}
use Rattle.rss_model.specs.Walk.{Walk, over, IsNext, next_given}

-- the token was given above this place
pub record GivenAbove (h : List Entry) (place : ℕ) (token : Token) : Type 0 where
  pub origin : ℕ
  pub giver : ℕ
  pub above : origin < place
  pub gives : entry_at h origin ≡ Give giver token

-- the stage died, and nothing was fenced for it: the history has no Give of its exit
pub record DiedUnfenced (h : List Entry) (stage : ℕ) : Type 0 where
  pub died : IsTrue (is_death (ending_of h stage))
  pub unfenced : (i : ℕ) → entry_at h i ≡ Give stage (token.Exit stage) → ⊥

-- the pipe's giver died unfenced, and all that it gave was taken above as chunks, no end mark
pub record IsCutOff (config : Config) (h : List Entry) (w : Walk) (pipe : ℕ) : Type 0 where
  pub giver : DiedUnfenced h (giver_of config pipe)
  pub all_taken : (i number : ℕ) →
      entry_at h i ≡ Give (giver_of config pipe) (token.Chunk pipe number) →
      number ≤ get_or w.taken pipe 0

-- a giver's walk puts this value into a pipe, under this number
pub record Puts (config : Config) (giver : ℕ) (w : Walk) (pipe number value : ℕ) : Type 0 where
  pub formula : Expr ℕ
  pub next : IsNext config giver w (statement.Put pipe formula)
  pub numbered : number ≡ next_given w pipe
  pub valued : value ≡ formula_value formula w.cursor.variables

-- a giver's walk gives a pipe's end mark, under this number: by `close`, or as one that is over
pub data Marks (config : Config) (giver : ℕ) (w : Walk) (pipe number : ℕ) : Type 0 where
  by_close :
      IsNext config giver w (statement.Close pipe) → number ≡ next_given w pipe →
      Marks config giver w pipe number
  when_over : {how : How} {owed : List Token} →
      w.mode ≡ over how (token.Chunk pipe number ∷ owed) →
      Marks config giver w pipe number
