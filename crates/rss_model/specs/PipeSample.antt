-- A sample of two stages: stage 1 puts 7 into pipe 1; stage 2 takes it and writes it to r.
use Rattle.std.specs.Prelude.{List, [], ◌∷◌}
use Rattle.pipeline_lang.specs.declared.config.Config.{Config}
use Rattle.pipeline_lang.specs.declared.script.Term.TheVariants.{Number, Variable}
use Rattle.pipeline_lang.specs.declared.script.Expr.TheVariants.{One}
use Rattle.pipeline_lang.specs.declared.script.Statement.TheVariants as statement
use Rattle.rss_model.specs.declared.op.Op.TheVariants.{Write}
use Rattle.rss_model.specs.declared.history.Entry.{Entry}
use Rattle.rss_model.specs.declared.history.Entry.TheVariants.{Begin, End, Give, Get, Over}
use Rattle.rss_model.specs.declared.history.Token.TheVariants.{Chunk, Exit}
use Rattle.rss_model.specs.declared.history.How.TheVariants.{Exited}
use Rattle.rss_model.specs.Cursor.{NumberedStatement}
use Rattle.rss_model.specs.Samples.{r}

abbrev pub put_seven : List NumberedStatement
put_seven = statement.Put 1 (One (Number 7)) ∷ []

abbrev pub write_taken : List NumberedStatement
write_taken = statement.Take 1 1 ∷ statement.Write r (One (Variable 1)) ∷ []

abbrev pub two_stages : Config
two_stages = record {
  tries = 3;
  max_steps = 100;
  drivers = 2;
  services = [];
  registers = [];
  register_services = [];
  shards = [];
  shard_services = [];
  keys = [];
  homes = [];
  pipes = [];
  pipe_ends = record { giver = 1; taker = 2; capacity = 1 } ∷ [];
  stages = [];
  bodies =
      record { script = put_seven; earliest_end = 0 } ∷
      record { script = write_taken; earliest_end = 0 } ∷ [];
  withholds = [];
  kills = [];
}

-- what both do, each up to its exit
abbrev pub passed_on : List Entry
passed_on =
    Give 1 (Chunk 1 1) ∷
    Get 2 (Chunk 1 1) ∷ Begin 1 2 (Write r 7) ∷
    Over 1 Exited ∷ Give 1 (Chunk 1 2) ∷ Give 1 (Exit 1) ∷
    End 1 [] ∷ Over 2 Exited ∷ Give 2 (Exit 2) ∷ []

-- stage 1 exits at once, which is no run of its script
abbrev pub put_skipped : List Entry
put_skipped = Over 1 Exited ∷ []
