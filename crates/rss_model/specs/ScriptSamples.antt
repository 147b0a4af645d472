-- In the sample of two stages, both walks, and so both script runs.
use Rattle.std.specs.Prelude.{[], refl}
use Rattle.std.proofs.Common.{lit<}
use Rattle.pipeline_lang.specs.declared.script.Term.TheVariants.{Number}
use Rattle.pipeline_lang.specs.declared.script.Expr.TheVariants.{One}
use Rattle.pipeline_lang.specs.declared.script.Statement.TheVariants as statement
use Rattle.rss_model.specs.declared.history.How.TheVariants.{Exited}
use Rattle.rss_model.specs.Stages.{stage_of}
use Rattle.rss_model.specs.Walk.{all_zero, all_open, end_marks, Walk, in_call, over, IsNext, first_walk, after_put, after_chunk, after_reply, over_as}
use Rattle.rss_model.specs.Given.{Puts}
use Rattle.rss_model.specs.Walked.{Walked, starts, passes, makes, takes, put, chunk, begin_call, end_call, exit, last_give}
use Rattle.rss_model.specs.ScriptRun.{ScriptRun}
use Rattle.rss_model.specs.PipeSample.{two_stages, passed_on}

-- where the walk of stage 2 stands after its take, in its call, behind it, and over
abbrev taken : Walk
taken = after_chunk (first_walk two_stages 2) 1 1 1 7

abbrev calling : Walk
calling = record taken { mode = in_call 1 }

abbrev called : Walk
called = after_reply two_stages 2 calling []

abbrev ended : Walk
ended = record (over_as two_stages 2 called Exited) { mode = over Exited [] }

giver_puts : Puts two_stages 1 (first_walk two_stages 1) 1 1 7
unfolding all_zero all_open
giver_puts = record {
  formula = One (Number 7);
  next = record { ready = refl; statement = refl };
  numbered = refl;
  valued = refl;
}

taker_takes : Walked two_stages passed_on 2 2 taken
unfolding all_zero all_open
taker_takes =
    let next : IsNext two_stages 2 (first_walk two_stages 2) (statement.Take 1 1) =
    record { ready = refl; statement = refl } in
    takes (passes starts refl) refl (lit< tt) refl starts (chunk next refl giver_puts)

taker_begins : Walked two_stages passed_on 2 3 calling
unfolding all_zero all_open
taker_begins = makes taker_takes refl (begin_call (record { ready = refl; statement = refl }) refl)

taker_ends : Walked two_stages passed_on 2 7 called
unfolding all_zero all_open stage_of
taker_ends = makes (passes (passes (passes taker_begins refl) refl) refl) refl (end_call refl)

taker_exits : Walked two_stages passed_on 2 9 ended
unfolding all_zero all_open end_marks
taker_exits =
    makes (makes taker_ends refl (exit (record { ready = refl; statement = refl })))
    refl (last_give refl)

-- the entries of stage 2 are those of its script
pub taker_runs : ScriptRun two_stages passed_on 2
taker_runs = record { walk = ended; walked = taker_exits; whole = tt }

-- where the walk of stage 1 stands behind its put, and over
abbrev putting : Walk
putting = after_put (first_walk two_stages 1) 1

abbrev done : Walk
done = record (over_as two_stages 1 putting Exited) { mode = over Exited [] }

giver_put : Walked two_stages passed_on 1 3 putting
unfolding all_zero all_open
giver_put =
    passes (passes (makes starts refl (put (record { ready = refl; statement = refl }))) refl) refl

giver_exits : Walked two_stages passed_on 1 6 done
unfolding all_zero all_open end_marks
giver_exits =
    makes (makes (makes giver_put refl (exit (record { ready = refl; statement = refl })))
    refl (last_give refl)) refl (last_give refl)

-- the entries of stage 1 are those of its script
pub giver_runs : ScriptRun two_stages passed_on 1
unfolding stage_of
giver_runs = record {
  walk = done;
  walked = passes (passes (passes giver_exits refl) refl) refl;
  whole = tt;
}
