use Rattle.std.proofs.Common.{◌∙◌, sym, ap, arith}
use Rattle.std.specs.List.{filter}
use Rattle.pipeline_lang.specs.Tokens.{statement_lines, is_statement, lines_left}
use Rattle.pipeline_lang.specs.Scripts.{script_of, statements_of}
use Rattle.pipeline_lang.proofs.ScriptLaws.{none_read, next_line, read_more, read_stop, read_open, read_all}
use Rattle.pipeline_lang.proofs.scripts.read_script.Goals as goal

pub loop-rest-init : goal.loop-rest-init
unfolding script_of
loop-rest-init c = record {
  read = rw (c.new-script.ensures.items, c.new-script.ensures.len) (none_read (statements_of 0 0 1 (statement_lines c.args.text.now)));
  inside = omega arith;
}

pub returns-in-Err : goal.returns-in-Err
returns-in-Err c = record {
  read = read_stop _ _ _ _ _ _ _ _ _ c.in-Err.stop _ c.loop-rest.invariant.read (next_line _ _ _ _ c.in-Some.is c.split_line.ensures (sym c.is_statement.ensures ∙ c.if-is_statement.true)) c.in-Err.ensures.read c.len.ensures c.refusal.ensures;
}

pub loop-rest-preserved-in-Ok-push : goal.loop-rest-preserved-in-Ok-push
loop-rest-preserved-in-Ok-push c =
    let items = rw c.in-Ok-push.is at c.push.ensures.items in
    let longer = rw c.in-Ok-push.is at c.push.ensures.len in
    record {
      read = read_more _ _ _ _ _ _ _ _ _ _ _ _ _ c.loop-rest.invariant.read (next_line _ _ _ _ c.in-Some.is c.split_line.ensures (sym c.is_statement.ensures ∙ c.if-is_statement.true)) c.in-Ok.ensures.read items longer c.column-end.ensures;
      inside = omega (arith, longer, c.in-Ok.ensures.most, c.loop-rest.invariant.inside);
    }

pub returns-then-depth-gt0 : goal.returns-then-depth-gt0
returns-then-depth-gt0 c = record {
  read = read_open _ _ _ _ _ _ _ c.loop-rest.invariant.read (ap (λ r. filter is_statement (lines_left r)) c.in_default.is) c.if-depth-gt0.true c.len-then-depth-gt0.ensures;
}

pub returns : goal.returns
returns c = record {
  read = read_all _ _ _ _ _ _ _ c.loop-rest.invariant.read (ap (λ r. filter is_statement (lines_left r)) c.in_default.is) (omega arith) c.from_vec.ensures;
}
