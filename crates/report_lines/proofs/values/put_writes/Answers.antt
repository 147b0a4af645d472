use Rattle.std.proofs.Common.{ℕ, ◌++◌, ◌∙◌, ap, map}
use Rattle.std.proofs.lemmas.Result.{IfOk-equal}
use Rattle.plain_model.specs.Written.{values_written}
use Rattle.rss_names.specs.declared.service.Key.{Key}
use Rattle.rss_model.specs.Formula.{formula_value}
use Rattle.rss_model.specs.Operation.{values_of}
use Rattle.rss_machine.specs.ReportText.{joined, written_text}
use Rattle.report_lines.specs.Pieces.{more_writes}
use Rattle.report_lines.proofs.Joins.{two, writes_behind}
use Rattle.report_lines.proofs.values.put_writes.Goals as goal

pub returns-in_ok-put_written-in-Some : goal.returns-in_ok-put_written-in-Some
returns-in_ok-put_written-in-Some c =
    let config = c.args.config.now in
    let out = c.args.out.now.items in
    let values = values_of c.args.reply.now in
    let first = c.in-Some.first.now in
    let rest = values_written c.in-Some.rest.now values in
    let made : Key × ℕ = (first.0, formula_value first.1 values) in
    let writes = values_written c.args.writes.now values in
    IfOk-equal c.put_more_written.result _ _ (out ++ joined (map (written_text config) writes)) c.put_more_written.ensures
    (two out (written_text config made) (more_writes config rest) c.put_written.new.out.items c.in_ok-put_written-in-Some.ensures
    ∙ ap (λ text. out ++ text) (writes_behind config writes made rest (ap (λ ws. values_written ws values) c.in-Some.ensures.cases.0)))
