use Rattle.std.proofs.Common.{◌++◌, ◌∙◌, ap, codes}
use Rattle.std.proofs.lemmas.Result.{IfOk-equal}
use Rattle.rss_machine.specs.ReportText.{shown_text, reads_text}
use Rattle.report_lines.specs.Pieces.{more_reads}
use Rattle.report_lines.proofs.Joins.{three, reads_behind}
use Rattle.report_lines.proofs.values.put_reads.Goals as goal

pub returns-in_ok-put_shown-in-Some : goal.returns-in_ok-put_shown-in-Some
returns-in_ok-put_shown-in-Some c =
    let config = c.args.config.now in
    let out = c.args.out.now.items in
    let first = c.in-Some.first.now in
    let rest = c.in-Some.rest.now in
    IfOk-equal c.put_more_shown.result _ _ (out ++ reads_text config c.args.reply.now) c.put_more_shown.ensures
    (three out (codes " ") (shown_text config first) (more_reads config rest) c.put.new.out.items c.put_shown.new.out.items c.in_ok-put-in-Some.ensures c.in_ok-put_shown-in-Some.ensures
    ∙ ap (λ text. out ++ text) (reads_behind config c.args.reply.now first rest c.in-Some.ensures.cases.0))
