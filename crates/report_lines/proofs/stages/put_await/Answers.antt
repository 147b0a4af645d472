use Rattle.std.proofs.Common.{◌++◌, ◌∙◌, sym, ap, codes}
use Rattle.std.proofs.lemmas.Result.{IfOk-equal}
use Rattle.rss_tables.specs.declared.endings.Await.{Await}
use Rattle.rss_machine.specs.ReportText.{await_text}
use Rattle.pipeline_lang.specs.Config.{stage_name}
use Rattle.report_lines.proofs.Joins.{two}
use Rattle.report_lines.proofs.stages.put_await.Goals as goal

pub returns-in_ok-put-in-Stage : goal.returns-in_ok-put-in-Stage
returns-in_ok-put-in-Stage c =
    let config = c.args.config.now in
    let out = c.args.out.now.items in
    IfOk-equal c.put_stage.result _ _ (out ++ await_text config c.args.awaited) c.put_stage.ensures
    (two out (codes "waits stage ") (stage_name config c.in-Stage.stage) c.put-in-Stage.new.out.items c.in_ok-put-in-Stage.ensures
    ∙ ap (λ (a : Await). out ++ await_text config a) (sym c.in-Stage.is))
