use Rattle.pipeline_lang.specs.declared.config.Config.{Config}
use Rattle.rss_check.specs.Verdicts.{IsVerdict}
use Rattle.rss_check.proofs.Judged.{of_some, verdict_of}
use Rattle.rss_check.proofs.checker.check.Goals as goal

pub returns-in-Some : goal.returns-in-Some
returns-in-Some c =
    verdict_of c.args.config.now c.as_slice.result.now c.args.h.now c.as_slice-2.result.now c.args.c.now c.in-Some.verdict
    c.as_slice.ensures c.as_slice-2.ensures
    (of_some (λ verdict. (config : Config) → IsVerdict config c.as_slice.result.now c.as_slice-2.result.now verdict) _ _
    c.in-Some.is c.in_ok-verdict.ensures.wrong c.args.config.now)
