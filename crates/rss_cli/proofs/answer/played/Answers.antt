-- What is asked of a World that has made all steps is told.
use Rattle.rss_cli.proofs.Answered.{all_told}
use Rattle.rss_cli.proofs.answer.played.Goals as goal

pub returns-in-Ok-clause-answer : goal.returns-in-Ok-clause-answer
returns-in-Ok-clause-answer c =
    all_told c.args.asked c.args.config c.args.steps.now c.in-Ok.world c.asked_answer.result c.requires.sound c.requires.grammar c.in-Ok.ensures.played c.asked_answer.ensures.told
