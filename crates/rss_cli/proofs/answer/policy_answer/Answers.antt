-- A World that has made the steps of the policy is reported.
use Rattle.rss_cli.proofs.Answered.{policy_reported}
use Rattle.rss_cli.proofs.answer.policy_answer.Goals as goal

pub returns-clause-answer : goal.returns-clause-answer
returns-clause-answer c = policy_reported c.args.form c.args.config c.in_ok-world.world c.report_answer.result c.requires.sound c.in_ok-world.ensures.made c.report_answer.ensures.report c.report_answer.ensures.ending
