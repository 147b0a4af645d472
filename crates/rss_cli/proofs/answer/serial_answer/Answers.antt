-- A file that is read is sound.
use Rattle.rss_cli.proofs.Promised.{read_sound}
use Rattle.rss_cli.proofs.answer.serial_answer.Goals as goal

pub policy_answer-requires : goal.policy_answer-requires
policy_answer-requires c = record {
  sound = read_sound c.args.input.now c.in-Ok.config c.in-Ok.ensures.said;
}
