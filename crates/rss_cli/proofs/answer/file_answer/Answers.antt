-- A file that is read is sound.
use Rattle.rss_cli.proofs.Promised.{read_sound}
use Rattle.rss_cli.proofs.answer.file_answer.Goals as goal

pub steps_answer-requires-clause-sound : goal.steps_answer-requires-clause-sound
steps_answer-requires-clause-sound c = read_sound c.args.file.now c.in-Ok.config c.in-Ok.ensures.said
