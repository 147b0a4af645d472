-- The number of `gen N` is one; what was read is served by the command.
use Rattle.rss_cli.proofs.Gens.{told}
use Rattle.rss_cli.proofs.Serves.{served}
use Rattle.rss_cli.proofs.commands.respond.Goals as goal

pub returns-in-Some-clause-generated : goal.returns-in-Some-clause-generated
returns-in-Some-clause-generated g c = λ k gen.
    told _ c.in-Some.n c.generated_answer.result c.made.result k c.in-Some.ensures c.generated_answer.ensures.text c.generated_answer.ensures.status c.made.ensures.same c.made.ensures.cause gen

pub returns-in-Ok-clause-answer : goal.returns-in-Ok-clause-answer
returns-in-Ok-clause-answer g c =
    served _ c.in-Some-command_of.command _ c.in-Ok.input.items c.as_slice.result.now c.answer_of.result c.made-in-Ok.result c.in-Some-command_of.ensures c.as_slice.ensures.value c.in-Ok.ensures.input c.answer_of.ensures.answer c.made-in-Ok.ensures.same
