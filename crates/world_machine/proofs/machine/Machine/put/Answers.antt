use Rattle.world_machine.proofs.Makes.{few_chunks}
use Rattle.world_machine.proofs.machine.Machine.put.Goals as goal

pub put-requires-clause-few : goal.put-requires-clause-few
put-requires-clause-few c = few_chunks c.args.self.now c.args.stage c.args.pipe c.args.value c.is_taker_settled-dropped.result c.requires.acting c.requires.allowed c.is_taker_settled-dropped.ensures
