use Rattle.turn_laws.proofs.Acts.{stubs_take_turns}
use Rattle.turn_laws.proofs.stubs_take_turns.Goals as goal

pub returns : goal.returns
returns c = stubs_take_turns
