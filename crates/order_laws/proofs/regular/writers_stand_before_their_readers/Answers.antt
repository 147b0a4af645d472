use Rattle.order_laws.proofs.Parts.{writer_before}
use Rattle.order_laws.proofs.regular.writers_stand_before_their_readers.Goals as goal

pub returns : goal.returns
returns c = writer_before
