use Rattle.order_laws.proofs.Parts.{regular_of}
use Rattle.order_laws.proofs.regular.regular_from_its_parts.Goals as goal

pub returns : goal.returns
returns c = regular_of
