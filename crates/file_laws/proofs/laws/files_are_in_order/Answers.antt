use Rattle.file_laws.proofs.ReadFiles.{files_are_in_order}
use Rattle.file_laws.proofs.laws.files_are_in_order.Goals as goal

pub returns : goal.returns
returns c = files_are_in_order
