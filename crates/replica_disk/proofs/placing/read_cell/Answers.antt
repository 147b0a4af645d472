use Rattle.std.proofs.Common.{rules}
use Rattle.replica_disk.proofs.Windows.{cell_read}
use Rattle.replica_disk.proofs.placing.read_cell.Goals as goal

pub returns-clause-cell : goal.returns-clause-cell
returns-clause-cell g c =
    cell_read _ _ _ _ _ c.cell_of.ensures (search rules) c.in_ok-read.ensures.read
