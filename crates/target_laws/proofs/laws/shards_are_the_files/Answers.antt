-- Messages are with shards of the file.
use Rattle.target_laws.proofs.Runs.{targets_in}
use Rattle.target_laws.proofs.laws.shards_are_the_files.Goals as goal

pub returns : goal.returns
returns g = targets_in
