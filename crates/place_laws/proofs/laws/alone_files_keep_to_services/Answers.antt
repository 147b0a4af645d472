-- Files whose scripts pass the test keep to services.
use Rattle.place_laws.proofs.AloneFiles.{alone_keeps}
use Rattle.place_laws.proofs.laws.alone_files_keep_to_services.Goals as goal

pub returns : goal.returns
returns g c e = alone_keeps c e
