use Rattle.file_laws.proofs.NamedKeys.{files_name_keys}
use Rattle.file_laws.proofs.laws.files_name_keys.Goals as goal

pub returns : goal.returns
returns c = files_name_keys
