use Rattle.script_laws.proofs.EntrySteps.{entry-to, entry-from}
use Rattle.script_laws.proofs.laws.entries_lead_to_one.Goals as goal

pub returns : goal.returns
returns c config h stage place e w v =
    (entry-from config h stage place w v e, entry-to config h stage place w v e)
