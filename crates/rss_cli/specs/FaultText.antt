-- The line of a fault.
use Rattle.std.specs.Prelude.{ℕ, List, ◌++◌, codes}
use Rattle.std.specs.Fmt.{decimal}
use Rattle.rss_machine.specs.declared.step.StepRefusal.{StepRefusal}
use Rattle.rss_machine.specs.declared.step.StepRefusal.TheVariants as cause
use Rattle.rss_wire.specs.declared.refusal.NetRefusal.{NetRefusal}
use Rattle.rss_wire.specs.declared.refusal.NetRefusal.TheVariants.{NoSuchMessage, Lost, Delivered, NotDelivered, AgainUsed}
use Rattle.pipeline_tables.specs.FaultText.{fault_text as kind_and_place}
use Rattle.pipeline_tables.specs.declared.fault.FileFault.{FileFault}
use Rattle.rss_cli.specs.declared.fault.Fault.{Fault}
use Rattle.rss_cli.specs.declared.fault.Fault.TheVariants.{Usage, File, TooLong, OffGrammar, Refused, NoReplica}

-- the line of a file's fault: its kind and its place
abbrev pub file_text : FileFault → List ℕ
file_text fault = codes "fault file " ++ kind_and_place fault ++ codes "\n"

-- the name of a message's refusal
abbrev pub net_text : NetRefusal → List ℕ
net_text NoSuchMessage = codes "NoSuchMessage"
net_text Lost = codes "Lost"
net_text Delivered = codes "Delivered"
net_text NotDelivered = codes "NotDelivered"
net_text AgainUsed = codes "AgainUsed"

-- the name of a step's refusal, and what it tells
abbrev pub refusal_text : StepRefusal → List ℕ
refusal_text cause.LogFull = codes "LogFull"
refusal_text (cause.Reading found) = codes "Reading " ++ decimal found.greatest_earliest ++ codes " " ++ decimal found.latest
refusal_text cause.StageOver = codes "StageOver"
refusal_text (cause.Message refusal) = codes "Message " ++ net_text refusal
refusal_text cause.NotEnabled = codes "NotEnabled"

-- the line of a replica that is not there
abbrev pub no_replica_text : ℕ → List ℕ
no_replica_text replica = codes "fault replica " ++ decimal replica ++ codes "\n"

-- the line of a fault
unfoldable pub fault_text : Fault → List ℕ
fault_text Usage = codes "fault usage\n"
fault_text (File fault) = file_text fault
fault_text TooLong = codes "fault file OverLimit file\n"
fault_text (OffGrammar number column) = codes "fault step " ++ decimal number ++ codes " column " ++ decimal column ++ codes "\n"
fault_text (Refused number cause) = codes "fault step " ++ decimal number ++ codes " " ++ refusal_text cause ++ codes "\n"
fault_text (NoReplica replica) = no_replica_text replica
