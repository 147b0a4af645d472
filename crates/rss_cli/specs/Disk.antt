-- What is told of a replica's disk.
use Rattle.std.specs.Prelude.{ℕ, ◌≡◌, ◌<◌, ◌≤◌, ◌⊎◌, List}
use Rattle.disk_report.specs.Text.{disk_text}
use Rattle.handled_requests.specs.Handled.{handled_by}
use Rattle.pipeline_lang.specs.Config.{replicas_of}
use Rattle.pipeline_lang.specs.declared.config.Config.{Config}
use Rattle.rss_machine.specs.State.{State}
use Rattle.rss_machine.specs.declared.step.Step.{Step}
use Rattle.rss_names.specs.declared.service.ServiceId.TheVariants.{Reg}
use Rattle.rss_names.specs.declared.service.Target.TheVariants.{Replica}
use Rattle.rss_cli.specs.FaultText.{fault_text}
use Rattle.rss_cli.specs.Played.{IsRun}
use Rattle.rss_cli.specs.declared.fault.Fault.TheVariants as fault
use Rattle.rss_cli.specs.declared.status.Status.{Status}
use Rattle.rss_cli.specs.declared.status.Status.TheVariants.{Done, File}

-- the text is the report on the disk of this replica of `reg`, after the requests that it handled in these steps
pub record IsDiskReport (replica stop : ℕ) (c : Config) (s : State) (steps : List Step) (text : List ℕ) (status : Status) : Type 0 where
  pub there : replica ≤ replicas_of c (Reg 1)
  pub told : text ≡ disk_text c replica stop (handled_by s.net (Replica (Reg 1) replica) steps)
  pub status_is : status ≡ Done

-- the text names the replica, and `reg` has fewer
pub record IsNoReplica (replica : ℕ) (c : Config) (text : List ℕ) (status : Status) : Type 0 where
  pub fewer : replicas_of c (Reg 1) < replica
  pub told : text ≡ fault_text (fault.NoReplica replica)
  pub status_is : status ≡ File

-- what is told of the disk, where these steps lead to this state
abbrev pub TellsDisk : ℕ → ℕ → Config → State → List Step → List ℕ → Status → Type 0
TellsDisk replica stop c s steps text status = IsDiskReport replica stop c s steps text status ⊎ IsNoReplica replica c text status

-- no step is refused, and the text tells of the disk after them
pub record IsDiskAnswer (replica stop : ℕ) (c : Config) (steps : List Step) (text : List ℕ) (status : Status) : Type 0 where
  pub state : State
  pub run : IsRun c steps state
  pub told : TellsDisk replica stop c state steps text status
