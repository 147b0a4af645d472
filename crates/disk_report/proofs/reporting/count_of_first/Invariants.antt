use Rattle.std.proofs.Common.{◌≡◌, ◌+◌, ◌≤◌, ℕ, drop}
use Rattle.rss_names.specs.declared.service.ServiceId.TheVariants.{Reg}
use Rattle.disk_report.specs.Text.{count_of}
use Rattle.disk_report.proofs.reporting.count_of_first.Given as goal

abbrev pub invariant-loop-service : goal.invariant-loop-service
invariant-loop-service l = record {
  counted : l.count + count_of (Reg 1) (drop l.service-index l.services) ≡ count_of (Reg 1) l.services;
  few : l.count ≤ l.service-index;
}
