-- tests on services and keys
use Rattle.std.specs.Prelude.{Bool, false, ◌&&◌, ◌==◌}
use Rattle.rss_names.specs.declared.service.ServiceId.{ServiceId}
use Rattle.rss_names.specs.declared.service.ServiceId.TheVariants.{Txn, Reg}
use Rattle.rss_names.specs.declared.service.Key.{Key}

-- whether two services are the same
abbrev pub same_service : ServiceId → ServiceId → Bool
same_service (Txn m) (Txn n) = m == n
same_service (Reg m) (Reg n) = m == n
same_service (Txn m) (Reg n) = false
same_service (Reg m) (Txn n) = false

-- whether two keys are the same
abbrev pub same_key : Key → Key → Bool
same_key a b = same_service a.service b.service && a.index == b.index
