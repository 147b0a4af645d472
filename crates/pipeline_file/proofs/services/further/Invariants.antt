use Rattle.std.proofs.Common.{◌≡◌, ◌+◌, ◌++◌, ◌≤◌, drop}
use Rattle.pipeline_file.specs.Services.{further_from}
use Rattle.pipeline_file.proofs.services.further.Given as goal

-- the services so far and those that are left are all; at most one number of each kind was given a table
abbrev pub invariant-loop-table : goal.invariant-loop-table
invariant-loop-table l = (l.list ++ further_from l.txn l.reg (drop l.table-index l.tables) ≡ further_from 2 2 l.tables) × (l.txn ≤ l.table-index + 2) × (l.reg ≤ l.table-index + 2)
