-- How many tables of a kind a file has at most.
use Rattle.std.specs.Prelude.{◌≤◌, length}
use Rattle.pipeline_tables.specs.declared.tables.FileTables.{FileTables}

-- no more tables than a file may have
pub record HasLimits (t : FileTables) : Type 0 where
  pub shards : length t.shards ≤ 16
  pub pipes : length t.pipes ≤ 16
  pub stages : length t.stages ≤ 16
  pub withholds : length t.withholds ≤ 64
  pub kills : length t.kills ≤ 16
  pub services : length t.services ≤ 6
