use Rattle.std.proofs.Common.{◌≡◌, true, take, drop}
use Rattle.history_index.specs.Following.{is_well_formed_from}
use Rattle.history_index.specs.Kept.{Indexes}
use Rattle.history_index.proofs.index.index_history.Given as goal

-- the entries so far have this index, and those left may stand behind them
abbrev pub invariant-loop-place : goal.invariant-loop-place
invariant-loop-place l = record {
  indexed : Indexes (take l.place l.h) l.index;
  left : is_well_formed_from (take l.place l.h) (drop l.place l.h) ≡ true;
}
