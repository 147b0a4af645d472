use Rattle.std.proofs.Common.{◌≡◌, ◌<◌, ℕ, length}
use Rattle.rss_model.specs.History.{entry_at}
use Rattle.plain_script.specs.Standing.{standing, GivesWithin}
use Rattle.plain_script.proofs.table.final_table.Given as goal

-- what stands at the place
abbrev pub invariant-loop-place : goal.invariant-loop-place
invariant-loop-place l = record {
  table : l.table.items ≡ (standing l.config l.h l.place).table;
  told : l.told.items ≡ (standing l.config l.h l.place).told;
  stages : length l.table.items ≡ 17;
  within : (i : ℕ) → i < l.place → GivesWithin (entry_at l.h i);
}
