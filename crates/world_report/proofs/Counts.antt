-- Counts of services.
use Rattle.std.proofs.Common.{◌≡◌, ℕ, [], Option, Some, None, refl}
use Rattle.rss_machine.specs.ReportText.{count_at}

-- where no fence was counted before, each count is 0
pub none_before : (place : Option ℕ) → count_at place [] ≡ 0
none_before None = refl
none_before (Some place) = refl
