-- What never is.
use Rattle.std.proofs.Common.{◌≡◌, ℕ, true, false, Some, None, sym}
use Rattle.std.proofs.lemmas.Bool.{true≢false}
use Rattle.world_laws.proofs.Looks.{none_is_not}

-- a test that fails does not hold
pub no : {A : Type 0} → false ≡ true → A
no e = absurd (true≢false (sym e))

-- no time is not a time
pub none : {A : Type 0} (time : ℕ) → None ≡ Some time → A
none time e = absurd (none_is_not time e)
