-- Tests on services.
use Rattle.std.proofs.Common.{◌≡◌, true, arith, refl, ap}
use Rattle.std.proofs.lemmas.Bool.Decides.{nat_tests}
use Rattle.rss_names.specs.declared.service.ServiceId.{ServiceId}
use Rattle.rss_names.specs.declared.service.ServiceId.TheVariants.{Txn, Reg}
use Rattle.rss_names.specs.Services.{same_service}

-- a service is the same as itself
pub same_itself : (a : ServiceId) → same_service a a ≡ true
same_itself (Txn n) = grind (arith, nat_tests)
same_itself (Reg n) = grind (arith, nat_tests)

-- services that are the same are one
pub same_is : (a b : ServiceId) → same_service a b ≡ true → a ≡ b
same_is (Txn m) (Txn n) h = ap Txn (grind (arith, nat_tests, h))
same_is (Reg m) (Reg n) h = ap Reg (grind (arith, nat_tests, h))
same_is (Txn m) (Reg n) h = grind (arith, h)
same_is (Reg m) (Txn n) h = grind (arith, h)

-- whether two are the same does not depend on which comes first
pub same_swapped : (a b : ServiceId) → same_service a b ≡ same_service b a
same_swapped (Txn m) (Txn n) = grind (arith, nat_tests)
same_swapped (Reg m) (Reg n) = grind (arith, nat_tests)
same_swapped (Txn m) (Reg n) = refl
same_swapped (Reg m) (Txn n) = refl
