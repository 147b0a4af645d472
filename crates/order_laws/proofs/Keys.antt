-- The test of keys.
use Rattle.std.proofs.Common.{◌≡◌, true, arith}
use Rattle.std.proofs.lemmas.Grind.{common_steps}
use Rattle.rss_names.specs.declared.service.Key.{Key}
use Rattle.rss_names.specs.declared.service.ServiceId.{ServiceId}
use Rattle.rss_names.specs.declared.service.ServiceId.TheVariants.{Txn, Reg}
use Rattle.rss_names.specs.Services.{same_service, same_key}

same_service-true : (a b : ServiceId) → same_service a b ≡ true → a ≡ b
same_service-true (Txn a) (Txn b) e = grind (arith, common_steps, e)
same_service-true (Txn a) (Reg b) e = grind (arith, e)
same_service-true (Reg a) (Txn b) e = grind (arith, e)
same_service-true (Reg a) (Reg b) e = grind (arith, common_steps, e)

same_service-itself : (a : ServiceId) → same_service a a ≡ true
same_service-itself (Txn a) = grind (arith, common_steps)
same_service-itself (Reg a) = grind (arith, common_steps)

-- keys that pass the test are one
pub same_key-true : (a b : Key) → same_key a b ≡ true → a ≡ b
same_key-true a b e = grind (arith, common_steps, e, same_service-true a.service b.service)

-- each key passes it with itself
pub same_key-itself : (a : Key) → same_key a a ≡ true
same_key-itself a = grind (arith, common_steps, same_service-itself a.service)
