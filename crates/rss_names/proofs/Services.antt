-- the tests on services and keys decide equality
use Rattle.std.proofs.Common.{◌≡◌, ap}
use Rattle.std.proofs.lemmas.Bool.{false≢true}
use Rattle.std.proofs.lemmas.Bool.Decides.{Decides-eqb, Decides-and, Decides-like}
use Rattle.std.specs.Bool.{Decides}
use Rattle.rss_names.specs.declared.service.ServiceId.{ServiceId}
use Rattle.rss_names.specs.declared.service.ServiceId.TheVariants.{Txn, Reg}
use Rattle.rss_names.specs.declared.service.Key.{Key}
use Rattle.rss_names.specs.Services.{same_service, same_key}

-- `same_service` is true exactly where two services are equal
pub same_service-Decides : (a b : ServiceId) → Decides (same_service a b) (a ≡ b)
same_service-Decides (Txn m) (Txn n) = Decides-like _ (λ e. ap Txn e) (λ e. cc) (Decides-eqb m n)
same_service-Decides (Reg m) (Reg n) = Decides-like _ (λ e. ap Reg e) (λ e. cc) (Decides-eqb m n)
same_service-Decides (Txn m) (Reg n) = (λ h. absurd (false≢true h), λ e. cc)
same_service-Decides (Reg m) (Txn n) = (λ h. absurd (false≢true h), λ e. cc)

-- `same_key` is true exactly where two keys are equal
pub same_key-Decides : (a b : Key) → Decides (same_key a b) (a ≡ b)
same_key-Decides a b =
    Decides-like _ (λ p i. record { service = p.0 i; index = p.1 i }) (λ e. (ap (λ (k : Key). k.service) e, ap (λ (k : Key). k.index) e))
    (Decides-and _ _ (same_service-Decides a.service b.service) (Decides-eqb a.index b.index))
