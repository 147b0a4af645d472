-- Services and least times are joined as lists by ascending place are.
use Rattle.std.proofs.Common.{◌≡◌, ℕ, suc, ◌+◌, ◌<◌, Bool, true, false, if◌then◌else◌, ◌==◌, nat_lt, List, [], ◌∷◌, All, AllPairs, arith, refl}
use Rattle.std.proofs.lemmas.Grind.{common_steps}
use Rattle.std.proofs.lemmas.Bool.Decides.{nat_tests}
use Rattle.std.proofs.lemmas.List.Elements.{All-cons, All-nil, All-head, All-tail}
use Rattle.std.proofs.lemmas.List.Kept.{AllPairs-cons}
use Rattle.rss_names.specs.declared.service.ServiceId.{ServiceId}
use Rattle.rss_names.specs.declared.service.ServiceId.TheVariants.{Txn, Reg}
use Rattle.rss_names.specs.Services.{same_service}
use Rattle.causal_context.specs.Services.{IsService, StandsBefore, stands_before, put_service, services_joined}
use Rattle.causal_context.proofs.Ordered.{AllAbove, Rising, put, joined}

-- the number of a service in the order of all
unfoldable pub rank : ServiceId → ℕ
rank (Txn n) = n
rank (Reg n) = 8 + n

-- of two services that are the same the first
unfoldable pub first : ServiceId → ServiceId → ServiceId
first a b = a

pub rank_before : (a b : ServiceId) → IsService a → IsService b → stands_before a b ≡ nat_lt (rank a) (rank b)
unfolding rank
rank_before (Txn a) (Txn b) h k = refl
rank_before (Txn a) (Reg b) h k = grind (arith, nat_tests, h, k)
rank_before (Reg a) (Txn b) h k = grind (arith, nat_tests, h, k)
rank_before (Reg a) (Reg b) h k = grind (arith, nat_tests)

pub rank_same : (a b : ServiceId) → IsService a → IsService b → same_service a b ≡ (rank a == rank b)
unfolding rank
rank_same (Txn a) (Txn b) h k = refl
rank_same (Txn a) (Reg b) h k = grind (arith, nat_tests, h, k)
rank_same (Reg a) (Txn b) h k = grind (arith, nat_tests, h, k)
rank_same (Reg a) (Reg b) h k = grind (arith, nat_tests)

pub rank_below : (a b : ServiceId) → IsService a → IsService b → StandsBefore a b → rank a < rank b
unfolding rank
rank_below (Txn a) (Txn b) h k l = l
rank_below (Txn a) (Reg b) h k l = omega (arith, h.0, h.1, k.0, k.1)
rank_below (Reg a) (Txn b) h k l = absurd l
rank_below (Reg a) (Reg b) h k l = omega (arith, l)

pub below_rank : (a b : ServiceId) → IsService a → IsService b → rank a < rank b → StandsBefore a b
unfolding rank
below_rank (Txn a) (Txn b) h k l = l
below_rank (Txn a) (Reg b) h k l = tt
below_rank (Reg a) (Txn b) h k l = absurd (omega (arith, h.0, h.1, k.0, k.1, l))
below_rank (Reg a) (Reg b) h k l = omega (arith, l)

-- services as a list by ascending place
pub first_kept : (a b : ServiceId) → rank a ≡ rank b → rank (first a b) ≡ rank a
unfolding first
first_kept a b h = refl

pub services_put : (id : ServiceId) (services : List ServiceId) → IsService id → All IsService services → All IsService (put_service id services)
services_put id [] h a = All-cons IsService id [] h (All-nil IsService)
services_put id (s ∷ services) h a = by_place (services_put id services h (All-tail IsService s services a)) (stands_before id s) (same_service id s)
  where
    by_place : All IsService (put_service id services) → (b c : Bool) → All IsService (if b then id ∷ s ∷ services else if c then s ∷ services else s ∷ put_service id services)
    by_place r true c = All-cons IsService id (s ∷ services) h a
    by_place r false true = a
    by_place r false false = All-cons IsService s (put_service id services) (All-head IsService s services a) r

pub put_service_is : (id : ServiceId) (services : List ServiceId) → IsService id → All IsService services → put_service id services ≡ put rank first id services
unfolding first
put_service_is id [] h a = refl
put_service_is id (s ∷ services) h a =
    let k = All-head IsService s services a in
    let r = put_service_is id services h (All-tail IsService s services a) in
    let b = rank_before id s h k in
    let e = rank_same id s h k in
    grind (arith, common_steps, r, b, e)

pub services_joined_is : (services ids : List ServiceId) → All IsService services → All IsService ids → services_joined services ids ≡ joined rank first services ids
services_joined_is services [] a b = refl
services_joined_is services (id ∷ ids) a b =
    let h = All-head IsService id ids b in
    let p = put_service_is id services h a in
    let r = services_joined_is (put_service id services) ids (services_put id services h a) (All-tail IsService id ids b) in
    grind (arith, common_steps, p, r)

pub services_kept : (services ids : List ServiceId) → All IsService services → All IsService ids → All IsService (services_joined services ids)
services_kept services [] a b = a
services_kept services (id ∷ ids) a b = services_kept (put_service id services) ids (services_put id services (All-head IsService id ids b) a) (All-tail IsService id ids b)

above_services : (id : ServiceId) (services : List ServiceId) → IsService id → All IsService services → All (StandsBefore id) services → AllAbove rank (rank id) services
above_services id [] h a p = tt
above_services id (s ∷ services) h a p = (
  rank_below id s h (All-head IsService s services a) (All-head (StandsBefore id) s services p),
  above_services id services h (All-tail IsService s services a) (All-tail (StandsBefore id) s services p),
)

pub rising_services : (services : List ServiceId) → All IsService services → AllPairs StandsBefore services → Rising rank services
rising_services [] a p = tt
rising_services (s ∷ services) a p = (
  above_services s services (All-head IsService s services a) (All-tail IsService s services a) (λ k d l. p 0 (suc k) d (omega arith) (omega (arith, l))),
  rising_services services (All-tail IsService s services a) (λ i j d l m. p (suc i) (suc j) d (omega (arith, l)) (omega (arith, m))),
)

services_above : (id : ServiceId) (services : List ServiceId) → IsService id → All IsService services → AllAbove rank (rank id) services → All (StandsBefore id) services
services_above id [] h a p = All-nil (StandsBefore id)
services_above id (s ∷ services) h a p =
    All-cons (StandsBefore id) s services (below_rank id s h (All-head IsService s services a) p.0) (services_above id services h (All-tail IsService s services a) p.1)

pub services_rising : (services : List ServiceId) → All IsService services → Rising rank services → AllPairs StandsBefore services
services_rising [] a p = λ i j d l m. absurd (omega (arith, m))
services_rising (s ∷ services) a p =
    AllPairs-cons StandsBefore s services (services_above s services (All-head IsService s services a) (All-tail IsService s services a) p.0) (services_rising services (All-tail IsService s services a) p.1)
