-- There are sixteen services at most.
use Rattle.std.proofs.Common.{ℕ, zero, suc, ◌+◌, ◌-◌, ◌<◌, ◌≤◌, List, [], ◌∷◌, length, get_or, arith}
use Rattle.std.proofs.lemmas.List.Elements.{All-get_or}
use Rattle.rss_names.specs.declared.service.ServiceId.{ServiceId}
use Rattle.rss_names.specs.declared.service.ServiceId.TheVariants.{Txn, Reg}
use Rattle.causal_context.specs.Services.{IsService, StandsBefore, AreServices}

-- the place of a service, counted from 1
abbrev pub rank : ServiceId → ℕ
rank (Txn number) = number
rank (Reg number) = 8 + number

ranked : (x : ServiceId) → IsService x → 1 ≤ rank x
ranked (Txn n) h = omega (arith, h.0)
ranked (Reg n) h = omega (arith, h.0)

least_ranked : (x : ServiceId) → IsService x → rank x ≤ 16
least_ranked (Txn n) h = omega (arith, h.1)
least_ranked (Reg n) h = omega (arith, h.1)

rises : (x y : ServiceId) → IsService x → IsService y → StandsBefore x y → rank x < rank y
rises (Txn a) (Txn b) h k l = l
rises (Txn a) (Reg b) h k l = omega (arith, h.1, k.0)
rises (Reg a) (Txn b) h k l = absurd l
rises (Reg a) (Reg b) h k l = omega (arith, l)

climbs : (xs : List ServiceId) (d : ServiceId) → AreServices xs → (i : ℕ) → i < length xs → suc i ≤ rank (get_or xs i d)
climbs xs d h zero l = ranked (get_or xs 0 d) (All-get_or IsService xs 0 d l h.in_range)
climbs xs d h (suc i) l =
    let m : i < length xs = omega (arith, l) in
    let n = climbs xs d h i m in
    let r = rises (get_or xs i d) (get_or xs (suc i) d) (All-get_or IsService xs i d m h.in_range) (All-get_or IsService xs (suc i) d l h.in_range) (h.in_order i (suc i) d (omega arith) l) in
    omega (arith, n, r)

pub services_few : (xs : List ServiceId) → AreServices xs → length xs ≤ 16
services_few [] h = omega arith
services_few (x ∷ xs) h =
    let l : length xs < length (x ∷ xs) = omega arith in
    let n = climbs (x ∷ xs) x h (length xs) l in
    let r = least_ranked (get_or (x ∷ xs) (length xs) x) (All-get_or IsService (x ∷ xs) (length xs) x l h.in_range) in
    omega (arith, n, r)
