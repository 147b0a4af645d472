-- What stands in the least times, services and dependencies of changed contexts.
use Rattle.std.proofs.Common.{◌≡◌, ℕ, ◌≤◌, max, Bool, true, false, ◌||◌, List, [], ◌∷◌, arith, refl, sym, ap, subst}
use Rattle.rss_names.specs.declared.service.ServiceId.{ServiceId}
use Rattle.rss_names.specs.declared.service.ServiceId.TheVariants.{Txn, Reg}
use Rattle.rss_names.specs.Services.{same_service}
use Rattle.causal_context.specs.declared.dep.Dep.{Dep}
use Rattle.causal_context.specs.Services.{has_service, put_service, services_joined, without_service}
use Rattle.causal_context.specs.LeastTimes.{least_of, put_least, least_raised, least_joined}
use Rattle.causal_context.specs.Deps.{deps_of, deps_elsewhere}
use Rattle.causal_context.proofs.SameServices.{same_itself, same_is}

-- the least time that was put is there
pub least_of_put : (id : ServiceId) (time : ℕ) (entries : List (ServiceId × ℕ)) → least_of (put_least id time entries) id ≡ time
least_of_put id time [] = let s = same_itself id in grind (arith, s)
least_of_put id time (entry ∷ entries) = let s = same_itself id in let r = least_of_put id time entries in grind (arith, s, r)

-- the other least times stay
pub least_of_others : (id other : ServiceId) (time : ℕ) (entries : List (ServiceId × ℕ)) → same_service other id ≡ false → least_of (put_least id time entries) other ≡ least_of entries other
least_of_others id other time [] h = grind (arith, h)
least_of_others id other time (entry ∷ entries) h = by_same (least_of_others id other time entries h) (same_service id entry.0) refl
  where
    by_same : least_of (put_least id time entries) other ≡ least_of entries other → (b : Bool) → same_service id entry.0 ≡ b → least_of (put_least id time (entry ∷ entries)) other ≡ least_of (entry ∷ entries) other
    by_same r true e = let s = ap (same_service other) (same_is id entry.0 e) in grind (arith, s, h, e)
    by_same r false e = grind (arith, r, h, e)

-- the least time of a transaction service that was raised is at least as great as before, and as the time given
pub least_raised_holds : (id : ServiceId) (time : ℕ) (entries : List (ServiceId × ℕ)) (other : ServiceId) → least_of entries other ≤ least_of (least_raised id time entries) other
least_raised_holds (Reg n) time entries other = omega arith
least_raised_holds (Txn n) time entries other = by_same (same_service other (Txn n)) refl
  where
    by_same : (b : Bool) → same_service other (Txn n) ≡ b → least_of entries other ≤ least_of (least_raised (Txn n) time entries) other
    by_same true e =
        let s = same_is other (Txn n) e in
        let p = least_of_put (Txn n) (max (least_of entries (Txn n)) time) entries in
        subst (λ x. least_of entries x ≤ least_of (least_raised (Txn n) time entries) x) (sym s) (omega (arith, p))
    by_same false e = let p = least_of_others (Txn n) other (max (least_of entries (Txn n)) time) entries e in omega (arith, p)

pub least_raised_reaches : (n time : ℕ) (entries : List (ServiceId × ℕ)) → time ≤ least_of (least_raised (Txn n) time entries) (Txn n)
least_raised_reaches n time entries = let p = least_of_put (Txn n) (max (least_of entries (Txn n)) time) entries in omega (arith, p)

-- joined least times are at least as great as those of each side
pub least_joined_first : (entries others : List (ServiceId × ℕ)) (id : ServiceId) → least_of entries id ≤ least_of (least_joined entries others) id
least_joined_first entries [] id = omega arith
least_joined_first entries (entry ∷ others) id =
    let h = least_raised_holds entry.0 entry.1 entries id in
    let r = least_joined_first (least_raised entry.0 entry.1 entries) others id in
    omega (arith, h, r)

pub least_joined_second : (entries others : List (ServiceId × ℕ)) (n : ℕ) → least_of others (Txn n) ≤ least_of (least_joined entries others) (Txn n)
least_joined_second entries [] n = omega arith
least_joined_second entries (entry ∷ others) n = by_same (least_joined_second (least_raised entry.0 entry.1 entries) others n) (same_service (Txn n) entry.0) refl
  where
    by_same : least_of others (Txn n) ≤ least_of (least_joined entries (entry ∷ others)) (Txn n) → (b : Bool) → same_service (Txn n) entry.0 ≡ b → least_of (entry ∷ others) (Txn n) ≤ least_of (least_joined entries (entry ∷ others)) (Txn n)
    by_same r true e =
        let s = same_is (Txn n) entry.0 e in
        let h = least_raised_reaches n entry.1 entries in
        let g = least_joined_first (least_raised (Txn n) entry.1 entries) others (Txn n) in
        let j : least_of (entry ∷ others) (Txn n) ≡ entry.1 = grind (arith, e) in
        let k : least_of (least_joined (least_raised (Txn n) entry.1 entries) others) (Txn n) ≡ least_of (least_joined (least_raised entry.0 entry.1 entries) others) (Txn n)
        = ap (λ x. least_of (least_joined (least_raised x entry.1 entries) others) (Txn n)) s in
        omega (arith, h, g, j, k)
    by_same r false e = let j : least_of (entry ∷ others) (Txn n) ≡ least_of others (Txn n) = grind (arith, e) in omega (arith, r, j)

-- a service that was put is there, and the others stay
pub has_put : (id other : ServiceId) (services : List ServiceId) → has_service (put_service id services) other ≡ (same_service other id || has_service services other)
has_put id other [] = refl
has_put id other (s ∷ services) = by_same (has_put id other services) (same_service id s) refl
  where
    by_same : has_service (put_service id services) other ≡ (same_service other id || has_service services other) → (b : Bool) → same_service id s ≡ b
        → has_service (put_service id (s ∷ services)) other ≡ (same_service other id || has_service (s ∷ services) other)
    by_same r true e = let t = ap (same_service other) (same_is id s e) in grind (arith, t, e)
    by_same r false e = grind (arith, r, e)

pub has_joined : (services ids : List ServiceId) (id : ServiceId) → has_service (services_joined services ids) id ≡ (has_service services id || has_service ids id)
has_joined services [] id = grind arith
has_joined services (s ∷ ids) id = let r = has_joined (put_service s services) ids id in let p = has_put s id services in grind (arith, r, p)

-- a service that was taken away is not there, and the others stay
pub has_without : (id : ServiceId) (services : List ServiceId) → has_service (without_service id services) id ≡ false
has_without id [] = refl
has_without id (s ∷ services) = let r = has_without id services in grind (arith, r)

pub has_others : (id other : ServiceId) (services : List ServiceId) → same_service other id ≡ false → has_service (without_service id services) other ≡ has_service services other
has_others id other [] h = refl
has_others id other (s ∷ services) h = by_same (has_others id other services h) (same_service id s) refl
  where
    by_same : has_service (without_service id services) other ≡ has_service services other → (b : Bool) → same_service id s ≡ b → has_service (without_service id (s ∷ services)) other ≡ has_service (s ∷ services) other
    by_same r true e = let t = ap (same_service other) (same_is id s e) in grind (arith, r, t, e, h)
    by_same r false e = grind (arith, r, e)

-- none of the dependencies that are left is on a register of the service
pub none_elsewhere : (id : ServiceId) (deps : List Dep) → deps_of id (deps_elsewhere id deps) ≡ []
none_elsewhere id [] = refl
none_elsewhere id (d ∷ deps) = let r = none_elsewhere id deps in grind (arith, r)
