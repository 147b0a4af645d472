-- The services that were used last are found one after another.
use Rattle.std.proofs.Common.{◌≡◌, ℕ, zero, suc, ◌+◌, ◌-◌, ◌<◌, ◌≤◌, ◌==◌, ◌&&◌, ◌||◌, not, Bool, true, false, List, [], ◌∷◌, ◌++◌, length, map, All, AllPairs, Option, Some, None, ◌⊎◌, inl, inr, refl, sym, ap, subst, ◌∙◌, arith, append_assoc, if◌then◌else◌}
use Rattle.std.specs.List.{filter}
use Rattle.std.proofs.lemmas.Grind.{common_steps}
use Rattle.std.proofs.lemmas.Bool.{cases_lt}
use Rattle.std.proofs.lemmas.Bool.Decides.{nat_tests}
use Rattle.std.proofs.lemmas.List.{append-nil, length-map}
use Rattle.std.proofs.lemmas.List.Elements.{All-head, All-tail, recursion_from_All}
use Rattle.rss_names.specs.declared.service.ServiceId.{ServiceId}
use Rattle.rss_names.specs.declared.service.ServiceId.TheVariants.{Txn, Reg}
use Rattle.rss_names.specs.Services.{same_service}
use Rattle.causal_context.specs.Seen.{Seen}
use Rattle.causal_context.specs.Marks.{same_apart, same_itself}
use Rattle.causal_context.specs.Services.{IsService, StandsBefore, AreServices, has_service, service_at}
use Rattle.rss_tables.specs.Works.{Plan, fence_of, fences_of, others_than, plan_for, plan_all}
use Rattle.rss_tables.specs.declared.fences.FenceWork.{FenceWork}
use Rattle.session_stub.specs.Picked.{fences_from, is_other}

-- the place of a service
abbrev number_of : ServiceId → ℕ
number_of (Txn n) = n - 1
number_of (Reg n) = n + 7

stands_at : (s : ServiceId) → IsService s → service_at (number_of s) ≡ s
stands_at (Txn n) h = grind (arith, nat_tests, h)
stands_at (Reg n) h = grind (arith, nat_tests, h)

below : (s : ServiceId) → IsService s → number_of s < 16
below (Txn n) h = omega (arith, h.0, h.1)
below (Reg n) h = omega (arith, h.0, h.1)

further : (s t : ServiceId) → IsService s → IsService t → StandsBefore s t → number_of s < number_of t
further (Txn a) (Txn b) h k l = omega (arith, h.0, k.0, l)
further (Txn a) (Reg b) h k l = omega (arith, h.1, k.0)
further (Reg a) (Txn b) h k l = absurd l
further (Reg a) (Reg b) h k l = omega (arith, l)

-- services from a place on, one behind another
abbrev FromPlace : ℕ → List ServiceId → Type 0
FromPlace place [] = Unit {0}
FromPlace place (s ∷ services) = (place ≤ number_of s) × IsService s × FromPlace (suc (number_of s)) services

abbrev Low : ℕ → List ServiceId → Type 0
Low place [] = Unit {0}
Low place (s ∷ services) = place ≤ number_of s

stand : (place : ℕ) (services : List ServiceId) → All IsService services → AllPairs StandsBefore services → Low place services → FromPlace place services
stand place [] a p l = tt
stand place (s ∷ services) a p l = (l, All-head IsService s services a, stand (suc (number_of s)) services (All-tail IsService s services a) (λ i j d m n. p (suc i) (suc j) d (omega (arith, m)) (omega (arith, n))) (low services refl))
  where
    low : (rest : List ServiceId) → services ≡ rest → Low (suc (number_of s)) rest
    low [] e = tt
    low (t ∷ rest) e =
        let before : StandsBefore s t = rw e at p 0 1 s (omega arith) (omega (arith, ap (λ (l : List ServiceId). length l) e)) in
        further s t (All-head IsService s services a) (All-head IsService t rest (subst (All IsService) e (All-tail IsService s services a))) before

-- a service of an earlier place is not there
absent : (place n : ℕ) (services : List ServiceId) → place < n → FromPlace n services → has_service services (service_at place) ≡ false
absent place n [] l f = refl
absent place n (s ∷ services) l f =
    let apart = same_apart place (number_of s) (λ e. absurd (omega (arith, l, f.0, e))) in
    let other : same_service (service_at place) s ≡ false = ap (λ (x : ServiceId). same_service (service_at place) x) (sym (stands_at s f.1)) ∙ apart in
    let rest = absent place (suc (number_of s)) services (omega (arith, l, f.0)) f.2 in
    both other rest
  where
    both : {b c : Bool} → b ≡ false → c ≡ false → (b || c) ≡ false
    both {b} {c} p q = cc

-- a place whose service was not used last
skipped : (seen : Seen) (except : Option ServiceId) (left place : ℕ) → has_service seen.last.services (service_at place) ≡ false → fences_from seen except place (suc left) ≡ fences_from seen except (suc place) left
skipped seen except left place h = ap (λ (b : Bool). if b && is_other except (service_at place) then (service_at place, fence_of seen (service_at place)) ∷ fences_from seen except (suc place) left else fences_from seen except (suc place) left) h

-- first one place, then the others
split : (seen : Seen) (except : Option ServiceId) (place left : ℕ) → fences_from seen except place (suc left) ≡ fences_from seen except place 1 ++ fences_from seen except (place + 1) left
split seen except place left = by (has_service seen.last.services (service_at place) && is_other except (service_at place))
  where
    next : fences_from seen except (suc place) left ≡ fences_from seen except (place + 1) left
    next = ap (λ (n : ℕ). fences_from seen except n left) (omega arith)

    by : (b : Bool) → (if b then (service_at place, fence_of seen (service_at place)) ∷ fences_from seen except (suc place) left else fences_from seen except (suc place) left) ≡ (if b then (service_at place, fence_of seen (service_at place)) ∷ [] else []) ++ fences_from seen except (place + 1) left
    by true = ap (λ (l : List (ServiceId × FenceWork)). (service_at place, fence_of seen (service_at place)) ∷ l) next
    by false = next

-- a list with its fences, where each service is the next or comes later
picks : (seen : Seen) (except : Option ServiceId) (left place : ℕ) (services : List ServiceId) → place + left ≡ 16 → FromPlace place services → ((j : ℕ) → place ≤ j → has_service seen.last.services (service_at j) ≡ has_service services (service_at j)) → fences_from seen except place left ≡ fences_of seen (filter (is_other except) services)
picks seen except zero place [] e f h = refl
picks seen except zero place (s ∷ services) e f h = absurd (omega (arith, e, f.0, below s f.1))
picks seen except (suc left) place [] e f h =
    skipped seen except left place (h place (omega arith))
    ∙ picks seen except left (suc place) [] (omega (arith, e)) tt (λ j l. h j (omega (arith, l)))
picks seen except (suc left) place (s ∷ services) e f h = by_place (cases_lt place (number_of s))
    (λ l. picks seen except left (suc place) (s ∷ services) (omega (arith, e)) (omega (arith, l), f.1, f.2) (λ j k. h j (omega (arith, k))))
    (λ q here. picks seen except left (suc place) services (omega (arith, e)) (subst (λ n. FromPlace (suc n) services) (sym q) f.2) (λ j k. h j (omega (arith, k)) ∙ passed j k here))
  where
    found : service_at place ≡ s → has_service (s ∷ services) (service_at place) ≡ true
    found here = ap (λ (b : Bool). b || has_service services (service_at place)) (ap (λ (x : ServiceId). same_service (service_at place) x) (sym here) ∙ same_itself place)

    passed : (j : ℕ) → suc place ≤ j → service_at place ≡ s → has_service (s ∷ services) (service_at j) ≡ has_service services (service_at j)
    passed j k here = ap (λ (b : Bool). b || has_service services (service_at j)) (ap (λ (x : ServiceId). same_service (service_at j) x) (sym here) ∙ same_apart j place (λ p. absurd (omega (arith, k, p))))

    by_other : (b : Bool) → (if b then (s, fence_of seen s) ∷ fences_of seen (filter (is_other except) services) else fences_of seen (filter (is_other except) services)) ≡ fences_of seen (if b then s ∷ filter (is_other except) services else filter (is_other except) services)
    by_other true = refl
    by_other false = refl

    picked : has_service seen.last.services (service_at place) ≡ true → service_at place ≡ s → fences_from seen except (suc place) left ≡ fences_of seen (filter (is_other except) services) → fences_from seen except place (suc left) ≡ fences_of seen (filter (is_other except) (s ∷ services))
    picked there here rest =
        ap (λ (b : Bool). if b && is_other except (service_at place) then (service_at place, fence_of seen (service_at place)) ∷ fences_from seen except (suc place) left else fences_from seen except (suc place) left) there
        ∙ ap (λ (x : ServiceId). if is_other except x then (x, fence_of seen x) ∷ fences_from seen except (suc place) left else fences_from seen except (suc place) left) here
        ∙ ap (λ (l : List (ServiceId × FenceWork)). if is_other except s then (s, fence_of seen s) ∷ l else l) rest
        ∙ by_other (is_other except s)

    by_place : (place < number_of s) ⊎ (number_of s ≤ place) → (place < number_of s → fences_from seen except (suc place) left ≡ fences_of seen (filter (is_other except) (s ∷ services))) → (place ≡ number_of s → service_at place ≡ s → fences_from seen except (suc place) left ≡ fences_of seen (filter (is_other except) services)) → fences_from seen except place (suc left) ≡ fences_of seen (filter (is_other except) (s ∷ services))
    by_place (inl l) later now =
        skipped seen except left place (h place (omega arith) ∙ absent place (number_of s) (s ∷ services) l (omega arith, f.1, f.2)) ∙ later l
    by_place (inr l) later now =
        let q : place ≡ number_of s = omega (arith, l, f.0) in
        let here : service_at place ≡ s = ap service_at q ∙ stands_at s f.1 in
        picked (h place (omega arith) ∙ found here) here (now q here)

-- all of them
pub picks_all : (seen : Seen) (except : Option ServiceId) → AreServices seen.last.services → fences_from seen except 0 16 ≡ fences_of seen (filter (is_other except) seen.last.services)
picks_all seen except h = picks seen except 16 0 seen.last.services refl (stand 0 seen.last.services h.in_range h.in_order (low seen.last.services)) (λ j l. refl)
  where
    low : (services : List ServiceId) → Low 0 services
    low [] = tt
    low (s ∷ services) = omega arith

filter_none : (services : List ServiceId) → filter (is_other None) services ≡ services
filter_none [] = refl
filter_none (s ∷ services) = ap (λ (l : List ServiceId). s ∷ l) (filter_none services)

pub plan_for_is : (seen : Seen) (id : ServiceId) (fences : List (ServiceId × FenceWork)) (enter : Bool) → AreServices seen.last.services → fences ≡ [] ++ fences_from seen (Some id) 0 16 → enter ≡ (seen.last.outside || not (length fences == 0)) → record { fences = fences; enter = enter } ≡ plan_for seen id
plan_for_is seen id fences enter h e n =
    let f : fences ≡ fences_of seen (others_than id seen.last.services) = e ∙ picks_all seen (Some id) h in
    let l : length fences ≡ length (others_than id seen.last.services) = ap (λ (x : List (ServiceId × FenceWork)). length x) f ∙ length-map (others_than id seen.last.services) (λ (x : ServiceId). (x, fence_of seen x)) in
    let m : enter ≡ (seen.last.outside || not (length (others_than id seen.last.services) == 0)) = n ∙ ap (λ (k : ℕ). seen.last.outside || not (k == 0)) l in
    ap (λ (x : List (ServiceId × FenceWork)). record { fences = x; enter = enter }) f ∙ ap (λ (b : Bool). record { fences = fences_of seen (others_than id seen.last.services); enter = b }) m

pub plan_all_is : (seen : Seen) (fences : List (ServiceId × FenceWork)) → AreServices seen.last.services → fences ≡ [] ++ fences_from seen None 0 16 → record { fences = fences; enter = false } ≡ plan_all seen
plan_all_is seen fences h e = ap (λ (x : List (ServiceId × FenceWork)). record { fences = x; enter = false }) (e ∙ picks_all seen None h ∙ ap (fences_of seen) (filter_none seen.last.services))

pub ruleset plans = (plan_for_is, plan_all_is)

-- one more service of a loop
pub pick_more : (seen : Seen) (except : Option ServiceId) (place : ℕ) (before now : List (ServiceId × FenceWork)) (whole : List (ServiceId × FenceWork)) → place < 16 → now ≡ before ++ fences_from seen except place 1 → before ++ fences_from seen except place (16 - place) ≡ whole → now ++ fences_from seen except (place + 1) (16 - (place + 1)) ≡ whole
pick_more seen except place before now whole l e h =
    ap (λ (x : List (ServiceId × FenceWork)). x ++ fences_from seen except (place + 1) (16 - (place + 1))) e
    ∙ append_assoc before (fences_from seen except place 1) (fences_from seen except (place + 1) (16 - (place + 1)))
    ∙ ap (λ (x : List (ServiceId × FenceWork)). before ++ x) (sym (split seen except place (16 - (place + 1))))
    ∙ ap (λ (n : ℕ). before ++ fences_from seen except place n) count
    ∙ h
  where
    count : suc (16 - (place + 1)) ≡ 16 - place
    count = omega (arith, l)

pub ruleset picking = (pick_more, append-nil)
