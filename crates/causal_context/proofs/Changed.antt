-- Marks that are set or taken away: what they mark then.
use Rattle.std.proofs.Common.{◌≡◌, ℕ, zero, suc, ◌+◌, ◌<◌, ◌≤◌, Bool, true, false, Some, None, List, [], ◌∷◌, length, set, drop, drop-cons, get_or, replicate, arith, refl}
use Rattle.std.proofs.lemmas.Grind.{common_steps}
use Rattle.std.proofs.lemmas.List.{drop_all}
use Rattle.std.proofs.lemmas.Bool.Decides.{nat_tests}
use Rattle.rss_names.specs.declared.service.ServiceId.{ServiceId}
use Rattle.rss_names.specs.declared.service.ServiceId.TheVariants.{Txn, Reg}
use Rattle.causal_context.specs.Services.{IsService, stands_before, put_service, services_joined, without_service, place_of, service_at}
use Rattle.causal_context.specs.Marks.{marked_from, same_apart, same_itself}
use Rattle.causal_context.proofs.Marked.{at_place, no_place}

-- services stand before those of later places, and not before those of earlier ones
pub before : (i j : ℕ) → i < j → stands_before (service_at i) (service_at j) ≡ true
before i j h = grind (arith, nat_tests)

pub not_after : (i j : ℕ) → j ≤ i → stands_before (service_at i) (service_at j) ≡ false
not_after i j h = grind (arith, nat_tests)

-- putting a service of an earlier place sets it first
pub put_first : (marks : List Bool) (i j : ℕ) → i < j → put_service (service_at i) (marked_from j marks) ≡ service_at i ∷ marked_from j marks
unfolding marked_from
put_first [] i j h = refl
put_first (true ∷ marks) i j h = let b = before i j h in grind (arith, common_steps, b)
put_first (false ∷ marks) i j h = put_first marks i (suc j) (omega arith)

-- to set a mark puts the service of its place
pub put_mark : (marks : List Bool) (i k : ℕ) → k < length marks → marked_from i (set marks k true) ≡ put_service (service_at (i + k)) (marked_from i marks)
unfolding marked_from
put_mark [] i k h = absurd (omega arith)
put_mark (true ∷ marks) i zero h = let n = not_after i i (omega arith) in let s = same_itself i in grind (arith, common_steps, n, s)
put_mark (false ∷ marks) i zero h = let p = put_first marks i (suc i) (omega arith) in grind (arith, common_steps, p)
put_mark (true ∷ marks) i (suc k) h = let n = not_after (i + suc k) i (omega arith) in let s = same_apart (i + suc k) i (omega arith) in let r = put_mark marks (suc i) k (omega arith) in grind (arith, common_steps, n, s, r)
put_mark (false ∷ marks) i (suc k) h = let r = put_mark marks (suc i) k (omega arith) in grind (arith, common_steps, r)

-- without a service of an earlier place nothing changes
pub drop_none : (marks : List Bool) (i j : ℕ) → i < j → without_service (service_at i) (marked_from j marks) ≡ marked_from j marks
unfolding marked_from
drop_none [] i j h = refl
drop_none (true ∷ marks) i j h = let s = same_apart i j (omega arith) in let r = drop_none marks i (suc j) (omega arith) in grind (arith, common_steps, s, r)
drop_none (false ∷ marks) i j h = drop_none marks i (suc j) (omega arith)

-- to take a mark away takes the service of its place away
pub drop_mark : (marks : List Bool) (i k : ℕ) → k < length marks → marked_from i (set marks k false) ≡ without_service (service_at (i + k)) (marked_from i marks)
unfolding marked_from
drop_mark [] i k h = absurd (omega arith)
drop_mark (true ∷ marks) i zero h = let s = same_itself i in let r = drop_none marks i (suc i) (omega arith) in grind (arith, common_steps, s, r)
drop_mark (false ∷ marks) i zero h = let r = drop_none marks i (suc i) (omega arith) in grind (arith, common_steps, r)
drop_mark (true ∷ marks) i (suc k) h = let s = same_apart (i + suc k) i (omega arith) in let r = drop_mark marks (suc i) k (omega arith) in grind (arith, common_steps, s, r)
drop_mark (false ∷ marks) i (suc k) h = let r = drop_mark marks (suc i) k (omega arith) in grind (arith, common_steps, r)

-- a service without a place is no mark to take away
pub drop_nowhere : (marks : List Bool) (i : ℕ) (id : ServiceId) → place_of id ≡ None → i + length marks ≤ 16 → without_service id (marked_from i marks) ≡ marked_from i marks
unfolding marked_from
drop_nowhere [] i id h l = refl
drop_nowhere (true ∷ marks) i id h l = let s = no_place id i h (omega arith) in let r = drop_nowhere marks (suc i) id h (omega arith) in grind (arith, common_steps, s, r)
drop_nowhere (false ∷ marks) i id h l = drop_nowhere marks (suc i) id h (omega arith)

-- no mark marks no service
pub none_marked : (n i : ℕ) → marked_from i (replicate n false) ≡ []
unfolding marked_from
none_marked zero i = refl
none_marked (suc n) i = none_marked n (suc i)

-- one mark among none marks its service alone
pub mark_alone : (id : ServiceId) (p : ℕ) → place_of id ≡ Some p → p < 16 → marked_from 0 (set (replicate 16 false) p true) ≡ id ∷ []
mark_alone id p h l = let e = at_place id p h in let m = put_mark (replicate 16 false) 0 p (omega arith) in let n = none_marked 16 0 in grind (arith, common_steps, e, m, n)

-- the mark of a fenced service is taken away
pub mark_fenced : (marks : List Bool) (id : ServiceId) (p : ℕ) → place_of id ≡ Some p → p < length marks → marked_from 0 (set marks p false) ≡ without_service id (marked_from 0 marks)
mark_fenced marks id p h l = let e = at_place id p h in let m = drop_mark marks 0 p l in grind (arith, common_steps, e, m)

-- a service without a mark of its own is not there
pub not_there : (marks : List Bool) (id : ServiceId) → place_of id ≡ None → length marks ≡ 16 → without_service id (marked_from 0 marks) ≡ marked_from 0 marks
not_there marks id h l = drop_nowhere marks 0 id h (omega arith)

-- a service that is one has a place
pub is_somewhere : (id : ServiceId) → IsService id → place_of id ≡ None → ⊥
is_somewhere (Txn n) s h = grind (arith, nat_tests, s, h)
is_somewhere (Reg n) s h = grind (arith, nat_tests, s, h)

-- what single marks make of the services
pub ruleset changes = (mark_alone, mark_fenced, not_there, is_somewhere)

-- the mark at a place is set where the others have it
pub join_set : (marks others : List Bool) (i : ℕ) → i < length marks → i < length others → get_or others i false ≡ true
    → services_joined (marked_from 0 (set marks i true)) (marked_from (i + 1) (drop (i + 1) others)) ≡ services_joined (marked_from 0 marks) (marked_from i (drop i others))
unfolding marked_from
join_set marks others i l m h = let p = put_mark marks 0 i l in let d = drop-cons others i false m in grind (arith, common_steps, p, d, h)

-- where the others have no mark nothing changes
pub join_kept : (marks others : List Bool) (i : ℕ) → i < length others → get_or others i false ≡ false
    → services_joined (marked_from 0 marks) (marked_from (i + 1) (drop (i + 1) others)) ≡ services_joined (marked_from 0 marks) (marked_from i (drop i others))
unfolding marked_from
join_kept marks others i m h = let d = drop-cons others i false m in grind (arith, common_steps, d, h)

-- past the last mark nothing is left to set
pub join_ends : (marks others : List Bool) (i : ℕ) → length others ≤ i → services_joined (marked_from 0 marks) (marked_from i (drop i others)) ≡ marked_from 0 marks
unfolding marked_from
join_ends marks others i m = let d = drop_all i others m in grind (arith, common_steps, d)

-- what marks joined make of them, mark by mark
pub ruleset joins = (join_set, join_kept, join_ends)
