-- The services that marks mark: which are there, and that they stand in their order.
use Rattle.std.proofs.Common.{◌≡◌, ℕ, zero, suc, ◌+◌, ◌<◌, ◌≤◌, Bool, true, false, Some, None, List, [], ◌∷◌, length, get_or, arith, refl, All, AllPairs}
use Rattle.std.proofs.lemmas.Grind.{common_steps}
use Rattle.std.proofs.lemmas.Bool.Decides.{nat_tests}
use Rattle.std.proofs.lemmas.List.Elements.{All-cons, All-nil}
use Rattle.std.proofs.lemmas.List.Kept.{AllPairs-cons}
use Rattle.rss_names.specs.declared.service.ServiceId.{ServiceId}
use Rattle.rss_names.specs.declared.service.ServiceId.TheVariants.{Txn, Reg}
use Rattle.rss_names.specs.Services.{same_service}
use Rattle.causal_context.specs.Services.{IsService, StandsBefore, AreServices, has_service, place_of, service_at}
use Rattle.causal_context.specs.Marks.{marked_from, same_apart, same_itself, not_before}

-- the service at a service's place is that service
pub at_place : (id : ServiceId) (p : ℕ) → place_of id ≡ Some p → service_at p ≡ id
at_place (Txn n) p h = grind (arith, nat_tests, h)
at_place (Reg n) p h = grind (arith, nat_tests, h)

-- a service without a place is none of the sixteen
pub no_place : (id : ServiceId) (j : ℕ) → place_of id ≡ None → j < 16 → same_service id (service_at j) ≡ false
no_place (Txn n) j h l = grind (arith, nat_tests, h)
no_place (Reg n) j h l = grind (arith, nat_tests, h)

-- the service at a place is there where its mark is set
pub has_at : (marks : List Bool) (i k p : ℕ) → p ≡ i + k → has_service (marked_from i marks) (service_at p) ≡ get_or marks k false
unfolding marked_from
has_at [] i k p e = grind (arith, common_steps)
has_at (true ∷ marks) i zero p e = let q : p ≡ i = omega arith in let s = same_itself i in grind (arith, common_steps, q, s)
has_at (true ∷ marks) i (suc k) p e = let s = same_apart p i (omega arith) in let r = has_at marks (suc i) k p (omega arith) in grind (arith, common_steps, s, r)
has_at (false ∷ marks) i zero p e = let r = not_before marks p (suc i) (omega arith) in grind (arith, common_steps, r)
has_at (false ∷ marks) i (suc k) p e = let r = has_at marks (suc i) k p (omega arith) in grind (arith, common_steps, r)

-- the mark at a service's place tells whether it is there
pub has_some : (marks : List Bool) (id : ServiceId) (p : ℕ) → place_of id ≡ Some p → get_or marks p false ≡ has_service (marked_from 0 marks) id
has_some marks id p h = let e = at_place id p h in let r = has_at marks 0 p p (omega arith) in cc

-- a service without a place is not marked, from any place on
pub has_none_from : (marks : List Bool) (id : ServiceId) (i : ℕ) → place_of id ≡ None → i + length marks ≤ 16 → has_service (marked_from i marks) id ≡ false
unfolding marked_from
has_none_from [] id i h l = refl
has_none_from (true ∷ marks) id i h l = let s = no_place id i h (omega arith) in let r = has_none_from marks id (suc i) h (omega arith) in grind (arith, common_steps, s, r)
has_none_from (false ∷ marks) id i h l = has_none_from marks id (suc i) h (omega arith)

-- a service without a place is not there
pub has_none : (marks : List Bool) (id : ServiceId) → length marks ≡ 16 → place_of id ≡ None → has_service (marked_from 0 marks) id ≡ false
has_none marks id l h = has_none_from marks id 0 h (omega arith)

-- the services at the sixteen places have numbers in range
pub in_range_at : (j : ℕ) → j < 16 → IsService (service_at j)
in_range_at j h = grind (arith, nat_tests)

-- the services stand as their places
pub before_at : (i j : ℕ) → i < j → StandsBefore (service_at i) (service_at j)
before_at i j h = grind (arith, nat_tests)

-- what holds of the service at each of these places holds of those that are marked
pub all_marked : (P : ServiceId → Type 0) (marks : List Bool) (i : ℕ) → ((j : ℕ) → i ≤ j → j < i + length marks → P (service_at j)) → All P (marked_from i marks)
unfolding marked_from
all_marked P [] i h = All-nil P
all_marked P (true ∷ marks) i h = All-cons P (service_at i) (marked_from (suc i) marks) (h i (omega arith) (omega arith)) (all_marked P marks (suc i) (λ j a b. h j (omega arith) (omega arith)))
all_marked P (false ∷ marks) i h = all_marked P marks (suc i) (λ j a b. h j (omega arith) (omega arith))

-- the marked services stand in their order
pub ordered_marked : (marks : List Bool) (i : ℕ) → AllPairs StandsBefore (marked_from i marks)
unfolding marked_from
ordered_marked [] i = λ a b d l m. absurd (omega arith)
ordered_marked (true ∷ marks) i = AllPairs-cons StandsBefore (service_at i) (marked_from (suc i) marks) (all_marked (StandsBefore (service_at i)) marks (suc i) (λ j a b. before_at i j (omega arith))) (ordered_marked marks (suc i))
ordered_marked (false ∷ marks) i = ordered_marked marks (suc i)

-- the services of sixteen marks
pub marked_services : (marks : List Bool) → length marks ≡ 16 → AreServices (marked_from 0 marks)
marked_services marks h = record { in_range = all_marked IsService marks 0 (λ j a b. in_range_at j (omega arith)); in_order = ordered_marked marks 0 }

-- what sixteen marks tell of one service, and of all
pub ruleset marks = (has_some, has_none, marked_services)
