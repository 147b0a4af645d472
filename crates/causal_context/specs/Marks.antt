-- Marks at the places of services: what they mark, and that the marked services give the marks back.
use Rattle.std.specs.Prelude.{◌≡◌, ◌≢◌, ℕ, zero, suc, ◌<◌, Bool, true, false, List, [], ◌∷◌, length, refl}
use Rattle.std.proofs.Common.{arith, ap, sym, ◌∙◌}
use Rattle.std.proofs.lemmas.Grind.{common_steps}
use Rattle.std.proofs.lemmas.Bool.Decides.{nat_tests}
use Rattle.rss_names.specs.declared.service.ServiceId.{ServiceId}
use Rattle.rss_names.specs.Services.{same_service}
use Rattle.causal_context.specs.Services.{service_at, has_service}

-- the services whose places are marked, where the first mark is that of this place
unfoldable pub marked_from : ℕ → List Bool → List ServiceId
marked_from place [] = []
marked_from place (true ∷ marks) = service_at place ∷ marked_from (suc place) marks
marked_from place (false ∷ marks) = marked_from (suc place) marks

-- the marks of so many places from this one on
unfoldable pub marks_from : ℕ → ℕ → List ServiceId → List Bool
marks_from place zero services = []
marks_from place (suc n) services = has_service services (service_at place) ∷ marks_from (suc place) n services

-- two places have two services
pub same_apart : (i j : ℕ) → i ≢ j → same_service (service_at i) (service_at j) ≡ false
same_apart i j h = grind (arith, nat_tests)

-- a service is the same as itself
pub same_itself : (i : ℕ) → same_service (service_at i) (service_at i) ≡ true
same_itself i = grind (arith, nat_tests)

-- a service of an earlier place is not marked
pub not_before : (marks : List Bool) (i j : ℕ) → i < j → has_service (marked_from j marks) (service_at i) ≡ false
unfolding marked_from
not_before [] i j h = refl
not_before (true ∷ marks) i j h = let e = same_apart i j (omega arith) in let r = not_before marks i (suc j) (omega arith) in grind (arith, common_steps, e, r)
not_before (false ∷ marks) i j h = not_before marks i (suc j) (omega arith)

-- a service of an earlier place is no mark of later ones
pub skip_front : (n i j : ℕ) (services : List ServiceId) → i < j → marks_from j n (service_at i ∷ services) ≡ marks_from j n services
unfolding marks_from
skip_front zero i j services h = refl
skip_front (suc n) i j services h = let e = same_apart j i (omega arith) in let r = skip_front n i (suc j) services (omega arith) in grind (arith, common_steps, e, r)

-- the marks of marked services are the marks, from any place on
pub marks_again_from : (marks : List Bool) (i : ℕ) → marks_from i (length marks) (marked_from i marks) ≡ marks
unfolding marks_from marked_from
marks_again_from [] i = refl
marks_again_from (true ∷ marks) i = let e = same_itself i in let f = skip_front (length marks) i (suc i) (marked_from (suc i) marks) (omega arith) in let r = marks_again_from marks (suc i) in grind (arith, common_steps, e, f, r)
marks_again_from (false ∷ marks) i = let e = not_before marks i (suc i) (omega arith) in let r = marks_again_from marks (suc i) in grind (arith, common_steps, e, r)

-- the marks of sixteen places come back
pub marks_again : (marks : List Bool) → length marks ≡ 16 → marks_from 0 16 (marked_from 0 marks) ≡ marks
marks_again marks h = ap (λ n. marks_from 0 n (marked_from 0 marks)) (sym h) ∙ marks_again_from marks 0
