-- Services used last that are not registered, found place by place.
use Rattle.std.proofs.Common.{◌≡◌, ℕ, zero, suc, ◌+◌, ◌-◌, ◌<◌, Bool, true, false, ◌&&◌, not, List, [], ◌∷◌, Some, None, refl, sym, ap, ◌∙◌, arith, if◌then◌else◌}
use Rattle.rss_names.specs.declared.service.ServiceId.{ServiceId}
use Rattle.causal_context.specs.Seen.{Seen}
use Rattle.causal_context.specs.Services.{AreServices, has_service, service_at}
use Rattle.rss_tables.specs.declared.fences.FenceWork.{FenceWork}
use Rattle.rss_tables.specs.Works.{Plan, fence_of, fences_of}
use Rattle.session_stub.specs.Picked.{fences_from}
use Rattle.session_stub.proofs.Picks.{plan_all_is}
use Rattle.librss_registry.specs.Registered.{first_missing, missing_from}

-- whether the service at a place is missing
abbrev is_missing : Seen → List ServiceId → ℕ → Bool
is_missing seen ids place = has_service seen.last.services (service_at place) && not (has_service ids (service_at place))

some_none : {X : Type 0} {x : X} → Some x ≡ None → ⊥
some_none e = cc

-- one place alone
one_is : (seen : Seen) (ids : List ServiceId) (place : ℕ) (b : Bool) → is_missing seen ids place ≡ b → missing_from seen ids place 1 ≡ (if b then Some (service_at place) else None)
unfolding missing_from
one_is seen ids place b h = ap (λ (c : Bool). if c then Some (service_at place) else None) h

-- one place, and those behind it
first_is : (seen : Seen) (ids : List ServiceId) (place left : ℕ) (b : Bool) → is_missing seen ids place ≡ b → missing_from seen ids place (suc left) ≡ (if b then Some (service_at place) else missing_from seen ids (suc place) left)
unfolding missing_from
first_is seen ids place left b h = ap (λ (c : Bool). if c then Some (service_at place) else missing_from seen ids (suc place) left) h

split : (seen : Seen) (ids : List ServiceId) (place : ℕ) (b : Bool) → place < 16 → is_missing seen ids place ≡ b → missing_from seen ids place (16 - place) ≡ (if b then Some (service_at place) else missing_from seen ids (place + 1) (16 - (place + 1)))
split seen ids place b l h =
    ap (λ (n : ℕ). missing_from seen ids place n) one_place
    ∙ first_is seen ids place (16 - (place + 1)) b h
    ∙ ap (λ (n : ℕ). if b then Some (service_at place) else missing_from seen ids n (16 - (place + 1))) next_place
  where
    one_place : 16 - place ≡ suc (16 - (place + 1))
    one_place = omega (arith, l)

    next_place : suc place ≡ place + 1
    next_place = omega arith

-- one that is missing
pub missing_here : (seen : Seen) (ids : List ServiceId) (place : ℕ) (id : ServiceId) → place < 16 → missing_from seen ids place 1 ≡ Some id → missing_from seen ids place (16 - place) ≡ Some id
missing_here seen ids place id l h = by (is_missing seen ids place) refl
  where
    by : (b : Bool) → is_missing seen ids place ≡ b → missing_from seen ids place (16 - place) ≡ Some id
    by true e = split seen ids place true l e ∙ sym (one_is seen ids place true e) ∙ h
    by false e = absurd (some_none (sym h ∙ one_is seen ids place false e))

-- one that is not
pub missing_later : (seen : Seen) (ids : List ServiceId) (place : ℕ) → place < 16 → missing_from seen ids place 1 ≡ None → missing_from seen ids place (16 - place) ≡ missing_from seen ids (place + 1) (16 - (place + 1))
missing_later seen ids place l h = by (is_missing seen ids place) refl
  where
    by : (b : Bool) → is_missing seen ids place ≡ b → missing_from seen ids place (16 - place) ≡ missing_from seen ids (place + 1) (16 - (place + 1))
    by true e = absurd (some_none (sym (one_is seen ids place true e) ∙ h))
    by false e = split seen ids place false l e

-- where none is missing, one used last is registered
pub known_at : (seen : Seen) (ids : List ServiceId) (place : ℕ) → place < 16 → missing_from seen ids place (16 - place) ≡ None → has_service seen.last.services (service_at place) ≡ true → has_service ids (service_at place) ≡ true
known_at seen ids place l n h = by (has_service ids (service_at place)) refl
  where
    both : {b c : Bool} → b ≡ true → c ≡ false → (b && not c) ≡ true
    both {b} {c} p q = cc

    by : (b : Bool) → has_service ids (service_at place) ≡ b → b ≡ true
    by true e = refl
    by false e = absurd (some_none (sym (split seen ids place true l (both h e)) ∙ n))

-- and none is missing further on
pub none_later : (seen : Seen) (ids : List ServiceId) (place : ℕ) → place < 16 → missing_from seen ids place (16 - place) ≡ None → missing_from seen ids (place + 1) (16 - (place + 1)) ≡ None
none_later seen ids place l n = by (is_missing seen ids place) refl
  where
    by : (b : Bool) → is_missing seen ids place ≡ b → missing_from seen ids (place + 1) (16 - (place + 1)) ≡ None
    by true e = absurd (some_none (sym (split seen ids place true l e) ∙ n))
    by false e = sym (split seen ids place false l e) ∙ n

-- behind the last place
none_left : (seen : Seen) (ids : List ServiceId) (place : ℕ) → missing_from seen ids place 0 ≡ None
unfolding missing_from
none_left seen ids place = refl

pub none_behind : (seen : Seen) (ids : List ServiceId) (place : ℕ) → 16 - place ≡ 0 → missing_from seen ids place (16 - place) ≡ None
none_behind seen ids place e = ap (missing_from seen ids place) e ∙ none_left seen ids place

-- the services of fences
abbrev fenced : List (ServiceId × FenceWork) → List ServiceId
fenced [] = []
fenced (f ∷ fences) = f.0 ∷ fenced fences

fenced_all : (seen : Seen) (services : List ServiceId) → fenced (fences_of seen services) ≡ services
fenced_all seen [] = refl
fenced_all seen (s ∷ services) = ap (λ (l : List ServiceId). s ∷ l) (fenced_all seen services)

in_fences : (seen : Seen) (ids : List ServiceId) (left place : ℕ) → missing_from seen ids place left ≡ first_missing ids (fenced (fences_from seen None place left))
unfolding missing_from
in_fences seen ids zero place = refl
in_fences seen ids (suc left) place = by (has_service seen.last.services (service_at place)) (has_service ids (service_at place)) refl (in_fences seen ids left (suc place))
  where
    by : (b c : Bool) → has_service ids (service_at place) ≡ c → missing_from seen ids (suc place) left ≡ first_missing ids (fenced (fences_from seen None (suc place) left))
        → (if b && not c then Some (service_at place) else missing_from seen ids (suc place) left)
        ≡ first_missing ids (fenced (if b && true then (service_at place, fence_of seen (service_at place)) ∷ fences_from seen None (suc place) left else fences_from seen None (suc place) left))
    by true true e r = r ∙ sym (ap (λ (x : Bool). if x then first_missing ids (fenced (fences_from seen None (suc place) left)) else Some (service_at place)) e)
    by true false e r = sym (ap (λ (x : Bool). if x then first_missing ids (fenced (fences_from seen None (suc place) left)) else Some (service_at place)) e)
    by false c e r = r

-- the first that is missing is that of the services in their order
pub missing_is : (seen : Seen) (ids : List ServiceId) → AreServices seen.last.services → missing_from seen ids 0 16 ≡ first_missing ids seen.last.services
missing_is seen ids h =
    in_fences seen ids 16 0
    ∙ ap (λ (p : Plan). first_missing ids (fenced p.fences)) (plan_all_is seen (fences_from seen None 0 16) h refl)
    ∙ ap (first_missing ids) (fenced_all seen seen.last.services)
