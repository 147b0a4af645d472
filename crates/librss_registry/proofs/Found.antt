-- A number is found among others.
use Rattle.std.proofs.Common.{◌≡◌, ℕ, zero, suc, ◌+◌, ◌<◌, ◌≤◌, true, false, ◌||◌, List, [], ◌∷◌, map, set, get_or, length, Some, refl, sym, ap, ◌∙◌, subst, arith, if◌then◌else◌}
use Rattle.std.proofs.lemmas.List.{get_or-map, length-map, map-set}
use Rattle.std.proofs.Math.Seq.{map-set_same}
use Rattle.rss_names.specs.declared.service.ServiceId.{ServiceId}
use Rattle.rss_names.specs.Services.{same_service}
use Rattle.causal_context.specs.Services.{has_service}
use Rattle.librss_registry.specs.Counted.{count_more}
use Rattle.librss_registry.specs.Registered.{first_with, without_first, one_more, FoundAt}

-- the first of several is it
found_first : {S : Type 0} (name : S → ServiceId) (id : ServiceId) (s : S) (services : List S) → same_service id (name s) ≡ true → FoundAt name id (s ∷ services) 0
found_first name id s services h = record {
  inside = omega arith;
  known = ap (λ b. b || has_service (map name services) id) h;
  same = λ d. h;
  first = λ d. ap (λ b. if b then Some s else first_with name id services) h;
  without = ap (λ b. if b then services else s ∷ without_first name id services) h;
  more = more;
}
  where
    more : (counts : List ℕ) → length counts ≡ suc (length services) → one_more id (name s ∷ map name services) counts ≡ set counts 0 (count_more (get_or counts 0 0))
    more [] e = absurd (omega (arith, e))
    more (c ∷ counts) e = ap (λ b. if b then count_more c ∷ counts else c ∷ one_more id (map name services) counts) h

-- it stands behind another
found_later : {S : Type 0} (name : S → ServiceId) (id : ServiceId) (s : S) (services : List S) (at : ℕ) → same_service id (name s) ≡ false → FoundAt name id services at → FoundAt name id (s ∷ services) (suc at)
found_later name id s services at h f = record {
  inside = let i = f.inside in omega (arith, i);
  known = ap (λ b. b || has_service (map name services) id) h ∙ f.known;
  same = λ d. f.same d;
  first = λ d. ap (λ b. if b then Some s else first_with name id services) h ∙ f.first d;
  without = ap (λ b. if b then services else s ∷ without_first name id services) h ∙ ap (λ l. s ∷ l) f.without;
  more = more;
}
  where
    more : (counts : List ℕ) → length counts ≡ suc (length services) → one_more id (name s ∷ map name services) counts ≡ set counts (suc at) (count_more (get_or counts (suc at) 0))
    more [] e = absurd (omega (arith, e))
    more (c ∷ counts) e = ap (λ b. if b then count_more c ∷ counts else c ∷ one_more id (map name services) counts) h ∙ ap (λ l. c ∷ l) (f.more counts (omega (arith, e)))

-- the services before a place have other numbers
abbrev pub OthersBefore : {S : Type 0} → (S → ServiceId) → ServiceId → List S → ℕ → Type 0
OthersBefore name id services zero = Unit {0}
OthersBefore name id [] (suc at) = Unit {0}
OthersBefore name id (s ∷ services) (suc at) = (same_service id (name s) ≡ false) × OthersBefore name id services at

-- one place more
pub others_more : {S : Type 0} (name : S → ServiceId) (id : ServiceId) (services : List S) (at : ℕ) (x : S) → OthersBefore name id services at → x ≡ get_or services at x → same_service id (name x) ≡ false → OthersBefore name id services (at + 1)
others_more name id services at x o e h = subst (OthersBefore name id services) add_one (step services at o e)
  where
    add_one : suc at ≡ at + 1
    add_one = omega arith

    step : (services : List _) (at : ℕ) → OthersBefore name id services at → x ≡ get_or services at x → OthersBefore name id services (suc at)
    step [] at o e = tt
    step (s ∷ services) zero o e = (ap (λ z. same_service id (name z)) (sym e) ∙ h, tt)
    step (s ∷ services) (suc at) o e = (o.0, step services at o.1 e)

-- the first that is it, behind others
pub found_here : {S : Type 0} (name : S → ServiceId) (id : ServiceId) (services : List S) (at : ℕ) (x : S) → OthersBefore name id services at → at < length services → x ≡ get_or services at x → same_service id (name x) ≡ true → FoundAt name id services at
found_here name id [] at x o l e h = absurd (omega (arith, l))
found_here name id (s ∷ services) zero x o l e h = found_first name id s services (ap (λ z. same_service id (name z)) (sym e) ∙ h)
found_here name id (s ∷ services) (suc at) x o l e h = found_later name id s services at o.0 (found_here name id services at x o.1 (omega (arith, l)) e h)

-- all are others
pub found_nowhere : {S : Type 0} (name : S → ServiceId) (id : ServiceId) (services : List S) (at : ℕ) → OthersBefore name id services at → length services ≤ at → has_service (map name services) id ≡ false
found_nowhere name id [] at o l = refl
found_nowhere name id (s ∷ services) zero o l = absurd (omega (arith, l))
found_nowhere name id (s ∷ services) (suc at) o l = ap (λ b. b || has_service (map name services) id) o.0 ∙ found_nowhere name id services at o.1 (omega (arith, l))

-- what is the same of a service stays the same of all
pub same_map : {S X : Type 0} (f : S → X) (services : List S) (at : ℕ) (x y : S) → x ≡ get_or services at x → f y ≡ f x → map f (set services at y) ≡ map f services
same_map f services at x y r e = map-set_same f services at y x (e ∙ ap f r)

-- one fence more of a service
pub counts_one : {S : Type 0} (name : S → ServiceId) (count : S → ℕ) (id : ServiceId) (services : List S) (at : ℕ) (x y : S) → FoundAt name id services at → x ≡ get_or services at x → count y ≡ count_more (count x) → map count (set services at y) ≡ one_more id (map name services) (map count services)
counts_one name count id services at x y f r e =
    let old : get_or (map count services) at 0 ≡ count x = get_or-map count services at x 0 f.inside ∙ ap count (sym r) in
    map-set count services at y
    ∙ ap (set (map count services) at) (e ∙ ap count_more (sym old))
    ∙ sym (f.more (map count services) (length-map services count))
