-- Dependencies on the registers of one service.
use Rattle.std.proofs.Common.{◌≡◌, ℕ, ◌+◌, ◌<◌, ◌≤◌, Bool, true, false, List, [], ◌∷◌, ◌++◌, length, get_or, drop, refl, sym, ap, ◌∙◌, append_assoc, arith}
use Rattle.std.specs.Prelude.{if◌then◌else◌}
use Rattle.std.specs.List.{filter}
use Rattle.std.proofs.lemmas.List.{drop_more, append-nil}
use Rattle.rss_names.specs.declared.service.ServiceId.{ServiceId}
use Rattle.rss_names.specs.Services.{same_service}
use Rattle.causal_context.specs.Deps.{deps_of}
use Rattle.causal_context.specs.declared.dep.Dep.{Dep}

of_one : (id : ServiceId) (dep : Dep) (deps : List Dep) (b : Bool) → same_service id dep.key.service ≡ b → deps_of id (dep ∷ deps) ≡ (if b then dep ∷ deps_of id deps else deps_of id deps)
of_one id dep deps b e = ap (λ (x : Bool). if x then dep ∷ deps_of id deps else deps_of id deps) e

pub chosen_here : (id : ServiceId) (deps : List Dep) (i : ℕ) (dep : Dep) (before now whole : List Dep) → i < length deps → dep ≡ get_or deps i dep → same_service id dep.key.service ≡ true → now ≡ before ++ dep ∷ [] → before ++ deps_of id (drop i deps) ≡ whole → now ++ deps_of id (drop (i + 1) deps) ≡ whole
chosen_here id deps i dep before now whole h e s n w =
    ap (λ (l : List Dep). l ++ deps_of id (drop (i + 1) deps)) n
    ∙ append_assoc before (dep ∷ []) (deps_of id (drop (i + 1) deps))
    ∙ ap (λ (l : List Dep). before ++ l) (sym (of_one id dep (drop (i + 1) deps) true s))
    ∙ ap (λ (d : Dep). before ++ deps_of id (d ∷ drop (i + 1) deps)) e
    ∙ ap (λ (l : List Dep). before ++ deps_of id l) (sym (drop_more deps i dep h))
    ∙ w

pub chosen_not : (id : ServiceId) (deps : List Dep) (i : ℕ) (dep : Dep) (before whole : List Dep) → i < length deps → dep ≡ get_or deps i dep → same_service id dep.key.service ≡ false → before ++ deps_of id (drop i deps) ≡ whole → before ++ deps_of id (drop (i + 1) deps) ≡ whole
chosen_not id deps i dep before whole h e s w =
    ap (λ (l : List Dep). before ++ l) (sym (of_one id dep (drop (i + 1) deps) false s))
    ∙ ap (λ (d : Dep). before ++ deps_of id (d ∷ drop (i + 1) deps)) e
    ∙ ap (λ (l : List Dep). before ++ deps_of id l) (sym (drop_more deps i dep h))
    ∙ w

pub ruleset chosen_more = (chosen_here, chosen_not, append-nil)

-- there are no more than all
pub fewer_of : (id : ServiceId) (deps : List Dep) → length (deps_of id deps) ≤ length deps
fewer_of id [] = omega arith
fewer_of id (dep ∷ deps) = by (same_service id dep.key.service) (fewer_of id deps)
  where
    by : (b : Bool) → length (deps_of id deps) ≤ length deps → length (if b then dep ∷ deps_of id deps else deps_of id deps) ≤ length (dep ∷ deps)
    by true h = omega (arith, h)
    by false h = omega (arith, h)
