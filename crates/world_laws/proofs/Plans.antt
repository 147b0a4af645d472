-- Plans and works: what a plan has works for, and what is left of them behind a fence.
use Rattle.std.proofs.Common.{◌≡◌, ℕ, Bool, true, false, ◌⊎◌, inl, inr, All, List, [], ◌∷◌, length, refl, ap, sym, ◌∙◌, arith}
use Rattle.std.specs.Prelude.{◌||◌, not, ◌==◌, if◌then◌else◌}
use Rattle.std.proofs.lemmas.Bool.{true≢false}
use Rattle.std.proofs.lemmas.List.Elements.{All-cons, All-nil, All-tail, All-weaker}
use Rattle.rss_names.specs.Services.{same_service}
use Rattle.rss_names.specs.declared.service.ServiceId.{ServiceId}
use Rattle.rss_names.specs.declared.service.ServiceId.TheVariants.{Txn, Reg}
use Rattle.causal_context.specs.declared.dep.Dep.{Dep}
use Rattle.causal_context.specs.Deps.{deps_of, deps_elsewhere}
use Rattle.causal_context.specs.Seen.{Seen, after_fence}
use Rattle.causal_context.specs.Services.{has_service, without_service}
use Rattle.rss_tables.specs.Works.{fix_unless_none, fence_of, fences_of, others_than}
use Rattle.rss_tables.specs.declared.fences.FenceWork.{FenceWork}
use Rattle.rss_tables.specs.declared.fences.FenceWork.TheVariants.{Nothing, Past, Fix}
use Rattle.world_laws.specs.Planned.{has_work, FitsContext}
use Rattle.world_laws.proofs.Marked.{same_service_is}

pub same_itself : (id : ServiceId) → same_service id id ≡ true
same_itself (Txn n) = is_same n
  where
    is_same : (n : ℕ) → (n == n) ≡ true
    is_same n = grind arith
same_itself (Reg n) = is_same n
  where
    is_same : (n : ℕ) → (n == n) ≡ true
    is_same n = grind arith

-- the works of a plan are those of its services
pub fences_have : (seen : Seen) (services : List ServiceId) (id : ServiceId) → has_work (fences_of seen services) id ≡ has_service services id
fences_have seen [] id = refl
fences_have seen (s ∷ services) id = ap (λ (b : Bool). same_service id s || b) (fences_have seen services id)

-- the services but one
pub others_have : (own : ServiceId) (services : List ServiceId) (id : ServiceId) → has_service services id ≡ true → (own ≡ id) ⊎ (has_service (others_than own services) id ≡ true)
others_have own [] id e = absurd (true≢false (sym e))
others_have own (s ∷ services) id e = by_own (same_service own s) (same_service id s) refl refl e (others_have own services id)
  where
    by_own : (a b : Bool) → same_service own s ≡ a → same_service id s ≡ b → (b || has_service services id) ≡ true → (has_service services id ≡ true → (own ≡ id) ⊎ (has_service (others_than own services) id ≡ true))
        → (own ≡ id) ⊎ (has_service (if not a then s ∷ others_than own services else others_than own services) id ≡ true)
    by_own true true p q e ih = inl (same_service_is own s p ∙ sym (same_service_is id s q))
    by_own true false p q e ih = ih e
    by_own false true p q e ih = inr (ap (λ (b : Bool). b || has_service (others_than own services) id) q)
    by_own false false p q e ih = by_rest (ih e)
      where
        by_rest : (own ≡ id) ⊎ (has_service (others_than own services) id ≡ true) → (own ≡ id) ⊎ ((same_service id s || has_service (others_than own services) id) ≡ true)
        by_rest (inl k) = inl k
        by_rest (inr k) = inr (ap (λ (b : Bool). b || has_service (others_than own services) id) q ∙ k)

pub others_not_own : (own : ServiceId) (services : List ServiceId) → has_service (others_than own services) own ≡ false
others_not_own own [] = refl
others_not_own own (s ∷ services) = by_own (same_service own s) refl (others_not_own own services)
  where
    by_own : (a : Bool) → same_service own s ≡ a → has_service (others_than own services) own ≡ false → has_service (if not a then s ∷ others_than own services else others_than own services) own ≡ false
    by_own true p ih = ih
    by_own false p ih = ap (λ (b : Bool). b || has_service (others_than own services) own) p ∙ ih

-- behind the fence of a service
pub without_has : (id : ServiceId) (services : List ServiceId) (other : ServiceId) → has_service (without_service id services) other ≡ true → (has_service services other ≡ true) × (same_service id other ≡ false)
without_has id [] other e = absurd (true≢false (sym e))
without_has id (s ∷ services) other e = by_own (same_service id s) (same_service other s) refl refl e (without_has id services other)
  where
    by_own : (a b : Bool) → same_service id s ≡ a → same_service other s ≡ b → has_service (if not a then s ∷ without_service id services else without_service id services) other ≡ true → (has_service (without_service id services) other ≡ true → (has_service services other ≡ true) × (same_service id other ≡ false))
        → ((b || has_service services other) ≡ true) × (same_service id other ≡ false)
    by_own true true p q e ih = let k = ih e in (refl, k.1)
    by_own true false p q e ih = ih e
    by_own false true p q e ih = (refl, ap (λ (x : ServiceId). same_service id x) (same_service_is other s q) ∙ p)
    by_own false false p q e ih = ih (sym (ap (λ (b : Bool). b || has_service (without_service id services) other) q) ∙ e)

pub rest_has : (id other : ServiceId) (x : FenceWork) (rest : List (ServiceId × FenceWork)) → same_service id other ≡ false → has_work ((id, x) ∷ rest) other ≡ true → has_work rest other ≡ true
rest_has id other x rest e h = by_same (same_service other id) refl h
  where
    by_same : (b : Bool) → same_service other id ≡ b → (b || has_work rest other) ≡ true → has_work rest other ≡ true
    by_same true q h = absurd (true≢false (sym (ap (λ (s : ServiceId). same_service id s) (same_service_is other id q) ∙ same_itself id) ∙ e))
    by_same false q h = h

pub rest_has_not : (id other : ServiceId) (x : FenceWork) (rest : List (ServiceId × FenceWork)) → has_work ((id, x) ∷ rest) other ≡ false → has_work rest other ≡ false
rest_has_not id other x rest h = by_same (same_service other id) h
  where
    by_same : (b : Bool) → (b || has_work rest other) ≡ false → has_work rest other ≡ false
    by_same true h = absurd (true≢false h)
    by_same false h = h

-- a plan's works fit its context
fence_fits : (seen : Seen) (id : ServiceId) → FitsContext seen id (fence_of seen id)
fence_fits seen (Txn n) = refl
fence_fits seen (Reg n) = by_deps (deps_of (Reg n) seen.deps) refl
  where
    by_deps : (deps : List Dep) → deps_of (Reg n) seen.deps ≡ deps → FitsContext seen (Reg n) (fix_unless_none deps)
    by_deps [] e = e
    by_deps (d ∷ deps) e = tt

abbrev pub Fitting : Seen → (ServiceId × FenceWork) → Type 0
Fitting seen work = FitsContext seen work.0 work.1

pub fences_fit : (seen : Seen) (services : List ServiceId) → All (Fitting seen) (fences_of seen services)
fences_fit seen [] = All-nil (Fitting seen)
fences_fit seen (s ∷ services) = All-cons (Fitting seen) (s, fence_of seen s) (fences_of seen services) (fence_fits seen s) (fences_fit seen services)

-- and what is left of them fits it behind a fence
none_left : (id other : ServiceId) (deps : List Dep) → deps_of other deps ≡ [] → deps_of other (deps_elsewhere id deps) ≡ []
none_left id other [] e = refl
none_left id other (d ∷ deps) e = by_own (same_service other d.key.service) (same_service id d.key.service) refl e (none_left id other deps)
  where
    cons_not_nil : (d : Dep) (deps : List Dep) → d ∷ deps ≡ [] → ⊥
    cons_not_nil d deps e = cc

    by_own : (a b : Bool) → same_service other d.key.service ≡ a → (if a then d ∷ deps_of other deps else deps_of other deps) ≡ [] → (deps_of other deps ≡ [] → deps_of other (deps_elsewhere id deps) ≡ []) → deps_of other (if not b then d ∷ deps_elsewhere id deps else deps_elsewhere id deps) ≡ []
    by_own true b p e ih = absurd (cons_not_nil d (deps_of other deps) e)
    by_own false true p e ih = ih e
    by_own false false p e ih = ap (λ (b : Bool). if b then d ∷ deps_of other (deps_elsewhere id deps) else deps_of other (deps_elsewhere id deps)) p ∙ ih e

fits_fenced : (seen : Seen) (id other : ServiceId) (x : FenceWork) → FitsContext seen other x → FitsContext (after_fence seen id) other x
fits_fenced seen id (Txn n) Nothing h = h
fits_fenced seen id (Txn n) (Past time) h = h
fits_fenced seen id (Txn n) Fix h = h
fits_fenced seen (Txn m) (Reg n) Nothing h = h
fits_fenced seen (Reg m) (Reg n) Nothing h = none_left (Reg m) (Reg n) seen.deps h
fits_fenced seen id (Reg n) (Past time) h = h
fits_fenced seen id (Reg n) Fix h = tt

pub all_fenced : (seen : Seen) (id : ServiceId) (works : List (ServiceId × FenceWork)) → All (Fitting seen) works → All (Fitting (after_fence seen id)) works
all_fenced seen id works h = All-weaker (Fitting seen) (Fitting (after_fence seen id)) (λ w k. fits_fenced seen id w.0 w.1 k) works h

pub fits_rest : (seen : Seen) (w : ServiceId × FenceWork) (rest : List (ServiceId × FenceWork)) → All (Fitting seen) (w ∷ rest) → All (Fitting seen) rest
fits_rest seen w rest h = All-tail (Fitting seen) w rest h

-- where no service but one was used last, a plan for it has no works
pub no_others : (services : List ServiceId) → (length services == 0) ≡ true → services ≡ []
no_others [] e = refl
no_others (s ∷ services) e = absurd (long s services e)
  where
    long : (s : ServiceId) (services : List ServiceId) → (length (s ∷ services) == 0) ≡ true → ⊥
    long s services e = grind (arith, e)
