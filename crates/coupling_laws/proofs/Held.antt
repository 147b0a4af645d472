-- Dependencies that hold calls, and what is true of all dependencies, through joins and fences.
use Rattle.std.proofs.Common.{◌≡◌, Bool, true, false, ◌||◌, ◌==◌, nat_lt, not, if◌then◌else◌, List, [], ◌∷◌, All, arith, refl, sym, ap, ◌∙◌}
use Rattle.std.proofs.lemmas.Bool.Decides.{nat_tests}
use Rattle.std.proofs.lemmas.Bool.{true≢false, false≢true}
use Rattle.std.proofs.lemmas.List.Elements.{All-cons, All-nil, All-head, All-tail, All-filter}
use Rattle.rss_names.specs.declared.service.ServiceId.{ServiceId}
use Rattle.rss_names.specs.declared.service.ServiceId.TheVariants.{Txn, Reg}
use Rattle.rss_names.specs.Services.{same_service}
use Rattle.carstamps.specs.Stamp.{stamp_lt}
use Rattle.causal_context.specs.declared.dep.Dep.{Dep}
use Rattle.causal_context.specs.Deps.{greater_dep, put_dep, deps_joined, deps_of, deps_elsewhere, deps_fenced}
use Rattle.coupling_laws.specs.Calls.{EndedCall}
use Rattle.coupling_laws.specs.Covers.{holds_call, holds}

-- what is true of all dependencies is true of those that are put and joined
all_put : (P : Dep → Type 0) (new : Dep) (deps : List Dep) → P new → All P deps → All P (put_dep new deps)
all_put P new [] p a = All-cons P new [] p (All-nil P)
all_put P new (d ∷ deps) p a = by_place (all_put P new deps p (All-tail P d deps a)) (nat_lt new.key.index d.key.index) (new.key.index == d.key.index) (stamp_lt d.stamp new.stamp)
  where
    by_place : All P (put_dep new deps) → (b c s : Bool) → All P (if b then new ∷ d ∷ deps else if c then (if s then new else d) ∷ deps else d ∷ put_dep new deps)
    by_place r true c s = All-cons P new (d ∷ deps) p a
    by_place r false true true = All-cons P new deps p (All-tail P d deps a)
    by_place r false true false = a
    by_place r false false s = All-cons P d (put_dep new deps) (All-head P d deps a) r

pub all_joined : (P : Dep → Type 0) (deps others : List Dep) → All P deps → All P others → All P (deps_joined deps others)
all_joined P deps [] a b = a
all_joined P deps (d ∷ others) a b = all_joined P (put_dep d deps) others (all_put P d deps (All-head P d others b) a) (All-tail P d others b)

-- no dependency is on a register of a service exactly where each is on another
pub none_of : (id : ServiceId) (deps : List Dep) → deps_of id deps ≡ [] → All (λ d. same_service id d.key.service ≡ false) deps
none_of id [] h = All-nil (λ (d : Dep). same_service id d.key.service ≡ false)
none_of id (d ∷ deps) h = by_test (none_of id deps) (same_service id d.key.service) refl
  where
    by_test : (deps_of id deps ≡ [] → All (λ d. same_service id d.key.service ≡ false) deps) → (b : Bool) → same_service id d.key.service ≡ b → All (λ d. same_service id d.key.service ≡ false) (d ∷ deps)
    by_test r true e = absurd (grind (arith, h, e))
    by_test r false e = All-cons (λ (d : Dep). same_service id d.key.service ≡ false) d deps e (r (grind (arith, h, e)))

pub of_none : (id : ServiceId) (deps : List Dep) → All (λ d. same_service id d.key.service ≡ false) deps → deps_of id deps ≡ []
of_none id [] a = refl
of_none id (d ∷ deps) a =
    let e = All-head (λ (d : Dep). same_service id d.key.service ≡ false) d deps a in
    let r = of_none id deps (All-tail (λ (d : Dep). same_service id d.key.service ≡ false) d deps a) in
    grind (arith, e, r)

pub none_joined : (id : ServiceId) (deps others : List Dep) → deps_of id deps ≡ [] → deps_of id others ≡ [] → deps_of id (deps_joined deps others) ≡ []
none_joined id deps others h k = of_none id (deps_joined deps others) (all_joined (λ d. same_service id d.key.service ≡ false) deps others (none_of id deps h) (none_of id others k))

-- of the two dependencies on one register of which one holds the call, the greater holds it
greater_holds : (call : EndedCall) (a b : Dep) → a.key.index ≡ b.key.index → (holds_call call a || holds_call call b) ≡ true → holds_call call (greater_dep a b) ≡ true
greater_holds call a b e h = by_tests (stamp_lt a.stamp b.stamp) refl
  where
    by_tests : (s : Bool) → stamp_lt a.stamp b.stamp ≡ s → holds_call call (greater_dep a b) ≡ true
    by_tests true f = grind (arith, nat_tests, e, h, f)
    by_tests false f = grind (arith, nat_tests, e, h, f)

-- a dependency that holds a call holds it when it was put, and the others do so too
pub holds_put : (call : EndedCall) (new : Dep) (deps : List Dep) → (holds_call call new || holds deps call) ≡ true → holds (put_dep new deps) call ≡ true
holds_put call new [] h = h
holds_put call new (d ∷ deps) h = by_place (holds_put call new deps) (nat_lt new.key.index d.key.index) (new.key.index == d.key.index) refl refl
  where
    by_place : ((holds_call call new || holds deps call) ≡ true → holds (put_dep new deps) call ≡ true)
        → (b c : Bool) → nat_lt new.key.index d.key.index ≡ b → (new.key.index == d.key.index) ≡ c → holds (put_dep new (d ∷ deps)) call ≡ true
    by_place r true c e f =
        let p : put_dep new (d ∷ deps) ≡ new ∷ d ∷ deps = grind (arith, e) in
        rw p h
    by_place r false true e f =
        let p : put_dep new (d ∷ deps) ≡ greater_dep d new ∷ deps = grind (arith, e, f) in
        let s : d.key.index ≡ new.key.index = grind (arith, nat_tests, f) in
        rw p (by_first (holds_call call d || holds_call call new) (holds deps call) refl (greater_holds call d new s) (grind (arith, h)))
      where
        by_first : (x y : Bool) → (holds_call call d || holds_call call new) ≡ x → ((holds_call call d || holds_call call new) ≡ true → holds_call call (greater_dep d new) ≡ true) → (x || y) ≡ true → (holds_call call (greater_dep d new) || y) ≡ true
        by_first true y e g o = ap (λ b. b || y) (g e)
        by_first false y e g o = rw o (or_true (holds_call call (greater_dep d new)))
          where
            or_true : (b : Bool) → (b || true) ≡ true
            or_true true = refl
            or_true false = refl
    by_place r false false e f =
        let p : put_dep new (d ∷ deps) ≡ d ∷ put_dep new deps = grind (arith, e, f) in
        rw p (by_first (holds_call call d) (grind (arith, h)) r)
      where
        by_first : (x : Bool) → (x || (holds_call call new || holds deps call)) ≡ true → ((holds_call call new || holds deps call) ≡ true → holds (put_dep new deps) call ≡ true) → (x || holds (put_dep new deps) call) ≡ true
        by_first true o r = refl
        by_first false o r = r o

pub holds_first : (call : EndedCall) (deps others : List Dep) → holds deps call ≡ true → holds (deps_joined deps others) call ≡ true
holds_first call deps [] h = h
holds_first call deps (d ∷ others) h = holds_first call (put_dep d deps) others (holds_put call d deps (or_right (holds_call call d) (holds deps call) h))
  where
    or_right : (x y : Bool) → y ≡ true → (x || y) ≡ true
    or_right true y h = refl
    or_right false y h = h

pub holds_second : (call : EndedCall) (deps others : List Dep) → holds others call ≡ true → holds (deps_joined deps others) call ≡ true
holds_second call deps [] h = absurd (false≢true h)
holds_second call deps (d ∷ others) h = by_first (holds_call call d) refl h (holds_second call (put_dep d deps) others)
  where
    by_first : (x : Bool) → holds_call call d ≡ x → (x || holds others call) ≡ true → (holds others call ≡ true → holds (deps_joined (put_dep d deps) others) call ≡ true) → holds (deps_joined (put_dep d deps) others) call ≡ true
    by_first true e o r = holds_first call (put_dep d deps) others (holds_put call d deps (ap (λ b. b || holds deps call) e))
    by_first false e o r = r o

-- the dependencies that are left when another service was fenced hold the call still
pub holds_elsewhere : (id : ServiceId) (call : EndedCall) (deps : List Dep) → All (λ d. d.key.index ≡ call.register → same_service id d.key.service ≡ false) deps → holds deps call ≡ true → holds (deps_elsewhere id deps) call ≡ true
holds_elsewhere id call [] a h = absurd (false≢true h)
holds_elsewhere id call (d ∷ deps) a h =
    let p = All-head (λ (d : Dep). d.key.index ≡ call.register → same_service id d.key.service ≡ false) d deps a in
    by_tests (holds_elsewhere id call deps (All-tail (λ (d : Dep). d.key.index ≡ call.register → same_service id d.key.service ≡ false) d deps a)) (same_service id d.key.service) (holds_call call d) refl refl p
  where
    by_tests : (holds deps call ≡ true → holds (deps_elsewhere id deps) call ≡ true) → (s t : Bool) → same_service id d.key.service ≡ s → holds_call call d ≡ t
        → (d.key.index ≡ call.register → same_service id d.key.service ≡ false) → holds (deps_elsewhere id (d ∷ deps)) call ≡ true
    by_tests r true true e f p = let q = p (grind (arith, nat_tests, f)) in absurd (true≢false (sym e ∙ q))
    by_tests r true false e f p = let q = r (grind (arith, h, f)) in grind (arith, e, q)
    by_tests r false true e f p = grind (arith, e, f)
    by_tests r false false e f p = let q = r (grind (arith, h, f)) in grind (arith, e, f, q)

-- fewer dependencies of a service are none where there were none
pub none_of_fewer : (id other : ServiceId) (deps : List Dep) → deps_of id deps ≡ [] → deps_of id (deps_fenced other deps) ≡ []
none_of_fewer id (Txn n) deps h = h
none_of_fewer id (Reg n) deps h = of_none id (deps_elsewhere (Reg n) deps) (All-filter (λ d. not (same_service (Reg n) d.key.service)) (λ d. same_service id d.key.service ≡ false) deps (none_of id deps h))
