-- Works that end: the calls of their service behind the context have come.
use Rattle.std.proofs.Common.{◌≡◌, ℕ, ◌≤◌, ◌⊎◌, inl, inr, Bool, true, false, List, [], ◌∷◌, All, arith, refl, sym, ap, ◌∙◌, subst}
use Rattle.std.proofs.lemmas.Bool.{true≢false, false≢true}
use Rattle.std.proofs.lemmas.Bool.Decides.{nat_tests}
use Rattle.std.proofs.lemmas.List.Elements.{All-nil, All-head, All-tail}
use Rattle.rss_names.specs.declared.service.ServiceId.{ServiceId}
use Rattle.rss_names.specs.declared.service.ServiceId.TheVariants.{Txn, Reg}
use Rattle.rss_names.specs.Services.{same_service}
use Rattle.causal_context.specs.declared.dep.Dep.{Dep}
use Rattle.causal_context.specs.LeastTimes.{least_of}
use Rattle.causal_context.specs.Deps.{deps_of}
use Rattle.causal_context.specs.Seen.{Seen}
use Rattle.causal_context.proofs.SameServices.{same_itself}
use Rattle.coupling_laws.specs.Calls.{EndedCall, View, IsView}
use Rattle.coupling_laws.specs.Covers.{holds_call, holds, Covers}
use Rattle.coupling_laws.proofs.Used.{one_of}

-- a dependency that holds a call is among those on registers of its service
holds_of : (id : ServiceId) (call : EndedCall) (deps : List Dep) → All (λ d. d.key.index ≡ call.register → same_service id d.key.service ≡ true) deps → holds deps call ≡ true → holds (deps_of id deps) call ≡ true
holds_of id call [] a h = absurd (false≢true h)
holds_of id call (d ∷ deps) a h =
    let p = All-head (λ (d : Dep). d.key.index ≡ call.register → same_service id d.key.service ≡ true) d deps a in
    by_tests (holds_of id call deps (All-tail (λ (d : Dep). d.key.index ≡ call.register → same_service id d.key.service ≡ true) d deps a)) (same_service id d.key.service) (holds_call call d) refl refl p
  where
    by_tests : (holds deps call ≡ true → holds (deps_of id deps) call ≡ true) → (s t : Bool) → same_service id d.key.service ≡ s → holds_call call d ≡ t
        → (d.key.index ≡ call.register → same_service id d.key.service ≡ true) → holds (deps_of id (d ∷ deps)) call ≡ true
    by_tests r false true e f p = let q = p (grind (arith, nat_tests, f)) in absurd (true≢false (sym q ∙ e))
    by_tests r false false e f p = let q = r (grind (arith, h, f)) in grind (arith, e, q)
    by_tests r true true e f p = grind (arith, e, f)
    by_tests r true false e f p = let q = r (grind (arith, h, f)) in grind (arith, e, f, q)

-- what follows from each dependency that holds a call follows where one does
held_leads : (call : EndedCall) (P : Type 0) (deps : List Dep) → All (λ d. holds_call call d ≡ true → P) deps → holds deps call ≡ true → P
held_leads call P [] a h = absurd (false≢true h)
held_leads call P (d ∷ deps) a h = by_one (held_leads call P deps (All-tail (λ (d : Dep). holds_call call d ≡ true → P) d deps a)) (one_of (holds_call call d) (holds deps call) h)
  where
    by_one : (holds deps call ≡ true → P) → (holds_call call d ≡ true) ⊎ (holds deps call ≡ true) → P
    by_one r (inl e) = All-head (λ (d : Dep). holds_call call d ≡ true → P) d deps a e
    by_one r (inr e) = r e

-- the least time of a transaction service has passed
pub past_settles : (v : View) (behind : ℕ → Bool) (c : Seen) (n : ℕ) → Covers v behind c
    → ((a : ℕ) → v.ended a ≡ true → (v.call a).service ≡ Txn n → (v.call a).time ≤ least_of c.least (Txn n) → v.come a ≡ true)
    → (a : ℕ) → behind a ≡ true → (v.call a).service ≡ Txn n → v.come a ≡ true
past_settles v behind c n k z a h s = z a (k.ended a h) s (k.least a n h s)

-- each call that a dependency on a register of the service holds has come
pub fix_settles : (v : View) (behind : ℕ → Bool) (c : Seen) (n : ℕ) → IsView v → Covers v behind c
    → All (λ d. (a : ℕ) → v.ended a ≡ true → (v.call a).service ≡ Reg n → holds_call (v.call a) d ≡ true → v.come a ≡ true) (deps_of (Reg n) c.deps)
    → (a : ℕ) → behind a ≡ true → (v.call a).service ≡ Reg n → v.come a ≡ true
fix_settles v behind c n i k z a h s = by_dep (k.dep a n h s)
  where
    there : holds c.deps (v.call a) ≡ true → holds (deps_of (Reg n) c.deps) (v.call a) ≡ true
    there e = holds_of (Reg n) (v.call a) c.deps
        (λ j d l q. ap (same_service (Reg n)) ((k.valid j d l).1 ∙ ap v.home q ∙ i.at_home a n (k.ended a h) s) ∙ same_itself (Reg n)) e

    by_dep : (v.come a ≡ true) ⊎ (holds c.deps (v.call a) ≡ true) → v.come a ≡ true
    by_dep (inl e) = e
    by_dep (inr e) = held_leads (v.call a) (v.come a ≡ true) (deps_of (Reg n) c.deps) (λ j d l f. z j d l a (k.ended a h) s f) (there e)

-- no dependency is on a register of the service
pub nothing_settles : (v : View) (behind : ℕ → Bool) (c : Seen) (n : ℕ) → IsView v → Covers v behind c → deps_of (Reg n) c.deps ≡ []
    → (a : ℕ) → behind a ≡ true → (v.call a).service ≡ Reg n → v.come a ≡ true
nothing_settles v behind c n i k e =
    fix_settles v behind c n i k (subst (All (λ (d : Dep). (a : ℕ) → v.ended a ≡ true → (v.call a).service ≡ Reg n → holds_call (v.call a) d ≡ true → v.come a ≡ true)) (sym e) (All-nil (λ (d : Dep). (a : ℕ) → v.ended a ≡ true → (v.call a).service ≡ Reg n → holds_call (v.call a) d ≡ true → v.come a ≡ true)))
