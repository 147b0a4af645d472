-- The services that a context used last, where they are one alone or none.
use Rattle.std.proofs.Common.{◌≡◌, ◌⊎◌, inl, inr, Bool, true, false, ◌||◌, List, [], ◌∷◌, arith, refl, sym, ap, ◌∙◌, subst}
use Rattle.std.proofs.lemmas.Bool.{true≢false}
use Rattle.rss_names.specs.declared.service.ServiceId.{ServiceId}
use Rattle.rss_names.specs.declared.service.ServiceId.TheVariants.{Txn, Reg}
use Rattle.rss_names.specs.Services.{same_service}
use Rattle.causal_context.specs.Services.{StandsBefore, AreServices, has_service, services_joined}
use Rattle.causal_context.specs.LastView.{LastView, nothing_last, last_alone, last_joined}
use Rattle.causal_context.specs.Seen.{Seen}
use Rattle.causal_context.proofs.SameServices.{same_itself, same_is}
use Rattle.causal_context.proofs.Looked.{has_joined}
use Rattle.coupling_laws.specs.Covers.{IsAt}

-- of two tests of which one holds, one holds
pub one_of : (x y : Bool) → (x || y) ≡ true → (x ≡ true) ⊎ (y ≡ true)
one_of true y h = inl refl
one_of false y h = inr h

-- of two tests of which none holds, the first and the second do not
pub none_first : (x y : Bool) → (x || y) ≡ false → x ≡ false
none_first true y h = h
none_first false y h = refl

pub none_second : (x y : Bool) → (x || y) ≡ false → y ≡ false
none_second true y h = absurd (true≢false h)
none_second false y h = h

-- a test that cannot hold does not
pub not_true : (x : Bool) → (x ≡ true → ⊥) → x ≡ false
not_true true h = absurd (h refl)
not_true false h = refl

-- a service among one alone is that one
pub has_one : (id other : ServiceId) → has_service (id ∷ []) other ≡ true → other ≡ id
has_one id other h = same_is other id (grind (arith, h))

pub not_one : (id other : ServiceId) → has_service (id ∷ []) other ≡ false → same_service other id ≡ false
not_one id other h = grind (arith, h)

pub one_not : (id other : ServiceId) → same_service other id ≡ false → has_service (id ∷ []) other ≡ false
one_not id other h = grind (arith, h)

-- a context at a service used no other last
pub at_no_other : (c : Seen) (id other : ServiceId) → IsAt c id → same_service other id ≡ false → has_service c.last.services other ≡ false
at_no_other c id other (inl e) h = let s = ap (λ (l : LastView). l.services) e in rw s (one_not id other h)
at_no_other c id other (inr e) h = let s = ap (λ (x : Seen). x.last.services) e in rw s refl

-- no service stands before itself
not_before_itself : (a : ServiceId) → StandsBefore a a → ⊥
not_before_itself (Txn n) h = omega (arith, h)
not_before_itself (Reg n) h = omega (arith, h)

-- services among which there is no other than one are that one or none
pub one_or_none : (services : List ServiceId) (id : ServiceId) → AreServices services → ((other : ServiceId) → has_service services other ≡ true → other ≡ id) → (services ≡ id ∷ []) ⊎ (services ≡ [])
one_or_none [] id h p = inr refl
one_or_none (s ∷ []) id h p = inl (ap (λ x. x ∷ []) (p s (let e = same_itself s in grind (arith, e))))
one_or_none (s ∷ t ∷ services) id h p =
    let a = p s (let e = same_itself s in grind (arith, e)) in
    let b = p t (let e = same_itself t in grind (arith, e)) in
    absurd (not_before_itself id (subst (λ x. StandsBefore id x) b (subst (λ x. StandsBefore x t) a (h.in_order 0 1 s (omega arith) (omega arith)))))

-- services among which there is none are none
pub no_services : (services : List ServiceId) → ((other : ServiceId) → has_service services other ≡ false) → services ≡ []
no_services [] p = refl
no_services (s ∷ services) p = let e = same_itself s in let q = p s in absurd (grind (arith, e, q))

last_made : List ServiceId → Bool → LastView
last_made services outside = record { services = services; outside = outside }

last_is : (l : LastView) (services : List ServiceId) (outside : Bool) → l.services ≡ services → l.outside ≡ outside → l ≡ record { services = services; outside = outside }
unfolding last_made
last_is l services outside s o = ap (λ x. last_made x l.outside) s ∙ ap (λ (x : Bool). last_made services x) o

-- where two joined used one service alone, each of them used it alone or nothing
pub joined_alone_first : (a b : LastView) (id : ServiceId) → AreServices a.services → last_joined a b ≡ last_alone id → (a ≡ last_alone id) ⊎ (a ≡ nothing_last)
joined_alone_first a b id h e = by_services (one_or_none a.services id h there)
  where
    s : services_joined a.services b.services ≡ id ∷ []
    s = ap (λ (l : LastView). l.services) e

    o : a.outside ≡ false
    o = none_first a.outside b.outside (ap (λ (l : LastView). l.outside) e)

    there : (other : ServiceId) → has_service a.services other ≡ true → other ≡ id
    there other k =
        let j = has_joined a.services b.services other in
        has_one id other (sym (ap (λ l. has_service l other) s) ∙ j ∙ ap (λ x. x || has_service b.services other) k)

    by_services : (a.services ≡ id ∷ []) ⊎ (a.services ≡ []) → (a ≡ last_alone id) ⊎ (a ≡ nothing_last)
    by_services (inl k) = inl (last_is a (id ∷ []) false k o)
    by_services (inr k) = inr (last_is a [] false k o)

pub joined_alone_second : (a b : LastView) (id : ServiceId) → AreServices b.services → last_joined a b ≡ last_alone id → (b ≡ last_alone id) ⊎ (b ≡ nothing_last)
joined_alone_second a b id h e = by_services (one_or_none b.services id h there)
  where
    s : services_joined a.services b.services ≡ id ∷ []
    s = ap (λ (l : LastView). l.services) e

    o : b.outside ≡ false
    o = none_second a.outside b.outside (ap (λ (l : LastView). l.outside) e)

    or_true : (x : Bool) → (x || true) ≡ true
    or_true true = refl
    or_true false = refl

    there : (other : ServiceId) → has_service b.services other ≡ true → other ≡ id
    there other k =
        let j = has_joined a.services b.services other in
        has_one id other (sym (ap (λ l. has_service l other) s) ∙ j ∙ ap (λ x. has_service a.services other || x) k ∙ or_true (has_service a.services other))

    by_services : (b.services ≡ id ∷ []) ⊎ (b.services ≡ []) → (b ≡ last_alone id) ⊎ (b ≡ nothing_last)
    by_services (inl k) = inl (last_is b (id ∷ []) false k o)
    by_services (inr k) = inr (last_is b [] false k o)

-- where two joined used nothing, none of them did
pub joined_nothing_first : (a b : LastView) → last_joined a b ≡ nothing_last → a ≡ nothing_last
joined_nothing_first a b e =
    let s = ap (λ (l : LastView). l.services) e in
    last_is a [] false
    (no_services a.services (λ other. none_first (has_service a.services other) (has_service b.services other) (sym (has_joined a.services b.services other) ∙ ap (λ l. has_service l other) s)))
    (none_first a.outside b.outside (ap (λ (l : LastView). l.outside) e))

pub joined_nothing_second : (a b : LastView) → last_joined a b ≡ nothing_last → b ≡ nothing_last
joined_nothing_second a b e =
    let s = ap (λ (l : LastView). l.services) e in
    last_is b [] false
    (no_services b.services (λ other. none_second (has_service a.services other) (has_service b.services other) (sym (has_joined a.services b.services other) ∙ ap (λ l. has_service l other) s)))
    (none_second a.outside b.outside (ap (λ (l : LastView). l.outside) e))

-- one service alone is not nothing, nor something outside
pub alone_is_something : (id : ServiceId) → last_alone id ≡ nothing_last → ⊥
alone_is_something id e = let s = ap (λ (l : LastView). has_service l.services id) e in let t = same_itself id in true≢false (grind (arith, s, t))

-- two services alone that are the same are one
pub alone_once : (a b : ServiceId) → last_alone a ≡ last_alone b → a ≡ b
alone_once a b e = has_one b a (let s = ap (λ (l : LastView). has_service l.services a) e in let t = same_itself a in grind (arith, s, t))

-- where something outside was used last, no service was alone and there was not nothing
pub outside_not : (l : LastView) → l.outside ≡ true → (m : LastView) → m.outside ≡ false → l ≡ m → ⊥
outside_not l h m k e = true≢false (sym h ∙ ap (λ (x : LastView). x.outside) e ∙ k)
