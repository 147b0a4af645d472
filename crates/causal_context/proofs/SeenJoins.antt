-- Joins of contexts.
use Rattle.std.proofs.Common.{◌≡◌, ℕ, Bool, true, false, ◌||◌, Some, List, [], ◌∷◌, All, arith, refl, sym, ap, ◌∙◌, subst}
use Rattle.std.proofs.lemmas.Bool.Decides.{nat_tests}
use Rattle.std.proofs.lemmas.List.Elements.{All-cons, All-nil, All-head, All-tail}
use Rattle.rss_names.specs.declared.service.ServiceId.{ServiceId}
use Rattle.rss_names.specs.declared.service.ServiceId.TheVariants.{Txn, Reg}
use Rattle.carstamps.specs.declared.carstamp.Carstamp.{Carstamp}
use Rattle.carstamps.specs.Stamp.{stamp_lt}
use Rattle.causal_context.specs.declared.dep.Dep.{Dep}
use Rattle.causal_context.specs.Services.{IsService, IsTransaction, services_joined}
use Rattle.causal_context.specs.LeastTimes.{services_of, least_joined}
use Rattle.causal_context.specs.Deps.{greater_dep, deps_joined}
use Rattle.causal_context.specs.Seen.{Seen, nothing_seen, context_joined}
use Rattle.causal_context.specs.Forms.{IsSeen, StampsAgree}
use Rattle.causal_context.proofs.Ordered.{Rising, joined, rising_joined, joined_nothing, joined_itself, joined_thrice, joined_swapped, at, at_is, at_all}
use Rattle.causal_context.proofs.Ascending.{index_of, greater_kept, deps_joined_is, rising, ascending_joined}
use Rattle.causal_context.proofs.Joins.{rank, first, first_kept, rank_same, services_joined_is, services_kept, rising_services, services_rising}
use Rattle.causal_context.proofs.SameServices.{same_is}
use Rattle.causal_context.proofs.JoinsOfTimes.{number_of, later, later_kept, least_joined_is, rising_times, least_times_joined}

-- stamps of which none is below the other are the same
stamps_same : (a b : Carstamp) → stamp_lt a b ≡ false → stamp_lt b a ≡ false → a ≡ b
stamps_same a b h k =
    let n : a.number ≡ b.number = grind (arith, nat_tests, h, k) in
    let c : a.call ≡ b.call = grind (arith, nat_tests, h, k) in
    ap (λ (m : ℕ). stamp_made m a.call) n ∙ ap (stamp_made b.number) c
  where
    stamp_made : ℕ → ℕ → Carstamp
    stamp_made m c = record { number = m; call = c }

greater_itself : (a : Dep) → greater_dep a a ≡ a
greater_itself a = grind arith

greater_thrice : (a b c : Dep) → greater_dep (greater_dep a b) c ≡ greater_dep a (greater_dep b c)
greater_thrice a b c = grind (arith, nat_tests)

greater_swapped : (a b : Dep) → (a.stamp ≡ b.stamp → a ≡ b) → greater_dep a b ≡ greater_dep b a
greater_swapped a b same = by_tests (stamp_lt a.stamp b.stamp) (stamp_lt b.stamp a.stamp) refl refl
  where
    by_tests : (s t : Bool) → stamp_lt a.stamp b.stamp ≡ s → stamp_lt b.stamp a.stamp ≡ t → greater_dep a b ≡ greater_dep b a
    by_tests false false e f = let q = same (stamps_same a.stamp b.stamp e f) in grind (arith, q, e, f)
    by_tests true false e f = grind (arith, e, f)
    by_tests false true e f = grind (arith, e, f)
    by_tests true true e f = absurd (grind (arith, nat_tests, e, f))

-- of two dependencies on one register that stand in two lists, whose stamps agree, either order keeps the same
agreed : (deps others : List Dep) → StampsAgree deps others → (n : ℕ) (a b : Dep) → at index_of greater_dep n deps ≡ Some a → at index_of greater_dep n others ≡ Some b → greater_dep a b ≡ greater_dep b a
unfolding index_of
agreed deps others h n a b e f =
    let i = at_is index_of greater_dep n a deps e in
    let j = at_is index_of greater_dep n b others f in
    let g = at_all index_of greater_dep (λ d. All (λ o. d.key.index ≡ o.key.index → d.stamp ≡ o.stamp → d ≡ o) others) n a deps h e in
    let k = at_all index_of greater_dep (λ o. a.key.index ≡ o.key.index → a.stamp ≡ o.stamp → a ≡ o) n b others g f in
    greater_swapped a b (k (i ∙ sym j))

-- the rising lists of a context
rising_least : (c : Seen) → IsSeen c → Rising number_of c.least
rising_least c h = rising_times c.least h.least.transactions h.least.services.in_order

rising_last : (c : Seen) → IsSeen c → Rising rank c.last.services
rising_last c h = rising_services c.last.services h.last.in_range h.last.in_order

-- what is joined is a context
pub joined_is_seen : (a b : Seen) → IsSeen a → IsSeen b → IsSeen (context_joined a b)
joined_is_seen a b h k =
    let s = services_kept a.last.services b.last.services h.last.in_range k.last.in_range in
    record {
      least = least_times_joined a.least b.least h.least k.least;
      deps = ascending_joined a.deps b.deps h.deps;
      last = record {
        in_range = s;
        in_order = services_rising _ s (subst (Rising rank) (sym (services_joined_is a.last.services b.last.services h.last.in_range k.last.in_range)) (rising_joined rank first first_kept a.last.services b.last.services (rising_last a h)));
      };
    }

least_is : (a b : Seen) → IsSeen a → IsSeen b → least_joined a.least b.least ≡ joined number_of later a.least b.least
least_is a b h k = least_joined_is a.least b.least h.least.transactions (rising_least a h) k.least.transactions

last_is : (a b : Seen) → IsSeen a → IsSeen b → services_joined a.last.services b.last.services ≡ joined rank first a.last.services b.last.services
last_is a b h k = services_joined_is a.last.services b.last.services h.last.in_range k.last.in_range

later_itself : (a : ServiceId × ℕ) → later a a ≡ a
unfolding later
later_itself a = grind arith

later_thrice : (a b c : ServiceId × ℕ) → later (later a b) c ≡ later a (later b c)
unfolding later
later_thrice a b c = grind arith

later_swapped : (a b : ServiceId × ℕ) → IsTransaction a.0 → IsTransaction b.0 → number_of a ≡ number_of b → later a b ≡ later b a
unfolding number_of later
later_swapped (Txn m, s) (Txn n, t) h k e = grind (arith, e)
later_swapped (Reg m, s) b h k e = absurd h
later_swapped (Txn m, s) (Reg n, t) h k e = absurd k

times_all : (entries : List (ServiceId × ℕ)) → All IsTransaction (services_of entries) → All (λ e. IsTransaction e.0) entries
times_all [] a = All-nil (λ (e : ServiceId × ℕ). IsTransaction e.0)
times_all (e ∷ entries) a = All-cons (λ (e : ServiceId × ℕ). IsTransaction e.0) e entries (All-head IsTransaction e.0 (services_of entries) a) (times_all entries (All-tail IsTransaction e.0 (services_of entries) a))

least_swapped : (a b : Seen) → IsSeen a → IsSeen b → least_joined a.least b.least ≡ least_joined b.least a.least
least_swapped a b h k =
    least_is a b h k
    ∙ joined_swapped number_of later later_kept a.least b.least
    (λ n x y e f. later_swapped x y
    (at_all number_of later (λ e. IsTransaction e.0) n x a.least (times_all a.least h.least.transactions) e)
    (at_all number_of later (λ e. IsTransaction e.0) n y b.least (times_all b.least k.least.transactions) f)
    (at_is number_of later n x a.least e ∙ sym (at_is number_of later n y b.least f)))
    (rising_least a h) (rising_least b k)
    ∙ sym (least_is b a k h)

one_service : (a b : ServiceId) → IsService a → IsService b → rank a ≡ rank b → first a b ≡ first b a
unfolding first
one_service a b h k e = let r = rank_same a b h k in same_is a b (grind (arith, nat_tests, r, e))

last_swapped : (a b : Seen) → IsSeen a → IsSeen b → services_joined a.last.services b.last.services ≡ services_joined b.last.services a.last.services
last_swapped a b h k =
    last_is a b h k
    ∙ joined_swapped rank first first_kept a.last.services b.last.services
    (λ n x y e f. one_service x y
    (at_all rank first IsService n x a.last.services h.last.in_range e)
    (at_all rank first IsService n y b.last.services k.last.in_range f)
    (at_is rank first n x a.last.services e ∙ sym (at_is rank first n y b.last.services f)))
    (rising_last a h) (rising_last b k)
    ∙ sym (last_is b a k h)

deps_swapped : (a b : Seen) → IsSeen a → IsSeen b → StampsAgree a.deps b.deps → deps_joined a.deps b.deps ≡ deps_joined b.deps a.deps
deps_swapped a b h k s =
    deps_joined_is a.deps b.deps
    ∙ joined_swapped index_of greater_dep greater_kept a.deps b.deps (agreed a.deps b.deps s) (rising a.deps h.deps) (rising b.deps k.deps)
    ∙ sym (deps_joined_is b.deps a.deps)

-- contexts that agree in their parts are the same
one_seen : (a b : Seen) → a.least ≡ b.least → a.deps ≡ b.deps → a.last.services ≡ b.last.services → a.last.outside ≡ b.last.outside → a ≡ b
one_seen a b l d s o =
    ap (λ x. seen_made x a.deps a.last.services a.last.outside) l
    ∙ ap (λ x. seen_made b.least x a.last.services a.last.outside) d
    ∙ ap (λ x. seen_made b.least b.deps x a.last.outside) s
    ∙ ap (λ (x : Bool). seen_made b.least b.deps b.last.services x) o
  where
    seen_made : List (ServiceId × ℕ) → List Dep → List ServiceId → Bool → Seen
    seen_made l d s o = record { least = l; deps = d; last = record { services = s; outside = o } }

or_swapped : (a b : Bool) → (a || b) ≡ (b || a)
or_swapped true true = refl
or_swapped true false = refl
or_swapped false true = refl
or_swapped false false = refl

or_thrice : (a b c : Bool) → ((a || b) || c) ≡ (a || (b || c))
or_thrice true b c = refl
or_thrice false b c = refl

or_itself : (a : Bool) → (a || a) ≡ a
or_itself true = refl
or_itself false = refl

or_false : (a : Bool) → (a || false) ≡ a
or_false true = refl
or_false false = refl

first_itself : (x : ServiceId) → first x x ≡ x
unfolding first
first_itself x = refl

first_thrice : (x y z : ServiceId) → first (first x y) z ≡ first x (first y z)
unfolding first
first_thrice x y z = refl

pub swapped : (a b : Seen) → IsSeen a → IsSeen b → StampsAgree a.deps b.deps → context_joined a b ≡ context_joined b a
swapped a b h k s = one_seen (context_joined a b) (context_joined b a) (least_swapped a b h k) (deps_swapped a b h k s) (last_swapped a b h k) (or_swapped a.last.outside b.last.outside)

pub thrice : (a b c : Seen) → IsSeen a → IsSeen b → IsSeen c → context_joined (context_joined a b) c ≡ context_joined a (context_joined b c)
thrice a b c h k l =
    let left = joined_is_seen a b h k in
    let right = joined_is_seen b c k l in
    one_seen (context_joined (context_joined a b) c) (context_joined a (context_joined b c))
    (least_is (context_joined a b) c left l
    ∙ ap (λ x. joined number_of later x c.least) (least_is a b h k)
    ∙ joined_thrice number_of later later_kept later_thrice a.least b.least c.least (rising_least a h) (rising_least b k) (rising_least c l)
    ∙ ap (joined number_of later a.least) (sym (least_is b c k l))
    ∙ sym (least_is a (context_joined b c) h right))
    (deps_joined_is (deps_joined a.deps b.deps) c.deps
    ∙ ap (λ x. joined index_of greater_dep x c.deps) (deps_joined_is a.deps b.deps)
    ∙ joined_thrice index_of greater_dep greater_kept greater_thrice a.deps b.deps c.deps (rising a.deps h.deps) (rising b.deps k.deps) (rising c.deps l.deps)
    ∙ ap (joined index_of greater_dep a.deps) (sym (deps_joined_is b.deps c.deps))
    ∙ sym (deps_joined_is a.deps (deps_joined b.deps c.deps)))
    (last_is (context_joined a b) c left l
    ∙ ap (λ x. joined rank first x c.last.services) (last_is a b h k)
    ∙ joined_thrice rank first first_kept first_thrice a.last.services b.last.services c.last.services (rising_last a h) (rising_last b k) (rising_last c l)
    ∙ ap (joined rank first a.last.services) (sym (last_is b c k l))
    ∙ sym (last_is a (context_joined b c) h right))
    (or_thrice a.last.outside b.last.outside c.last.outside)

pub itself : (a : Seen) → IsSeen a → context_joined a a ≡ a
itself a h =
    one_seen (context_joined a a) a
    (least_is a a h h ∙ joined_itself number_of later later_kept later_itself a.least (rising_least a h))
    (deps_joined_is a.deps a.deps ∙ joined_itself index_of greater_dep greater_kept greater_itself a.deps (rising a.deps h.deps))
    (last_is a a h h ∙ joined_itself rank first first_kept first_itself a.last.services (rising_last a h))
    (or_itself a.last.outside)

-- nothing is a context
pub nothing_is_seen : IsSeen nothing_seen
nothing_is_seen = record {
  least = record { services = record { in_range = All-nil IsService; in_order = λ i j d l m. absurd (omega (arith, m)) }; transactions = All-nil IsTransaction };
  deps = record { in_order = λ i j d l m. absurd (omega (arith, m)) };
  last = record { in_range = All-nil IsService; in_order = λ i j d l m. absurd (omega (arith, m)) };
}

pub with_nothing : (a : Seen) → context_joined a nothing_seen ≡ a
with_nothing a = one_seen (context_joined a nothing_seen) a refl refl refl (or_false a.last.outside)

pub nothing_with : (a : Seen) → IsSeen a → context_joined nothing_seen a ≡ a
nothing_with a h =
    one_seen (context_joined nothing_seen a) a
    (least_is nothing_seen a nothing_is_seen h ∙ joined_nothing number_of later later_kept a.least (rising_least a h))
    (deps_joined_is [] a.deps ∙ joined_nothing index_of greater_dep greater_kept a.deps (rising a.deps h.deps))
    (last_is nothing_seen a nothing_is_seen h ∙ joined_nothing rank first first_kept a.last.services (rising_last a h))
    refl
