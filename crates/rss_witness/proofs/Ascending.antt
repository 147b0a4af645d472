-- Placed calls that are sorted by their keys are those calls put one by one among the others.
use Rattle.std.proofs.Common.{◌≡◌, ◌-◌, true, false, List, [], ◌∷◌, length, get_or, refl, sym, ap, ◌∙◌, arith}
use Rattle.std.specs.declared.cmp.Ordering.{Ordering}
use Rattle.std.specs.declared.cmp.Ordering.TheVariants.{Less, Equal, Greater}
use Rattle.std.specs.Cmp.{IsTotalOrder, nat_eq_equiv}
use Rattle.std.proofs.lemmas.Bool.{eqb-false}
use Rattle.std.specs.List.{AllByRecursion, IsDistinct}
use Rattle.std.specs.List.Sorted.{IsPermutation, IsSortedByKey}
use Rattle.std.specs.Ordering.{is_lt, is_eq, ordering_reverse}
use Rattle.std.proofs.lemmas.List.Elements.{All-get_or, All-from_recursion, recursion_from_All}
use Rattle.std.proofs.lemmas.List.Sorted.{All-permutation, IsPermutation-sym, ranks_by, sorted_far}
use Rattle.std.proofs.lemmas.Map.Keys.{IsDistinct-IsPermutation, apart_from_distinct}
use Rattle.rss_machine.specs.State.{State}
use Rattle.rss_machine.specs.Places.{key_lt, keyed_calls, sorted}
use Rattle.rss_machine.specs.contracts.place.PlaceKeyOrd.TheImpl.Laws.{total-law}
use Rattle.rss_machine.specs.declared.place.KeyedCall.{KeyedCall}
use Rattle.rss_machine.specs.declared.place.PlaceKey.{PlaceKey}
use Rattle.rss_witness.specs.Order.{key_of, key_order}
use Rattle.rss_witness.proofs.Comparing.{less_is_below, equal_ends}
use Rattle.rss_witness.proofs.Distinct.{same_call, EndsInCall, keys_end, calls_apart}
use Rattle.rss_witness.proofs.Inserting.{Below, Compared, Ascends, AreCompared, Has, weaker, each_has, ascends_from, sorted_all, sorted_has, sorted_ascends, same_list}

-- the comparison of keys is a total order
key_order_total : IsTotalOrder key_order
unfolding key_order
key_order_total = total-law

is_less : (r : Ordering) → is_lt r ≡ true → r ≡ Less
is_less Less e = refl
is_less Equal e = absurd (cc)
is_less Greater e = absurd (cc)

less : (a b : PlaceKey) → key_lt a b ≡ true → key_order a b ≡ Less
less a b e = is_less (key_order a b) (less_is_below a b ∙ e)

chain : (a b c : KeyedCall) → Below a b → Below b c → Below a c
chain a b c h k =
    sym (less_is_below a.key c.key) ∙ ap is_lt (key_order_total.trans a.key b.key c.key (less a.key b.key h) (less b.key c.key k))

not_both : (r : Ordering) → r ≡ Less → r ≡ ordering_reverse r → ⊥
not_both Less e turn = cc
not_both Equal e turn = cc
not_both Greater e turn = cc

other : (a : KeyedCall) → Below a a → ⊥
other a h = not_both (key_order a.key a.key) (less a.key a.key h) (key_order_total.antisymm a.key a.key)

-- two answers of which one is the other turned round
turned : (r s : Ordering) → s ≡ ordering_reverse r → is_lt r ≡ false → (is_eq r ≡ true → ⊥) → is_lt s ≡ true
turned Less s e h apart = absurd (cc)
turned Equal s e h apart = absurd (apart refl)
turned Greater s e h apart = ap is_lt e

-- calls of different numbers, whose keys end with them, are compared
compared : (a b : KeyedCall) → EndsInCall a → EndsInCall b → same_call a b ≡ false → Compared a b
compared a b ends ends' apart h =
    sym (less_is_below b.key a.key)
    ∙ turned (key_order a.key b.key) (key_order b.key a.key) (key_order_total.antisymm b.key a.key) (less_is_below a.key b.key ∙ h)
    (λ e. eqb-false a.call b.call apart (sym ends ∙ equal_ends a.key b.key e ∙ ends'))

compared_all : (a : KeyedCall) (cs : List KeyedCall) → EndsInCall a → AllByRecursion EndsInCall cs → AllByRecursion (λ c. same_call a c ≡ false) cs → AllByRecursion (Compared a) cs
compared_all a [] ends all apart = tt
compared_all a (c ∷ cs) ends all apart = (compared a c ends all.0 apart.0, compared_all a cs ends all.1 apart.1)

are_compared : (cs : List KeyedCall) → AllByRecursion EndsInCall cs → IsDistinct same_call cs → AreCompared cs
unfolding IsDistinct AreCompared
are_compared [] ends apart = tt
are_compared (c ∷ cs) ends apart = (compared_all c cs ends.0 ends.1 apart.0, are_compared cs ends.1 apart.1)

same_call_turns : (a b : KeyedCall) → same_call a b ≡ same_call b a
same_call_turns a b = nat_eq_equiv.symm a.call b.call

-- calls in the order of their keys ascend
ascending : (order : List KeyedCall) → AllByRecursion EndsInCall order → IsDistinct same_call order → IsSortedByKey key_of key_order order → Ascends order
ascending order ends apart up = ascends_from order (λ i j d l m.
    let a = get_or order i d in
    let b = get_or order j d in
    let all = All-from_recursion EndsInCall order ends in
    compared b a (All-get_or EndsInCall order j d m all) (All-get_or EndsInCall order i d (omega (arith, l, m)) all)
    (same_call_turns b a ∙ apart_from_distinct same_call order i j d apart l m)
    (sym (less_is_below b.key a.key)
    ∙ sorted_far (λ x y. is_lt (key_order (key_of x) (key_of y))) (ranks_by key_order_total key_of) order up i j d (omega (arith, l)) m))

-- the placed calls, put in the order of their keys
pub are_sorted : (s : State) (order : List KeyedCall) → IsPermutation (keyed_calls s) order → IsSortedByKey key_of key_order order → order ≡ sorted (keyed_calls s)
are_sorted s order all up =
    let calls = keyed_calls s in
    let ends : AllByRecursion EndsInCall calls = keys_end s 1 (length s.owners - 1) in
    let apart : IsDistinct same_call calls = calls_apart s 1 (length s.owners - 1) in
    let moved : AllByRecursion EndsInCall order = recursion_from_All EndsInCall order (All-permutation EndsInCall calls order all (All-from_recursion EndsInCall calls ends)) in
    let apart' : IsDistinct same_call order = IsDistinct-IsPermutation same_call same_call_turns calls order all apart in
    let here : AllByRecursion (Has calls) order = recursion_from_All (Has calls) order (All-permutation (Has calls) calls order all (All-from_recursion (Has calls) calls (each_has calls))) in
    let there : AllByRecursion (Has order) calls =
    recursion_from_All (Has order) calls (All-permutation (Has order) order calls (IsPermutation-sym calls order all) (All-from_recursion (Has order) order (each_has order))) in
    same_list chain other order (sorted calls) (ascending order moved apart' up) (sorted_ascends chain calls (are_compared calls ends apart))
    (weaker (Has calls) (Has (sorted calls)) order (sorted_has calls) here)
    (sorted_all (Has order) calls there)
