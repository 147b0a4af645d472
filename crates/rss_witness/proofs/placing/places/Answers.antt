use Rattle.std.proofs.Common.{arith, ◌≡◌, ◌<◌, ◌^◌, ◌∙◌, List, ap, subst, length}
use Rattle.std.specs.List.Sorted.{IsPermutation}
use Rattle.std.proofs.lemmas.List.Sorted.{length_permutation}
use Rattle.std.proofs.lemmas.Result.{IfOk-weaker}
use Rattle.rss_machine.specs.Places.{numbered, keyed_calls, places_of}
use Rattle.rss_machine.specs.declared.place.KeyedCall.{KeyedCall}
use Rattle.rss_witness.proofs.Ascending.{are_sorted}
use Rattle.rss_witness.proofs.placing.places.Goals as goal

pub numbered-requires : goal.numbered-requires
numbered-requires c =
    let few : length c.in_ok-calls.calls.items < 2 ^ 32 = c.in_ok-calls.ensures.few in
    let same : length c.sort_by_keys.new.calls.items ≡ length c.in_ok-calls.calls.items = length_permutation _ _ c.sort_by_keys.ensures.all in
    record { few = omega (arith, few, same) }

pub returns : goal.returns
returns c =
    let s = c.args.w.now.state in
    let order = c.sort_by_keys.new.calls.items in
    let all : IsPermutation (keyed_calls s) order =
    subst (λ (calls : List KeyedCall). IsPermutation calls order) c.in_ok-calls.ensures.all c.sort_by_keys.ensures.all in
    IfOk-weaker c.numbered.result _ (λ ps. ps.items ≡ places_of s)
    (λ ps numbers. numbers ∙ ap (numbered 1) (c.as_slice.ensures.value ∙ are_sorted s order all c.sort_by_keys.ensures.sorted))
    c.numbered.ensures
