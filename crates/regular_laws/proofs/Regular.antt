-- The places of calls are a regular order for the history, by what is known of a state.
use Rattle.std.proofs.Common.{◌≡◌, ℕ, ◌<◌, inl, inr, List, length, Some, sym, ap, ◌∙◌, subst}
use Rattle.std.specs.Prelude.{IsTrue, IsFalse, Contains, map, get_or, slice_get, option_map}
use Rattle.std.proofs.lemmas.Option.{slice_get_within, slice_get-get_or, slice_get-map}
use Rattle.std.proofs.lemmas.List.{length-map, get_or-map}
use Rattle.std.proofs.lemmas.List.Elements.{Contains-get_or}
use Rattle.pipeline_lang.specs.declared.config.Config.{Config}
use Rattle.rss_model.specs.History.{has_begun, has_ended, op_of}
use Rattle.rss_model.specs.Operation.{reads_of, guard_holds, values_of}
use Rattle.rss_model.specs.Regular.{Regular}
use Rattle.rss_model.specs.declared.history.Entry.{Entry}
use Rattle.rss_model.specs.declared.op.Shown.{Shown}
use Rattle.rss_machine.specs.Places.{keyed_calls, sorted, places_of, placed_calls}
use Rattle.rss_machine.specs.State.{State}
use Rattle.rss_machine.specs.declared.place.KeyedCall.{KeyedCall}
use Rattle.rss_machine.specs.declared.place.PlaceKey.{PlaceKey}
use Rattle.rss_machine.specs.declared.step.Step.{Step}
use Rattle.order_laws.specs.ByKeys.{AreRegularByKeys}
use Rattle.order_laws.specs.LastWriter.{AreReadings}
use Rattle.order_laws.specs.Sorted.{AreSorted, IsAsymmetric}
use Rattle.order_laws.specs.Standing.{Stands}
use Rattle.order_laws.proofs.RegularByKeys.{regular}
use Rattle.order_laws.proofs.SortedCalls.{some_of}
use Rattle.world_laws.proofs.Looks.{some_is}
use Rattle.place_laws.proofs.Ended.{IsThere}
use Rattle.place_laws.proofs.KeyOrder.{key_one_way}
use Rattle.place_laws.proofs.KeyedCalls.{all_compare, one_each}
use Rattle.place_laws.proofs.SortedKeys.{Below, sorted_pairs, sorted_same, placed_are}
use Rattle.regular_laws.proofs.Calls.{IsPlaced, shown_to, placed, begun_of, keys_shown, guards_hold, replied, ended_or_mutates}
use Rattle.regular_laws.proofs.Done.{HasDone, has_done, written_there, read_there, txn_there}
use Rattle.regular_laws.proofs.Known.{Known}
use Rattle.regular_laws.proofs.Orders.{messages, mutations, conflicts}
use Rattle.regular_laws.proofs.Shown.{call_of, shown_by}

-- the keyed calls of a state, sorted
asymmetric : IsAsymmetric Below
asymmetric x y a b = key_one_way x.key y.key a b

are_sorted : (s : State) → AreSorted call_of Below (keyed_calls s) (sorted (keyed_calls s))
are_sorted s = record {
  all = sorted_same (keyed_calls s);
  ascending = sorted_pairs (keyed_calls s) (all_compare s 1 _);
  one_each = λ x y m n e. one_each s x y m n e;
}

-- what stands among the calls of things is the call of one
record ThingOf (ks : List KeyedCall) (o : ℕ) : Type 0 where
  thing : KeyedCall
  there : Contains ks thing
  of_call : thing.call ≡ o

thing_of : (ks : List KeyedCall) (o : ℕ) → Stands (map call_of ks) o → ThingOf ks o
thing_of ks o (i, s) =
    let l : i < length ks = subst (λ (n : ℕ). i < n) (length-map ks call_of) (slice_get_within (map call_of ks) i o s) in
    let x = some_of ks i l in
    let e : slice_get (map call_of ks) i ≡ Some (call_of (get_or ks i x)) = slice_get-map call_of ks i ∙ ap (option_map call_of) (slice_get-get_or ks i x l) in
    record { thing = get_or ks i x; there = Contains-get_or ks i x l; of_call = some_is _ _ (sym e ∙ s) }

calls_contain : (ks : List KeyedCall) (k : KeyedCall) → Contains ks k → Contains (map call_of ks) k.call
calls_contain ks k (i, l, e) = (i, subst (λ (n : ℕ). i < n) (sym (length-map ks call_of)) l, get_or-map call_of ks i k k.call l ∙ ap call_of e)

module _ (c : Config) (steps : List Step) (s : State) (known : Known c steps s) where
  abbrev h : List Entry
  h = s.history

  abbrev things : List KeyedCall
  things = keyed_calls s

  along_thing : (P : ℕ → Type 0) (o : ℕ) → ((k : KeyedCall) → IsPlaced s k.call k.key → P k.call) → Stands (map call_of things) o → P o
  along_thing P o g t = let k = thing_of things o t in subst P k.of_call (g k.thing (placed c steps s known k.thing k.there))

  are_readings : AreReadings h (map call_of things) (shown_to s)
  are_readings = record {
    begun = λ o t. along_thing (λ (i : ℕ). IsTrue (has_begun h i)) o (λ k p. begun_of c steps s known k.call k.key p) t;
    keys = λ o t. along_thing (λ (i : ℕ). map (λ (x : Shown). x.key) (shown_to s i) ≡ reads_of (op_of h i)) o (λ k p. keys_shown c steps s known k.call k.key p) t;
    replies = λ o t d. replied c steps s known o d;
    guards = λ o t d. along_thing (λ (i : ℕ). IsFalse (has_ended h i) → IsTrue (guard_holds (op_of h i) (values_of (shown_to s i)))) o (λ k p. guards_hold c steps s known k.call k.key p) t d;
  }

  -- each call that has ended is there
  ended_there : (o : ℕ) → IsTrue (has_ended h o) → Contains (map call_of things) o
  ended_there o d = by_done (has_done c steps s known o d)
    where
      with_key : (k : PlaceKey) → IsThere s o k → Contains (map call_of things) o
      with_key k t = subst (Contains (map call_of things)) t.is_call (calls_contain things t.call t.there)

      by_done : HasDone s o → Contains (map call_of things) o
      by_done (inl w) = with_key _ (written_there c steps s known o w)
      by_done (inr (inl r)) = with_key _ (read_there c steps s known o r)
      by_done (inr (inr t)) = with_key _ (txn_there c steps s known o t.time t.only_reads t.keys t.lines t.placed)

  by_keys : AreRegularByKeys call_of Below h (shown_to s) things
  by_keys = record {
    ended = ended_there;
    besides = λ x m. ended_or_mutates c steps s known x.call x.key (placed c steps s known x m);
    are_readings = are_readings;
    shown = λ y x m k. shown_by c steps s known y x m (placed c steps s known y m) k;
    messages = messages c steps s known;
    mutations = mutations c steps s known;
    reads = conflicts c steps s known;
  }

  pub regular_places : Regular s.history (placed_calls (places_of s))
  regular_places = subst (Regular s.history) (sym (placed_are (sorted things) 1)) (regular call_of Below things (sorted things) (are_sorted s) asymmetric s.history (shown_to s) by_keys)
