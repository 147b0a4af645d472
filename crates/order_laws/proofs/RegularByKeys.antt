-- Calls sorted by their keys are in a regular order, where the facts on keys hold.
use Rattle.std.proofs.Common.{◌≡◌, ℕ, ◌<◌, ◌⊎◌, inl, inr, List, length, get_or, refl, sym, ◌∙◌, subst}
use Rattle.std.specs.Prelude.{◌≢◌, AllPairs, Contains, IsTrue, map}
use Rattle.std.proofs.lemmas.Option.{slice_get_within, get_or_from_slice_get, slice_get_read}
use Rattle.rss_model.specs.declared.op.Shown.{Shown}
use Rattle.rss_model.specs.declared.history.Entry.{Entry}
use Rattle.rss_model.specs.History.{has_ended}
use Rattle.rss_model.specs.Mutation.{is_mutation, Conflicts}
use Rattle.rss_model.specs.RealTime.{BeforeInRealTime}
use Rattle.rss_model.specs.Causality.{BeforeByMessages}
use Rattle.rss_model.specs.Candidate.{StandsAt, IsCandidate, InOrder}
use Rattle.rss_model.specs.Legal.{Legal}
use Rattle.rss_model.specs.Regular.{Regular}
use Rattle.order_laws.specs.Standing.{Stands, StandsBefore}
use Rattle.order_laws.specs.Sorted.{AreSorted, IsAsymmetric}
use Rattle.order_laws.specs.LastWriter.{Readings, AreReadings, Writes, IsShownRightly}
use Rattle.order_laws.specs.LastWriter.{written as by_last_writer, opening as by_opening}
use Rattle.std.proofs.lemmas.List.{length-map}
use Rattle.order_laws.specs.ByKeys.{HasBelow, IsShownByKeys, written, opening, AreRegularByKeys}
use Rattle.order_laws.proofs.FromLastWriters.{legal_from_last_writers}
use Rattle.order_laws.proofs.SortedCalls.{some_of, same_calls, at_place, among_things, calls_once, before_below, below_before}
use Rattle.order_laws.proofs.Parts.{stands_in_order, regular_of}

-- what stands in a list is contained in it, and the other way round
stands_contains : (c : List ℕ) (a : ℕ) → Stands c a → Contains c a
stands_contains c a (i, s) = (i, slice_get_within c i a s, get_or_from_slice_get c i a a s)

contains_stands : (c : List ℕ) (a : ℕ) → Contains c a → Stands c a
contains_stands c a (i, l, e) = (i, slice_get_read c (length c) i a refl l (sym e))

-- a relation of numbers along two equations
along : (R : ℕ → ℕ → Type 0) {a b m n : ℕ} → a ≡ m → b ≡ n → R a b → R m n
along R {a = a} {n = n} e f r = subst (λ (k : ℕ). R k n) e (subst (λ (k : ℕ). R a k) f r)

module _ {X : Type 0} (call : X → ℕ) (Below : X → X → Type 0) (things order : List X) (sorted : AreSorted call Below things order) (asymmetric : IsAsymmetric Below) (h : List Entry) (readings : Readings) (facts : AreRegularByKeys call Below h readings things) where
  abbrev calls : List ℕ
  calls = map call order

  -- a call that stands in the order is that of a thing
  record IsOfThing (a : ℕ) : Type 0 where
    thing : X
    there : Contains things thing
    of_call : call thing ≡ a

  thing_of : (a i : ℕ) → StandsAt calls a i → IsOfThing a
  thing_of a i s =
      let l : i < length order = subst (λ (n : ℕ). i < n) (length-map order call) (slice_get_within calls i a s) in
      let x = some_of order i l in
      let p = at_place call Below things order sorted x a i s in
      record { thing = get_or order i x; there = among_things call Below things order sorted x i l; of_call = p.1 }

  distinct : AllPairs (λ a b. a ≢ b) calls
  distinct = calls_once call Below things order sorted asymmetric

  among : (a : ℕ) → Stands calls a → Stands (map call things) a
  among a s = contains_stands (map call things) a ((same_calls call Below things order sorted a).0 (stands_contains calls a s))

  are_readings : AreReadings h calls readings
  are_readings = record {
    begun = λ a s. facts.are_readings.begun a (among a s);
    keys = λ a s. facts.are_readings.keys a (among a s);
    replies = λ a s. facts.are_readings.replies a (among a s);
    guards = λ a s. facts.are_readings.guards a (among a s);
  }

  -- a call that stands before that of a thing is that of a thing below it
  stands_below : (a : ℕ) (y : X) → Contains things y → StandsBefore calls a (call y) →
      HasBelow call Below things a y
  stands_below a y m s =
      let t = thing_of a s.first s.first_stands in
      let before : StandsBefore calls (call t.thing) (call y) = subst (λ (n : ℕ). StandsBefore calls n (call y)) (sym t.of_call) s in
      record {
        thing = t.thing;
        there = t.there;
        of_call = t.of_call;
        below = before_below call Below things order sorted asymmetric t.thing y t.there m before;
      }

  below_stands : (x y : X) → Contains things x → Contains things y → Below x y →
      StandsBefore calls (call x) (call y)
  below_stands x y m n b = below_before call Below things order sorted asymmetric x y m n b

  shown_rightly : (y : X) (shown : Shown) → Contains things y →
      IsShownByKeys call Below h readings things y shown →
      IsShownRightly h calls readings (call y) shown
  shown_rightly y shown m (written {writer = w} n c b x last e) =
      by_last_writer (record { writes = x; before = subst (λ (k : ℕ). StandsBefore calls k (call y)) c (below_stands w y n m b); last = others }) e
    where
      by_below : (a : ℕ) (o : HasBelow call Below things a y) →
          (call o.thing ≡ shown.writer) ⊎ Below o.thing w →
          (a ≡ shown.writer) ⊎ StandsBefore calls a shown.writer
      by_below a o (inl f) = inl (sym o.of_call ∙ f)
      by_below a o (inr f) = inr (along (StandsBefore calls) o.of_call c (below_stands o.thing w o.there n f))

      others : (a : ℕ) → Writes h a shown.key → StandsBefore calls a (call y) →
          (a ≡ shown.writer) ⊎ StandsBefore calls a shown.writer
      others a z q =
          let o = stands_below a y m q in
          by_below a o (last o.thing o.there (subst (λ (k : ℕ). Writes h k shown.key) (sym o.of_call) z) o.below)
  shown_rightly y shown m (opening none e) = by_opening others e
    where
      others : (a : ℕ) → Writes h a shown.key → StandsBefore calls a (call y) → ⊥
      others a z q =
          let o = stands_below a y m q in
          none o.thing o.there (subst (λ (k : ℕ). Writes h k shown.key) (sym o.of_call) z) o.below

  legal : Legal h calls
  legal = legal_from_last_writers h calls readings distinct are_readings shown
    where
      shown : (a : ℕ) (s : Shown) → Stands calls a → Contains (readings a) s →
          IsShownRightly h calls readings a s
      shown a s (i, t) m =
          let x = thing_of a i t in
          let read : Contains (readings (call x.thing)) s = subst (λ (k : ℕ). Contains (readings k) s) (sym x.of_call) m in
          subst (λ (k : ℕ). IsShownRightly h calls readings k s) x.of_call
          (shown_rightly x.thing s x.there (facts.shown x.thing s x.there read))

  ended_or_mutates : (a i : ℕ) → StandsAt calls a i →
      IsTrue (has_ended h a) ⊎ IsTrue (is_mutation h a)
  ended_or_mutates a i s =
      let x = thing_of a i s in
      subst (λ (k : ℕ). IsTrue (has_ended h k) ⊎ IsTrue (is_mutation h k)) x.of_call (facts.besides x.thing x.there)

  candidate : IsCandidate h calls
  candidate = record {
    distinct = distinct;
    ended = λ a e. (same_calls call Below things order sorted a).1 (facts.ended a e);
    besides = ended_or_mutates;
  }

  messages : (a b : ℕ) → BeforeByMessages h a b → Stands calls b → StandsBefore calls a b
  messages a b p (j, s) =
      let x = thing_of b j s in
      let o = facts.messages a x.thing x.there (subst (λ (k : ℕ). BeforeByMessages h a k) (sym x.of_call) p) in
      along (StandsBefore calls) o.of_call x.of_call (below_stands o.thing x.thing o.there x.there o.below)

  -- where the key of one is below that of the other they are in order
  in_order : (a b i j : ℕ) → StandsAt calls a i → StandsAt calls b j →
      (x : IsOfThing a) (y : IsOfThing b) → Below x.thing y.thing → i < j
  in_order a b i j s t x y l =
      stands_in_order calls a b distinct (along (StandsBefore calls) x.of_call y.of_call (below_stands x.thing y.thing x.there y.there l)) i j s t

  mutations : (a b : ℕ) → BeforeInRealTime h a b → IsTrue (is_mutation h a) →
      IsTrue (is_mutation h b) → InOrder calls a b
  mutations a b r p q i j s t =
      let x = thing_of a i s in
      let y = thing_of b j t in
      in_order a b i j s t x y
      (facts.mutations x.thing y.thing x.there y.there (along (BeforeInRealTime h) (sym x.of_call) (sym y.of_call) r)
      (subst (λ (k : ℕ). IsTrue (is_mutation h k)) (sym x.of_call) p)
      (subst (λ (k : ℕ). IsTrue (is_mutation h k)) (sym y.of_call) q))

  reads : (a b : ℕ) → BeforeInRealTime h a b → Conflicts h b a → InOrder calls a b
  reads a b r p i j s t =
      let x = thing_of a i s in
      let y = thing_of b j t in
      in_order a b i j s t x y
      (facts.reads x.thing y.thing x.there y.there (along (BeforeInRealTime h) (sym x.of_call) (sym y.of_call) r)
      (along (Conflicts h) (sym y.of_call) (sym x.of_call) p))

  pub regular : Regular h calls
  regular = regular_of h calls candidate legal messages mutations reads
