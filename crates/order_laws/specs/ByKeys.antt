-- The facts on keys from which it follows that calls sorted by their keys are in a regular order.
use Rattle.std.specs.Prelude.{◌≡◌, ℕ, ◌⊎◌, List, map, IsTrue, Contains}
use Rattle.rss_model.specs.declared.op.Shown.{Shown}
use Rattle.rss_model.specs.declared.history.Entry.{Entry}
use Rattle.rss_model.specs.History.{has_ended}
use Rattle.rss_model.specs.Mutation.{is_mutation, Conflicts}
use Rattle.rss_model.specs.RealTime.{BeforeInRealTime}
use Rattle.rss_model.specs.Causality.{BeforeByMessages}
use Rattle.rss_model.specs.Legal.{opening_table}
use Rattle.order_laws.specs.LastWriter.{Readings, AreReadings, Writes, shown_by_writer}

-- one of these things is of a call, and is below another thing
pub record HasBelow {X : Type 0} (call : X → ℕ) (Below : X → X → Type 0) (things : List X) (a : ℕ) (y : X) : Type 0 where
  pub thing : X
  pub there : Contains things thing
  pub of_call : call thing ≡ a
  pub below : Below thing y

-- a call was shown a key rightly, by keys: what the last writer below it wrote, or the opening value
-- where none below it writes the key
pub data IsShownByKeys {X : Type 0} (call : X → ℕ) (Below : X → X → Type 0) (h : List Entry) (readings : Readings) (things : List X) (y : X) (shown : Shown) : Type 0 where
  written :
      {writer : X} → Contains things writer → call writer ≡ shown.writer → Below writer y →
      Writes h shown.writer shown.key →
      ((other : X) → Contains things other → Writes h (call other) shown.key → Below other y →
      (call other ≡ shown.writer) ⊎ Below other writer) →
      shown ≡ shown_by_writer h readings shown.writer shown.key →
      IsShownByKeys call Below h readings things y shown
  opening :
      ((other : X) → Contains things other → Writes h (call other) shown.key → Below other y → ⊥) →
      shown ≡ opening_table shown.key →
      IsShownByKeys call Below h readings things y shown

-- the facts on things that have a call each
pub record AreRegularByKeys {X : Type 0} (call : X → ℕ) (Below : X → X → Type 0) (h : List Entry) (readings : Readings) (things : List X) : Type 0 where
  pub ended : (c : ℕ) → IsTrue (has_ended h c) → Contains (map call things) c
  pub besides : (x : X) → Contains things x →
      IsTrue (has_ended h (call x)) ⊎ IsTrue (is_mutation h (call x))
  pub are_readings : AreReadings h (map call things) readings
  pub shown : (x : X) (shown : Shown) → Contains things x → Contains (readings (call x)) shown →
      IsShownByKeys call Below h readings things x shown
  pub messages : (a : ℕ) (x : X) → Contains things x → BeforeByMessages h a (call x) →
      HasBelow call Below things a x
  pub mutations : (x y : X) → Contains things x → Contains things y →
      BeforeInRealTime h (call x) (call y) →
      IsTrue (is_mutation h (call x)) → IsTrue (is_mutation h (call y)) → Below x y
  pub reads : (x y : X) → Contains things x → Contains things y →
      BeforeInRealTime h (call x) (call y) → Conflicts h (call y) (call x) → Below x y
