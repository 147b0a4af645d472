-- What the calls of an order were shown, and the last call before another that writes a key.
use Rattle.std.specs.Prelude.{◌≡◌, ℕ, ◌⊎◌, Bool, List, map, IsTrue, IsFalse, Contains}
use Rattle.rss_names.specs.declared.service.Key.{Key}
use Rattle.rss_model.specs.declared.op.Shown.{Shown}
use Rattle.rss_model.specs.declared.history.Entry.{Entry}
use Rattle.rss_model.specs.Operation.{reads_of, writes_of, written_by, guard_holds, values_of}
use Rattle.rss_model.specs.History.{has_begun, has_ended, op_of, reply_of}
use Rattle.rss_model.specs.Mutation.{is_mutation}
use Rattle.rss_model.specs.Legal.{opening_table, shown_after}
use Rattle.order_laws.specs.Standing.{Stands, StandsBefore}

-- what each call was shown, in the order of the keys that it reads
abbrev pub Readings : Type 0
Readings = ℕ → List Shown

-- these are readings of the calls of an order: an ended call replied its own, and the guard of a
-- call without End is true over its own
pub record AreReadings (h : List Entry) (c : List ℕ) (readings : Readings) : Type 0 where
  pub begun : (call : ℕ) → Stands c call → IsTrue (has_begun h call)
  pub keys : (call : ℕ) → Stands c call →
      map (λ shown. shown.key) (readings call) ≡ reads_of (op_of h call)
  pub replies : (call : ℕ) → Stands c call → IsTrue (has_ended h call) →
      readings call ≡ reply_of h call
  pub guards : (call : ℕ) → Stands c call → IsFalse (has_ended h call) →
      IsTrue (guard_holds (op_of h call) (values_of (readings call)))

-- a call writes a key: it is a mutation, and its operation writes the key
pub record Writes (h : List Entry) (call : ℕ) (key : Key) : Type 0 where
  pub mutates : IsTrue (is_mutation h call)
  pub written : Contains (writes_of (op_of h call)) key

-- a call writes a key and stands before another one, and no call between them writes the key
pub record IsLastWriter (h : List Entry) (c : List ℕ) (writer call : ℕ) (key : Key) : Type 0 where
  pub writes : Writes h writer key
  pub before : StandsBefore c writer call
  pub last : (other : ℕ) → Writes h other key → StandsBefore c other call →
      (other ≡ writer) ⊎ StandsBefore c other writer

-- no call that stands before another one writes a key
abbrev pub HasNoWriter : List Entry → List ℕ → ℕ → Key → Type 0
HasNoWriter h c call key = (other : ℕ) → Writes h other key → StandsBefore c other call → ⊥

-- what a key shows after the writes of one call, computed over what that call was shown
abbrev pub shown_by_writer : List Entry → Readings → ℕ → Key → Shown
shown_by_writer h readings writer key =
    shown_after (opening_table key) writer
    (written_by (op_of h writer) (values_of (readings writer)))

-- a call was shown a key rightly: what the last writer before it wrote, whom the reading names; or the
-- opening value where no call before it writes the key
pub data IsShownRightly (h : List Entry) (c : List ℕ) (readings : Readings) (call : ℕ) (shown : Shown) : Type 0 where
  written :
      IsLastWriter h c shown.writer call shown.key →
      shown ≡ shown_by_writer h readings shown.writer shown.key →
      IsShownRightly h c readings call shown
  opening :
      HasNoWriter h c call shown.key → shown ≡ opening_table shown.key →
      IsShownRightly h c readings call shown

-- an order is legal for a set of keys: its calls were shown the keys of the set rightly
abbrev pub IsLegalFor : List Entry → List ℕ → Readings → (Key → Bool) → Type 0
IsLegalFor h c readings keys =
    (call : ℕ) (shown : Shown) → Stands c call → Contains (readings call) shown →
    IsTrue (keys shown.key) → IsShownRightly h c readings call shown
