-- Keys dealt into disjoint sets, and calls that keep to one of them.
use Rattle.std.specs.Prelude.{◌≡◌, ℕ, ◌==◌, List, Contains}
use Rattle.std.specs.List.{filter}
use Rattle.rss_names.specs.declared.service.Key.{Key}
use Rattle.rss_model.specs.declared.history.Entry.{Entry}
use Rattle.rss_model.specs.Operation.{reads_of, writes_of}
use Rattle.rss_model.specs.History.{op_of}
use Rattle.order_laws.specs.Standing.{Stands}

-- each call of an order reads and writes keys of its own set alone; the sets are numbered
pub record KeepToSets (h : List Entry) (c : List ℕ) (set_of_call : ℕ → ℕ) (set_of_key : Key → ℕ) : Type 0 where
  pub reads : (call : ℕ) (key : Key) → Stands c call → Contains (reads_of (op_of h call)) key →
      set_of_key key ≡ set_of_call call
  pub writes : (call : ℕ) (key : Key) → Stands c call → Contains (writes_of (op_of h call)) key →
      set_of_key key ≡ set_of_call call

-- the calls of one set, in the order in which they stand
abbrev pub calls_of_set : (ℕ → ℕ) → ℕ → List ℕ → List ℕ
calls_of_set set_of_call set c = filter (λ call. set_of_call call == set) c
