-- Which calls are mutations, and which reads conflict with them.
use Rattle.std.specs.Prelude.{ℕ, ◌&&◌, Bool, not, List, IsTrue, IsFalse, Contains}
use Rattle.rss_names.specs.declared.service.Key.{Key}
use Rattle.rss_model.specs.declared.history.Entry.{Entry}
use Rattle.rss_model.specs.Operation.{reads_of, writes_of, guard_holds, may_write, values_of}
use Rattle.rss_model.specs.History.{has_ended, op_of, reply_of}

-- whether a call has failed: it has ended, and its guard is false over what it was shown
abbrev pub has_failed : List Entry → ℕ → Bool
has_failed h call =
    has_ended h call && not (guard_holds (op_of h call) (values_of (reply_of h call)))

-- whether a call is a mutation: a write, or a transaction that has not failed; else it is a read
abbrev pub is_mutation : List Entry → ℕ → Bool
is_mutation h call = may_write (op_of h call) && not (has_failed h call)

-- a read conflicts with a mutation that writes a key that it reads
pub record Conflicts (h : List Entry) (read mutation : ℕ) : Type 0 where
  pub reads : IsFalse (is_mutation h read)
  pub mutates : IsTrue (is_mutation h mutation)
  pub key : Key
  pub is_read : Contains (reads_of (op_of h read)) key
  pub is_written : Contains (writes_of (op_of h mutation)) key
