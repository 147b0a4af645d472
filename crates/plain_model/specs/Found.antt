-- What a search through a history finds of a call.
use Rattle.std.specs.Prelude.{ℕ, List, [], ◌∷◌, Option, Some, None, Bool, false, not, ◌&&◌, if◌then◌else◌}
use Rattle.rss_model.specs.declared.op.Op.{Op}
use Rattle.rss_model.specs.declared.op.Shown.{Shown}
use Rattle.rss_model.specs.declared.history.Entry.{Entry}
use Rattle.rss_model.specs.Operation.{may_write, guard_holds, values_of}
use Rattle.rss_model.specs.History.{begins, ends, op_in, reply_in}

-- the operation of a call, if it has begun
abbrev pub found_op : List Entry → ℕ → Option Op
found_op [] call = None
found_op (e ∷ h) call = if begins call e then Some (op_in e) else found_op h call

-- the reply of a call, if it has ended
abbrev pub found_reply : List Entry → ℕ → Option (List Shown)
found_reply [] call = None
found_reply (e ∷ h) call = if ends call e then Some (reply_in e) else found_reply h call

-- whether an operation has ended with a guard that is false over what it was shown
abbrev pub failed_by : Op → Option (List Shown) → Bool
failed_by op None = false
failed_by op (Some reply) = not (guard_holds op (values_of reply))

-- whether a call is a mutation, by what is found of it
abbrev pub mutates_by : Option Op → Option (List Shown) → Bool
mutates_by None reply = false
mutates_by (Some op) reply = may_write op && not (failed_by op reply)
