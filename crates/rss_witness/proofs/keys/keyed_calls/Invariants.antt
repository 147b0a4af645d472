use Rattle.std.proofs.Common.{◌≡◌, ◌+◌, ◌-◌, ◌≤◌, ◌++◌, length, vec_len}
use Rattle.rss_machine.specs.Places.{keyed_from, keyed_calls as all_keyed}
use Rattle.rss_witness.proofs.keys.keyed_calls.Given as goal

-- the calls that were passed and those that are left are the whole
abbrev pub invariant-loop-before : goal.invariant-loop-before
invariant-loop-before l =
    (l.calls.items ++ keyed_from l.w.state (l.before + 1) (length l.w.state.owners - 1 - l.before) ≡ all_keyed l.w.state)
    × (vec_len l.calls ≤ l.before)
