-- Tests of an order of calls, entry by entry and call by call.
use Rattle.std.specs.Prelude.{ℕ, ◌||◌, ◌&&◌, Bool, true, false, not, List, [], ◌∷◌, Option, Some, None}
use Rattle.rss_names.specs.declared.service.Key.{Key}
use Rattle.rss_names.specs.Services.{same_key}
use Rattle.pipeline_lang.specs.declared.script.Expr.{Expr}
use Rattle.rss_model.specs.declared.op.Op.{Op}
use Rattle.rss_model.specs.declared.op.Op.TheVariants.{Read, Write, Snap, Txn}
use Rattle.rss_model.specs.declared.history.Entry.{Entry}
use Rattle.rss_model.specs.declared.history.Entry.TheVariants.{Begin, End, Give, Get, Over}
use Rattle.rss_model.specs.History.{begins, ends, has_ended}
use Rattle.rss_model.specs.Mutation.{is_mutation}
use Rattle.plain_model.specs.Found.{found_op}
use Rattle.plain_model.specs.Listed.{has_call, has_pair, is_distinct_after}

-- whether the call that an entry ends, if it ends one, is among these
abbrev pub end_within : List ℕ → Entry → Bool
end_within calls (Begin call stage op) = true
end_within calls (End call reply) = has_call calls call
end_within calls (Give stage token) = true
end_within calls (Get stage token) = true
end_within calls (Over stage how) = true

-- whether all ended calls are among these
abbrev pub ended_within : List ℕ → List Entry → Bool
ended_within calls [] = true
ended_within calls (e ∷ h) = end_within calls e && ended_within calls h

-- whether each of these calls has ended or is a mutation
abbrev pub placeable : List Entry → List ℕ → Bool
placeable h [] = true
placeable h (call ∷ calls) = (has_ended h call || is_mutation h call) && placeable h calls

-- whether a list of calls is a candidate
abbrev pub is_candidate : List Entry → List ℕ → Bool
is_candidate h c = (is_distinct_after [] c && ended_within c h) && placeable h c

-- whether b begins behind the End of a, or at all where a has ended before
abbrev pub begins_after : ℕ → ℕ → Bool → List Entry → Bool
begins_after a b ended [] = false
begins_after a b ended (e ∷ h) = (ended && begins b e) || begins_after a b (ended || ends a e) h

-- whether a key is among these
abbrev pub has_key : List Key → Key → Bool
has_key [] key = false
has_key (k ∷ keys) key = same_key k key || has_key keys key

-- whether an operation reads a key
abbrev pub reads_key : Op → Key → Bool
reads_key (Read k) key = same_key k key
reads_key (Write k value) key = false
reads_key (Snap keys) key = has_key keys key
reads_key (Txn keys guard writes) key = has_key keys key

-- whether an operation reads the key of one of these writes
abbrev pub reads_one_of : Op → List (Key × Expr ℕ) → Bool
reads_one_of op [] = false
reads_one_of op (write ∷ writes) = reads_key op write.0 || reads_one_of op writes

-- whether an operation reads a key that another one writes
abbrev pub reads_written : Op → Op → Bool
reads_written op (Read key) = false
reads_written op (Write key value) = reads_key op key
reads_written op (Snap keys) = false
reads_written op (Txn keys guard writes) = reads_one_of op writes

-- whether the operations that were found are so
abbrev pub meets_writes : Option Op → Option Op → Bool
meets_writes None mutation = false
meets_writes (Some op) None = false
meets_writes (Some op) (Some mutation) = reads_written op mutation

-- whether a is before b in real time, and is a mutation that b must follow then
abbrev pub follows : List Entry → ℕ → ℕ → Bool
follows h a b =
    begins_after a b false h &&
    (is_mutation h a && (is_mutation h b || meets_writes (found_op h b) (found_op h a)))

-- whether a must stand before b: it is potentially causal, or for its place in real time
abbrev pub must_precede : List Entry → List (ℕ × ℕ) → ℕ → ℕ → Bool
must_precede h causality a b = has_pair causality a b || follows h a b

-- whether none of these calls must stand before b
abbrev pub none_precedes : List Entry → List (ℕ × ℕ) → ℕ → List ℕ → Bool
none_precedes h causality b [] = true
none_precedes h causality b (a ∷ calls) =
    not (must_precede h causality a b) && none_precedes h causality b calls

-- whether no call stands in the order behind one that it must precede
abbrev pub keeps_order : List Entry → List (ℕ × ℕ) → List ℕ → Bool
keeps_order h causality [] = true
keeps_order h causality (b ∷ c) =
    none_precedes h causality b (b ∷ c) && keeps_order h causality c
