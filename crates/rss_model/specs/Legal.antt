-- A legal order of calls: each call is shown what the calls before it have written.
use Rattle.std.specs.Prelude.{◌≡◌, ℕ, zero, suc, List, [], ◌∷◌, map, get_or, if◌then◌else◌, IsTrue, IsFalse}
use Rattle.rss_names.specs.declared.service.Key.{Key}
use Rattle.rss_names.specs.Services.{same_key}
use Rattle.rss_model.specs.declared.op.Op.{Op}
use Rattle.rss_model.specs.declared.op.Shown.{Shown}
use Rattle.rss_model.specs.declared.history.Entry.{Entry}
use Rattle.rss_model.specs.Operation.{reads_of, written_by, guard_holds, values_of}
use Rattle.rss_model.specs.History.{has_begun, has_ended, op_of, reply_of}
use Rattle.rss_model.specs.Mutation.{is_mutation}
use Rattle.rss_model.specs.Candidate.{StandsAt}

-- a table of all keys: what it shows of each, its value and the call that wrote it
abbrev pub Table : Type 0
Table = Key → Shown

-- at first each key has value 0 and writer 0
abbrev pub opening_table : Table
opening_table key = record { key = key; value = 0; writer = 0 }

-- what the table shows of the keys that an operation reads
abbrev pub shown_by : Table → Op → List Shown
shown_by table op = map table (reads_of op)

-- what is shown of a key after a call's writes
abbrev pub shown_after : Shown → ℕ → List (Key × ℕ) → Shown
shown_after shown call [] = shown
shown_after shown call (write ∷ writes) =
    shown_after
    (if same_key shown.key write.0
    then record shown { value = write.1; writer = call }
    else shown)
    call writes

-- the table after a call's turn: a mutation's writes are made, over what it was shown itself
abbrev pub table_after : List Entry → Table → ℕ → Table
table_after h table call key =
    if is_mutation h call
    then shown_after (table key) call
    (written_by (op_of h call) (values_of (shown_by table (op_of h call))))
    else table key

-- the table at the turn of the call at a place: all calls before it are applied
unfoldable pub table_at : List Entry → List ℕ → ℕ → Table
table_at h c zero = opening_table
table_at h c (suc i) = table_after h (table_at h c i) (get_or c i 0)

-- a call meets the table at its turn: it replied what the table shows, or its guard is true there
pub record MeetsTable (h : List Entry) (table : Table) (call : ℕ) : Type 0 where
  pub begun : IsTrue (has_begun h call)
  pub reply : IsTrue (has_ended h call) → reply_of h call ≡ shown_by table (op_of h call)
  pub guard : IsFalse (has_ended h call) →
      IsTrue (guard_holds (op_of h call) (values_of (shown_by table (op_of h call))))

-- the calls, applied from the first to the last, each meet the table
abbrev pub Legal : List Entry → List ℕ → Type 0
Legal h c = (call i : ℕ) → StandsAt c call i → MeetsTable h (table_at h c i) call
