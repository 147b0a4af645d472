-- A table of all keys, kept by number.
use Rattle.std.specs.Prelude.{ℕ, Bool, ◌&&◌, ◌==◌, Option, Some, None}
use Rattle.indexmap.specs.IndexMap.{IndexMap, get}
use Rattle.rss_names.specs.declared.service.Key.{Key}
use Rattle.rss_names.specs.declared.service.ServiceId.{ServiceId}
use Rattle.rss_names.specs.declared.service.ServiceId.TheVariants.{Txn, Reg}
use Rattle.rss_model.specs.declared.op.Shown.{Shown}
use Rattle.rss_model.specs.Legal.{Table, opening_table}
use Rattle.rss_check.specs.declared.table.KeyNumber.{KeyNumber}
use Rattle.rss_check.specs.declared.table.Written.{Written}

-- a key by the kind and the number of its service, and its index
abbrev pub number_within : ServiceId → ℕ → KeyNumber
number_within (Txn n) index = record { kind = 0; service = n; index = index }
number_within (Reg n) index = record { kind = 1; service = n; index = index }

abbrev pub number_of_key : Key → KeyNumber
number_of_key key = number_within key.service key.index

abbrev pub same_number : KeyNumber → KeyNumber → Bool
same_number a b = a.kind == b.kind && (a.service == b.service && a.index == b.index)

-- what is shown of a key by what was written last; by the opening value where nothing was
abbrev pub shown_or_opening : Key → Option Written → Shown
shown_or_opening key None = opening_table key
shown_or_opening key (Some written) = record { key = key; value = written.value; writer = written.writer }

-- what is shown of each key
abbrev pub table_in : {S : Type 0} → IndexMap KeyNumber Written S → Table
table_in map key = shown_or_opening key (get same_number map (number_of_key key))
