-- The values of keys: a key without a default is missing, a value is of the wrong kind, or it is outside its range, in this order.
use Rattle.std.specs.Prelude.{ℕ, ◌&&◌, ◌||◌, ◌==◌, nat_le, ℤ, pos, negsuc, List, Option, Some, None, Result, Ok, Err, cond}
use Rattle.rss_names.specs.Names.{is_name}
use Rattle.toml.specs.Data.{Data, Members, as_integer, as_str}
use Rattle.pipeline_tables.specs.declared.fault.FaultKind.TheVariants.{OverLimit, MissingKey, WrongKind}
use Rattle.pipeline_tables.specs.declared.fault.Place.{Place}
use Rattle.pipeline_tables.specs.declared.fault.FileFault.{FileFault}
use Rattle.pipeline_tables.specs.Faults.{◌>>=◌, fault}
use Rattle.pipeline_tables.specs.Keys.{value_at}

-- a value that is there
abbrev pub required : Place → Option Data → Result Data FileFault
required at (Some value) = Ok value
required at None = Err (fault MissingKey at)

-- what a value says, or the default of a key that is not there
abbrev pub or_default : {A : Type 0} → A → (Data → Result A FileFault) → Option Data → Result A FileFault
or_default default says (Some value) = says value
or_default default says None = Ok default

-- an integer in a range
abbrev pub in_range : ℕ → ℕ → Place → Option ℤ → Result ℕ FileFault
in_range least most at (Some (pos n)) = cond (nat_le least n && nat_le n most) (Ok n) (Err (fault OverLimit at))
in_range least most at (Some (negsuc n)) = Err (fault OverLimit at)
in_range least most at None = Err (fault WrongKind at)

-- a number in a range
unfoldable pub number_of : ℕ → ℕ → Place → Data → Result ℕ FileFault
number_of least most at value = in_range least most at (as_integer value)

-- a number in a range at a key that must be there
unfoldable pub number_at : ℕ → ℕ → Place → Members → Result ℕ FileFault
number_at least most at members = required at (value_at at.key members) >>= number_of least most at

-- a number in a range at a key with a default
unfoldable pub number_or : ℕ → ℕ → ℕ → Place → Members → Result ℕ FileFault
number_or default least most at members = or_default default (number_of least most at) (value_at at.key members)

-- a number that may be there
abbrev pub perhaps_number : ℕ → ℕ → Place → Data → Result (Option ℕ) FileFault
perhaps_number least most at value = number_of least most at value >>= λ n. Ok (Some n)

-- a number in a range at a key that need not be there
unfoldable pub optional_number : ℕ → ℕ → Place → Members → Result (Option ℕ) FileFault
optional_number least most at members = or_default None (perhaps_number least most at) (value_at at.key members)

-- an integer that is 3, 5 or 7
abbrev pub three_five_seven : Place → Option ℤ → Result ℕ FileFault
three_five_seven at (Some (pos n)) = cond (n == 3 || n == 5 || n == 7) (Ok n) (Err (fault WrongKind at))
three_five_seven at (Some (negsuc n)) = Err (fault WrongKind at)
three_five_seven at None = Err (fault WrongKind at)

-- a number of replicas
unfoldable pub replicas_of : Place → Data → Result ℕ FileFault
replicas_of at value = three_five_seven at (as_integer value)

-- a number of replicas at a key with a default
unfoldable pub replicas_or : ℕ → Place → Members → Result ℕ FileFault
replicas_or default at members = or_default default (replicas_of at) (value_at at.key members)

-- a text
abbrev pub some_text : Place → Option (List ℕ) → Result (List ℕ) FileFault
some_text at (Some text) = Ok text
some_text at None = Err (fault WrongKind at)

-- a text at a key that must be there
unfoldable pub text_at : Place → Members → Result (List ℕ) FileFault
text_at at members = required at (value_at at.key members) >>= λ value. some_text at (as_str value)

-- a text that is a name
abbrev pub named : Place → List ℕ → Result (List ℕ) FileFault
named at text = cond (is_name text) (Ok text) (Err (fault WrongKind at))

-- a name
unfoldable pub name_of : Place → Data → Result (List ℕ) FileFault
name_of at value = some_text at (as_str value) >>= named at

-- a name at a key that must be there
unfoldable pub name_at : Place → Members → Result (List ℕ) FileFault
name_at at members = required at (value_at at.key members) >>= name_of at

-- a name that may be there
abbrev pub perhaps_name : Place → Data → Result (Option (List ℕ)) FileFault
perhaps_name at value = name_of at value >>= λ name. Ok (Some name)

-- a name at a key that need not be there
unfoldable pub optional_name : Place → Members → Result (Option (List ℕ)) FileFault
optional_name at members = or_default None (perhaps_name at) (value_at at.key members)
