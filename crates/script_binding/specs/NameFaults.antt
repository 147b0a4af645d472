-- names that cannot stand in a statement: each answers the token that shows it, if any
use Rattle.std.specs.Prelude.{ℕ, if◌then◌else◌, Bool, true, false, not, ◌&&◌, List, [], ◌∷◌, ◌++◌, Option, Some, None, is_some}
use Rattle.std.specs.Option.{option_or, option_map_or, option_and_then}
use Rattle.std.specs.List.{list_any}
use Rattle.std.specs.Str.{bytes_eq}
use Rattle.rss_names.specs.declared.service.ServiceId.{ServiceId}
use Rattle.rss_names.specs.declared.service.ServiceId.TheVariants.{Txn as TxnService}
use Rattle.rss_names.specs.Services.{same_service}
use Rattle.pipeline_lang.specs.declared.script.Expr.{Expr}
use Rattle.pipeline_lang.specs.declared.script.Compare.{Compare}
use Rattle.pipeline_lang.specs.declared.script.Statement.TheVariants.{Snap, Txn}
use Rattle.script_binding.specs.declared.mention.Mention.{Mention}
use Rattle.script_binding.specs.declared.mention.Role.{Role}
use Rattle.script_binding.specs.declared.mention.Role.TheVariants.{Variable, Register, Key, Stage, Pipe}
use Rattle.pipeline_lang.specs.Statements.{Raw}
use Rattle.script_binding.specs.Mentions.{in_pairs, written_keys, first_write}
use Rattle.script_binding.specs.Naming.{Naming, register_of, key_of, stage_of, pipe_of}

-- whether a name in this role is one of the file: every variable is known
abbrev pub is_known_as : Naming → List ℕ → Role → Bool
is_known_as n name Variable = true
is_known_as n name Register = is_some (register_of n name)
is_known_as n name Key = is_some (key_of n name)
is_known_as n name Stage = is_some (stage_of n name)
is_known_as n name Pipe = is_some (pipe_of n name)

-- the first name that is none of the file
abbrev pub first_unknown : Naming → List Mention → Option ℕ
first_unknown n [] = None
first_unknown n (m ∷ ms) = if is_known_as n m.name m.role then first_unknown n ms else Some m.token

-- whether a name stands for a key
abbrev pub is_key : Role → Bool
is_key Key = true
is_key Variable = false
is_key Register = false
is_key Stage = false
is_key Pipe = false

-- the service of the key of a name
abbrev pub service_named : Naming → List ℕ → ServiceId
service_named n name = option_map_or (λ k. k.service) (key_of n name) (TxnService 0)

-- whether a name stands for a key of another service than this one
abbrev pub is_foreign : Naming → ServiceId → Mention → Bool
is_foreign n service m = is_key m.role && not (same_service service (service_named n m.name))

-- the first key of another service than this one
abbrev pub foreign_to : Naming → ServiceId → List Mention → Option ℕ
foreign_to n service [] = None
foreign_to n service (m ∷ ms) = if is_foreign n service m then Some m.token else foreign_to n service ms

-- the service of the first key
abbrev pub first_service : Naming → List Mention → Option ServiceId
first_service n [] = None
first_service n (m ∷ ms) = if is_key m.role then Some (service_named n m.name) else first_service n ms

-- the first key of another service than the first key
abbrev pub first_foreign : Naming → List Mention → Option ℕ
first_foreign n ms = option_and_then (λ service. foreign_to n service ms) (first_service n ms)

-- whether two roles are both keys or both not
abbrev pub same_set : Role → Role → Bool
same_set a b = if is_key a then is_key b else not (is_key b)

-- whether a member of a list repeats another: keys and variables are two sets
abbrev pub repeats : Mention → Mention → Bool
repeats m before = same_set m.role before.role && bytes_eq m.name before.name

-- the first member that repeats one of these or an earlier one
abbrev pub repeat_behind : List Mention → List Mention → Option ℕ
repeat_behind before [] = None
repeat_behind before (m ∷ ms) =
    if list_any (repeats m) before then Some m.token else repeat_behind (before ++ m ∷ []) ms

-- the first member of a list that stands in it before
abbrev pub first_repeat : List Mention → Option ℕ
first_repeat ms = repeat_behind [] ms

-- a key or a variable twice in the lists of a `txn`: the first that repeats
abbrev pub double_in_txn : List (List ℕ × List ℕ) → Option (Compare (List ℕ)) → List (List ℕ × Expr (List ℕ)) → Option ℕ
double_in_txn pairs guard writes =
    option_or (first_repeat (in_pairs 1 pairs)) (first_repeat (written_keys (first_write pairs guard) writes))

-- a key or a variable twice in one list: the first that repeats
abbrev pub first_double : Raw → Option ℕ
first_double (Snap pairs) = first_repeat (in_pairs 1 pairs)
first_double (Txn pairs guard writes) = double_in_txn pairs guard writes
first_double s = None
