-- What a commit writes.
use Rattle.std.specs.Prelude.{ℕ, ◌<◌, Bool, List, [], ◌∷◌, Option, Some, None, if◌then◌else◌}
use Rattle.std.specs.List.{list_any}
use Rattle.rss_names.specs.declared.service.Key.{Key}
use Rattle.rss_names.specs.Services.{same_key}
use Rattle.rss_wire.specs.declared.messages.Version.{Version}
use Rattle.rss_tables.specs.Prepared.{PreparedWriter}
use Rattle.rss_tables.specs.Versions.{KeyVersions}

-- the value that writes have for a key: the first one
abbrev pub written_value : List (Key × ℕ) → Key → Option ℕ
written_value [] key = None
written_value (w ∷ writes) key = if same_key w.0 key then Some w.1 else written_value writes key

-- whether a store has a key
abbrev pub keeps_key : List KeyVersions → Key → Bool
keeps_key store key = list_any (λ (kv : KeyVersions). same_key kv.key key) store

-- a version is below a time
abbrev pub IsBelow : ℕ → Version → Type 0
IsBelow time v = v.time < time

-- the version that the commit of a prepared attempt at a time makes of a value
abbrev pub version_by : PreparedWriter → ℕ → ℕ → Version
version_by p time value = record { value = value; time = time; writer = p.attempt.call }
