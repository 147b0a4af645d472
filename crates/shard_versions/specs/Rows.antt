-- The rows in which the versions are kept, one for each key.
use Rattle.std.specs.Prelude.{ℕ, zero, suc, Bool, List, [], ◌∷◌, map, if◌then◌else◌}
use Rattle.rss_names.specs.declared.service.Key.{Key}
use Rattle.rss_names.specs.Services.{same_key}
use Rattle.rss_wire.specs.declared.messages.Version.{Version}
use Rattle.rss_tables.specs.Versions.{KeyVersions}

-- a key with its versions, and whether there is room for one more
pub record RowView : Type 0 where
  pub kept : KeyVersions
  pub room : Bool

-- the keys with their versions
abbrev pub store_of : List RowView → List KeyVersions
store_of rows = map (λ (r : RowView). r.kept) rows

-- whether each has room
abbrev pub rooms_of : List RowView → List Bool
rooms_of rows = map (λ (r : RowView). r.room) rows

-- how many rows stand before the first one of a key
abbrev pub place_in : List RowView → Key → ℕ
place_in [] key = 0
place_in (r ∷ rows) key = if same_key r.kept.key key then 0 else suc (place_in rows key)

-- the times of versions, as the search by halves sees them
abbrev pub times_of : List Version → List (ℕ × ℕ)
times_of versions = map (λ (v : Version). (v.time, 0)) versions

-- the keys
abbrev pub keys_of : List KeyVersions → List Key
keys_of store = map (λ (kv : KeyVersions). kv.key) store

-- the first keys as they were never written, and the others as they are
abbrev pub cleared_upto : ℕ → List KeyVersions → List KeyVersions
cleared_upto zero store = store
cleared_upto (suc n) [] = []
cleared_upto (suc n) (kv ∷ store) = record { key = kv.key; versions = [] } ∷ cleared_upto n store
