-- The versions of a shard's keys, in ascending time.
use Rattle.std.specs.Prelude.{ℕ, Bool, true, false, ◌&&◌, List, [], ◌∷◌, ◌++◌, map, nat_le, nat_lt, if◌then◌else◌}
use Rattle.rss_names.specs.declared.service.Key.{Key}
use Rattle.rss_names.specs.Services.{same_key}
use Rattle.rss_wire.specs.declared.messages.Version.{Version}

-- a key with its versions, the newest last; the opening version is not listed
pub record KeyVersions : Type 0 where
  pub key : Key
  pub versions : List Version

-- the version that each key has from the beginning
abbrev pub opening_version : Version
opening_version = record { value = 0; time = 0; writer = 0 }

-- keys that were never written
abbrev pub unwritten : List Key → List KeyVersions
unwritten keys = map (λ key. record { key = key; versions = [] }) keys

-- the versions of a key
abbrev pub versions_of : List KeyVersions → Key → List Version
versions_of [] key = []
versions_of (kv ∷ store) key = if same_key kv.key key then kv.versions else versions_of store key

-- the last of these versions that is not above a time, else the one found before
abbrev pub last_upto : Version → ℕ → List Version → Version
last_upto found time [] = found
last_upto found time (v ∷ versions) = last_upto (if nat_le v.time time then v else found) time versions

-- the version of a key at a time: the newest one not above it
abbrev pub version_at : List KeyVersions → Key → ℕ → Version
version_at store key time = last_upto opening_version time (versions_of store key)

-- the last of versions, else the one found before
abbrev pub last_version : Version → List Version → Version
last_version found [] = found
last_version found (v ∷ versions) = last_version v versions

-- the newest version of a key
abbrev pub newest_version : List KeyVersions → Key → Version
newest_version store key = last_version opening_version (versions_of store key)

-- a key has one more version, the newest
abbrev pub with_version : List KeyVersions → Key → Version → List KeyVersions
with_version [] key v = []
with_version (kv ∷ store) key v =
    if same_key kv.key key then
    record kv { versions = kv.versions ++ v ∷ [] } ∷ store
    else
    kv ∷ with_version store key v

-- the newest versions of keys, each with its key
abbrev pub newest_of : List KeyVersions → List Key → List (Key × Version)
newest_of store keys = map (λ key. (key, newest_version store key)) keys

-- the versions of keys at a time, each with its key
abbrev pub versions_at : List KeyVersions → List Key → ℕ → List (Key × Version)
versions_at store keys time = map (λ key. (key, version_at store key time)) keys
