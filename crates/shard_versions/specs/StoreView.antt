-- The versions of a shard's keys as callers see them.
use Rattle.std.specs.Prelude.{Bool, true, List, [], ◌∷◌, if◌then◌else◌}
use Rattle.rss_names.specs.declared.service.Key.{Key}
use Rattle.rss_names.specs.Services.{same_key}
use Rattle.rss_tables.specs.Versions.{KeyVersions}

-- the keys with their versions, and for each of them whether there is room for one more version
pub record StoreView : Type 0 where
  pub store : List KeyVersions
  pub rooms : List Bool

-- whether there is room for one more version of a key; a key that is not there needs none
abbrev pub has_room_in : List KeyVersions → List Bool → Key → Bool
has_room_in [] rooms key = true
has_room_in (kv ∷ store) [] key = true
has_room_in (kv ∷ store) (room ∷ rooms) key = if same_key kv.key key then room else has_room_in store rooms key

-- whether there is room for one more version of a key
abbrev pub has_room : StoreView → Key → Bool
has_room view key = has_room_in view.store view.rooms key
