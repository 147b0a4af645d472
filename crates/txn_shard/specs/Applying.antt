-- One write of a committed attempt after another.
use Rattle.std.specs.Prelude.{ℕ, Bool, ◌||◌, List, if◌then◌else◌}
use Rattle.std.specs.List.{list_all}
use Rattle.rss_names.specs.declared.service.Key.{Key}
use Rattle.rss_tables.specs.Versions.{KeyVersions, versions_of, with_version}
use Rattle.rss_tables.specs.ShardRow.{written_since}
use Rattle.shard_versions.specs.StoreView.{StoreView, has_room}

-- one write becomes a version at its commit time, but where its key has a later one
abbrev pub applied_one : List KeyVersions → ℕ → ℕ → Key → ℕ → List KeyVersions
applied_one store call time key value =
    if written_since (versions_of store key) time then store else with_version store key record { value = value; time = time; writer = call }

-- whether a write can become a version: there is room, or its key has a later one
abbrev pub can_apply_one : StoreView → ℕ → Key → Bool
can_apply_one view time key = has_room view key || written_since (versions_of view.store key) time

-- whether these writes can become versions
abbrev pub can_apply : StoreView → ℕ → List (Key × ℕ) → Bool
can_apply view time writes = list_all (λ (write : Key × ℕ). can_apply_one view time write.0) writes

-- whether there is room for one more version of each key written
abbrev pub have_room : StoreView → List (Key × ℕ) → Bool
have_room view writes = list_all (λ (write : Key × ℕ). has_room view write.0) writes
