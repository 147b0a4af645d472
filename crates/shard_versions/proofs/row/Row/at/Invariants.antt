use Rattle.shard_versions.proofs.row.Row.at.Given as goal

abbrev pub ghosts-place_at : goal.ghosts-place_at
ghosts-place_at a = record { name = a.blank.name; parts = a.blank.parts }
