-- The attempt of a prepared writer, and the keys that it writes.
use Rattle.std.specs.Prelude.{ℕ, List, map}
use Rattle.rss_names.specs.declared.attempt.Attempt.{Attempt}
use Rattle.rss_names.specs.declared.service.Key.{Key}
use Rattle.rss_tables.specs.Prepared.{PreparedWriter}

abbrev pub attempt_of : PreparedWriter → Attempt
attempt_of p = p.attempt

-- the keys of writes
abbrev pub written : List (Key × ℕ) → List Key
written writes = map (λ (w : Key × ℕ). w.0) writes

abbrev pub keys_of : PreparedWriter → List Key
keys_of p = written p.writes
