-- The prepared writers of a shard, and which of them a snapshot waits for or passes by.
use Rattle.std.specs.Prelude.{ℕ, Bool, true, false, ◌&&◌, ◌||◌, not, List, [], ◌∷◌, map, nat_le, Option, Some, None, if◌then◌else◌}
use Rattle.std.specs.List.{list_any, filter}
use Rattle.rss_names.specs.declared.attempt.Attempt.{Attempt}
use Rattle.rss_names.specs.declared.service.Key.{Key}
use Rattle.rss_wire.specs.declared.messages.Holder.{Holder}
use Rattle.rss_wire.specs.declared.messages.Skipped.{Skipped}
use Rattle.rss_tables.specs.Attempts.{same_attempt, attempt_lt}
use Rattle.rss_tables.specs.Locks.{has_key}

-- a prepared attempt: its coordinator, its prepare time, the time before which its call cannot end,
-- and what it writes here
pub record PreparedWriter : Type 0 where
  pub attempt : Attempt
  pub coordinator : ℕ
  pub prepare_time : ℕ
  pub earliest_end : ℕ
  pub writes : List (Key × ℕ)

-- the entry of a prepared attempt
abbrev pub prepared_of : List PreparedWriter → Attempt → Option PreparedWriter
prepared_of [] attempt = None
prepared_of (p ∷ prepared) attempt =
    if same_attempt attempt p.attempt then Some p else prepared_of prepared attempt

-- the prepared attempts
abbrev pub prepared_attempts : List PreparedWriter → List Attempt
prepared_attempts prepared = map (λ (p : PreparedWriter). p.attempt) prepared

-- an entry among entries by ascending attempt
abbrev pub with_prepared : List PreparedWriter → PreparedWriter → List PreparedWriter
with_prepared [] new = new ∷ []
with_prepared (p ∷ prepared) new =
    if attempt_lt new.attempt p.attempt then new ∷ p ∷ prepared else p ∷ with_prepared prepared new

-- an attempt is not prepared any more
abbrev pub without_prepared : List PreparedWriter → Attempt → List PreparedWriter
without_prepared prepared attempt = filter (λ (p : PreparedWriter). not (same_attempt attempt p.attempt)) prepared

-- whether a prepared attempt writes one of these keys
abbrev pub writes_any : List Key → PreparedWriter → Bool
writes_any keys p = list_any (λ (write : Key × ℕ). has_key keys write.0) p.writes

-- whether a prepared writer of asked keys may stand at or below the read time
abbrev pub is_asked_about : List Key → ℕ → PreparedWriter → Bool
is_asked_about keys read_time p = writes_any keys p && nat_le p.prepare_time read_time

-- whether a reader must wait for it: its call may have ended, or the reader may have seen it
abbrev pub must_wait_for : ℕ → ℕ → Bool → PreparedWriter → Bool
must_wait_for read_time least skip p =
    not skip || nat_le p.prepare_time least || nat_le p.earliest_end read_time

-- the prepared writers that block a snapshot
abbrev pub blocking : List PreparedWriter → List Key → ℕ → ℕ → Bool → List PreparedWriter
blocking prepared keys read_time least skip =
    filter (λ p. is_asked_about keys read_time p && must_wait_for read_time least skip p) prepared

-- the prepared writers that a snapshot passes by
abbrev pub passed_by : List PreparedWriter → List Key → ℕ → ℕ → Bool → List PreparedWriter
passed_by prepared keys read_time least skip =
    filter (λ p. is_asked_about keys read_time p && not (must_wait_for read_time least skip p)) prepared

-- blocking writers as a reply names them
abbrev pub named_blocking : List PreparedWriter → List Holder
named_blocking prepared = map (λ (p : PreparedWriter). record { attempt = p.attempt; coordinator = p.coordinator }) prepared

-- writers passed by as a reply names them
abbrev pub named_skipped : List PreparedWriter → List Skipped
named_skipped prepared = map (λ (p : PreparedWriter). record {
  attempt = p.attempt;
  coordinator = p.coordinator;
  prepare_time = p.prepare_time;
}) prepared
