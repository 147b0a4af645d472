-- Entries of attempts by ascending attempt, no attempt twice, and what stands beside their keys.
use Rattle.std.specs.Prelude.{◌≡◌, Bool, false, not, List, [], ◌∷◌, Option, Some, None, if◌then◌else◌}
use Rattle.std.specs.List.{filter}
use Rattle.rss_names.specs.declared.attempt.Attempt.{Attempt}
use Rattle.rss_names.specs.declared.service.Key.{Key}
use Rattle.rss_tables.specs.Attempts.{same_attempt, attempt_lt}
use Rattle.rss_tables.specs.Locks.{has_key}
use Rattle.attempt_index.specs.declared.index.KeyAttempt.{KeyAttempt}
use Rattle.attempt_index.specs.KeyIndex.{is_beside}

-- the entry of an attempt
abbrev pub entry_of : {E : Type 0} → (E → Attempt) → List E → Attempt → Option E
entry_of at [] attempt = None
entry_of at (e ∷ entries) attempt = if same_attempt attempt (at e) then Some e else entry_of at entries attempt

-- an entry among entries
abbrev pub with_entry : {E : Type 0} → (E → Attempt) → List E → E → List E
with_entry at [] new = new ∷ []
with_entry at (e ∷ entries) new =
    if attempt_lt (at new) (at e) then new ∷ e ∷ entries else e ∷ with_entry at entries new

-- entries without that of an attempt
abbrev pub without_entry : {E : Type 0} → (E → Attempt) → List E → Attempt → List E
without_entry {E} at entries attempt = filter (λ (e : E). not (same_attempt attempt (at e))) entries

-- whether an entry has a key among its keys
abbrev pub entry_has : {E : Type 0} → (E → List Key) → Option E → Key → Bool
entry_has keys None key = false
entry_has keys (Some e) key = has_key (keys e) key

-- an attempt stands beside a key exactly where its entry has the key
pub record IsIndexOf {E : Type 0} (at : E → Attempt) (keys : E → List Key) (index : List KeyAttempt) (entries : List E) : Type 0 where
  pub pairs : (key : Key) (attempt : Attempt) → is_beside index key attempt ≡ entry_has keys (entry_of at entries attempt) key
