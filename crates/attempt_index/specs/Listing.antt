-- How the entries of asked keys are listed: key by key, each entry once.
use Rattle.std.specs.Prelude.{Bool, List, [], ◌∷◌, Option, Some, None, if◌then◌else◌}
use Rattle.rss_names.specs.declared.attempt.Attempt.{Attempt}
use Rattle.rss_names.specs.declared.service.Key.{Key}
use Rattle.rss_tables.specs.Attempts.{attempt_lt}
use Rattle.attempt_index.specs.declared.index.KeyAttempt.{KeyAttempt}
use Rattle.attempt_index.specs.Ascending.{put_in}
use Rattle.attempt_index.specs.Entries.{entry_of}
use Rattle.attempt_index.specs.KeyIndex.{pairs_of}

-- an entry that passes a test joins a list, once, by what names it
abbrev pub listed_one : {E X : Type 0} → (X → X → Bool) → (E → X) → (E → Bool) → Option E → List X → List X
listed_one before name test None list = list
listed_one before name test (Some e) list = if test e then put_in before list (name e) else list

-- the entries of the attempts of pairs join
abbrev pub listed_pairs : {E X : Type 0} → (E → Attempt) → (X → X → Bool) → (E → X) → (E → Bool) → List E → List KeyAttempt → List X → List X
listed_pairs at before name test entries [] list = list
listed_pairs at before name test entries (p ∷ pairs) list =
    listed_pairs at before name test entries pairs (listed_one before name test (entry_of at entries p.attempt) list)

-- the entries of all that stand beside one of these keys join
abbrev pub listed_keys : {E X : Type 0} → (E → Attempt) → (X → X → Bool) → (E → X) → (E → Bool) → List E → List KeyAttempt → List Key → List X → List X
listed_keys at before name test entries index [] list = list
listed_keys at before name test entries index (k ∷ keys) list =
    listed_keys at before name test entries index keys (listed_pairs at before name test entries (pairs_of index k) list)

-- the attempts of pairs join a list of attempts, each once
abbrev pub with_attempts : List Attempt → List KeyAttempt → List Attempt
with_attempts list [] = list
with_attempts list (p ∷ pairs) = with_attempts (put_in attempt_lt list p.attempt) pairs

-- the attempts beside one of these keys join
abbrev pub with_beside : List KeyAttempt → List Key → List Attempt → List Attempt
with_beside index [] list = list
with_beside index (k ∷ keys) list = with_beside index keys (with_attempts list (pairs_of index k))
