-- The attempts found beside the asked keys are those in the way.
use Rattle.std.proofs.Common.{◌≡◌, ℕ, ◌≤◌, Bool, true, false, ◌||◌, List, [], ◌∷◌, length, map, filter, get_or, None, arith, refl, sym, ap, ◌∙◌}
use Rattle.std.specs.List.{list_any}
use Rattle.rss_names.specs.declared.attempt.Attempt.{Attempt}
use Rattle.rss_names.specs.declared.service.Key.{Key}
use Rattle.rss_tables.specs.Attempts.{same_attempt, attempt_lt}
use Rattle.rss_tables.specs.Locks.{LockHolder, has_key, conflicts, attempts_of}
use Rattle.attempt_index.specs.declared.index.KeyAttempt.{KeyAttempt}
use Rattle.attempt_index.specs.Ascending.{ascends}
use Rattle.attempt_index.specs.Entries.{IsIndexOf}
use Rattle.attempt_index.specs.Listing.{with_beside}
use Rattle.attempt_index.proofs.Sieve.{beside-keys, filters-agree, length-sieved}
use Rattle.shard_locks.specs.Holders.{attempt_of, reads_of, writes_of, holder_of}
use Rattle.shard_locks.proofs.Alike.{not-itself}

nobody : (hs : List LockHolder) → filter (λ (h : LockHolder). false) hs ≡ []
nobody [] = refl
nobody (h ∷ hs) = nobody hs

-- whether a holder writes one of these keys, and then whether it reads one
abbrev writes_one : List Key → LockHolder → Bool
writes_one writes h = false || list_any (λ (k : Key). has_key h.writes k) writes

abbrev uses_one : List Key → LockHolder → Bool
uses_one writes h = writes_one writes h || list_any (λ (k : Key). has_key h.reads k) writes

abbrev meets : List Key → List Key → LockHolder → Bool
meets reads writes h = uses_one writes h || list_any (λ (k : Key). has_key h.writes k) reads

module _ (readers writers : List KeyAttempt) (hs : List LockHolder) (up : ascends attempt_lt (map attempt_of hs) ≡ true) (reading : IsIndexOf attempt_of reads_of readers hs) (writing : IsIndexOf attempt_of writes_of writers hs) where
  first-is : (writes : List Key) → with_beside writers writes [] ≡ map attempt_of (filter (writes_one writes) hs)
  first-is writes =
      ap (λ (l : List LockHolder). with_beside writers writes (map attempt_of l)) (sym (nobody hs))
      ∙ beside-keys attempt_of (λ (h : LockHolder). false) writes_of writers writes hs up writing

  second-is : (writes : List Key) (first : List Attempt) → first ≡ with_beside writers writes [] → with_beside readers writes first ≡ map attempt_of (filter (uses_one writes) hs)
  second-is writes first e =
      ap (λ (l : List Attempt). with_beside readers writes l) (e ∙ first-is writes)
      ∙ beside-keys attempt_of (writes_one writes) reads_of readers writes hs up reading

  third-is : (reads writes : List Key) (first second : List Attempt) → first ≡ with_beside writers writes [] → second ≡ with_beside readers writes first → with_beside writers reads second ≡ map attempt_of (filter (meets reads writes) hs)
  third-is reads writes first second e f =
      ap (λ (l : List Attempt). with_beside writers reads l) (f ∙ second-is writes first e)
      ∙ beside-keys attempt_of (uses_one writes) writes_of writers reads hs up writing

  fits : (test : LockHolder → Bool) (list : List Attempt) (room : ℕ) → list ≡ map attempt_of (filter test hs) → length hs ≤ room → length list ≤ room
  fits test list room e l = omega (arith, ap (λ (l : List Attempt). length l) e, length-sieved attempt_of attempt_of test hs, l)

  pub first-fits : (writes : List Key) (room : ℕ) → length hs ≤ room → length (with_beside writers writes []) ≤ room
  first-fits writes room l = fits (writes_one writes) (with_beside writers writes []) room (first-is writes) l

  pub second-fits : (writes : List Key) (first : List Attempt) (room : ℕ) → first ≡ with_beside writers writes [] → length hs ≤ room → length (with_beside readers writes first) ≤ room
  second-fits writes first room e l = fits (uses_one writes) (with_beside readers writes first) room (second-is writes first e) l

  pub third-fits : (reads writes : List Key) (first second : List Attempt) (room : ℕ) → first ≡ with_beside writers writes [] → second ≡ with_beside readers writes first → length hs ≤ room → length (with_beside writers reads second) ≤ room
  third-fits reads writes first second room e f l = fits (meets reads writes) (with_beside writers reads second) room (third-is reads writes first second e f) l

  -- what three lists give one after another
  pub found-in-way : (a : Attempt) (reads writes : List Key) (first second third : List Attempt) → holder_of hs a ≡ None → first ≡ with_beside writers writes [] → second ≡ with_beside readers writes first → third ≡ with_beside writers reads second → third ≡ attempts_of (filter (conflicts a reads writes) hs)
  found-in-way a reads writes first second third free e f g =
      g ∙ third-is reads writes first second e f
      ∙ ap (λ (l : List LockHolder). map attempt_of l) (filters-agree (meets reads writes) (conflicts a reads writes) hs (λ i d l. agree (get_or hs i d) (not-itself hs a free i d l)))
    where
      agree : (h : LockHolder) → same_attempt a h.attempt ≡ false → meets reads writes h ≡ conflicts a reads writes h
      agree h s = rw s refl
