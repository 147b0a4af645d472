-- The pairs beside keys after entries join and leave.
use Rattle.std.proofs.Common.{◌≡◌, Bool, true, false, ◌&&◌, ◌||◌, not, List, Option, Some, None, refl, sym, ap, ◌∙◌}
use Rattle.rss_names.specs.declared.attempt.Attempt.{Attempt}
use Rattle.rss_names.specs.declared.service.Key.{Key}
use Rattle.rss_tables.specs.Attempts.{same_attempt}
use Rattle.rss_tables.specs.Locks.{has_key}
use Rattle.attempt_index.specs.declared.index.KeyAttempt.{KeyAttempt}
use Rattle.attempt_index.specs.Ascending.{ascends}
use Rattle.attempt_index.specs.Entries.{entry_of, with_entry, without_entry, entry_has, IsIndexOf}
use Rattle.attempt_index.specs.KeyIndex.{key_attempt_lt, is_beside, with_keys, without_keys}
use Rattle.attempt_index.proofs.Indexed.{same_attempt-Decides, has-joined, has-gone, and-true}
use Rattle.attempt_index.proofs.Entries.{one_more, one_less, found-with, found-without}

or-none : (b : Bool) → (b || false) ≡ b
or-none true = refl
or-none false = refl

and-not : (b : Bool) → (b && not b) ≡ false
and-not true = refl
and-not false = refl

module _ {E : Type 0} (at : E → Attempt) (keys : E → List Key) where
  -- the pairs are again those of the entries, once one more is there
  pub indexed-with : (index : List KeyAttempt) (ps : List E) (new : E) → IsIndexOf at keys index ps → entry_of at ps (at new) ≡ None → IsIndexOf at keys (with_keys index (at new) (keys new)) (with_entry at ps new)
  indexed-with index ps new h free = record { pairs = λ key a. has-joined index (at new) (keys new) key a ∙ go key a (same_attempt a (at new)) refl ∙ ap (λ (o : Option E). entry_has keys o key) (sym (found-with at ps new a free)) }
    where
      go : (key : Key) (a : Attempt) (s : Bool) → same_attempt a (at new) ≡ s → (is_beside index key a || (same_attempt a (at new) && has_key (keys new) key)) ≡ entry_has keys (one_more at new a (entry_of at ps a)) key
      go key a true e =
          let here : a ≡ (at new) = (same_attempt-Decides a (at new)).0 e in
          let none : is_beside index key a ≡ false = h.pairs key a ∙ ap (λ (x : Attempt). entry_has keys (entry_of at ps x) key) here ∙ ap (λ (o : Option E). entry_has keys o key) free in
          rw (e, none) refl
      go key a false e = rw e (or-none (is_beside index key a) ∙ h.pairs key a)

  -- and once one is not any more
  pub indexed-without : (index : List KeyAttempt) (ps : List E) (p : E) (gone : Attempt) → IsIndexOf at keys index ps → ascends key_attempt_lt index ≡ true → entry_of at ps gone ≡ Some p → IsIndexOf at keys (without_keys index gone (keys p)) (without_entry at ps gone)
  indexed-without index ps p gone h up there = record { pairs = λ key a. has-gone index gone (keys p) key a up ∙ go key a (same_attempt a gone) refl ∙ ap (λ (o : Option E). entry_has keys o key) (sym (found-without at ps gone a)) }
    where
      go : (key : Key) (a : Attempt) (s : Bool) → same_attempt a gone ≡ s → (is_beside index key a && not (same_attempt a gone && has_key (keys p) key)) ≡ entry_has keys (one_less at gone a (entry_of at ps a)) key
      go key a true e =
          let here : a ≡ gone = (same_attempt-Decides a gone).0 e in
          let own : is_beside index key a ≡ has_key (keys p) key = h.pairs key a ∙ ap (λ (x : Attempt). entry_has keys (entry_of at ps x) key) here ∙ ap (λ (o : Option E). entry_has keys o key) there in
          rw (e, own) (and-not (has_key (keys p) key))
      go key a false e = rw e (sym (and-true (is_beside index key a)) ∙ h.pairs key a)
