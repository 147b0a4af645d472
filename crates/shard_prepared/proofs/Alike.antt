-- The tables' words for prepared writers are those for any entries of attempts.
use Rattle.std.proofs.Common.{◌≡◌, Bool, true, false, List, [], ◌∷◌, refl, ap}
use Rattle.rss_names.specs.declared.attempt.Attempt.{Attempt}
use Rattle.rss_tables.specs.Attempts.{same_attempt, attempt_lt}
use Rattle.rss_tables.specs.Prepared.{PreparedWriter, prepared_of, with_prepared}
use Rattle.attempt_index.specs.Entries.{entry_of, with_entry}
use Rattle.shard_prepared.specs.Written.{attempt_of}

pub prepared-is : (ps : List PreparedWriter) (a : Attempt) → prepared_of ps a ≡ entry_of attempt_of ps a
prepared-is [] a = refl
prepared-is (p ∷ ps) a = go (same_attempt a p.attempt) refl (prepared-is ps a)
  where
    go : (b : Bool) → same_attempt a p.attempt ≡ b → prepared_of ps a ≡ entry_of attempt_of ps a → prepared_of (p ∷ ps) a ≡ entry_of attempt_of (p ∷ ps) a
    go true e ih = rw e refl
    go false e ih = rw e ih

pub with-is : (ps : List PreparedWriter) (new : PreparedWriter) → with_prepared ps new ≡ with_entry attempt_of ps new
with-is [] new = refl
with-is (p ∷ ps) new = go (attempt_lt new.attempt p.attempt) refl (with-is ps new)
  where
    go : (b : Bool) → attempt_lt new.attempt p.attempt ≡ b → with_prepared ps new ≡ with_entry attempt_of ps new → with_prepared (p ∷ ps) new ≡ with_entry attempt_of (p ∷ ps) new
    go true e ih = rw e refl
    go false e ih = rw e (ap (λ (l : List PreparedWriter). p ∷ l) ih)
