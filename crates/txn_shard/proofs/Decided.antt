-- The decision kept for an attempt is what a map of decisions finds.
use Rattle.std.proofs.Common.{◌≡◌, Bool, true, false, cond, List, [], ◌∷◌, ◌++◌, Option, None, Some, is_some, refl, sym, ap, ◌∙◌, arith}
use Rattle.std.proofs.lemmas.Grind.{common_steps}
use Rattle.std.specs.Map.{lookup}
use Rattle.indexmap.specs.IndexMap.{insert_entry}
use Rattle.rss_names.specs.declared.attempt.Attempt.{Attempt}
use Rattle.rss_wire.specs.declared.messages.Outcome.{Outcome}
use Rattle.rss_tables.specs.Attempts.{same_attempt}
use Rattle.rss_tables.specs.ShardRow.{decision_in}
use Rattle.txn_shard.specs.Parts.{with_decision}

pub lookup-decision : (entries : List (Attempt × Outcome)) (attempt : Attempt) → lookup (same_attempt attempt) entries ≡ decision_in entries attempt
lookup-decision [] attempt = refl
lookup-decision (d ∷ entries) attempt = let ih = lookup-decision entries attempt in grind (arith, common_steps, ih)

-- a decision that is found is found before those behind it
behind : (decisions : List (Attempt × Outcome)) (other : Attempt) (d : Attempt × Outcome) (kept : Outcome) → decision_in decisions other ≡ Some kept → decision_in (decisions ++ d ∷ []) other ≡ Some kept
behind [] other d kept h = absurd (let x : None ≡ Some kept = h in cc)
behind (e ∷ decisions) other d kept h = go (same_attempt other e.0) refl (behind decisions other d kept)
  where
    go : (b : Bool) → same_attempt other e.0 ≡ b → (decision_in decisions other ≡ Some kept → decision_in (decisions ++ d ∷ []) other ≡ Some kept) → decision_in ((e ∷ decisions) ++ d ∷ []) other ≡ Some kept
    go true q ih = rw q (rw q at h)
    go false q ih = rw q (ih (rw q at h))

-- a decision of an attempt that has none goes last
pub insert-decision : (entries : List (Attempt × Outcome)) (attempt : Attempt) (outcome : Outcome) → decision_in entries attempt ≡ None → insert_entry same_attempt entries attempt outcome ≡ entries ++ (attempt, outcome) ∷ []
insert-decision [] attempt outcome n = refl
insert-decision (d ∷ entries) attempt outcome n = go (same_attempt attempt d.0) refl (insert-decision entries attempt outcome)
  where
    go : (b : Bool) → same_attempt attempt d.0 ≡ b → (decision_in entries attempt ≡ None → insert_entry same_attempt entries attempt outcome ≡ entries ++ (attempt, outcome) ∷ []) → insert_entry same_attempt (d ∷ entries) attempt outcome ≡ (d ∷ entries) ++ (attempt, outcome) ∷ []
    go true q ih = absurd (let x = rw q at n in cc)
    go false q ih = rw q (ap (λ (l : List (Attempt × Outcome)). d ∷ l) (ih (rw q at n)))

-- the first decision that is kept for an attempt stays
pub first-stays : (decisions : List (Attempt × Outcome)) (attempt other : Attempt) (outcome kept : Outcome) → decision_in decisions other ≡ Some kept → decision_in (with_decision decisions attempt outcome) other ≡ Some kept
first-stays decisions attempt other outcome kept h = go (is_some (decision_in decisions attempt)) refl
  where
    go : (b : Bool) → is_some (decision_in decisions attempt) ≡ b → decision_in (with_decision decisions attempt outcome) other ≡ Some kept
    go true q = rw q h
    go false q = rw q (behind decisions other (attempt, outcome) kept h)

pub with-new : (decisions : List (Attempt × Outcome)) (attempt : Attempt) (outcome : Outcome) → decision_in decisions attempt ≡ None → with_decision decisions attempt outcome ≡ decisions ++ (attempt, outcome) ∷ []
with-new decisions attempt outcome n = rw n refl

pub ruleset decided = (lookup-decision, insert-decision)
