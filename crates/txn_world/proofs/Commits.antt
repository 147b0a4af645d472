-- The decision of the only committed attempt tells the time of its call.
use Rattle.std.proofs.Common.{◌≡◌, ℕ, ◌==◌, ◌&&◌, Bool, true, false, List, [], ◌∷◌, Option, Some, None, refl, sym, ap, ◌∙◌, arith}
use Rattle.std.specs.Prelude.{if◌then◌else◌}
use Rattle.rss_names.specs.declared.attempt.Attempt.{Attempt}
use Rattle.rss_wire.specs.declared.messages.Outcome.{Outcome}
use Rattle.rss_wire.specs.declared.messages.Outcome.TheVariants.{Committed, Aborted}
use Rattle.rss_tables.specs.Attempts.{same_attempt}
use Rattle.rss_tables.specs.ShardRow.{decision_in}
use Rattle.rss_machine.specs.Places.{committed_in, committed_time, first_time}
use Rattle.txn_world.specs.Shards.{time_kept}
use Rattle.txn_world.specs.Commits.{IsOnlyCommit, AreDecidedOnce, FindsCommit}

same_call : (a b : Attempt) → same_attempt a b ≡ true → b.call ≡ a.call
same_call a b e = both (a.call == b.call) (a.k == b.k) refl e
  where
    equal : (m n : ℕ) → (m == n) ≡ true → n ≡ m
    equal m n e = grind (arith, e)

    both : (p q : Bool) → (a.call == b.call) ≡ p → (p && q) ≡ true → b.call ≡ a.call
    both true q e1 e2 = equal a.call b.call e1
    both false q e1 e2 = cc

same_both : (a b : Attempt) → b.call ≡ a.call → b.k ≡ a.k → same_attempt a b ≡ true
same_both a b e f = grind (arith, e, f)

-- another attempt's decision says nothing of the time
other_says : (a b : Attempt) (outcome : Outcome) → ((time : ℕ) → outcome ≡ Committed time → b.call ≡ a.call → b.k ≡ a.k) → same_attempt a b ≡ false → (if b.call == a.call then committed_time outcome else None) ≡ None
other_says a b Aborted only e = go (b.call == a.call)
  where
    go : (p : Bool) → (if p then committed_time Aborted else None) ≡ None
    go true = refl
    go false = refl
other_says a b (Committed time) only e = go (b.call == a.call) refl
  where
    equal : (m n : ℕ) → (m == n) ≡ true → m ≡ n
    equal m n e = grind (arith, e)

    clash : same_attempt a b ≡ true → (Some time) ≡ None
    clash f = cc

    go : (p : Bool) → (b.call == a.call) ≡ p → (if p then committed_time (Committed time) else None) ≡ None
    go true f = clash (same_both a b (equal b.call a.call f) (only time refl (equal b.call a.call f)))
    go false f = refl

-- where the one attempt is not decided, no commit is found
none_found : (decisions : List (Attempt × Outcome)) (a : Attempt) → IsOnlyCommit a decisions → decision_in decisions a ≡ None → committed_in decisions a.call ≡ None
none_found [] a only e = refl
none_found (d ∷ decisions) a only e = go (none_found decisions a only.1) (same_attempt a d.0) refl e
  where
    go : (decision_in decisions a ≡ None → committed_in decisions a.call ≡ None) → (p : Bool) → same_attempt a d.0 ≡ p → (if p then Some d.1 else decision_in decisions a) ≡ None → committed_in (d ∷ decisions) a.call ≡ None
    go on true f e = cc
    go on false f e = ap (λ (t : Option ℕ). first_time t (committed_in decisions a.call)) (other_says a d.0 d.1 only.0 f) ∙ on e

-- the decision of the attempt itself
own_says : (decisions : List (Attempt × Outcome)) (a b : Attempt) (outcome : Outcome) → b.call ≡ a.call → committed_in decisions a.call ≡ None → first_time (if b.call == a.call then committed_time outcome else None) (committed_in decisions a.call) ≡ committed_time outcome
own_says decisions a b outcome e none =
    ap (λ (p : Bool). first_time (if p then committed_time outcome else None) (committed_in decisions a.call)) (equal b.call a.call e)
    ∙ ap (first_time (committed_time outcome)) none
    ∙ alone (committed_time outcome)
  where
    equal : (m n : ℕ) → m ≡ n → (m == n) ≡ true
    equal m n e = grind (arith, e)

    alone : (t : Option ℕ) → first_time t None ≡ t
    alone None = refl
    alone (Some t) = refl

same_decision : (decisions : List (Attempt × Outcome)) (a b : Attempt) → same_attempt a b ≡ true → decision_in decisions b ≡ None → decision_in decisions a ≡ None
same_decision decisions a b e h = ap (decision_in decisions) (sym (same a b e)) ∙ h
  where
    same : (x y : Attempt) → same_attempt x y ≡ true → y ≡ x
    same x y e = grind (arith, e)

pub finds_commit : FindsCommit
finds_commit [] a only once = refl
finds_commit (d ∷ decisions) a only once = go (finds_commit decisions a only.1 once.1) (same_attempt a d.0) refl
  where
    go : committed_in decisions a.call ≡ time_kept (decision_in decisions a) → (p : Bool) → same_attempt a d.0 ≡ p → committed_in (d ∷ decisions) a.call ≡ time_kept (if p then Some d.1 else decision_in decisions a)
    go on true f = own_says decisions a d.0 d.1 (same_call a d.0 f) (none_found decisions a only.1 (same_decision decisions a d.0 f once.0))
    go on false f = ap (λ (t : Option ℕ). first_time t (committed_in decisions a.call)) (other_says a d.0 d.1 only.0 f) ∙ on
