-- The commit of a call that its coordinator keeps is the decision of the one attempt that is committed.
use Rattle.std.proofs.Common.{◌≡◌, ℕ, Bool, true, false, List, [], ◌∷◌, ◌++◌, Option, Some, None, refl, sym, ap, ◌∙◌, subst, arith}
use Rattle.std.specs.Prelude.{⊤, ◌==◌, is_some, if◌then◌else◌}
use Rattle.std.proofs.lemmas.Bool.{eqb-true}
use Rattle.rss_names.specs.declared.attempt.Attempt.{Attempt}
use Rattle.rss_wire.specs.declared.messages.Outcome.{Outcome}
use Rattle.rss_wire.specs.declared.messages.Outcome.TheVariants.{Committed, Aborted}
use Rattle.rss_wire.specs.declared.messages.Request.{Request}
use Rattle.rss_tables.specs.Attempts.{same_attempt}
use Rattle.rss_tables.specs.ShardRow.{Shard, opening_shard, decision_in, keeps_decision, asked_outcome, releases, releases_last, shard_after}
use Rattle.rss_machine.specs.Places.{committed_in, committed_time, first_time}
use Rattle.shard_laws.specs.Served.{IsReached, served}
use Rattle.shard_laws.proofs.Cases.{cases}

-- each attempt has at most one decision in a list
abbrev pub DecidedOnce : List (Attempt × Outcome) → Type 0
DecidedOnce [] = ⊤
DecidedOnce (d ∷ ds) = (decision_in ds d.0 ≡ None) × DecidedOnce ds

same_turned : (a b : Attempt) → same_attempt a b ≡ false → same_attempt b a ≡ false
same_turned a b e = grind (arith, e)

not_some : {X : Type 0} {x : X} → Some x ≡ None → ⊥
not_some e = cc

none_more : (ds : List (Attempt × Outcome)) (a b : Attempt) (o : Outcome) → decision_in ds b ≡ None → same_attempt b a ≡ false → decision_in (ds ++ (a, o) ∷ []) b ≡ None
none_more [] a b o e f = by_test (same_attempt b a) f
  where
    by_test : (t : Bool) → t ≡ false → (if t then Some o else None) ≡ None
    by_test true g = absurd (true_is_not g)
      where
        true_is_not : true ≡ false → ⊥
        true_is_not h = cc
    by_test false g = refl
none_more (d ∷ ds) a b o e f = by_test (same_attempt b d.0) e (λ g. none_more ds a b o g f)
  where
    by_test : (t : Bool) → (if t then Some d.1 else decision_in ds b) ≡ None → (decision_in ds b ≡ None → decision_in (ds ++ (a, o) ∷ []) b ≡ None) → (if t then Some d.1 else decision_in (ds ++ (a, o) ∷ []) b) ≡ None
    by_test true g h = g
    by_test false g h = h g

once_more : (ds : List (Attempt × Outcome)) (a : Attempt) (o : Outcome) → DecidedOnce ds → decision_in ds a ≡ None → DecidedOnce (ds ++ (a, o) ∷ [])
once_more [] a o h e = (refl, tt)
once_more (d ∷ ds) a o h e = by_test (same_attempt a d.0) refl e (λ g. once_more ds a o h.1 g)
  where
    by_test : (t : Bool) → same_attempt a d.0 ≡ t → (if t then Some d.1 else decision_in ds a) ≡ None → (decision_in ds a ≡ None → DecidedOnce (ds ++ (a, o) ∷ [])) → (decision_in (ds ++ (a, o) ∷ []) d.0 ≡ None) × DecidedOnce (ds ++ (a, o) ∷ [])
    by_test true f g ih = absurd (not_some g)
    by_test false f g ih = (none_more ds a d.0 o h.0 (same_turned a d.0 f), ih g)

once_kept : (sh : Shard) (a : Attempt) (o : Outcome) → DecidedOnce sh.decisions → DecidedOnce (keeps_decision sh a o).decisions
once_kept sh a o h = by_found (decision_in sh.decisions a) refl
  where
    by_found : (f : Option Outcome) → decision_in sh.decisions a ≡ f → DecidedOnce (if is_some f then sh else record sh { decisions = sh.decisions ++ (a, o) ∷ [] }).decisions
    by_found None e = once_more sh.decisions a o h e
    by_found (Some p) e = h

once_after : (sh : Shard) (latest : ℕ) (r : Request) → DecidedOnce sh.decisions → DecidedOnce (shard_after sh latest r).decisions
once_after sh latest r h = cases sh latest r (λ (w : Shard). DecidedOnce w.decisions) record {
  rest = h;
  locks = λ new i t n. h;
  prepares = λ b l w ws c i n g. h;
  decides = λ b c t i. once_kept sh b (asked_outcome c t latest) h;
  commits = λ b t p i f. h;
  buries = λ b t i f. h;
  aborts = λ b i. h;
  releases = λ b t last i f. released b t last;
  reads = λ t l ks s i f. h;
}
  where
    released : (b : Attempt) (t : ℕ) (last : Bool) → DecidedOnce (releases_last (releases sh b t) b last).decisions
    released b t true = once_kept (releases sh b t) b Aborted h
    released b t false = h

once_served : (requests : List (ℕ × Request)) (sh : Shard) → DecidedOnce sh.decisions → DecidedOnce (served sh requests).decisions
once_served [] sh h = h
once_served (r ∷ requests) sh h = once_served requests (shard_after sh r.0 r.1) (once_after sh r.0 r.1 h)

pub once_reached : (sh : Shard) → IsReached sh → DecidedOnce sh.decisions
once_reached sh x = subst (λ (w : Shard). DecidedOnce w.decisions) x.by (once_served x.requests (opening_shard x.keys) tt)

-- the commit of a call is a decision
pub record IsDecision (ds : List (Attempt × Outcome)) (call time : ℕ) : Type 0 where
  pub attempt : Attempt
  pub of : attempt.call ≡ call
  pub kept : decision_in ds attempt ≡ Some (Committed time)

same_itself : (a : Attempt) → same_attempt a a ≡ true
same_itself a = grind arith

first_kept : (ds : List (Attempt × Outcome)) (d : Attempt × Outcome) → decision_in (d ∷ ds) d.0 ≡ Some d.1
first_kept ds d = by_test (same_attempt d.0 d.0) (same_itself d.0)
  where
    by_test : (t : Bool) → t ≡ true → (if t then Some d.1 else decision_in ds d.0) ≡ Some d.1
    by_test true e = refl
    by_test false e = absurd (false_is_not e)
      where
        false_is_not : false ≡ true → ⊥
        false_is_not f = cc

-- a decision behind others that are of other attempts
behind : (ds : List (Attempt × Outcome)) (d : Attempt × Outcome) (a : Attempt) (o : Outcome) → decision_in ds d.0 ≡ None → decision_in ds a ≡ Some o → decision_in (d ∷ ds) a ≡ Some o
behind ds d a o n e = by_test (same_attempt a d.0) refl
  where
    same_is : (a b : Attempt) → same_attempt a b ≡ true → a ≡ b
    same_is a b f = grind (arith, f)

    by_test : (t : Bool) → same_attempt a d.0 ≡ t → (if t then Some d.1 else decision_in ds a) ≡ Some o
    by_test true f = absurd (not_some (sym e ∙ ap (decision_in ds) (same_is a d.0 f) ∙ n))
    by_test false f = e

some_time : (o : Outcome) (time : ℕ) → committed_time o ≡ Some time → o ≡ Committed time
some_time (Committed t) time e = ap (λ (n : ℕ). Committed n) (same e)
  where
    same : Some t ≡ Some time → t ≡ time
    same f = cc
some_time Aborted time e = absurd (none_is e)
  where
    none_is : None ≡ Some time → ⊥
    none_is f = cc

pub commit_found : (ds : List (Attempt × Outcome)) (call time : ℕ) → DecidedOnce ds → committed_in ds call ≡ Some time → IsDecision ds call time
commit_found [] call time h e = absurd (none_is e)
  where
    none_is : None ≡ Some time → ⊥
    none_is f = cc
commit_found (d ∷ ds) call time h e = by_call (d.0.call == call) refl e (λ f. commit_found ds call time h.1 f)
  where
    later : IsDecision ds call time → IsDecision (d ∷ ds) call time
    later x = record { attempt = x.attempt; of = x.of; kept = behind ds d x.attempt (Committed time) h.0 x.kept }

    by_time : (m : Option ℕ) → committed_time d.1 ≡ m → d.0.call ≡ call → first_time m (committed_in ds call) ≡ Some time → (committed_in ds call ≡ Some time → IsDecision ds call time) → IsDecision (d ∷ ds) call time
    by_time None f g i ih = later (ih i)
    by_time (Some t) f g i ih = record { attempt = d.0; of = g; kept = first_kept ds d ∙ ap Some (some_time d.1 time (f ∙ i)) }

    by_call : (t : Bool) → (d.0.call == call) ≡ t → first_time (if t then committed_time d.1 else None) (committed_in ds call) ≡ Some time → (committed_in ds call ≡ Some time → IsDecision ds call time) → IsDecision (d ∷ ds) call time
    by_call true f g ih = by_time (committed_time d.1) refl (eqb-true d.0.call call f) g ih
    by_call false f g ih = later (ih g)

-- and a decision to commit makes one
pub commit_there : (ds : List (Attempt × Outcome)) (a : Attempt) (time : ℕ) → decision_in ds a ≡ Some (Committed time) → (t : ℕ) × (committed_in ds a.call ≡ Some t)
commit_there [] a time e = absurd (none_is e)
  where
    none_is : None ≡ Some (Committed time) → ⊥
    none_is f = cc
commit_there (d ∷ ds) a time e = by_call (d.0.call == a.call) refl (same_attempt a d.0) refl e (λ f. commit_there ds a time f)
  where
    other : (m : Option ℕ) → (t : ℕ) × (committed_in ds a.call ≡ Some t) → (t : ℕ) × (first_time m (committed_in ds a.call) ≡ Some t)
    other None x = x
    other (Some t) x = (t, refl)

    same_call : (a b : Attempt) → same_attempt a b ≡ true → (b.call == a.call) ≡ true
    same_call a b f = grind (arith, f)

    true_false : (b : Bool) → b ≡ true → b ≡ false → ⊥
    true_false true f g = cc
    true_false false f g = cc

    now : (o : Outcome) → o ≡ Committed time → (t : ℕ) × (first_time (committed_time o) (committed_in ds a.call) ≡ Some t)
    now o f = subst (λ (p : Outcome). (t : ℕ) × (first_time (committed_time p) (committed_in ds a.call) ≡ Some t)) (sym f) (time, refl)

    same_some : (x y : Outcome) → Some x ≡ Some y → x ≡ y
    same_some x y f = cc

    by_call : (t : Bool) → (d.0.call == a.call) ≡ t → (u : Bool) → same_attempt a d.0 ≡ u → (if u then Some d.1 else decision_in ds a) ≡ Some (Committed time) → (decision_in ds a ≡ Some (Committed time) → (n : ℕ) × (committed_in ds a.call ≡ Some n)) → (n : ℕ) × (first_time (if t then committed_time d.1 else None) (committed_in ds a.call) ≡ Some n)
    by_call true f true g i ih = now d.1 (same_some d.1 (Committed time) i)
    by_call true f false g i ih = other (committed_time d.1) (ih i)
    by_call false f true g i ih = absurd (true_false (d.0.call == a.call) (same_call a d.0 g) f)
    by_call false f false g i ih = ih i
