-- Decisions: what is kept, and what made it.
use Rattle.std.proofs.Common.{◌≡◌, ◌⊎◌, inl, inr, ℕ, Bool, true, false, List, [], ◌∷◌, ◌++◌, Option, Some, None, is_some, refl, sym, ap, ◌∙◌, subst}
use Rattle.std.specs.Prelude.{if◌then◌else◌}
use Rattle.std.proofs.lemmas.Bool.{cond_both}
use Rattle.rss_names.specs.declared.attempt.Attempt.{Attempt}
use Rattle.rss_wire.specs.declared.messages.Outcome.{Outcome}
use Rattle.rss_wire.specs.declared.messages.Outcome.TheVariants.{Aborted}
use Rattle.rss_wire.specs.declared.messages.Request.{Request}
use Rattle.rss_wire.specs.declared.messages.Request.TheVariants.{Decide, Release}
use Rattle.rss_tables.specs.Attempts.{same_attempt}
use Rattle.rss_tables.specs.ShardRow.{Shard, decision_in, keeps_decision, asked_outcome, releases, releases_last, shard_after}
use Rattle.shard_laws.specs.Changes.{IsDecidedBy}
use Rattle.shard_laws.proofs.Cases.{cases}
use Rattle.shard_laws.proofs.Entries.{same_is}

-- a decision among others and one more is that one, or was there
pub decided_more : (ds : List (Attempt × Outcome)) (b : Attempt) (new : Outcome) (a : Attempt) (o : Outcome) → decision_in (ds ++ (b, new) ∷ []) a ≡ Some o → (decision_in ds a ≡ Some o) ⊎ ((a ≡ b) × (o ≡ new))
decided_more [] b new a o e = go (same_attempt a b) refl e
  where
    go : (t : Bool) → same_attempt a b ≡ t → (if t then Some new else None) ≡ Some o → (◌≡◌ {A = Option Outcome} None (Some o)) ⊎ ((a ≡ b) × (o ≡ new))
    go true f g = inr (same_is a b f, let x : ◌≡◌ {A = Option Outcome} (Some new) (Some o) = g in cc)
    go false f g = inl g
decided_more (d ∷ ds) b new a o e = go (same_attempt a d.0) refl e (decided_more ds b new a o)
  where
    go : (t : Bool) → same_attempt a d.0 ≡ t → (if t then Some d.1 else decision_in (ds ++ (b, new) ∷ []) a) ≡ Some o → (decision_in (ds ++ (b, new) ∷ []) a ≡ Some o → (decision_in ds a ≡ Some o) ⊎ ((a ≡ b) × (o ≡ new))) → ((if same_attempt a d.0 then Some d.1 else decision_in ds a) ≡ Some o) ⊎ ((a ≡ b) × (o ≡ new))
    go true f g ih = inl (rw f g)
    go false f g ih = rw f (ih g)

-- what a decision that is kept now adds
pub keeps_more : (sh : Shard) (b : Attempt) (new : Outcome) (a : Attempt) (o : Outcome) → decision_in (keeps_decision sh b new).decisions a ≡ Some o → (decision_in sh.decisions a ≡ Some o) ⊎ ((a ≡ b) × (o ≡ new))
keeps_more sh b new a o = cond_both (is_some (decision_in sh.decisions b)) sh (record sh { decisions = sh.decisions ++ (b, new) ∷ [] })
    (λ (w : Shard). decision_in w.decisions a ≡ Some o → (decision_in sh.decisions a ≡ Some o) ⊎ ((a ≡ b) × (o ≡ new))) (λ f e. inl e) (λ f e. decided_more sh.decisions b new a o e)

pub decided_from : (sh : Shard) (latest : ℕ) (r : Request) (a : Attempt) (o : Outcome) → decision_in (shard_after sh latest r).decisions a ≡ Some o → (decision_in sh.decisions a ≡ Some o) ⊎ IsDecidedBy latest r a o
decided_from sh latest r a o = cases sh latest r (λ (w : Shard). decision_in w.decisions a ≡ Some o → (decision_in sh.decisions a ≡ Some o) ⊎ IsDecidedBy latest r a o) record {
  rest = λ e. inl e;
  locks = λ new i t n e. inl e;
  prepares = λ b l w ws c i n g e. inl e;
  decides = λ b c t i e. decided b c t i (keeps_more sh b (asked_outcome c t latest) a o e);
  commits = λ b t p i f e. inl e;
  buries = λ b t i f e. inl e;
  aborts = λ b i e. inl e;
  releases = λ b t last i f. released b t last i;
  reads = λ t l ks s i f e. inl e;
}
  where
    decided : (b : Attempt) (c : Bool) (t : ℕ) → r ≡ Decide b c t → (decision_in sh.decisions a ≡ Some o) ⊎ ((a ≡ b) × (o ≡ asked_outcome c t latest)) → (decision_in sh.decisions a ≡ Some o) ⊎ IsDecidedBy latest r a o
    decided b c t i (inl e) = inl e
    decided b true t i (inr q) = inr (subst (IsDecidedBy latest r a) (sym q.1) record { asked = t; asks = i ∙ ap (λ (z : Attempt). Decide z true t) (sym q.0); at = refl })
    decided b false t i (inr q) = inr (subst (IsDecidedBy latest r a) (sym q.1) (inl record { time = t; asks = i ∙ ap (λ (z : Attempt). Decide z false t) (sym q.0) }))

    last_one : (b : Attempt) (t : ℕ) → r ≡ Release b t true → (decision_in sh.decisions a ≡ Some o) ⊎ ((a ≡ b) × (o ≡ Aborted)) → (decision_in sh.decisions a ≡ Some o) ⊎ IsDecidedBy latest r a o
    last_one b t i (inl e) = inl e
    last_one b t i (inr q) = inr (subst (IsDecidedBy latest r a) (sym q.1) (inr record { time = t; asks = i ∙ ap (λ (z : Attempt). Release z t true) (sym q.0) }))

    released : (b : Attempt) (t : ℕ) (last : Bool) → r ≡ Release b t last → decision_in (releases_last (releases sh b t) b last).decisions a ≡ Some o → (decision_in sh.decisions a ≡ Some o) ⊎ IsDecidedBy latest r a o
    released b t true i = λ e. last_one b t i (keeps_more (releases sh b t) b Aborted a o e)
    released b t false i = λ e. inl e
