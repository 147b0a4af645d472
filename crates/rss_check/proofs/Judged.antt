-- The verdicts, by what the passes find.
use Rattle.std.proofs.Common.{◌≡◌, ℕ, List, length, Option, Some, None, subst}
use Rattle.std.specs.Prelude.{IfSome, IfNone}
use Rattle.pipeline_lang.specs.declared.config.Config.{Config}
use Rattle.rss_model.specs.declared.history.Entry.{Entry}
use Rattle.rss_model.specs.Candidate.{IsCandidate}
use Rattle.rss_model.specs.Legal.{Legal}
use Rattle.rss_model.specs.Regular.{Regular}
use Rattle.order_laws.proofs.Parts.{regular_of}
use Rattle.rss_check.specs.Places.{ArePlaces}
use Rattle.rss_check.specs.Bad.{IsLeastBad, IsUncaused, IsUntimely}
use Rattle.rss_check.specs.declared.verdict.Verdict.{Verdict}
use Rattle.rss_check.specs.Verdicts.{IsLeast, IsVerdict, LacksCause, LacksTime}
use Rattle.rss_check.proofs.Caused.{least_uncaused, none_uncaused, caused_in_order}
use Rattle.rss_check.proofs.InTime.{least_untimely, none_untimely, mutations_in_time, reads_in_time}

-- what a clause says of an option that is known
pub of_some : {A : Type 0} (P : A → Type 0) (o : Option A) (x : A) → o ≡ Some x → IfSome o P → P x
of_some P o x e k = subst (λ (p : Option _). IfSome p P) e k

pub of_none : {A : Type 0} (P : Type 0) (o : Option A) → o ≡ None → IfNone o P → P
of_none P o e k = subst (λ (p : Option _). IfNone p P) e k

-- a verdict on lists that are the same
pub verdict_of : (config : Config) (h i : List Entry) (c d : List ℕ) (verdict : Verdict) → h ≡ i → c ≡ d → IsVerdict config h c verdict → IsVerdict config i d verdict
verdict_of config h i c d verdict e f k =
    subst (λ (x : List ℕ). IsVerdict config i x verdict) f (subst (λ (x : List Entry). IsVerdict config x c verdict) e k)

module _ (h : List Entry) (c : List ℕ) (place : ℕ → ℕ) (p : ArePlaces c place) (candidate : IsCandidate h c) (legal : Legal h c) where
  pub not_causal : (n : ℕ) → IsLeastBad (IsUncaused h place) (length h) (Some n) → IsCandidate h c × Legal h c × IsLeast (LacksCause h c) n
  not_causal n k = (candidate, legal, least_uncaused h c place p legal n k)

  pub not_timely : (n : ℕ) → IsLeastBad (IsUncaused h place) (length h) None → IsLeastBad (IsUntimely h place) (length h) (Some n) → IsCandidate h c × Legal h c × ((b : ℕ) → LacksCause h c b → ⊥) × IsLeast (LacksTime h c) n
  not_timely n causal k = (candidate, legal, none_uncaused h c place p legal causal, least_untimely h c place p n k)

  pub regular : IsLeastBad (IsUncaused h place) (length h) None → IsLeastBad (IsUntimely h place) (length h) None → Regular h c
  regular causal timely =
      let late = none_untimely h c place p timely in
      regular_of h c candidate legal
      (caused_in_order h c place p candidate (none_uncaused h c place p legal causal))
      (mutations_in_time h c place p candidate late)
      (reads_in_time h c place p candidate late)
