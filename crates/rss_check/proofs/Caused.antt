-- What the pass over what is behind finds is a cause that is misplaced.
use Rattle.std.proofs.Common.{◌≡◌, ℕ, ◌<◌, ◌≤◌, ◌⊎◌, inl, inr, true, List, length, Some, None, refl, ap, ◌∙◌, arith}
use Rattle.std.specs.Prelude.{Contains}
use Rattle.std.proofs.lemmas.Option.{slice_get-get_or}
use Rattle.rss_model.specs.declared.history.Entry.{Entry}
use Rattle.rss_model.specs.Stages.{stage_at}
use Rattle.rss_model.specs.Candidate.{IsCandidate}
use Rattle.rss_model.specs.Causality.{BeforeByMessages, ReadsFrom}
use Rattle.rss_model.specs.Legal.{Legal}
use Rattle.rss_model.proofs.HistoryLemmas.{ends_at-has_ended, begins_at_inside}
use Rattle.order_laws.specs.CallsBehind.{calls_behind}
use Rattle.order_laws.specs.Standing.{Stands, StandsBefore}
use Rattle.order_laws.proofs.OnePass.{message_order_told}
use Rattle.order_laws.proofs.Parts.{writer_before}
use Rattle.rss_check.specs.Verdicts.{IsLeast, Misplaced, LacksCause}
use Rattle.rss_check.specs.Places.{ArePlaces}
use Rattle.rss_check.specs.Tops.{tops_at, IsTop}
use Rattle.rss_check.specs.Bad.{IsLeastBad, IsUncaused}
use Rattle.rss_check.proofs.Placed.{before_or_not, before_place, stands_by, place_by}
use Rattle.rss_check.proofs.TopsRight.{tops_right}

-- a call that stands no less far behind than another is misplaced before it
pub misplaced_by : (c : List ℕ) (place : ℕ → ℕ) (a b : ℕ) → ArePlaces c place → 1 ≤ place b → place b ≤ place a → Misplaced c a b
misplaced_by c place a b p l m = record {
  first = stands_by c place a p (omega (arith, l, m));
  second = stands_by c place b p l;
  not_before = λ s. omega (arith, m, before_place c place a b p s);
}

-- and the other way round
pub placed_by : (c : List ℕ) (place : ℕ → ℕ) (a b : ℕ) → ArePlaces c place → Misplaced c a b → (1 ≤ place b) × (place b ≤ place a)
placed_by c place a b p m = (place_by c place b p m.second, by_order (before_or_not c place a b p m.first m.second))
  where
    by_order : StandsBefore c a b ⊎ (place b ≤ place a) → place b ≤ place a
    by_order (inl s) = absurd (m.not_before s)
    by_order (inr l) = l

module _ (h : List Entry) (c : List ℕ) (place : ℕ → ℕ) (p : ArePlaces c place) where
  top_at : (i : ℕ) → IsTop place ((calls_behind h i).stage (stage_at h i)) ((tops_at h place i).stage (stage_at h i))
  top_at i = (tops_right place h i).stages (stage_at h i)

  uncaused_to : (i b : ℕ) → IsUncaused h place i b → LacksCause h c b
  uncaused_to i b u = by_top (top_at i).reached
    where
      by_top : ((tops_at h place i).stage (stage_at h i) ≡ 0) ⊎ ((a : ℕ) × ((calls_behind h i).stage (stage_at h i) a ≡ true) × (place a ≡ (tops_at h place i).stage (stage_at h i))) → LacksCause h c b
      by_top (inl z) = absurd (omega (arith, z, u.placed, u.at_most))
      by_top (inr t) = (t.0, inl ((message_order_told h t.0 b).1 (i, u.begins, t.1)), misplaced_by c place t.0 b p u.placed (omega (arith, t.2, u.at_most)))

  uncaused_from : Legal h c → (b : ℕ) → LacksCause h c b → (i : ℕ) × IsUncaused h place i b
  uncaused_from legal b (a, generates, m) = by_pair generates
    where
      by_pair : BeforeByMessages h a b ⊎ ReadsFrom h b a → (i : ℕ) × IsUncaused h place i b
      by_pair (inl q) =
          let t = (message_order_told h a b).0 q in
          let l = placed_by c place a b p m in
          (t.0, record { begins = t.1; placed = l.0; at_most = omega (arith, l.1, (top_at t.0).bound a t.2) })
      by_pair (inr r) = absurd (m.not_before (writer_before h c a b legal r m.second))

  -- the least that the whole pass finds
  pub least_uncaused : Legal h c → (n : ℕ) → IsLeastBad (IsUncaused h place) (length h) (Some n) → IsLeast (LacksCause h c) n
  least_uncaused legal n k =
      let f = k.found n refl in
      (uncaused_to f.0 n f.2, λ m l b. below m l (uncaused_from legal m b))
    where
      below : (m : ℕ) → m < n → (i : ℕ) × IsUncaused h place i m → ⊥
      below m l u = omega (arith, l, k.least_is n u.0 m refl (begins_at_inside h m u.0 u.1.begins) u.1)

  pub none_uncaused : Legal h c → IsLeastBad (IsUncaused h place) (length h) None → (b : ℕ) → LacksCause h c b → ⊥
  none_uncaused legal k b x = let u = uncaused_from legal b x in k.none u.0 b refl (begins_at_inside h b u.0 u.1.begins) u.1

  -- then messages lead from calls to later ones
  pub caused_in_order : IsCandidate h c → ((b : ℕ) → LacksCause h c b → ⊥) → (a b : ℕ) → BeforeByMessages h a b → Stands c b → StandsBefore c a b
  caused_in_order k none a b q t = by_order (before_or_not c place a b p stands t)
    where
      contained : Contains c a
      contained = k.ended a (ends_at-has_ended h a q.0 q.2)

      stands : Stands c a
      stands = (contained.0, slice_get-get_or c contained.0 a contained.1 ∙ ap Some contained.2)

      by_order : StandsBefore c a b ⊎ (place b ≤ place a) → StandsBefore c a b
      by_order (inl s) = s
      by_order (inr l) = absurd (none b (a, inl q, misplaced_by c place a b p (place_by c place b p t) l))
