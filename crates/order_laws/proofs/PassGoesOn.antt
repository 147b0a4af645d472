-- The pass over a history that goes on.
use Rattle.std.proofs.Common.{◌≡◌, ℕ, zero, suc, ◌≤◌, List, [], ◌∷◌, ◌++◌, length, true, arith, refl, ap, ◌∙◌}
use Rattle.std.specs.Prelude.{◌==◌}
use Rattle.std.proofs.lemmas.Bool.{eq-eqb}
use Rattle.std.proofs.lemmas.Grind.{common_steps}
use Rattle.rss_model.specs.declared.history.Entry.{Entry}
use Rattle.rss_model.specs.declared.history.Entry.TheVariants.{Begin, End, Give, Get, Over}
use Rattle.rss_model.specs.History.{entry_at, ends, has_begun, has_ended}
use Rattle.rss_model.specs.Stages.{stage_of}
use Rattle.rss_model.proofs.HistoryLemmas.{entry_at-append, stage_of-append, ends_at-has_ended}
use Rattle.order_laws.specs.CallsBehind.{CallsBehind, with_stage, behind_after, calls_behind}

module _ (h : List Entry) (next : Entry)
    (begun : (call : ℕ) → has_ended h call ≡ true → has_begun h call ≡ true) where
  stage_stays : (call : ℕ) → has_begun h call ≡ true →
      stage_of (h ++ next ∷ []) call ≡ stage_of h call
  stage_stays call b = grind (arith, stage_of-append h (next ∷ []) call, b)

  -- an entry of the history does the same in the longer one
  same_turn : (e : Entry) (behind : CallsBehind) →
      ((call : ℕ) → ends call e ≡ true → has_begun h call ≡ true) →
      behind_after (h ++ next ∷ []) behind e ≡ behind_after h behind e
  same_turn (Begin call stage op) behind b = refl
  same_turn (End call reply) behind b = ap (λ (s : ℕ). with_stage behind s (λ other. call == other)) (stage_stays call (b call (eq-eqb call call refl)))
  same_turn (Give giver token) behind b = refl
  same_turn (Get getter token) behind b = refl
  same_turn (Over stage how) behind b = refl

  pub same_pass : (n : ℕ) → n ≤ length h → calls_behind (h ++ next ∷ []) n ≡ calls_behind h n
  unfolding calls_behind
  same_pass zero l = refl
  same_pass (suc n) l =
      let e : entry_at (h ++ next ∷ []) n ≡ entry_at h n = grind (arith, entry_at-append h (next ∷ []) n, l) in
      ap (λ (x : Entry). behind_after (h ++ next ∷ []) (calls_behind (h ++ next ∷ []) n) x) e
      ∙ ap (λ (b : CallsBehind). behind_after (h ++ next ∷ []) b (entry_at h n)) (same_pass n (omega (arith, l)))
      ∙ same_turn (entry_at h n) (calls_behind h n) (λ call x. begun call (ends_at-has_ended h call n x))

  pub pass_more : calls_behind (h ++ next ∷ []) (length (h ++ next ∷ [])) ≡ behind_after (h ++ next ∷ []) (calls_behind h (length h)) next
  unfolding calls_behind
  pass_more =
      let l : length (h ++ next ∷ []) ≡ suc (length h) = grind (arith, common_steps) in
      let e : entry_at (h ++ next ∷ []) (length h) ≡ next = grind (arith, common_steps, entry_at-append h (next ∷ []) (length h)) in
      ap (λ (n : ℕ). calls_behind (h ++ next ∷ []) n) l
      ∙ ap (λ (x : Entry). behind_after (h ++ next ∷ []) (calls_behind (h ++ next ∷ []) (length h)) x) e
      ∙ ap (λ (b : CallsBehind). behind_after (h ++ next ∷ []) b next) (same_pass (length h) (omega arith))
