-- A way goes on until no step is left.
use Rattle.std.proofs.Common.{◌≡◌, ◌∙◌, sym, ap, append_assoc, ℕ, zero, suc, ◌<◌, ◌≤◌, List, [], ◌∷◌, refl, arith, Some, None}
use Rattle.std.specs.Prelude.{Option, ◌++◌}
use Rattle.std.proofs.lemmas.List.{append-nil}
use Rattle.pipeline_lang.specs.declared.config.Config.{Config}
use Rattle.pipeline_lang.specs.Config.{script_of}
use Rattle.rss_model.specs.declared.history.Entry.{Entry}
use Rattle.rss_model.specs.Walk.{Walk}
use Rattle.script_laws.specs.Steps.{silent_step}
use Rattle.script_laws.specs.Weights.{weigh}
use Rattle.script_laws.proofs.Falling.{silent_falls}
use Rattle.plain_script.specs.Standing.{left_of, way_within, way_from, way}

module _ (config : Config) (h : List Entry) (stage : ℕ) where
  -- behind a step there are fewer
  pub less : (w : Walk) (left : ℕ) → weigh (script_of config stage) w.cursor ≤ left →
      left_of config stage (silent_step config h stage w) ≤ left
  less w left l = by_step (silent_step config h stage w) refl
    where
      by_step : (o : Option Walk) → silent_step config h stage w ≡ o → left_of config stage o ≤ left
      by_step None e = omega arith
      by_step (Some v) e = let f = silent_falls config h stage w v e in omega (arith, l, f)

  -- more than enough is enough
  enough : (a b : ℕ) (o : Option Walk) → left_of config stage o ≤ a → left_of config stage o ≤ b →
      way_within config h stage a o ≡ way_within config h stage b o
  unfolding way_within
  enough a b None l m = refl
  enough zero b (Some w) l m = absurd (omega (arith, l))
  enough (suc a) zero (Some w) l m = absurd (omega (arith, m))
  enough (suc a) (suc b) (Some w) l m =
      ap (λ rest. w ∷ rest)
      (enough a b (silent_step config h stage w)
      (less w a (omega (arith, l))) (less w b (omega (arith, m))))

  -- a way begins where the walk stands, and goes on with the next step
  pub way_on : (w : Walk) → way config h stage w ≡ w ∷ way_from config h stage (silent_step config h stage w)
  unfolding way_from way_within
  way_on w =
      ap (λ rest. w ∷ rest)
      (enough (weigh (script_of config stage) w.cursor)
      (left_of config stage (silent_step config h stage w))
      (silent_step config h stage w) (less w _ (omega arith)) (omega arith))

  pub way_none : way_from config h stage None ≡ []
  unfolding way_from way_within
  way_none = refl

  pub way_smaller : (w : Walk) (o p : Option Walk) → p ≡ Some w → o ≡ silent_step config h stage w →
      left_of config stage o < left_of config stage p
  way_smaller w o p e f =
      let fewer : left_of config stage (silent_step config h stage w) ≤ weigh (script_of config stage) w.cursor =
      less w (weigh (script_of config stage) w.cursor) (omega arith) in
      let here : left_of config stage p ≡ suc (weigh (script_of config stage) w.cursor) = ap (left_of config stage) e in
      let there : left_of config stage o ≡ left_of config stage (silent_step config h stage w) = ap (left_of config stage) f in
      omega (arith, fewer, here, there)

  pub way_more : (walks more all : List Walk) (w : Walk) (o p : Option Walk) → p ≡ Some w →
      o ≡ silent_step config h stage w → more ≡ walks ++ w ∷ [] →
      walks ++ way_from config h stage p ≡ all → more ++ way_from config h stage o ≡ all
  way_more walks more all w o p e f g all_are =
      ap (λ (xs : List Walk). xs ++ way_from config h stage o) g ∙
      append_assoc walks (w ∷ []) (way_from config h stage o) ∙
      ap (λ x. walks ++ w ∷ way_from config h stage x) f ∙
      ap (λ (xs : List Walk). walks ++ xs) (sym (way_on w)) ∙
      ap (λ x. walks ++ way_from config h stage x) (sym e) ∙ all_are

  pub way_done : (walks all : List Walk) (p : Option Walk) → p ≡ None →
      walks ++ way_from config h stage p ≡ all → walks ≡ all
  way_done walks all p e all_are =
      sym (append-nil walks) ∙ ap (λ (xs : List Walk). walks ++ xs) (sym way_none) ∙
      ap (λ x. walks ++ way_from config h stage x) (sym e) ∙ all_are
