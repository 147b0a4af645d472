-- A way has the states to which a path leads.
use Rattle.std.proofs.Common.{◌≡◌, sym, ℕ, zero, suc, List, refl, subst, Some, None, ◌⊎◌, inl, inr}
use Rattle.std.specs.Prelude.{Option, Contains}
use Rattle.pipeline_lang.specs.declared.config.Config.{Config}
use Rattle.rss_model.specs.declared.history.Entry.{Entry}
use Rattle.rss_model.specs.Walk.{Walk}
use Rattle.script_laws.specs.Steps.{silent_step}
use Rattle.script_laws.specs.Paths.{Path, stays, goes}
use Rattle.plain_script.specs.Standing.{left_of, way_within, way_from, way}
use Rattle.plain_script.proofs.WayLemmas.{way_on}
use Rattle.plain_script.proofs.Members.{at_head, in_tail, cons_cases, nil_none}

module _ (config : Config) (h : List Entry) (stage : ℕ) where
  reached : (left : ℕ) (w v : Walk) → Contains (way_within config h stage left (Some w)) v →
      Path config h stage v w
  unfolding way_within
  reached zero w v c = absurd (nil_none v c)
  reached (suc left) w v c =
      by_part
      (cons_cases w v (way_within config h stage left (silent_step config h stage w)) c)
      (reached left)
    where
      by_step : ((m : Walk) → Contains (way_within config h stage left (Some m)) v → Path config h stage v m) →
          (o : Option Walk) → silent_step config h stage w ≡ o →
          Contains (way_within config h stage left o) v → Path config h stage v w
      by_step rest None e d = absurd (nil_none v d)
      by_step rest (Some m) e d = goes e (rest m d)

      by_part : (w ≡ v) ⊎ Contains (way_within config h stage left (silent_step config h stage w)) v →
          ((m u : Walk) → Contains (way_within config h stage left (Some m)) u → Path config h stage u m) →
          Path config h stage v w
      by_part (inl e) rest = subst (λ u. Path config h stage u w) e stays
      by_part (inr d) rest = by_step (λ m. rest m v) (silent_step config h stage w) refl d

  pub way_reaches : (w v : Walk) → Contains (way config h stage w) v → Path config h stage v w
  unfolding way_from
  way_reaches w v c = reached (left_of config stage (Some w)) w v c

  pub way_has : (v w : Walk) → Path config h stage v w → Contains (way config h stage w) v
  way_has v w stays =
      subst (λ (xs : List Walk). Contains xs v) (sym (way_on config h stage v))
      (at_head v (way_from config h stage (silent_step config h stage v)))
  way_has v w (goes {m = m} e p) =
      subst (λ (xs : List Walk). Contains xs v) (sym (way_on config h stage w))
      (in_tail w v (way_from config h stage (silent_step config h stage w))
      (subst (λ o. Contains (way_from config h stage o) v) (sym e) (way_has v m p)))
