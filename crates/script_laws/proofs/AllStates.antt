-- The states at one place of a history, from those before an entry to those behind it.
use Rattle.std.proofs.Common.{◌≡◌, ◌∙◌, sym, ap, ℕ, zero, suc, List, [], ◌∷◌, take, refl, arith, subst, Some}
use Rattle.std.specs.Prelude.{◌==◌, Contains, IsFalse}
use Rattle.pipeline_lang.specs.declared.config.Config.{Config}
use Rattle.rss_model.specs.declared.history.Entry.{Entry}
use Rattle.rss_model.specs.History.{entry_at}
use Rattle.rss_model.specs.Stages.{stage_at}
use Rattle.rss_model.specs.Walk.{Walk, first_walk}
use Rattle.rss_model.specs.Walked.{Walked, starts, passes, silently, makes, takes}
use Rattle.script_laws.specs.Steps.{silent_step}
use Rattle.script_laws.specs.Entries.{entry_step}
use Rattle.script_laws.specs.Paths.{Path, stays, goes}
use Rattle.script_laws.specs.States.{AreAll, Leads, by_entry, by_take, Behind, passed, led}
use Rattle.script_laws.proofs.SilentSteps.{silent-to, silent-from}
use Rattle.script_laws.proofs.EntrySteps.{entry-to, entry-from}
use Rattle.script_laws.proofs.TakeSteps.{take-to, take-from}

module _ (config : Config) (h : List Entry) (stage : ℕ) where
  -- a path goes on by one more silent step
  path_on : (m v w : Walk) → Path config h stage m w → silent_step config h stage m ≡ Some v →
      Path config h stage v w
  path_on m v w stays e = goes e stays
  path_on m v w (goes {m = n} s p) e = goes s (path_on m v n p e)

  -- along a path the walk stands at the same place of the history
  pub path_walked : (n : ℕ) (v w : Walk) → Path config h stage v w → Walked config h stage n w →
      Walked config h stage n v
  path_walked n v w stays p = p
  path_walked n v w (goes {m = m} s q) p =
      path_walked n v m q (silently p (silent-to config h stage w m s))

  leads_walked : (n : ℕ) (w v : Walk) → Walked config h stage n w → Leads config h stage n w v →
      Walked config h stage (suc n) v
  leads_walked n w v p (by_entry e) = makes p refl (entry-to config h stage n w v (entry_at h n) e)
  leads_walked n w v p (by_take {pipe = pipe} {number = number} {value = value} g t s) =
      takes p g t.above t.gives t.walked (take-to config h stage t.giving w v pipe number value t.told s)

  behind_walked : (n : ℕ) (bases : List Walk) → AreAll config h stage n bases → (v : Walk) → Behind config h stage n bases v →
      Walked config h stage (suc n) v
  behind_walked n bases a v (passed f c) = passes (a.sound v c) f
  behind_walked n bases a v (led {u = u} {w = w} c p l) =
      leads_walked n w v (path_walked n w u p (a.sound u c)) l

  -- a state behind the entry is on a path from one of those
  abbrev Reached : (ℕ) → List Walk → Walk → Type 0
  Reached n bases v = (w : Walk) × Behind config h stage n bases w × Path config h stage v w

  reached_by : (n : ℕ) (bases : List Walk) → AreAll config h stage n bases → (w v : Walk) →
      Walked config h stage n w → Leads config h stage n w v → Reached n bases v
  reached_by n bases a w v p l =
      let from = a.all w p in (v, led from.1 from.2 l, stays)

  reached_more : (n : ℕ) (bases : List Walk) (w v : Walk) → Reached n bases w →
      silent_step config h stage w ≡ Some v → Reached n bases v
  reached_more n bases w v (u, b, p) e = (u, b, path_on w v u p e)

  passed_by : (n : ℕ) (bases : List Walk) → AreAll config h stage n bases → (v : Walk) →
      Walked config h stage n v → IsFalse (stage_at h n == stage) → Reached n bases v
  passed_by n bases a v p f = let from = a.all v p in (from.0, passed f from.1, from.2)

  behind_all : (n m : ℕ) (bases : List Walk) → AreAll config h stage n bases → (v : Walk) → m ≡ suc n →
      Walked config h stage m v → Reached n bases v
  behind_all n m bases a v e starts = absurd (grind (arith, e))
  behind_all n m bases a v e (passes {n = k} p f) =
      let same : k ≡ n = omega (arith, e) in
      passed_by n bases a v (subst (λ i. Walked config h stage i v) same p)
      (subst (λ i. IsFalse (stage_at h i == stage)) same f)
  behind_all n m bases a v e (silently {w = w} p s) =
      reached_more n bases w v (behind_all n m bases a w e p) (silent-from config h stage w v s)
  behind_all n m bases a v e (makes {n = k} {w = w} {e = x} p g s) =
      let same : k ≡ n = omega (arith, e) in
      let at : entry_at h n ≡ x = ap (entry_at h) (sym same) ∙ g in
      let step : entry_step config h stage (take n h) x w ≡ Some v =
      subst (λ i. entry_step config h stage (take i h) x w ≡ Some v) same (entry-from config h stage k w v x s) in
      reached_by n bases a w v (subst (λ i. Walked config h stage i w) same p)
      (by_entry (subst (λ (y : Entry). entry_step config h stage (take n h) y w ≡ Some v) (sym at) step))
  behind_all n m bases a v e (takes {n = k} {pipe = pipe} {number = number} {i = i} {w = w} {giving = giving} p g b t q s) =
      let same : k ≡ n = omega (arith, e) in
      let taken = take-from config h stage giving w v pipe number s in
      reached_by n bases a w v (subst (λ j. Walked config h stage j w) same p)
      (by_take (ap (entry_at h) (sym same) ∙ g)
      (record {
        place = i;
        above = omega (arith, b, same);
        gives = t;
        giving = giving;
        walked = q;
        told = taken.told;
      }) taken.steps)

  -- states that are those behind the entry are all at the next place
  pub all_behind : (n : ℕ) (bases next : List Walk) → AreAll config h stage n bases →
      ((v : Walk) → Contains next v → Behind config h stage n bases v) →
      ((v : Walk) → Behind config h stage n bases v → Contains next v) → AreAll config h stage (suc n) next
  all_behind n bases next a sound all =
      record {
        sound = λ v c. behind_walked n bases a v (sound v c);
        all = λ v p. from v (behind_all n (suc n) bases a v refl p);
      }
    where
      from : (v : Walk) → Reached n bases v → (w : Walk) × Contains next w × Path config h stage v w
      from v (w, b, p) = (w, all w b, p)

  begins_all : (m : ℕ) (v : Walk) → m ≡ 0 → Walked config h stage m v → Path config h stage v (first_walk config stage)
  begins_all m v e starts = stays
  begins_all m v e (passes p f) = absurd (grind (arith, e))
  begins_all m v e (silently {w = w} p s) =
      path_on w v (first_walk config stage) (begins_all m w e p) (silent-from config h stage w v s)
  begins_all m v e (makes p g s) = absurd (grind (arith, e))
  begins_all m v e (takes p g b t q s) = absurd (grind (arith, e))

  -- before the first entry the walk stands at its beginning
  pub all_first : AreAll config h stage 0 (first_walk config stage ∷ [])
  all_first =
      record {
        sound = λ w c. subst (Walked config h stage 0) (alone w c) starts;
        all = λ v p. (first_walk config stage, (0, omega arith, refl), begins_all 0 v refl p);
      }
    where
      alone : (w : Walk) → Contains (first_walk config stage ∷ []) w → first_walk config stage ≡ w
      alone w (zero, l, e) = e
      alone w (suc k, l, e) = absurd (omega (arith, l))
