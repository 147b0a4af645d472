-- One more entry of the passes.
use Rattle.std.proofs.Common.{◌≡◌, ℕ, suc, ◌+◌, Bool, true, false, List, [], ◌∷◌, map, max, Option, refl, sym, ap, ◌∙◌, arith, subst, add-one}
use Rattle.std.specs.Prelude.{◌==◌, ◌||◌, nat_lt, nat_le, if◌then◌else◌}
use Rattle.std.specs.List.{list_any}
use Rattle.std.proofs.lemmas.Bool.{eqb-true, eq-eqb, ltb-true, lt-ltb, leb-true, le-leb}
use Rattle.rss_names.specs.declared.service.Key.{Key}
use Rattle.rss_names.specs.Services.{same_key}
use Rattle.pipeline_lang.specs.declared.script.Expr.{Expr}
use Rattle.rss_model.specs.declared.history.Entry.{Entry}
use Rattle.rss_model.specs.declared.history.Entry.TheVariants.{Begin, End, Give, Get, Over}
use Rattle.rss_model.specs.declared.history.Token.{Token}
use Rattle.rss_model.specs.History.{entry_at, begins}
use Rattle.rss_model.specs.Stages.{stage_at, entry_stage}
use Rattle.rss_check.specs.Tops.{Tops, tops_at, top_after}
use Rattle.rss_check.specs.Bad.{IsLeastBad, StandsAtMost, IsUncaused, IsUntimely, least_if, least_with, least_late, Latest, latest_at, latest_after, time_bound}
use Rattle.rss_check.specs.Passes.{raised_by}
use Rattle.rss_check.proofs.Bad.{good_place, bad_place}

pub same_tops : (a b : Tops) → ((s : ℕ) → a.stage s ≡ b.stage s) → ((t : Token) → a.message t ≡ b.message t) → a ≡ b
same_tops a b s m = λ i. record { stage = λ x. s x i; message = λ t. m t i }

pub same_latest : (a b : Latest) → a.any ≡ b.any → ((key : Key) → a.written key ≡ b.written key) → a ≡ b
same_latest a b e w = λ i. record { any = e i; written = λ key. w key i }

module _ (h : List Entry) (place : ℕ → ℕ) (bound : ℕ → ℕ → ℕ) where
  abbrev Bad : ℕ → ℕ → Type 0
  Bad i call = StandsAtMost h place (bound i call) i call

  -- an entry that begins no call
  pub other_step : (i : ℕ) (least : Option ℕ) → ((call : ℕ) → begins call (entry_at h i) ≡ false) → IsLeastBad Bad i least → IsLeastBad Bad (i + 1) least
  other_step i least n k = good_place Bad i least k (λ call b. no_begin (begins call (entry_at h i)) (n call) b.begins)
    where
      no_begin : (t : Bool) → t ≡ false → t ≡ true → ⊥
      no_begin t f g = let x : true ≡ false = sym g ∙ f in cc

  -- one that begins a call
  pub begin_step : (i call : ℕ) (least : Option ℕ) → ((other : ℕ) → begins other (entry_at h i) ≡ (call == other)) → IsLeastBad Bad i least → IsLeastBad Bad (i + 1) (least_if least (place call) (bound i call) call)
  begin_step i call least n k = by_test (nat_lt 0 (place call)) refl (nat_le (place call) (bound i call)) refl
    where
      only : (other : ℕ) → Bad i other → other ≡ call
      only other b = sym (eqb-true call other (sym (n other) ∙ b.begins))

      good : (Bad i call → ⊥) → (other : ℕ) → Bad i other → ⊥
      good f other b = f (subst (λ (c : ℕ). Bad i c) (only other b) b)

      by_test : (s : Bool) → nat_lt 0 (place call) ≡ s → (t : Bool) → nat_le (place call) (bound i call) ≡ t → IsLeastBad Bad (i + 1) (least_if least (place call) (bound i call) call)
      by_test true s true t =
          let bad : Bad i call = record { begins = n call ∙ eq-eqb call call refl; placed = omega (arith, ltb-true 0 (place call) s); at_most = leb-true _ _ t } in
          rw (s, t) (bad_place Bad i call bad only least k)
      by_test true s false t = rw (s, t) (good_place Bad i least k (good (λ b. let x : false ≡ true = sym t ∙ le-leb _ _ b.at_most in cc)))
      by_test false s t u = rw s (good_place Bad i least k (good (λ b. let x : false ≡ true = sym s ∙ lt-ltb 0 (place call) (omega (arith, b.placed)) in cc)))

module _ (h : List Entry) (place : ℕ → ℕ) where
  pub uncaused_step : (i : ℕ) (least : Option ℕ) (e : Entry) → entry_at h i ≡ e → IsLeastBad (IsUncaused h place) i least → IsLeastBad (IsUncaused h place) (i + 1) (least_with least (tops_at h place i).stage place e)
  uncaused_step i least (Begin call stage op) e k =
      subst (λ (s : ℕ). IsLeastBad (IsUncaused h place) (i + 1) (least_if least (place call) ((tops_at h place i).stage s) call)) (ap (entry_stage h) e)
      (begin_step h place (λ j c. (tops_at h place j).stage (stage_at h j)) i call least (λ other. ap (begins other) e) k)
  uncaused_step i least (End call reply) e k = other_step h place (λ j c. (tops_at h place j).stage (stage_at h j)) i least (λ other. ap (begins other) e) k
  uncaused_step i least (Give stage token) e k = other_step h place (λ j c. (tops_at h place j).stage (stage_at h j)) i least (λ other. ap (begins other) e) k
  uncaused_step i least (Get stage token) e k = other_step h place (λ j c. (tops_at h place j).stage (stage_at h j)) i least (λ other. ap (begins other) e) k
  uncaused_step i least (Over stage how) e k = other_step h place (λ j c. (tops_at h place j).stage (stage_at h j)) i least (λ other. ap (begins other) e) k

  pub untimely_step : (i : ℕ) (least : Option ℕ) (e : Entry) → entry_at h i ≡ e → IsLeastBad (IsUntimely h place) i least → IsLeastBad (IsUntimely h place) (i + 1) (least_late least h (latest_at h place i) place e)
  untimely_step i least (Begin call stage op) e k = begin_step h place (λ j c. time_bound h (latest_at h place j) c) i call least (λ other. ap (begins other) e) k
  untimely_step i least (End call reply) e k = other_step h place (λ j c. time_bound h (latest_at h place j) c) i least (λ other. ap (begins other) e) k
  untimely_step i least (Give stage token) e k = other_step h place (λ j c. time_bound h (latest_at h place j) c) i least (λ other. ap (begins other) e) k
  untimely_step i least (Get stage token) e k = other_step h place (λ j c. time_bound h (latest_at h place j) c) i least (λ other. ap (begins other) e) k
  untimely_step i least (Over stage how) e k = other_step h place (λ j c. time_bound h (latest_at h place j) c) i least (λ other. ap (begins other) e) k

  tops_suc : (i : ℕ) (new : Tops) → new ≡ top_after h place (tops_at h place i) (entry_at h i) → new ≡ tops_at h place (suc i)
  unfolding tops_at
  tops_suc i new e = e

  -- what is kept goes on
  pub tops_step : (i : ℕ) (old new : Tops) (e : Entry) → entry_at h i ≡ e → old ≡ tops_at h place i → ((s : ℕ) → new.stage s ≡ (top_after h place old e).stage s) → ((t : Token) → new.message t ≡ (top_after h place old e).message t) → new ≡ tops_at h place (i + 1)
  tops_step i old new e x o s m =
      tops_suc i new (same_tops new (top_after h place old e) s m ∙ ap (λ (t : Tops). top_after h place t e) o ∙ ap (λ (y : Entry). top_after h place (tops_at h place i) y) (sym x))
      ∙ ap (λ (n : ℕ). tops_at h place n) (sym (add-one i))

  latest_suc : (i : ℕ) (new : Latest) → new ≡ latest_after h place (latest_at h place i) (entry_at h i) → new ≡ latest_at h place (suc i)
  unfolding latest_at
  latest_suc i new e = e

  pub latest_step : (i : ℕ) (old new : Latest) (e : Entry) → entry_at h i ≡ e → old ≡ latest_at h place i → new.any ≡ (latest_after h place old e).any → ((key : Key) → new.written key ≡ (latest_after h place old e).written key) → new ≡ latest_at h place (i + 1)
  latest_step i old new e x o a w =
      latest_suc i new (same_latest new (latest_after h place old e) a w ∙ ap (λ (t : Latest). latest_after h place t e) o ∙ ap (λ (y : Entry). latest_after h place (latest_at h place i) y) (sym x))
      ∙ ap (λ (n : ℕ). latest_at h place n) (sym (add-one i))

-- the keys of writes, one by one and together
pub raised_is : (top : ℕ) (key : Key) (writes : List (Key × Expr ℕ)) (place : ℕ) → raised_by top key writes place ≡ max top (if list_any (same_key key) (map (λ write. write.0) writes) then place else 0)
raised_is top key [] place = omega arith
raised_is top key (write ∷ writes) place = raised_is (max top (if same_key key write.0 then place else 0)) key writes place ∙ by_test (same_key key write.0) refl (list_any (same_key key) (map (λ (w : Key × Expr ℕ). w.0) writes)) refl
  where
    by_test : (s : Bool) → same_key key write.0 ≡ s → (t : Bool) → list_any (same_key key) (map (λ (w : Key × Expr ℕ). w.0) writes) ≡ t → max (max top (if same_key key write.0 then place else 0)) (if list_any (same_key key) (map (λ (w : Key × Expr ℕ). w.0) writes) then place else 0) ≡ max top (if (same_key key write.0 || list_any (same_key key) (map (λ (w : Key × Expr ℕ). w.0) writes)) then place else 0)
    by_test true s true t = rw (s, t) (omega arith)
    by_test true s false t = rw (s, t) (omega arith)
    by_test false s true t = rw (s, t) (omega arith)
    by_test false s false t = rw (s, t) (omega arith)
