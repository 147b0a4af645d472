-- What a step leaves of owners and stages: their losses, and who is cut off or over as unavailable. `X` is
-- what may be cut off from what, and `Y` which places of stages may be over so, beyond those that were.
use Rattle.std.proofs.Common.{◌≡◌, ℕ, ◌-◌, ◌<◌, ◌≤◌, ◌⊎◌, inl, inr, List, [], ◌∷◌, ◌++◌, length, get_or, refl, ap, sym, ◌∙◌, subst, arith}
use Rattle.std.proofs.Math.ListN.{set}
use Rattle.rss_names.specs.declared.service.Target.{Target}
use Rattle.rss_model.specs.declared.history.How.TheVariants.{Exited, Unavailable}
use Rattle.rss_tables.specs.Losses.{no_losses}
use Rattle.rss_machine.specs.State.{State, Stage, Owner, no_owner, no_stage}
use Rattle.rss_machine.specs.declared.state.Life.{Life}
use Rattle.rss_machine.specs.declared.state.Life.TheVariants.{Live, Over}
use Rattle.rss_machine.specs.declared.state.OwnerFate.{OwnerFate}
use Rattle.rss_machine.specs.declared.state.OwnerFate.TheVariants.{Running, Ended, CutOff}
use Rattle.world_laws.proofs.Looks.{get_or_set, get_or_append, get_or_one, get_or_past}

-- an owner of a list that has one more is an older one, or that one
abbrev Looked : List Owner → Owner → ℕ → Type 0
Looked xs w i = (get_or (xs ++ w ∷ []) i no_owner ≡ get_or xs i no_owner) ⊎ ((get_or (xs ++ w ∷ []) i no_owner ≡ w) × (get_or xs i no_owner ≡ no_owner))

-- owners keep their losses, and nobody else is cut off
pub record SteadyOwners (X : ℕ → Target → Type 0) (xs ys : List Owner) : Type 0 where
  pub losses : (o : ℕ) → (get_or ys o no_owner).losses ≡ (get_or xs o no_owner).losses
  pub cut : (o : ℕ) (target : Target) → (get_or ys o no_owner).fate ≡ CutOff target → ((get_or xs o no_owner).fate ≡ CutOff target) ⊎ X o target

-- no other stage is over as unavailable
pub record SteadyStages (Y : ℕ → Type 0) (xs ys : List Stage) : Type 0 where
  pub over : (i : ℕ) → (get_or ys i no_stage).life ≡ Over Unavailable → ((get_or xs i no_stage).life ≡ Over Unavailable) ⊎ Y i

pub record Steady (X : ℕ → Target → Type 0) (Y : ℕ → Type 0) (s t : State) : Type 0 where
  pub owners : SteadyOwners X s.owners t.owners
  pub stages : SteadyStages Y s.stages t.stages

module _ (X : ℕ → Target → Type 0) where
  pub owners_kept : (xs : List Owner) → SteadyOwners X xs xs
  owners_kept xs = record { losses = λ o. refl; cut = λ o target e. inl e }

  pub owners_then : (xs ys zs : List Owner) → SteadyOwners X xs ys → SteadyOwners X ys zs → SteadyOwners X xs zs
  owners_then xs ys zs a b = record { losses = λ o. b.losses o ∙ a.losses o; cut = λ o target e. by_cut o target (b.cut o target e) }
    where
      by_cut : (o : ℕ) (target : Target) → ((get_or ys o no_owner).fate ≡ CutOff target) ⊎ X o target → ((get_or xs o no_owner).fate ≡ CutOff target) ⊎ X o target
      by_cut o target (inl e) = a.cut o target e
      by_cut o target (inr x) = inr x

  -- an owner in the place of what it was, with its losses
  pub owners_set : (xs : List Owner) (o : ℕ) (w : Owner) → w.losses ≡ (get_or xs o no_owner).losses → ((target : Target) → w.fate ≡ CutOff target → ((get_or xs o no_owner).fate ≡ CutOff target) ⊎ X o target) → SteadyOwners X xs (set xs o w)
  owners_set xs o w l f = record { losses = λ i. losses i (get_or_set xs o w i no_owner); cut = λ i target e. cut i target e (get_or_set xs o w i no_owner) }
    where
      losses : (i : ℕ) → ((get_or (set xs o w) i no_owner ≡ w) × (i ≡ o) × (o < length xs)) ⊎ ((get_or (set xs o w) i no_owner ≡ get_or xs i no_owner) × ((i ≡ o → ⊥) ⊎ (length xs ≤ i))) → (get_or (set xs o w) i no_owner).losses ≡ (get_or xs i no_owner).losses
      losses i (inl e) = ap (λ (v : Owner). v.losses) e.0 ∙ (l ∙ ap (λ (n : ℕ). (get_or xs n no_owner).losses) (sym e.1))
      losses i (inr e) = ap (λ (v : Owner). v.losses) e.0

      at_place : (i : ℕ) (target : Target) → o ≡ i → ((get_or xs o no_owner).fate ≡ CutOff target) ⊎ X o target → ((get_or xs i no_owner).fate ≡ CutOff target) ⊎ X i target
      at_place i target q = subst (λ (n : ℕ). ((get_or xs o no_owner).fate ≡ CutOff target) ⊎ X o target → ((get_or xs n no_owner).fate ≡ CutOff target) ⊎ X n target) q (λ h. h)

      cut : (i : ℕ) (target : Target) → (get_or (set xs o w) i no_owner).fate ≡ CutOff target → ((get_or (set xs o w) i no_owner ≡ w) × (i ≡ o) × (o < length xs)) ⊎ ((get_or (set xs o w) i no_owner ≡ get_or xs i no_owner) × ((i ≡ o → ⊥) ⊎ (length xs ≤ i))) → ((get_or xs i no_owner).fate ≡ CutOff target) ⊎ X i target
      cut i target e (inl q) = at_place i target (sym q.1) (f target (ap (λ (v : Owner). v.fate) (sym q.0) ∙ e))
      cut i target e (inr q) = inl (ap (λ (v : Owner). v.fate) (sym q.0) ∙ e)

  -- with its losses and its fate
  pub owners_goes : (xs : List Owner) (o : ℕ) (w : Owner) → w.losses ≡ (get_or xs o no_owner).losses → w.fate ≡ (get_or xs o no_owner).fate → SteadyOwners X xs (set xs o w)
  owners_goes xs o w l f = owners_set xs o w l (λ target e. inl (sym f ∙ e))

  not_cut : (f : OwnerFate) → f ≡ Ended → (target : Target) → f ≡ CutOff target → ⊥
  not_cut f q target e = cc

  runs_uncut : (f : OwnerFate) → f ≡ Running → (target : Target) → f ≡ CutOff target → ⊥
  runs_uncut f q target e = cc

  -- that ends
  pub owners_ends : (xs : List Owner) (o : ℕ) (w : Owner) → w.losses ≡ (get_or xs o no_owner).losses → w.fate ≡ Ended → SteadyOwners X xs (set xs o w)
  owners_ends xs o w l f = owners_set xs o w l (λ target e. absurd (not_cut w.fate f target e))

  -- an owner that begins
  pub owners_more : (xs : List Owner) (w : Owner) → w.losses ≡ no_losses → w.fate ≡ Running → SteadyOwners X xs (xs ++ w ∷ [])
  owners_more xs w l f = record { losses = λ i. losses i (look i); cut = λ i target e. cut i target e (look i) }
    where
      by_one : (i : ℕ) → get_or (xs ++ w ∷ []) i no_owner ≡ get_or (w ∷ []) (i - length xs) no_owner → get_or xs i no_owner ≡ no_owner → ((get_or (w ∷ []) (i - length xs) no_owner ≡ w) × (i - length xs ≡ 0)) ⊎ ((get_or (w ∷ []) (i - length xs) no_owner ≡ no_owner) × (0 < i - length xs)) → Looked xs w i
      by_one i e p (inl q) = inr (e ∙ q.0, p)
      by_one i e p (inr q) = inl (e ∙ (q.0 ∙ sym p))

      past : (i : ℕ) → length xs ≤ i → (i < length xs) ⊎ (get_or xs i no_owner ≡ no_owner) → get_or xs i no_owner ≡ no_owner
      past i l (inl k) = absurd (omega (arith, l, k))
      past i l (inr e) = e

      by_place : (i : ℕ) → ((get_or (xs ++ w ∷ []) i no_owner ≡ get_or xs i no_owner) × (i < length xs)) ⊎ ((get_or (xs ++ w ∷ []) i no_owner ≡ get_or (w ∷ []) (i - length xs) no_owner) × (length xs ≤ i)) → Looked xs w i
      by_place i (inl e) = inl e.0
      by_place i (inr e) = by_one i e.0 (past i e.1 (get_or_past xs i no_owner)) (get_or_one w (i - length xs) no_owner)

      look : (i : ℕ) → Looked xs w i
      look i = by_place i (get_or_append xs (w ∷ []) i no_owner)

      losses : (i : ℕ) → Looked xs w i → (get_or (xs ++ w ∷ []) i no_owner).losses ≡ (get_or xs i no_owner).losses
      losses i (inl e) = ap (λ (v : Owner). v.losses) e
      losses i (inr e) = ap (λ (v : Owner). v.losses) e.0 ∙ (l ∙ ap (λ (v : Owner). v.losses) (sym e.1))

      cut : (i : ℕ) (target : Target) → (get_or (xs ++ w ∷ []) i no_owner).fate ≡ CutOff target → Looked xs w i → ((get_or xs i no_owner).fate ≡ CutOff target) ⊎ X i target
      cut i target e (inl q) = inl (ap (λ (v : Owner). v.fate) (sym q) ∙ e)
      cut i target e (inr q) = absurd (runs_uncut w.fate f target (ap (λ (v : Owner). v.fate) (sym q.0) ∙ e))

module _ (Y : ℕ → Type 0) where
  pub stages_kept : (xs : List Stage) → SteadyStages Y xs xs
  stages_kept xs = record { over = λ i e. inl e }

  pub stages_then : (xs ys zs : List Stage) → SteadyStages Y xs ys → SteadyStages Y ys zs → SteadyStages Y xs zs
  stages_then xs ys zs a b = record { over = λ i e. by_over i (b.over i e) }
    where
      by_over : (i : ℕ) → ((get_or ys i no_stage).life ≡ Over Unavailable) ⊎ Y i → ((get_or xs i no_stage).life ≡ Over Unavailable) ⊎ Y i
      by_over i (inl e) = a.over i e
      by_over i (inr y) = inr y

  pub stages_set : (xs : List Stage) (n : ℕ) (w : Stage) → (w.life ≡ Over Unavailable → ((get_or xs n no_stage).life ≡ Over Unavailable) ⊎ Y n) → SteadyStages Y xs (set xs n w)
  stages_set xs n w f = record { over = λ i e. over i e (get_or_set xs n w i no_stage) }
    where
      at_place : (i : ℕ) → n ≡ i → ((get_or xs n no_stage).life ≡ Over Unavailable) ⊎ Y n → ((get_or xs i no_stage).life ≡ Over Unavailable) ⊎ Y i
      at_place i q = subst (λ (m : ℕ). ((get_or xs n no_stage).life ≡ Over Unavailable) ⊎ Y n → ((get_or xs m no_stage).life ≡ Over Unavailable) ⊎ Y m) q (λ h. h)

      over : (i : ℕ) → (get_or (set xs n w) i no_stage).life ≡ Over Unavailable → ((get_or (set xs n w) i no_stage ≡ w) × (i ≡ n) × (n < length xs)) ⊎ ((get_or (set xs n w) i no_stage ≡ get_or xs i no_stage) × ((i ≡ n → ⊥) ⊎ (length xs ≤ i))) → ((get_or xs i no_stage).life ≡ Over Unavailable) ⊎ Y i
      over i e (inl q) = at_place i (sym q.1) (f (ap (λ (v : Stage). v.life) (sym q.0) ∙ e))
      over i e (inr q) = inl (ap (λ (v : Stage). v.life) (sym q.0) ∙ e)

  -- a stage that goes on as it lives, or lives, or has exited
  pub stages_goes : (xs : List Stage) (n : ℕ) (w : Stage) → w.life ≡ (get_or xs n no_stage).life → SteadyStages Y xs (set xs n w)
  stages_goes xs n w q = stages_set xs n w (λ e. inl (sym q ∙ e))

  live_not_over : (l : Life) → l ≡ Live → l ≡ Over Unavailable → ⊥
  live_not_over l q e = cc

  exited_other : (l : Life) → l ≡ Over Exited → l ≡ Over Unavailable → ⊥
  exited_other l q e = cc

  pub stages_lives : (xs : List Stage) (n : ℕ) (w : Stage) → w.life ≡ Live → SteadyStages Y xs (set xs n w)
  stages_lives xs n w q = stages_set xs n w (λ e. absurd (live_not_over w.life q e))

  pub stages_exits : (xs : List Stage) (n : ℕ) (w : Stage) → w.life ≡ Over Exited → SteadyStages Y xs (set xs n w)
  stages_exits xs n w q = stages_set xs n w (λ e. absurd (exited_other w.life q e))

module _ (X : ℕ → Target → Type 0) (Y : ℕ → Type 0) where
  -- nothing changes
  pub same : (s t : State) → t.owners ≡ s.owners → t.stages ≡ s.stages → Steady X Y s t
  same s t a b = record { owners = subst (SteadyOwners X s.owners) (sym a) (owners_kept X s.owners); stages = subst (SteadyStages Y s.stages) (sym b) (stages_kept Y s.stages) }

  pub after : (s t u : State) → Steady X Y s t → Steady X Y t u → Steady X Y s u
  after s t u a b = record { owners = owners_then X s.owners t.owners u.owners a.owners b.owners; stages = stages_then Y s.stages t.stages u.stages a.stages b.stages }

  -- owners alone, or stages alone
  pub by_owners : (s t : State) → t.stages ≡ s.stages → SteadyOwners X s.owners t.owners → Steady X Y s t
  by_owners s t b a = record { owners = a; stages = subst (SteadyStages Y s.stages) (sym b) (stages_kept Y s.stages) }

  pub by_stages : (s t : State) → t.owners ≡ s.owners → SteadyStages Y s.stages t.stages → Steady X Y s t
  by_stages s t a b = record { owners = subst (SteadyOwners X s.owners) (sym a) (owners_kept X s.owners); stages = b }
