-- What holds of owners' losses in every state of a run: an owner that was cut off lost that shard or a quorum,
-- one that runs lost none, and a stage that is over as unavailable had a call or a fence statement cut off.
use Rattle.std.proofs.Common.{◌≡◌, ℕ, ◌-◌, ◌<◌, ◌≤◌, ◌⊎◌, inl, inr, true, false, List, length, get_or, ap, sym, ◌∙◌, subst, arith}
use Rattle.std.proofs.Math.ListN.{length-set}
use Rattle.std.proofs.lemmas.Bool.{true≢false}
use Rattle.rss_names.specs.declared.service.Target.{Target}
use Rattle.pipeline_lang.specs.declared.config.Config.{Config}
use Rattle.rss_model.specs.declared.history.How.TheVariants.{Unavailable}
use Rattle.rss_tables.specs.Losses.{target_count, one_more_lost}
use Rattle.rss_machine.specs.Moves.{counts_loss}
use Rattle.rss_machine.specs.Standing.{is_running}
use Rattle.rss_machine.specs.State.{State, Stage, Owner, owner_at, no_owner, no_stage}
use Rattle.rss_machine.specs.declared.state.Life.TheVariants.{Over}
use Rattle.rss_machine.specs.declared.state.OwnerFate.{OwnerFate}
use Rattle.rss_machine.specs.declared.state.OwnerFate.TheVariants.{CutOff}
use Rattle.world_laws.specs.Calls.{is_stub, Onward}
use Rattle.world_laws.proofs.Looks.{get_or_past, get_or_set}
use Rattle.world_laws.specs.Targets.{HasPlace}
use Rattle.loss_laws.proofs.Steady.{Steady}
use Rattle.loss_laws.proofs.Cut.{CutBy, NoneCut, none_more, none_cut}
use Rattle.loss_laws.proofs.Dies.{CutsOne, EndsStage}
use Rattle.loss_laws.proofs.Losing.{Nobody, NoStage, Losing}

-- a call or a fence statement of the stage in a place that was cut off from a target
pub record HurtBy (xs : List Owner) (place : ℕ) : Type 0 where
  pub owner : ℕ
  pub target : Target
  pub there : owner < length xs
  pub of_stage : (get_or xs owner no_owner).stage - 1 ≡ place
  pub of_kind : is_stub (get_or xs owner no_owner).kind ≡ false
  pub cut : (get_or xs owner no_owner).fate ≡ CutOff target

-- an owner was cut off
abbrev pub WasCut : Owner → Type 0
WasCut w = (target : Target) × (w.fate ≡ CutOff target)

pub record Held (c : Config) (xs : List Owner) (stages : List Stage) : Type 0 where
  pub long : (o : ℕ) → length (get_or xs o no_owner).losses ≡ target_count
  pub cut : (o : ℕ) (target : Target) → (get_or xs o no_owner).fate ≡ CutOff target → CutBy c (get_or xs o no_owner).losses target
  pub fine : (o : ℕ) → WasCut (get_or xs o no_owner) ⊎ NoneCut c (get_or xs o no_owner).losses
  pub hurt : (i : ℕ) → (get_or stages i no_stage).life ≡ Over Unavailable → HurtBy xs i

-- an owner has lost one message more, and each other one is as it was
abbrev pub Counted : State → ℕ → Target → ℕ → Type 0
Counted s o target i =
    ((i ≡ o) × (owner_at (counts_loss s o target) i ≡ record (owner_at s o) { losses = one_more_lost (owner_at s o).losses target })) ⊎ ((i ≡ o → ⊥) × (owner_at (counts_loss s o target) i ≡ owner_at s i))

pub counted : (s : State) (o : ℕ) (target : Target) → o < length s.owners → (i : ℕ) → Counted s o target i
counted s o target l i = by_place (get_or_set s.owners o _ i no_owner)
  where
    by_place : ((owner_at (counts_loss s o target) i ≡ record (owner_at s o) { losses = one_more_lost (owner_at s o).losses target }) × (i ≡ o) × (o < length s.owners)) ⊎ ((owner_at (counts_loss s o target) i ≡ owner_at s i) × ((i ≡ o → ⊥) ⊎ (length s.owners ≤ i))) → Counted s o target i
    by_place (inl e) = inl (e.1, e.0)
    by_place (inr (e, inl f)) = inr (f, e)
    by_place (inr (e, inr f)) = inr (λ q. omega (arith, f, q, l), e)

over_fate : (f : OwnerFate) (target : Target) → f ≡ CutOff target → is_running f ≡ false
over_fate f target e = ap is_running e

-- an owner that runs was not cut off
pub runs_uncut : (c : Config) (s : State) → Held c s.owners s.stages → (o : ℕ) → is_running (owner_at s o).fate ≡ true → NoneCut c (owner_at s o).losses
runs_uncut c s h o r = by_cut (h.fine o)
  where
    by_cut : WasCut (owner_at s o) ⊎ NoneCut c (owner_at s o).losses → NoneCut c (owner_at s o).losses
    by_cut (inl q) = absurd (true≢false (sym r ∙ over_fate (owner_at s o).fate q.0 q.1))
    by_cut (inr n) = n

-- owners that are there stay of their stage and kind, and stay over
module _ (c : Config) (s u : State) (tries : 1 ≤ c.tries) (d : Onward s u) (h : Held c s.owners s.stages) where
  hurt_stays : (i : ℕ) → HurtBy s.owners i → HurtBy u.owners i
  hurt_stays i b =
      let k = d.each b.owner b.there in
      let a = b.there in
      let m = d.long in
      record {
        owner = b.owner;
        target = b.target;
        there = omega (arith, a, m);
        of_stage = ap (λ (n : ℕ). n - 1) k.stage ∙ b.of_stage;
        of_kind = ap is_stub k.kind ∙ b.of_kind;
        cut = k.fate (over_fate (owner_at s b.owner).fate b.target b.cut) ∙ b.cut;
      }

  -- an owner that keeps its losses
  fine_stays : (o : ℕ) → (owner_at u o).losses ≡ (owner_at s o).losses → WasCut (owner_at u o) ⊎ NoneCut c (owner_at u o).losses
  fine_stays o e = by_there (get_or_past s.owners o no_owner)
    where
      by_cut : o < length s.owners → WasCut (owner_at s o) ⊎ NoneCut c (owner_at s o).losses → WasCut (owner_at u o) ⊎ NoneCut c (owner_at u o).losses
      by_cut l (inl q) = inl (q.0, (d.each o l).fate (over_fate (owner_at s o).fate q.0 q.1) ∙ q.1)
      by_cut l (inr n) = inr (subst (NoneCut c) (sym e) n)

      by_there : (o < length s.owners) ⊎ (owner_at s o ≡ no_owner) → WasCut (owner_at u o) ⊎ NoneCut c (owner_at u o).losses
      by_there (inl l) = by_cut l (h.fine o)
      by_there (inr q) = inr (subst (NoneCut c) (sym (e ∙ ap (λ (w : Owner). w.losses) q)) (none_cut c tries))

  -- a step that loses nothing
  pub held_steady : Steady Nobody NoStage s u → Held c u.owners u.stages
  held_steady a = record {
    long = λ o. ap (λ (xs : List ℕ). length xs) (a.owners.losses o) ∙ h.long o;
    cut = λ o target e. cut o target (a.owners.cut o target e);
    fine = λ o. fine_stays o (a.owners.losses o);
    hurt = λ i e. hurt i (a.stages.over i e);
  }
    where
      cut : (o : ℕ) (target : Target) → ((owner_at s o).fate ≡ CutOff target) ⊎ ⊥ → CutBy c (owner_at u o).losses target
      cut o target (inl e) = subst (λ (xs : List ℕ). CutBy c xs target) (sym (a.owners.losses o)) (h.cut o target e)
      cut o target (inr e) = absurd e

      hurt : (i : ℕ) → ((get_or s.stages i no_stage).life ≡ Over Unavailable) ⊎ ⊥ → HurtBy u.owners i
      hurt i (inl e) = hurt_stays i (h.hurt i e)
      hurt i (inr e) = absurd e

  -- a step in which an owner that runs loses one message more
  module _ (o : ℕ) (target : Target) (r : is_running (owner_at s o).fate ≡ true) (l : o < length s.owners) where
    module _ (X : ℕ → Target → Type 0) (Y : ℕ → Type 0) (a : Steady X Y (counts_loss s o target) u) where
      counts_long : (i : ℕ) → length (owner_at u i).losses ≡ target_count
      counts_long i = ap (λ (xs : List ℕ). length xs) (a.owners.losses i) ∙ by_counted (counted s o target l i)
        where
          by_counted : Counted s o target i → length (owner_at (counts_loss s o target) i).losses ≡ target_count
          by_counted (inl e) = ap (λ (w : Owner). length w.losses) e.1 ∙ (length-set (owner_at s o).losses _ _ ∙ h.long o)
          by_counted (inr e) = ap (λ (w : Owner). length w.losses) e.1 ∙ h.long i

      counts_cut : (i : ℕ) (x : Target) → (X i x → CutBy c (owner_at u i).losses x) → ((owner_at (counts_loss s o target) i).fate ≡ CutOff x) ⊎ X i x → CutBy c (owner_at u i).losses x
      counts_cut i x f (inr y) = f y
      counts_cut i x f (inl e) = by_counted (counted s o target l i)
        where
          by_counted : Counted s o target i → CutBy c (owner_at u i).losses x
          by_counted (inl q) = absurd (true≢false (sym r ∙ (ap (λ (w : Owner). is_running w.fate) (sym q.1) ∙ over_fate _ x e)))
          by_counted (inr q) = subst (λ (xs : List ℕ). CutBy c xs x) (sym (a.owners.losses i ∙ ap (λ (w : Owner). w.losses) q.1)) (h.cut i x (ap (λ (w : Owner). w.fate) (sym q.1) ∙ e))

      counts_fine : (i : ℕ) → (i ≡ o → WasCut (owner_at u i) ⊎ NoneCut c (owner_at u i).losses) → WasCut (owner_at u i) ⊎ NoneCut c (owner_at u i).losses
      counts_fine i f = by_counted (counted s o target l i)
        where
          by_counted : Counted s o target i → WasCut (owner_at u i) ⊎ NoneCut c (owner_at u i).losses
          by_counted (inl e) = f e.0
          by_counted (inr e) = fine_stays i (a.owners.losses i ∙ ap (λ (w : Owner). w.losses) e.1)

      counts_hurt : (i : ℕ) → (Y i → HurtBy u.owners i) → ((get_or s.stages i no_stage).life ≡ Over Unavailable) ⊎ Y i → HurtBy u.owners i
      counts_hurt i f (inl e) = hurt_stays i (h.hurt i e)
      counts_hurt i f (inr y) = f y

      own_losses : (i : ℕ) → i ≡ o → (owner_at u i).losses ≡ one_more_lost (owner_at s o).losses target
      own_losses i e = a.owners.losses i ∙ by_counted (counted s o target l i)
        where
          by_counted : Counted s o target i → (owner_at (counts_loss s o target) i).losses ≡ one_more_lost (owner_at s o).losses target
          by_counted (inl q) = ap (λ (w : Owner). w.losses) q.1
          by_counted (inr q) = absurd (q.0 e)

    pub held_losing : HasPlace c target → Losing c s u o target → Held c u.owners u.stages
    held_losing p (inl g) = record {
      long = counts_long Nobody NoStage g.steady;
      cut = λ i x e. counts_cut Nobody NoStage g.steady i x (λ y. absurd y) (g.steady.owners.cut i x e);
      fine = λ i. counts_fine Nobody NoStage g.steady i (λ e. inr (subst (NoneCut c) (sym (own_losses Nobody NoStage g.steady i e)) (none_more c (owner_at s o).losses target p g.spared (runs_uncut c s h o r))));
      hurt = λ i e. counts_hurt Nobody NoStage g.steady i (λ y. absurd y) (g.steady.stages.over i e);
    }
    held_losing p (inr g) = record {
      long = counts_long (CutsOne o target) (EndsStage s o) g.steady;
      cut = λ i x e. counts_cut (CutsOne o target) (EndsStage s o) g.steady i x (λ y. is_cut i x y) (g.steady.owners.cut i x e);
      fine = λ i. counts_fine (CutsOne o target) (EndsStage s o) g.steady i (λ e. inl (target, ap (λ (n : ℕ). (owner_at u n).fate) e ∙ g.fate));
      hurt = λ i e. counts_hurt (CutsOne o target) (EndsStage s o) g.steady i (hurts i) (g.steady.stages.over i e);
    }
      where
        is_cut : (i : ℕ) (x : Target) → CutsOne o target i x → CutBy c (owner_at u i).losses x
        is_cut i x y = subst (λ (xs : List ℕ). CutBy c xs x) (sym (own_losses (CutsOne o target) (EndsStage s o) g.steady i y.0)) (subst (CutBy c (one_more_lost (owner_at s o).losses target)) (sym y.1) (p, g.cut))

        hurts : (i : ℕ) → EndsStage s o i → HurtBy u.owners i
        hurts i y = record {
          owner = o;
          target = target;
          there = let m = d.long in omega (arith, l, m);
          of_stage = ap (λ (n : ℕ). n - 1) (d.each o l).stage ∙ sym y.0;
          of_kind = ap is_stub (d.each o l).kind ∙ y.1;
          cut = g.fate;
        }
