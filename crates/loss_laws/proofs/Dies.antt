-- A stage dies, or its stub is cut off: who is cut off by it.
use Rattle.std.proofs.Common.{◌≡◌, ℕ, ◌-◌, ◌<◌, inr, false, List, [], ◌∷◌, ◌++◌, length, get_or, Option, Some, None, refl, ap, sym, ◌∙◌, subst, arith}
use Rattle.std.proofs.Math.ListN.{set}
use Rattle.std.proofs.lemmas.List.{get_or-set_same}
use Rattle.rss_names.specs.declared.service.Target.{Target}
use Rattle.pipeline_lang.specs.declared.config.Config.{Config}
use Rattle.rss_model.specs.declared.history.Entry.TheVariants as entry
use Rattle.rss_model.specs.declared.history.How.{How}
use Rattle.rss_model.specs.declared.history.How.TheVariants.{Unavailable}
use Rattle.rss_tables.specs.Works.{no_works}
use Rattle.rss_machine.specs.Effect.{target_lost}
use Rattle.rss_machine.specs.Moves.{with_owner, closed, closes_owner, unsettled_by, dies, loses_stub}
use Rattle.rss_machine.specs.State.{State, Owner, stage_at, owner_at, opening_owner, no_owner}
use Rattle.rss_machine.specs.declared.session.OwnerKind.{OwnerKind}
use Rattle.rss_machine.specs.declared.session.OwnerKind.TheVariants as kind
use Rattle.rss_machine.specs.declared.state.Life.TheVariants as life
use Rattle.rss_machine.specs.declared.state.OwnerFate.{OwnerFate}
use Rattle.rss_machine.specs.declared.state.OwnerFate.TheVariants.{CutOff}
use Rattle.world_laws.specs.Calls.{is_stub}
use Rattle.world_laws.proofs.Looks.{looks, some_is, none_is_not}
use Rattle.loss_laws.proofs.Steady.{Steady, owners_set, owners_more, stages_set, same, after, by_owners}
use Rattle.loss_laws.proofs.Calls.{cuts_owners, cuts_stages}

unavailable_is : (how : How) → life.Over how ≡ life.Over Unavailable → how ≡ Unavailable
unavailable_is how e = cc

module _ (X : ℕ → Target → Type 0) (Y : ℕ → Type 0) where
  pub s_dies : (s : State) (n : ℕ) (how : How) (f : OwnerFate) → ((o : ℕ) (target : Target) → (stage_at s n).owner ≡ Some o → f ≡ CutOff target → X o target) → (how ≡ Unavailable → Y (n - 1)) → Steady X Y s (dies s n how f)
  s_dies s n how f x y = by_owner (stage_at s n).owner refl
    where
      by_owner : (o : Option ℕ) → (stage_at s n).owner ≡ o → Steady X Y s (let t = closes_owner s o f in record t {
        owners = t.owners ++ opening_owner n (kind.Stubbing (unsettled_by s o)) false (no_works (stage_at s n).context) s.steps ∷ [];
        stages = set t.stages (n - 1) (record (stage_at t n) { life = life.Over how; owner = None; stub = Some (length t.owners) });
        history = t.history ++ entry.Over n how ∷ [];
      })
      by_owner None e = record { owners = owners_more X s.owners _ refl refl; stages = stages_set Y s.stages (n - 1) _ (λ q. inr (y (unavailable_is how q))) }
      by_owner (Some o) e =
          let t = with_owner s o (closed s o f) in
          after X Y s t _ (by_owners X Y s t refl (owners_set X s.owners o _ refl (λ target q. inr (x o target e q))))
          (record { owners = owners_more X t.owners _ refl refl; stages = stages_set Y t.stages (n - 1) _ (λ q. inr (y (unavailable_is how q))) })

  s_loses_stub : (c : Config) (s : State) (o : ℕ) (target : Target) → X o target → Steady X Y s (loses_stub c s o target)
  s_loses_stub c s o target x =
      let t = with_owner s o (closed s o (CutOff target)) in
      after X Y s t _ (by_owners X Y s t refl (owners_set X s.owners o _ refl (λ other q. inr (subst (X o) (cut_is target other q) x))))
      (same X Y t _ (cuts_owners X Y c c.pipe_ends t (owner_at s o).stage 1) (cuts_stages X Y c c.pipe_ends t (owner_at s o).stage 1))
    where
      cut_is : (target other : Target) → CutOff target ≡ CutOff other → target ≡ other
      cut_is target other e = cc

-- the owner of a stage that dies is closed
dies_fate : (s : State) (n o : ℕ) (how : How) (f : OwnerFate) → o < length s.owners → (stage_at s n).owner ≡ Some o → (owner_at (dies s n how f) o).fate ≡ f
dies_fate s n o how f l e = by_owner (stage_at s n).owner e
  where
    at_closed : (xs : List Owner) (p : ℕ) (w stub : Owner) → p ≡ o → o < length xs → get_or (set xs p w ++ stub ∷ []) o no_owner ≡ w
    at_closed xs p w stub q l = grind (arith, looks, q, l)

    by_owner : (x : Option ℕ) → x ≡ Some o → (get_or ((closes_owner s x f).owners ++ opening_owner n (kind.Stubbing (unsettled_by s x)) false (no_works (stage_at s n).context) s.steps ∷ []) o no_owner).fate ≡ f
    by_owner None q = absurd (none_is_not o q)
    by_owner (Some p) q = ap (λ (w : Owner). w.fate) (at_closed s.owners p (closed s p f) (opening_owner n (kind.Stubbing (unsettled_by s (Some p))) false (no_works (stage_at s n).context) s.steps) (some_is p o q) l)

stub_fate : (c : Config) (s : State) (o : ℕ) (target : Target) → o < length s.owners → (owner_at (loses_stub c s o target) o).fate ≡ CutOff target
stub_fate c s o target l =
    let t = with_owner s o (closed s o (CutOff target)) in
    ap (λ (owners : List Owner). (get_or owners o no_owner).fate) (cuts_owners (λ i x. ⊥) (λ i. ⊥) c c.pipe_ends t (owner_at s o).stage 1) ∙ ap (λ (w : Owner). w.fate) (get_or-set_same s.owners o (closed s o (CutOff target)) no_owner l)

-- one owner is cut off from a target, and its stage is over where it is no stub
abbrev pub CutsOne : ℕ → Target → ℕ → Target → Type 0
CutsOne o target i other = (i ≡ o) × (other ≡ target)

abbrev pub EndsStage : State → ℕ → ℕ → Type 0
EndsStage s o i = (i ≡ (owner_at s o).stage - 1) × (is_stub (owner_at s o).kind ≡ false)

-- a target is lost to an owner
pub record LostTo (s t : State) (o : ℕ) (target : Target) : Type 0 where
  pub steady : Steady (CutsOne o target) (EndsStage s o) s t
  pub fate : (owner_at t o).fate ≡ CutOff target

pub target_is_lost : (c : Config) (s : State) (o : ℕ) (target : Target) → o < length s.owners → (is_stub (owner_at s o).kind ≡ false → (stage_at s (owner_at s o).stage).owner ≡ Some o) → (k : OwnerKind) → (owner_at s o).kind ≡ k → LostTo s (target_lost c s o target k) o target
target_is_lost c s o target l own k e = by_kind k e
  where
    cut_is : (target other : Target) → CutOff target ≡ CutOff other → other ≡ target
    cut_is target other e = cc

    dead : is_stub (owner_at s o).kind ≡ false → LostTo s (dies s (owner_at s o).stage Unavailable (CutOff target)) o target
    dead q = record {
      steady = s_dies (CutsOne o target) (EndsStage s o) s (owner_at s o).stage Unavailable (CutOff target) (λ i other f g. (some_is i o (sym f ∙ own q), cut_is target other g)) (λ f. (refl, q));
      fate = dies_fate s (owner_at s o).stage o Unavailable (CutOff target) l (own q);
    }

    by_kind : (k : OwnerKind) → (owner_at s o).kind ≡ k → LostTo s (target_lost c s o target k) o target
    by_kind (kind.Calling x) f = dead (ap is_stub f)
    by_kind kind.Fencing f = dead (ap is_stub f)
    by_kind (kind.Stubbing u) f = record { steady = s_loses_stub (CutsOne o target) (EndsStage s o) c s o target (refl, refl); fate = stub_fate c s o target l }
