-- What stages, owners and the history tell of calls, where a stage dies.
use Rattle.std.proofs.Common.{◌≡◌, ℕ, ◌<◌, ◌≤◌, ◌⊎◌, inl, inr, ◌-◌, true, false, List, [], ◌∷◌, ◌++◌, length, get_or, Option, Some, None, refl, ap, sym, ◌∙◌, subst, arith}
use Rattle.std.specs.Prelude.{◌+◌}
use Rattle.std.proofs.Math.ListN.{set}
use Rattle.std.proofs.lemmas.Bool.{true≢false, cases_lt, cases_eq}
use Rattle.rss_model.specs.declared.op.Op.{Op}
use Rattle.rss_machine.specs.Moves.{closed}
use Rattle.rss_machine.specs.Standing.{is_running}
use Rattle.rss_machine.specs.State.{State, Stage, Owner, owner_at, stage_at, no_owner}
use Rattle.rss_machine.specs.declared.session.OwnerKind.{OwnerKind}
use Rattle.rss_machine.specs.declared.session.OwnerKind.TheVariants as kind
use Rattle.rss_machine.specs.declared.state.OwnerFate.{OwnerFate}
use Rattle.rss_machine.specs.declared.state.OwnerFate.TheVariants.{Ended}
use Rattle.world_laws.specs.Calls.{is_call, is_stub, StagesOwn}
use Rattle.world_laws.proofs.Entries.{kept_same, kept_running}
use Rattle.world_laws.specs.Calls.{Kept}
use Rattle.world_laws.proofs.OwnerFits.{Fits, fits_close, nobody_fits}
use Rattle.world_laws.proofs.StagesOwned.{stages_clear, running_there}
use Rattle.world_laws.proofs.Told.{Told, Calm, told_calm}
use Rattle.world_laws.proofs.Looks.{looks, get_or_past, some_is, none_is_not}

-- a stage dies: what it has under way is closed, and its stub begins
pub record Dead (s t : State) (n : ℕ) (f : OwnerFate) (xs : List Owner) (stub : Owner) (x : Stage) : Type 0 where
  pub owners : t.owners ≡ xs ++ stub ∷ []
  pub long : length xs ≡ length s.owners
  pub same : (i : ℕ) → ((stage_at s n).owner ≡ Some i → ⊥) → get_or xs i no_owner ≡ owner_at s i
  pub gone : (i : ℕ) → (stage_at s n).owner ≡ Some i → get_or xs i no_owner ≡ closed s i f
  pub over : is_running f ≡ false
  pub not_ended : f ≡ Ended → ⊥
  pub of_kind : is_stub stub.kind ≡ true
  pub nobody : x.owner ≡ None
  pub stages : t.stages ≡ set s.stages (n - 1) x

module _ (s t : State) (n : ℕ) (f : OwnerFate) (xs : List Owner) (stub : Owner) (x : Stage) (d : Dead s t n f xs stub x) (h : Told s) where
  or_owner : (i : ℕ) → ((stage_at s n).owner ≡ Some i) ⊎ ((stage_at s n).owner ≡ Some i → ⊥)
  or_owner i = by_owner (stage_at s n).owner refl
    where
      by_owner : (o : Option ℕ) → (stage_at s n).owner ≡ o → ((stage_at s n).owner ≡ Some i) ⊎ ((stage_at s n).owner ≡ Some i → ⊥)
      by_owner None e = inr (λ g. none_is_not i (sym e ∙ g))
      by_owner (Some o) e = by_same (cases_eq o i)
        where
          by_same : (o ≡ i) ⊎ (o ≡ i → ⊥) → ((stage_at s n).owner ≡ Some i) ⊎ ((stage_at s n).owner ≡ Some i → ⊥)
          by_same (inl q) = inl (e ∙ ap (λ (j : ℕ). Some j) q)
          by_same (inr q) = inr (λ g. q (some_is o i (sym e ∙ g)))

  old : (i : ℕ) → i < length s.owners → owner_at t i ≡ get_or xs i no_owner
  old i l = ap (λ (owners : List Owner). get_or owners i no_owner) d.owners ∙ at xs stub i (let k = d.long in omega (arith, l, k))
    where
      at : (xs : List Owner) (w : Owner) (i : ℕ) → i < length xs → get_or (xs ++ w ∷ []) i no_owner ≡ get_or xs i no_owner
      at xs w i l = grind (arith, looks, l)

  past : (i : ℕ) → length s.owners ≤ i → (owner_at t i ≡ stub) ⊎ (owner_at t i ≡ no_owner)
  past i l = by_place (at xs stub i (let k = d.long in omega (arith, l, k)))
    where
      at : (xs : List Owner) (w : Owner) (i : ℕ) → length xs ≤ i → (get_or (xs ++ w ∷ []) i no_owner ≡ w) ⊎ (get_or (xs ++ w ∷ []) i no_owner ≡ no_owner)
      at xs w i l = grind (arith, looks, l)

      by_place : (get_or (xs ++ stub ∷ []) i no_owner ≡ stub) ⊎ (get_or (xs ++ stub ∷ []) i no_owner ≡ no_owner) → (owner_at t i ≡ stub) ⊎ (owner_at t i ≡ no_owner)
      by_place (inl e) = inl (ap (λ (owners : List Owner). get_or owners i no_owner) d.owners ∙ e)
      by_place (inr e) = inr (ap (λ (owners : List Owner). get_or owners i no_owner) d.owners ∙ e)

  grown : length t.owners ≡ length s.owners + 1
  grown = let k = d.long in let m = ap (λ (owners : List Owner). length owners) d.owners ∙ at xs stub in omega (arith, k, m)
    where
      at : (xs : List Owner) (w : Owner) → length (xs ++ w ∷ []) ≡ length xs + 1
      at xs w = grind (arith, looks)

  -- an owner that was there is as it was, or closed
  each : (i : ℕ) → i < length s.owners → (owner_at t i ≡ owner_at s i) ⊎ (((stage_at s n).owner ≡ Some i) × (owner_at t i ≡ closed s i f))
  each i l = by_owner (or_owner i)
    where
      by_owner : ((stage_at s n).owner ≡ Some i) ⊎ ((stage_at s n).owner ≡ Some i → ⊥) → (owner_at t i ≡ owner_at s i) ⊎ (((stage_at s n).owner ≡ Some i) × (owner_at t i ≡ closed s i f))
      by_owner (inl e) = inr (e, old i l ∙ d.gone i e)
      by_owner (inr e) = inl (old i l ∙ d.same i e)

  dead_calm : Calm s t
  dead_calm = record {
    onward = record { long = let k = grown in omega (arith, k); each = λ i l. kept i (each i l) };
    calls = λ i. calls i (cases_lt i (length s.owners));
    ends = λ i y p q. ends i y p q (cases_lt i (length s.owners));
    anew = λ i l m. anew i l m (past i l);
  }
    where
      kept : (i : ℕ) → (owner_at t i ≡ owner_at s i) ⊎ (((stage_at s n).owner ≡ Some i) × (owner_at t i ≡ closed s i f)) → Kept (owner_at s i) (owner_at t i)
      kept i (inl e) = kept_same (owner_at s i) (owner_at t i) e
      kept i (inr e) = kept_running (owner_at s i) (owner_at t i) (h.stages.owner n i e.0).running (ap (λ (v : Owner). v.stage) e.1) (ap (λ (v : Owner). v.kind) e.1) (ap (λ (v : Owner). v.dates.begun) e.1)

      no_call : (k : OwnerKind) → is_stub k ≡ true → is_call k ≡ false
      no_call (kind.Calling y) e = absurd (true≢false (sym e))
      no_call kind.Fencing e = refl
      no_call (kind.Stubbing u) e = refl

      nobody : (i : ℕ) → length s.owners ≤ i → owner_at s i ≡ no_owner
      nobody i l = by_end (get_or_past s.owners i no_owner)
        where
          by_end : (i < length s.owners) ⊎ (owner_at s i ≡ no_owner) → owner_at s i ≡ no_owner
          by_end (inl k) = absurd (omega (arith, k, l))
          by_end (inr e) = e

      none_calls : (i : ℕ) → (owner_at t i ≡ stub) ⊎ (owner_at t i ≡ no_owner) → is_call (owner_at t i).kind ≡ false
      none_calls i (inl e) = no_call (owner_at t i).kind (ap (λ (v : Owner). is_stub v.kind) e ∙ d.of_kind)
      none_calls i (inr e) = ap (λ (v : Owner). is_call v.kind) e

      calls : (i : ℕ) → (i < length s.owners) ⊎ (length s.owners ≤ i) → is_call (owner_at t i).kind ≡ is_call (owner_at s i).kind
      calls i (inl l) = ap is_call (kept i (each i l)).kind
      calls i (inr l) = none_calls i (past i l) ∙ sym (ap (λ (v : Owner). is_call v.kind) (nobody i l))

      ends : (i : ℕ) (y : Op) → (owner_at t i).kind ≡ kind.Calling y → (owner_at t i).fate ≡ Ended → (i < length s.owners) ⊎ (length s.owners ≤ i) → ((owner_at s i).kind ≡ kind.Calling y) × ((owner_at s i).fate ≡ Ended)
      ends i y p q (inr l) = absurd (true≢false (ap is_call (sym p) ∙ none_calls i (past i l)))
      ends i y p q (inl l) = by_each (each i l)
        where
          by_each : (owner_at t i ≡ owner_at s i) ⊎ (((stage_at s n).owner ≡ Some i) × (owner_at t i ≡ closed s i f)) → ((owner_at s i).kind ≡ kind.Calling y) × ((owner_at s i).fate ≡ Ended)
          by_each (inl e) = (ap (λ (v : Owner). v.kind) (sym e) ∙ p, ap (λ (v : Owner). v.fate) (sym e) ∙ q)
          by_each (inr e) = absurd (d.not_ended (ap (λ (v : Owner). v.fate) (sym e.1) ∙ q))

      anew : (i : ℕ) → length s.owners ≤ i → i < length t.owners → (owner_at t i ≡ stub) ⊎ (owner_at t i ≡ no_owner) → is_stub (owner_at t i).kind ≡ true
      anew i l m (inl e) = ap (λ (v : Owner). is_stub v.kind) e ∙ d.of_kind
      anew i l m (inr e) = ap (λ (v : Owner). is_stub v.kind) (here (let k = grown in omega (arith, k, l, m))) ∙ d.of_kind
        where
          here : i ≡ length s.owners → owner_at t i ≡ stub
          here q = ap (λ (owners : List Owner). get_or owners i no_owner) d.owners ∙ at xs stub i (q ∙ sym d.long)
            where
              at : (xs : List Owner) (w : Owner) (i : ℕ) → i ≡ length xs → get_or (xs ++ w ∷ []) i no_owner ≡ w
              at xs w i e = grind (arith, looks, e)

  dead_stages : StagesOwn t
  dead_stages =
      stages_clear s t n x (record {
        nobody = d.nobody;
        stages = d.stages;
        same = λ i l e. old i l ∙ d.same i e;
        gone = λ i e. ap (λ (v : Owner). is_running v.fate) (old i (running_there s i (h.stages.owner n i e).running) ∙ d.gone i e) ∙ d.over;
        anew = λ i l. new i (past i l);
      }) h.stages
    where
      new : (i : ℕ) → (owner_at t i ≡ stub) ⊎ (owner_at t i ≡ no_owner) → (is_running (owner_at t i).fate ≡ false) ⊎ (is_stub (owner_at t i).kind ≡ true)
      new i (inl e) = inr (ap (λ (v : Owner). is_stub v.kind) e ∙ d.of_kind)
      new i (inr e) = inl (ap (λ (v : Owner). is_running v.fate) e)

  dead_fits : t.steps ≡ s.steps → Fits s.steps stub → (i : ℕ) → Fits t.steps (owner_at t i)
  dead_fits a g i = subst (λ (m : ℕ). Fits m (owner_at t i)) (sym a) (by_there (cases_lt i (length s.owners)))
    where
      by_each : (owner_at t i ≡ owner_at s i) ⊎ (((stage_at s n).owner ≡ Some i) × (owner_at t i ≡ closed s i f)) → Fits s.steps (owner_at t i)
      by_each (inl e) = subst (Fits s.steps) (sym e) (h.fits i)
      by_each (inr e) = subst (Fits s.steps) (sym e.1) (fits_close s.steps (owner_at s i) (closed s i f) d.over refl refl refl refl refl (h.fits i))

      by_new : (owner_at t i ≡ stub) ⊎ (owner_at t i ≡ no_owner) → Fits s.steps (owner_at t i)
      by_new (inl e) = subst (Fits s.steps) (sym e) g
      by_new (inr e) = subst (Fits s.steps) (sym e) (nobody_fits s.steps)

      by_there : (i < length s.owners) ⊎ (length s.owners ≤ i) → Fits s.steps (owner_at t i)
      by_there (inl l) = by_each (each i l)
      by_there (inr l) = by_new (past i l)

  pub told_dead : t.steps ≡ s.steps → t.history ≡ s.history → Fits s.steps stub → Told t
  told_dead a e g = told_calm s t e dead_calm (dead_fits a g) dead_stages h
