-- What stages have under way, as stages and owners change.
use Rattle.std.proofs.Common.{◌≡◌, ℕ, ◌<◌, ◌≤◌, ◌⊎◌, inl, inr, ◌-◌, true, false, List, [], ◌∷◌, ◌++◌, length, get_or, Some, None, ap, sym, ◌∙◌, subst, arith}
use Rattle.std.proofs.Math.ListN.{set}
use Rattle.std.proofs.lemmas.Bool.{true≢false, cases_lt}
use Rattle.rss_machine.specs.Standing.{is_live, is_running}
use Rattle.rss_machine.specs.State.{State, Stage, Owner, owner_at, stage_at, no_owner, no_stage}
use Rattle.world_laws.specs.Calls.{is_stub, Owns, StagesOwn}
use Rattle.world_laws.proofs.StageMoves.{Making}
use Rattle.world_laws.proofs.Looks.{looks, get_or_set, get_or_past, some_is, none_is_not}

-- an owner that is the same to its stage, or a stub before and after
pub record Same (v w : Owner) : Type 0 where
  pub fate : w.fate ≡ v.fate
  pub kind : w.kind ≡ v.kind
  pub stage : w.stage ≡ v.stage

abbrev pub Alike : Owner → Owner → Type 0
Alike v w = Same v w ⊎ ((is_stub v.kind ≡ true) × (is_stub w.kind ≡ true))

pub same_as : (v w : Owner) → w ≡ v → Same v w
same_as v w e = record { fate = ap (λ (x : Owner). x.fate) e; kind = ap (λ (x : Owner). x.kind) e; stage = ap (λ (x : Owner). x.stage) e }

owns_alike : (s t : State) (n o : ℕ) → is_live (stage_at t n).life ≡ true → Same (owner_at s o) (owner_at t o) → Owns s n o → Owns t n o
owns_alike s t n o l a h = record { running = ap is_running a.fate ∙ h.running; of_kind = ap is_stub a.kind ∙ h.of_kind; of_stage = ap (λ (m : ℕ). m - 1) a.stage ∙ h.of_stage; lives = l }

-- stages stay
pub stages_alike : (s t : State) → t.stages ≡ s.stages → ((o : ℕ) → Alike (owner_at s o) (owner_at t o)) → StagesOwn s → StagesOwn t
stages_alike s t e a h = record {
  owner = λ n o q. by_owner n o (h.owner n o (sym (at n) ∙ q)) (a o);
  running = λ o r k. by_running o r k (a o);
}
  where
    at : (n : ℕ) → (stage_at t n).owner ≡ (stage_at s n).owner
    at n = ap (λ (stages : List Stage). (get_or stages (n - 1) no_stage).owner) e

    lives : (n : ℕ) → (stage_at t n).life ≡ (stage_at s n).life
    lives n = ap (λ (stages : List Stage). (get_or stages (n - 1) no_stage).life) e

    by_owner : (n o : ℕ) → Owns s n o → Alike (owner_at s o) (owner_at t o) → Owns t n o
    by_owner n o q (inl b) = owns_alike s t n o (ap is_live (lives n) ∙ q.lives) b q
    by_owner n o q (inr b) = absurd (true≢false (sym b.0 ∙ q.of_kind))

    by_running : (o : ℕ) → is_running (owner_at t o).fate ≡ true → is_stub (owner_at t o).kind ≡ false → Alike (owner_at s o) (owner_at t o) → (stage_at t (owner_at t o).stage).owner ≡ Some o
    by_running o r k (inl b) =
        at (owner_at t o).stage ∙ (ap (λ (m : ℕ). (stage_at s m).owner) b.stage ∙ h.running o (ap is_running (sym b.fate) ∙ r) (ap is_stub (sym b.kind) ∙ k))
    by_running o r k (inr b) = absurd (true≢false (sym b.1 ∙ k))

-- owners stay, and each stage has the same under way, and lives as long as it has something
pub stages_moved : (s t : State) → t.owners ≡ s.owners → ((n : ℕ) → (stage_at t n).owner ≡ (stage_at s n).owner) → ((n o : ℕ) → (stage_at s n).owner ≡ Some o → is_live (stage_at s n).life ≡ true → is_live (stage_at t n).life ≡ true) → StagesOwn s → StagesOwn t
stages_moved s t e at l h = record {
  owner = λ n o q. let p : (stage_at s n).owner ≡ Some o = sym (at n) ∙ q in let x = h.owner n o p in owns_alike s t n o (l n o p x.lives) (same_as (owner_at s o) (owner_at t o) (own o)) x;
  running = λ o r k. at (owner_at t o).stage ∙ (ap (λ (w : Owner). (stage_at s w.stage).owner) (own o) ∙ h.running o (ap (λ (w : Owner). is_running w.fate) (sym (own o)) ∙ r) (ap (λ (w : Owner). is_stub w.kind) (sym (own o)) ∙ k));
}
  where
    own : (o : ℕ) → owner_at t o ≡ owner_at s o
    own o = ap (λ (owners : List Owner). get_or owners o no_owner) e

-- what a stage has under way is over
pub record Cleared (s t : State) (n : ℕ) (x : Stage) : Type 0 where
  pub nobody : x.owner ≡ None
  pub stages : t.stages ≡ set s.stages (n - 1) x
  pub same : (i : ℕ) → i < length s.owners → ((stage_at s n).owner ≡ Some i → ⊥) → owner_at t i ≡ owner_at s i
  pub gone : (i : ℕ) → (stage_at s n).owner ≡ Some i → is_running (owner_at t i).fate ≡ false
  pub anew : (i : ℕ) → length s.owners ≤ i → (is_running (owner_at t i).fate ≡ false) ⊎ (is_stub (owner_at t i).kind ≡ true)

pub running_there : (s : State) (o : ℕ) → is_running (owner_at s o).fate ≡ true → o < length s.owners
running_there s o r = by_place (get_or_past s.owners o no_owner)
  where
    by_place : (o < length s.owners) ⊎ (owner_at s o ≡ no_owner) → o < length s.owners
    by_place (inl l) = l
    by_place (inr e) = absurd (true≢false (sym r ∙ ap (λ (w : Owner). is_running w.fate) e))

pub stages_clear : (s t : State) (n : ℕ) (x : Stage) → Cleared s t n x → StagesOwn s → StagesOwn t
stages_clear s t n x d h = record {
  owner = λ m o q. by_stage m o q (at m);
  running = λ o r k. by_there o r k (cases_lt o (length s.owners));
}
  where
    at : (m : ℕ) → ((stage_at t m ≡ x) × (m - 1 ≡ n - 1)) ⊎ ((stage_at t m ≡ stage_at s m) × ((m - 1 ≡ n - 1 → ⊥) ⊎ ((stage_at s m).owner ≡ None)))
    at m = by_place (get_or_set s.stages (n - 1) x (m - 1) no_stage)
      where
        same : stage_at t m ≡ get_or (set s.stages (n - 1) x) (m - 1) no_stage
        same = ap (λ (stages : List Stage). get_or stages (m - 1) no_stage) d.stages

        past : length s.stages ≤ m - 1 → (stage_at s m).owner ≡ None
        past l = ap (λ (y : Stage). y.owner) (beyond s.stages (m - 1) l)
          where
            beyond : (xs : List Stage) (i : ℕ) → length xs ≤ i → get_or xs i no_stage ≡ no_stage
            beyond xs i l = by_end (get_or_past xs i no_stage)
              where
                by_end : (i < length xs) ⊎ (get_or xs i no_stage ≡ no_stage) → get_or xs i no_stage ≡ no_stage
                by_end (inl k) = absurd (omega (arith, k, l))
                by_end (inr e) = e

        by_place : ((get_or (set s.stages (n - 1) x) (m - 1) no_stage ≡ x) × (m - 1 ≡ n - 1) × (n - 1 < length s.stages)) ⊎ ((get_or (set s.stages (n - 1) x) (m - 1) no_stage ≡ get_or s.stages (m - 1) no_stage) × ((m - 1 ≡ n - 1 → ⊥) ⊎ (length s.stages ≤ m - 1))) → ((stage_at t m ≡ x) × (m - 1 ≡ n - 1)) ⊎ ((stage_at t m ≡ stage_at s m) × ((m - 1 ≡ n - 1 → ⊥) ⊎ ((stage_at s m).owner ≡ None)))
        by_place (inl e) = inl (same ∙ e.0, e.1)
        by_place (inr e) = inr (same ∙ e.0, by_reason e.1)
          where
            by_reason : (m - 1 ≡ n - 1 → ⊥) ⊎ (length s.stages ≤ m - 1) → (m - 1 ≡ n - 1 → ⊥) ⊎ ((stage_at s m).owner ≡ None)
            by_reason (inl f) = inl f
            by_reason (inr l) = inr (past l)

    -- stages of one place are the same
    one_place : (m k : ℕ) → m - 1 ≡ k - 1 → stage_at s m ≡ stage_at s k
    one_place m k e = ap (λ (i : ℕ). get_or s.stages i no_stage) e

    not_both : (o m : ℕ) → (stage_at s m).owner ≡ Some o → (stage_at s n).owner ≡ Some o → m - 1 ≡ n - 1
    not_both o m p q = sym (h.owner m o p).of_stage ∙ (h.owner n o q).of_stage

    by_stage : (m o : ℕ) → (stage_at t m).owner ≡ Some o → ((stage_at t m ≡ x) × (m - 1 ≡ n - 1)) ⊎ ((stage_at t m ≡ stage_at s m) × ((m - 1 ≡ n - 1 → ⊥) ⊎ ((stage_at s m).owner ≡ None))) → Owns t m o
    by_stage m o q (inl e) = absurd (none_is_not o (sym d.nobody ∙ (ap (λ (y : Stage). y.owner) (sym e.0) ∙ q)))
    by_stage m o q (inr e) = by_reason (ap (λ (y : Stage). y.owner) (sym e.0) ∙ q) e.1
      where
        by_reason : (stage_at s m).owner ≡ Some o → (m - 1 ≡ n - 1 → ⊥) ⊎ ((stage_at s m).owner ≡ None) → Owns t m o
        by_reason p (inl f) =
            let y = h.owner m o p in
            owns_alike s t m o (ap (λ (z : Stage). is_live z.life) e.0 ∙ y.lives) (same_as (owner_at s o) (owner_at t o) (d.same o (running_there s o y.running) (λ g. f (not_both o m p g)))) y
        by_reason p (inr f) = absurd (none_is_not o (sym f ∙ p))

    by_there : (o : ℕ) → is_running (owner_at t o).fate ≡ true → is_stub (owner_at t o).kind ≡ false → (o < length s.owners) ⊎ (length s.owners ≤ o) → (stage_at t (owner_at t o).stage).owner ≡ Some o
    by_there o r k (inr l) = by_new (d.anew o l)
      where
        by_new : (is_running (owner_at t o).fate ≡ false) ⊎ (is_stub (owner_at t o).kind ≡ true) → (stage_at t (owner_at t o).stage).owner ≡ Some o
        by_new (inl f) = absurd (true≢false (sym r ∙ f))
        by_new (inr f) = absurd (true≢false (sym f ∙ k))
    by_there o r k (inl l) = by_at (at (owner_at t o).stage)
      where
        other : (stage_at s n).owner ≡ Some o → ⊥
        other e = true≢false (sym r ∙ d.gone o e)

        own : owner_at t o ≡ owner_at s o
        own = d.same o l other

        before : (stage_at s (owner_at s o).stage).owner ≡ Some o
        before = h.running o (ap (λ (w : Owner). is_running w.fate) (sym own) ∙ r) (ap (λ (w : Owner). is_stub w.kind) (sym own) ∙ k)

        there : (stage_at s (owner_at t o).stage).owner ≡ Some o
        there = ap (λ (w : Owner). (stage_at s w.stage).owner) own ∙ before

        by_at : ((stage_at t (owner_at t o).stage ≡ x) × ((owner_at t o).stage - 1 ≡ n - 1)) ⊎ ((stage_at t (owner_at t o).stage ≡ stage_at s (owner_at t o).stage) × (((owner_at t o).stage - 1 ≡ n - 1 → ⊥) ⊎ ((stage_at s (owner_at t o).stage).owner ≡ None))) → (stage_at t (owner_at t o).stage).owner ≡ Some o
        by_at (inl e) = absurd (other (ap (λ (y : Stage). y.owner) (sym (one_place (owner_at t o).stage n e.1)) ∙ there))
        by_at (inr e) = ap (λ (y : Stage). y.owner) e.0 ∙ there

-- a stage begins a call or a fence statement
pub record Opened (s t : State) (n : ℕ) (w : Owner) (x : Stage) : Type 0 where
  pub making : Making s n
  pub owner : x.owner ≡ Some (length s.owners)
  pub life : x.life ≡ (stage_at s n).life
  pub stages : t.stages ≡ set s.stages (n - 1) x
  pub owners : t.owners ≡ s.owners ++ w ∷ []
  pub of_stage : w.stage ≡ n
  pub running : is_running w.fate ≡ true
  pub of_kind : is_stub w.kind ≡ false

pub grown_old : (s t : State) (w : Owner) → t.owners ≡ s.owners ++ w ∷ [] → (o : ℕ) → o < length s.owners → owner_at t o ≡ owner_at s o
grown_old s t w e o l = ap (λ (owners : List Owner). get_or owners o no_owner) e ∙ at s.owners w o l
  where
    at : (xs : List Owner) (w : Owner) (o : ℕ) → o < length xs → get_or (xs ++ w ∷ []) o no_owner ≡ get_or xs o no_owner
    at xs w o l = grind (arith, looks, l)

pub grown_new : (s t : State) (w : Owner) → t.owners ≡ s.owners ++ w ∷ [] → owner_at t (length s.owners) ≡ w
grown_new s t w e = ap (λ (owners : List Owner). get_or owners (length s.owners) no_owner) e ∙ at s.owners w
  where
    at : (xs : List Owner) (w : Owner) → get_or (xs ++ w ∷ []) (length xs) no_owner ≡ w
    at xs w = grind (arith, looks)

pub grown_past : (s t : State) (w : Owner) → t.owners ≡ s.owners ++ w ∷ [] → (o : ℕ) → length s.owners ≤ o → (o ≡ length s.owners) ⊎ (owner_at t o ≡ no_owner)
grown_past s t w e o l = by_place (at s.owners w o l)
  where
    at : (xs : List Owner) (w : Owner) (o : ℕ) → length xs ≤ o → (o ≡ length xs) ⊎ (get_or (xs ++ w ∷ []) o no_owner ≡ no_owner)
    at xs w o l = grind (arith, looks, l)

    by_place : (o ≡ length s.owners) ⊎ (get_or (s.owners ++ w ∷ []) o no_owner ≡ no_owner) → (o ≡ length s.owners) ⊎ (owner_at t o ≡ no_owner)
    by_place (inl q) = inl q
    by_place (inr q) = inr (ap (λ (owners : List Owner). get_or owners o no_owner) e ∙ q)

pub stages_open : (s t : State) (n : ℕ) (w : Owner) (x : Stage) → Opened s t n w x → StagesOwn s → StagesOwn t
stages_open s t n w x d h = record {
  owner = λ m o q. by_stage m o q (at m);
  running = λ o r k. by_there o r k (cases_lt o (length s.owners));
}
  where
    new : owner_at t (length s.owners) ≡ w
    new = grown_new s t w d.owners

    inside : n - 1 < length s.stages
    inside = by_end (get_or_past s.stages (n - 1) no_stage)
      where
        by_end : (n - 1 < length s.stages) ⊎ (stage_at s n ≡ no_stage) → n - 1 < length s.stages
        by_end (inl l) = l
        by_end (inr e) = absurd (true≢false (sym d.making.live ∙ ap (λ (y : Stage). is_live y.life) e))

    at : (m : ℕ) → ((stage_at t m ≡ x) × (m - 1 ≡ n - 1)) ⊎ ((stage_at t m ≡ stage_at s m) × (m - 1 ≡ n - 1 → ⊥))
    at m = by_place (get_or_set s.stages (n - 1) x (m - 1) no_stage)
      where
        same : stage_at t m ≡ get_or (set s.stages (n - 1) x) (m - 1) no_stage
        same = ap (λ (stages : List Stage). get_or stages (m - 1) no_stage) d.stages

        by_place : ((get_or (set s.stages (n - 1) x) (m - 1) no_stage ≡ x) × (m - 1 ≡ n - 1) × (n - 1 < length s.stages)) ⊎ ((get_or (set s.stages (n - 1) x) (m - 1) no_stage ≡ get_or s.stages (m - 1) no_stage) × ((m - 1 ≡ n - 1 → ⊥) ⊎ (length s.stages ≤ m - 1))) → ((stage_at t m ≡ x) × (m - 1 ≡ n - 1)) ⊎ ((stage_at t m ≡ stage_at s m) × (m - 1 ≡ n - 1 → ⊥))
        by_place (inl e) = inl (same ∙ e.0, e.1)
        by_place (inr e) = inr (same ∙ e.0, by_reason e.1)
          where
            by_reason : (m - 1 ≡ n - 1 → ⊥) ⊎ (length s.stages ≤ m - 1) → m - 1 ≡ n - 1 → ⊥
            by_reason (inl f) = f
            by_reason (inr l) = λ q. omega (arith, l, q, inside)

    by_stage : (m o : ℕ) → (stage_at t m).owner ≡ Some o → ((stage_at t m ≡ x) × (m - 1 ≡ n - 1)) ⊎ ((stage_at t m ≡ stage_at s m) × (m - 1 ≡ n - 1 → ⊥)) → Owns t m o
    by_stage m o q (inl e) =
        let i : length s.owners ≡ o = some_is (length s.owners) o (sym d.owner ∙ (ap (λ (y : Stage). y.owner) (sym e.0) ∙ q)) in
        subst (Owns t m) i record {
          running = ap (λ (y : Owner). is_running y.fate) new ∙ d.running;
          of_kind = ap (λ (y : Owner). is_stub y.kind) new ∙ d.of_kind;
          of_stage = ap (λ (y : Owner). y.stage - 1) new ∙ (ap (λ (y : ℕ). y - 1) d.of_stage ∙ sym e.1);
          lives = ap (λ (y : Stage). is_live y.life) e.0 ∙ (ap is_live d.life ∙ d.making.live);
        }
    by_stage m o q (inr e) =
        let y = h.owner m o (ap (λ (z : Stage). z.owner) (sym e.0) ∙ q) in
        owns_alike s t m o (ap (λ (z : Stage). is_live z.life) e.0 ∙ y.lives) (same_as (owner_at s o) (owner_at t o) (grown_old s t w d.owners o (running_there s o y.running))) y

    by_there : (o : ℕ) → is_running (owner_at t o).fate ≡ true → is_stub (owner_at t o).kind ≡ false → (o < length s.owners) ⊎ (length s.owners ≤ o) → (stage_at t (owner_at t o).stage).owner ≡ Some o
    by_there o r k (inr l) = by_new (grown_past s t w d.owners o l)
      where
        by_new : (o ≡ length s.owners) ⊎ (owner_at t o ≡ no_owner) → (stage_at t (owner_at t o).stage).owner ≡ Some o
        by_new (inr e) = absurd (true≢false (sym r ∙ ap (λ (y : Owner). is_running y.fate) e))
        by_new (inl e) = by_at (at (owner_at t o).stage)
          where
            here : (owner_at t o).stage ≡ n
            here = ap (λ (i : ℕ). (owner_at t i).stage) e ∙ (ap (λ (y : Owner). y.stage) new ∙ d.of_stage)

            by_at : ((stage_at t (owner_at t o).stage ≡ x) × ((owner_at t o).stage - 1 ≡ n - 1)) ⊎ ((stage_at t (owner_at t o).stage ≡ stage_at s (owner_at t o).stage) × ((owner_at t o).stage - 1 ≡ n - 1 → ⊥)) → (stage_at t (owner_at t o).stage).owner ≡ Some o
            by_at (inl f) = ap (λ (y : Stage). y.owner) f.0 ∙ (d.owner ∙ ap (λ (i : ℕ). Some i) (sym e))
            by_at (inr f) = absurd (f.1 (ap (λ (i : ℕ). i - 1) here))
    by_there o r k (inl l) = by_at (at (owner_at t o).stage)
      where
        own : owner_at t o ≡ owner_at s o
        own = grown_old s t w d.owners o l

        before : (stage_at s (owner_at t o).stage).owner ≡ Some o
        before = ap (λ (y : Owner). (stage_at s y.stage).owner) own ∙ h.running o (ap (λ (y : Owner). is_running y.fate) (sym own) ∙ r) (ap (λ (y : Owner). is_stub y.kind) (sym own) ∙ k)

        by_at : ((stage_at t (owner_at t o).stage ≡ x) × ((owner_at t o).stage - 1 ≡ n - 1)) ⊎ ((stage_at t (owner_at t o).stage ≡ stage_at s (owner_at t o).stage) × ((owner_at t o).stage - 1 ≡ n - 1 → ⊥)) → (stage_at t (owner_at t o).stage).owner ≡ Some o
        by_at (inr f) = ap (λ (y : Stage). y.owner) f.0 ∙ before
        by_at (inl f) = absurd (none_is_not o (sym d.making.nobody ∙ (ap (λ (i : ℕ). (get_or s.stages i no_stage).owner) (sym f.1) ∙ before)))
