-- An owner begins: a call, a fence statement, or the stub of a stage that dies.
use Rattle.std.proofs.Common.{◌≡◌, ℕ, ◌-◌, ◌⊎◌, inl, inr, Bool, true, false, List, [], ◌∷◌, ◌++◌, length, get_or, Option, Some, None, refl, sym, ap, ◌∙◌, subst, arith}
use Rattle.std.proofs.Math.ListN.{set, length-set}
use Rattle.std.proofs.lemmas.Bool.{true≢false, false≢true}
use Rattle.causal_context.specs.Seen.{Seen}
use Rattle.rss_names.specs.declared.attempt.Attempt.{Attempt}
use Rattle.pipeline_lang.specs.declared.config.Config.{Config}
use Rattle.rss_model.specs.declared.history.How.{How}
use Rattle.rss_model.specs.declared.history.Entry.{Entry}
use Rattle.rss_model.specs.declared.history.Entry.TheVariants.{Over}
use Rattle.rss_model.specs.declared.op.Op.{Op}
use Rattle.rss_tables.specs.Works.{no_works, planned, plan_for, plan_all}
use Rattle.rss_machine.specs.Moves.{opens_call, opens_fence, dies, closed, closes_owner, unsettled_by, with_owner}
use Rattle.rss_machine.specs.Session.{service_of}
use Rattle.rss_machine.specs.declared.session.Session.TheVariants as session
use Rattle.world_laws.proofs.PlannedOwners.{is_fixing}
use Rattle.rss_machine.specs.Standing.{is_running, is_live, is_over}
use Rattle.rss_machine.specs.State.{State, Stage, Owner, no_stage, no_owner, opening_owner, stage_at, owner_at}
use Rattle.rss_machine.specs.declared.session.OwnerKind.TheVariants as kind
use Rattle.rss_machine.specs.declared.state.Life.TheVariants as life
use Rattle.rss_machine.specs.declared.state.OwnerFate.{OwnerFate}
use Rattle.world_laws.specs.Calls.{is_stub, StagesOwn}
use Rattle.world_laws.proofs.Doings.{Beginning, calls, fences}
use Rattle.world_laws.proofs.Looks.{looks, get_or_past}
use Rattle.world_laws.proofs.StageMoves.{BeginNotes, Dying, killed, lost}
use Rattle.world_laws.proofs.Told.{each_grow}
use Rattle.order_laws.specs.CallsBehind.{CallsBehind}
use Rattle.coupling_laws.specs.Calls.{View, Grows}
use Rattle.coupling_laws.specs.Covers.{Covers}
use Rattle.context_moves.specs.Views.{view_of}
use Rattle.context_moves.specs.Covering.{OwnerCovers, IsStubOf, IsGiven, Parts, Covering}
use Rattle.context_moves.proofs.Later.{SameClock, view_kept, view_same, is_ended, owner_later, pipe_later, covers_later, given_more, over_not_unborn}
use Rattle.context_moves.proofs.Moves.{there_where, born_given, at_place}
use Rattle.context_moves.proofs.Own.{changed, stage_later}
use Rattle.context_moves.proofs.Staging.{AlikeStages, alike_set, stage_changes}

-- the stub of a stage is another
pub stubbed_parts : (c : Config) (v : View) (b : CallsBehind) (all : List Owner) (s : State) (stages stages' : List Stage) (h : List Entry) (n o : ℕ) → ((i : ℕ) → (get_or stages' i no_stage).context ≡ (get_or stages i no_stage).context) → ((i : ℕ) → (get_or stages' i no_stage).life ≡ (get_or stages i no_stage).life)
    → ((i : ℕ) → ((get_or stages' i no_stage).stub ≡ (get_or stages i no_stage).stub) ⊎ ((i ≡ n - 1) × ((get_or stages' i no_stage).stub ≡ Some o))) → length stages' ≡ length stages → IsStubOf all n o → Parts c v b all stages s.pipes h → Parts c v b all stages' s.pipes h
stubbed_parts c v b all s stages stages' h n o e f g l new k = record {
  owners = λ i. owner_later v v b b stages stages' (get_or all i no_owner) (view_same v) (λ j a m p z. z) (λ m. ap is_over (f ((get_or all i no_owner).stage - 1)) ∙ m) (k.owners i);
  stages = λ j.
      let old = k.stages j in
      record {
        context = subst (Covers v (b.stage j)) (sym (e (j - 1))) old.context;
        unborn = λ m. old.unborn (sym (f (j - 1)) ∙ m);
        born = λ p i. born j (old.born p i);
        stub_of = λ i m. by_stub j i (g (j - 1)) m;
        exit = old.exit;
      };
  pipes = k.pipes;
  unused = k.unused;
  long = l ∙ k.long;
}
  where
    born : (j : ℕ) → ((get_or stages (j - 1) no_stage).life ≡ life.Unborn) ⊎ IsGiven h j → ((get_or stages' (j - 1) no_stage).life ≡ life.Unborn) ⊎ IsGiven h j
    born j (inl m) = inl (f (j - 1) ∙ m)
    born j (inr m) = inr m

    some_same : (i : ℕ) → Some o ≡ Some i → o ≡ i
    some_same i e = cc

    by_stub : (j i : ℕ) → ((get_or stages' (j - 1) no_stage).stub ≡ (get_or stages (j - 1) no_stage).stub) ⊎ ((j - 1 ≡ n - 1) × ((get_or stages' (j - 1) no_stage).stub ≡ Some o)) → (get_or stages' (j - 1) no_stage).stub ≡ Some i → IsStubOf all j i
    by_stub j i (inl p) m = (k.stages j).stub_of i (sym p ∙ m)
    by_stub j i (inr p) m = subst (IsStubOf all j) (some_same i (sym p.1 ∙ m)) record { stub = new.stub; of_stage = new.of_stage ∙ sym p.0 }

-- an owner is added
module _ (c : Config) (b : CallsBehind) (s t : State) (w : Owner) (e : SameClock s t) (d : t.owners ≡ s.owners ++ w ∷ []) where
  past_owner : owner_at s (length s.owners) ≡ no_owner
  past_owner = grind (arith, looks, get_or_past)

  pub old_same : (Q : Owner → Bool) → Q no_owner ≡ false → (i : ℕ) → Q (owner_at s i) ≡ true → owner_at t i ≡ owner_at s i
  old_same Q f i = subst (λ (owners : List Owner). Q (owner_at s i) ≡ true → get_or owners i no_owner ≡ owner_at s i) (sym d)
      (each_grow (λ j v. Q (owner_at s j) ≡ true → v ≡ owner_at s j) s.owners w (λ g. absurd (true≢false (sym g ∙ (ap Q past_owner ∙ f)))) (λ j g. refl) i)

  pub grow_later : Grows (view_of c s) (view_of c t)
  grow_later = view_kept c s t e (old_same is_ended refl)

  stub_stays : (n i : ℕ) → IsStubOf s.owners n i → IsStubOf (s.owners ++ w ∷ []) n i
  stub_stays n i h = subst (λ (owners : List Owner). IsStubOf owners n i) d record { stub = ap (λ (v : Owner). is_stub v.kind) same ∙ h.stub; of_stage = ap (λ (v : Owner). v.stage - 1) same ∙ h.of_stage }
    where
      same : owner_at t i ≡ owner_at s i
      same = old_same (λ v. is_stub v.kind) refl i h.stub

  pub grown : (stages' : List Stage) (h' : List Entry) → AlikeStages s.stages stages' → ((j : ℕ) → IsGiven s.history j → IsGiven h' j) → OwnerCovers (view_of c t) b stages' w → Covering c (view_of c s) b s → Parts c (view_of c t) b (s.owners ++ w ∷ []) stages' s.pipes h'
  grown stages' h' a g new k = record {
    owners = each_grow (λ i v. OwnerCovers (view_of c t) b stages' v) s.owners w new (λ i. owner_later (view_of c s) (view_of c t) b b s.stages stages' (owner_at s i) grow_later (λ j z m p q. q) (λ m. ap is_over (a.life ((owner_at s i).stage - 1)) ∙ m) (k.owners i));
    stages = λ j. let y = stage_later c (view_of c s) (view_of c t) b s.history s.owners (s.owners ++ w ∷ []) j (stage_at s j) grow_later (stub_stays j) (k.stages j) in record {
      context = subst (Covers (view_of c t) (b.stage j)) (sym (a.context (j - 1))) y.context;
      unborn = λ m. y.unborn (sym (a.life (j - 1)) ∙ m);
      born = λ p i. born j (y.born p i);
      stub_of = λ o m. y.stub_of o (sym (a.stub (j - 1)) ∙ m);
      exit = y.exit;
    };
    pipes = λ p. pipe_later (view_of c s) (view_of c t) b b p _ grow_later (λ number a f. f) (k.pipes p);
    unused = k.unused;
    long = a.long ∙ k.long;
  }
    where
      born : (j : ℕ) → ((stage_at s j).life ≡ life.Unborn) ⊎ IsGiven s.history j → ((get_or stages' (j - 1) no_stage).life ≡ life.Unborn) ⊎ IsGiven h' j
      born j (inl m) = inl (a.life (j - 1) ∙ m)
      born j (inr m) = inr (g j m)

-- a call or a fence statement begins
module _ (c : Config) (b : CallsBehind) (s : State) (k : Covering c (view_of c s) b s) where
  clock : (t : State) → t.steps ≡ s.steps → t.moments ≡ s.moments → t.marks ≡ s.marks → SameClock s t
  clock t e f g = record { steps = e; moments = f; marks = g }

  new_own : (t : State) (stages' : List Stage) (n : ℕ) (w : Owner) → Grows (view_of c s) (view_of c t) → w.stage ≡ n → is_stub w.kind ≡ false → w.works.copy ≡ (stage_at s n).context → w.dates.launched ≡ 0 → w.session ≡ session.Idle → OwnerCovers (view_of c t) b stages' w
  new_own t stages' n w g e f y l i = record {
    copy = λ j m p. covers_later (view_of c s) (view_of c t) (b.stage j) (b.stage j) w.works.copy g (λ a z. z) (subst (Covers (view_of c s) (b.stage j)) (sym y) (at_place c (view_of c s) b s k j n (p ∙ ap (λ (z : ℕ). z - 1) e)));
    dead = λ m. absurd (true≢false (sym m ∙ f));
    own = λ x m p q. absurd (omega (arith, q, l));
    fixing = λ m p q. absurd (false≢true (sym (ap is_fixing i) ∙ p));
  }

  pub begins_covering : (t : State) (w : Owner) (y : Beginning c s w) → BeginNotes c s w y t → Covering c (view_of c t) b t
  begins_covering t _ (calls n x e) y = subst (λ (u : State). Covering c (view_of c u) b u) (sym y.1)
      (grown c b s (opens_call s n x) w clk refl _ _ (alike_set s.stages (n - 1) (record (stage_at s n) { owner = Some (length s.owners) }) refl refl refl) (λ j. given_more s.history _ j) (new_own (opens_call s n x) _ n w (grow_later c b s (opens_call s n x) w clk refl) refl refl refl refl refl) k)
    where
      w : Owner
      w = opening_owner n (kind.Calling x) true (planned (stage_at s n).context (plan_for (stage_at s n).context (service_of x))) s.steps

      clk : SameClock s (opens_call s n x)
      clk = clock (opens_call s n x) refl refl refl
  begins_covering t _ (fences n) y = subst (λ (u : State). Covering c (view_of c u) b u) (sym y.1)
      (grown c b s (opens_fence s n) w clk refl _ _ (alike_set s.stages (n - 1) (record (stage_at s n) { owner = Some (length s.owners) }) refl refl refl) (λ j m. m) (new_own (opens_fence s n) _ n w (grow_later c b s (opens_fence s n) w clk refl) refl refl refl refl refl) k)
    where
      w : Owner
      w = opening_owner n kind.Fencing true (planned (stage_at s n).context (plan_all (stage_at s n).context)) s.steps

      clk : SameClock s (opens_fence s n)
      clk = clock (opens_fence s n) refl refl refl

-- a stage dies, with its owner closed already
module _ (c : Config) (b : CallsBehind) (s : State) (n : ℕ) (how : How) (seen : Seen) (u : Option (Attempt × List ℕ)) (step : ℕ) (lives : is_live (stage_at s n).life ≡ true) (same : seen ≡ (stage_at s n).context) (k : Covering c (view_of c s) b s) where
  abbrev x : Stage
  x = record (stage_at s n) { life = life.Over how; owner = None }

  abbrev over : State
  over = record s { stages = set s.stages (n - 1) x; history = s.history ++ Over n how ∷ [] }

  at_over : Covering c (view_of c s) b over
  at_over =
      stage_changes c (view_of c s) b b s n x s.pipes (s.history ++ Over n how ∷ []) (there_where c (view_of c s) b s k n lives) (λ m. refl) (λ m. over_not_unborn (life.Over how) refl m) refl (λ j a m z. z) (λ j e. at_place c (view_of c s) b s k j n e) (λ i m e j a f z. z)
      (λ j a z. (k.stages j).exit a z) (λ j a m z. z) (λ j e i m. given_more s.history _ j (born_given c (view_of c s) b s k n lives j e i m)) (λ j. given_more s.history _ j) k.pipes k.unused k

  abbrev w : Owner
  w = opening_owner n (kind.Stubbing u) false (no_works seen) step

  abbrev t : State
  t = record s {
    owners = s.owners ++ w ∷ [];
    stages = set s.stages (n - 1) (record (stage_at s n) { life = life.Over how; owner = None; stub = Some (length s.owners) });
    history = s.history ++ Over n how ∷ [];
  }

  abbrev mid : State
  mid = record over { owners = s.owners ++ w ∷ [] }

  clock_mid : SameClock over mid
  clock_mid = record { steps = refl; moments = refl; marks = refl }

  at_own_place : get_or over.stages (n - 1) no_stage ≡ x
  at_own_place = let l = there_where c (view_of c s) b s k n lives in grind (arith, looks, l)

  new : OwnerCovers (view_of c mid) b over.stages w
  new = record {
    copy = λ j m p. covers_later (view_of c over) (view_of c mid) (b.stage j) (b.stage j) seen (grow_later c b over mid w clock_mid refl) (λ a z. z) (subst (Covers (view_of c s) (b.stage j)) (sym same) (at_place c (view_of c s) b s k j n p));
    dead = λ m. ap (λ (y : Stage). is_over y.life) at_own_place;
    own = λ y m p q. absurd (stub_not_call y m);
    fixing = λ m p q. absurd (false≢true p);
  }
    where
      stub_not_call : (y : Op) → kind.Stubbing u ≡ kind.Calling y → ⊥
      stub_not_call y e = cc

  at_mid : Covering c (view_of c mid) b mid
  at_mid = grown c b over mid w clock_mid refl over.stages over.history (record { context = λ i. refl; life = λ i. refl; stub = λ i. refl; long = refl }) (λ j m. m) new at_over

  new_there : get_or (s.owners ++ w ∷ []) (length s.owners) no_owner ≡ w
  new_there = grind (arith, looks)

  pub stage_dies : Covering c (view_of c t) b t
  stage_dies =
      stubbed_parts c (view_of c t) b t.owners s over.stages t.stages t.history n (length s.owners) (λ i. grind (arith, looks)) (λ i. grind (arith, looks)) (λ i. stubs i) (length-set s.stages (n - 1) _ ∙ sym (length-set s.stages (n - 1) x))
      (record { stub = ap (λ (y : Owner). is_stub y.kind) new_there; of_stage = ap (λ (y : Owner). y.stage - 1) new_there }) at_mid
    where
      stubs : (i : ℕ) → ((get_or t.stages i no_stage).stub ≡ (get_or over.stages i no_stage).stub) ⊎ ((i ≡ n - 1) × ((get_or t.stages i no_stage).stub ≡ Some (length s.owners)))
      stubs i = grind (arith, looks)

-- and it is closed, if it has one
module _ (c : Config) (b : CallsBehind) (s : State) (owns : StagesOwn s) (k : Covering c (view_of c s) b s) where
  gone : (A : OwnerFate → Type 0) (n : ℕ) (how : How) (f : OwnerFate) → Dying A s n how f → is_running f ≡ false
  gone A n _ _ (killed e) = refl
  gone A n _ _ (lost o target e a g) = refl

  lives_one : (A : OwnerFate → Type 0) → ((f : OwnerFate) → A f → is_running f ≡ true) → (n : ℕ) (how : How) (f : OwnerFate) → Dying A s n how f → is_live (stage_at s n).life ≡ true
  lives_one A r n _ _ (killed e) = e
  lives_one A r n _ _ (lost o target e a g) = subst (λ (i : ℕ). is_live (stage_at s i).life ≡ true) (sym e) (owns.owner (owner_at s o).stage o (owns.running o (r (owner_at s o).fate g) a)).lives

  closed_one : (o : ℕ) (f : OwnerFate) → is_running (owner_at s o).fate ≡ true → is_running f ≡ false → is_stub (owner_at s o).kind ≡ false → let t = with_owner s o (closed s o f) in Covering c (view_of c t) b t
  closed_one o f r g a = changed c b s (with_owner s o (closed s o f)) o (closed s o f) (record { steps = refl; moments = refl; marks = refl }) refl r (record { stages = refl; pipes = refl; history = refl }) refl refl (record {
    copy = λ j m. absurd (none m);
    dead = λ m. absurd (true≢false (sym m ∙ a));
    own = λ x m p. absurd (true≢false (sym p ∙ g));
    fixing = λ m. absurd (true≢false (sym m ∙ g));
  }) k
    where
      none : (is_running f ≡ true) ⊎ (is_stub (owner_at s o).kind ≡ true) → ⊥
      none (inl e) = true≢false (sym e ∙ g)
      none (inr e) = true≢false (sym e ∙ a)

  pub dies_covering : (A : OwnerFate → Type 0) → ((f : OwnerFate) → A f → is_running f ≡ true) → (n : ℕ) (how : How) (f : OwnerFate) → Dying A s n how f → Covering c (view_of c (dies s n how f)) b (dies s n how f)
  dies_covering A r n how f y = by_owner (stage_at s n).owner refl
    where
      after : Option ℕ → State
      after o = let t = closes_owner s o f in record t {
        owners = t.owners ++ opening_owner n (kind.Stubbing (unsettled_by s o)) false (no_works (stage_at s n).context) s.steps ∷ [];
        stages = set t.stages (n - 1) (record (stage_at t n) { life = life.Over how; owner = None; stub = Some (length t.owners) });
        history = t.history ++ Over n how ∷ [];
      }

      by_owner : (o : Option ℕ) → (stage_at s n).owner ≡ o → Covering c (view_of c (after o)) b (after o)
      by_owner None e = stage_dies c b s n how (stage_at s n).context (unsettled_by s None) s.steps (lives_one A r n how f y) refl k
      by_owner (Some o) e =
          let own = owns.owner n o e in
          stage_dies c b (with_owner s o (closed s o f)) n how (stage_at s n).context (unsettled_by s (Some o)) s.steps (lives_one A r n how f y) refl (closed_one o f own.running (gone A n how f y) own.of_kind)
