-- All that a step does keeps what contexts tell, where stages keep to themselves and to one register service each.
use Rattle.std.proofs.Common.{◌≡◌, ℕ, zero, suc, ◌+◌, ◌-◌, ◌<◌, ◌≤◌, ◌⊎◌, inl, inr, true, false, List, [], ◌∷◌, ◌++◌, length, get_or, Option, Some, None, refl, sym, ap, ◌∙◌, subst, arith}
use Rattle.std.proofs.lemmas.Bool.{true≢false, cases_eq, cases_lt}
use Rattle.std.proofs.Math.ListN.{set}
use Rattle.rss_names.specs.declared.attempt.Attempt.{Attempt}
use Rattle.rss_names.specs.declared.service.Key.{Key}
use Rattle.rss_names.specs.declared.service.ServiceId.{ServiceId}
use Rattle.carstamps.specs.declared.carstamp.Carstamp.{Carstamp}
use Rattle.causal_context.specs.Seen.{Seen}
use Rattle.pipeline_lang.specs.Config.{statement_at}
use Rattle.pipeline_lang.specs.declared.config.Config.{Config}
use Rattle.pipeline_lang.specs.declared.script.Statement.{Statement}
use Rattle.rss_model.specs.Cursor.{Cursor}
use Rattle.rss_model.specs.declared.history.Entry.{Entry}
use Rattle.rss_model.specs.declared.history.Entry.TheVariants.{Over}
use Rattle.rss_model.specs.declared.history.How.{How}
use Rattle.rss_model.specs.declared.history.Token.{Token}
use Rattle.rss_model.specs.declared.op.Op.{Op}
use Rattle.rss_model.specs.declared.op.Shown.{Shown}
use Rattle.rss_tables.specs.Works.{planned, plan_for, fences_of, no_works}
use Rattle.rss_machine.specs.Enabling.{next_statement}
use Rattle.rss_machine.specs.Moves.{dies, opens_call, ends_call, closed, closes_owner, unsettled_by, with_owner}
use Rattle.rss_machine.specs.Session.{service_of}
use Rattle.rss_machine.specs.Standing.{is_running}
use Rattle.rss_machine.specs.State.{State, Owner, Stage, no_owner, no_stage, owner_at, stage_at, opening_owner}
use Rattle.rss_machine.specs.declared.session.OwnerKind.TheVariants as kind
use Rattle.rss_machine.specs.declared.state.Life.TheVariants as life
use Rattle.rss_machine.specs.declared.state.OwnerFate.{OwnerFate}
use Rattle.rss_machine.specs.declared.state.OwnerFate.TheVariants.{Ended, Dropped, CutOff}
use Rattle.world_laws.proofs.Looks.{get_or_set, get_or_past}
use Rattle.world_laws.proofs.Doings.{Beginning, calls, fences}
use Rattle.world_laws.proofs.StageMoves.{StageMove, counts, goes_to, spawns_one, gets, takes_one, puts_one, closes_one, cuts_off_one, is_over, exit_given, Lying, exited, stubbed, marked, Dying, killed, lost, BeginNotes}
use Rattle.reg_laws.specs.Files.{IsInOrder}
use Rattle.place_laws.specs.Alone.{KeepsTo, KeepsToServices}
use Rattle.world_laws.specs.Scripted.{hands_over}
use Rattle.place_laws.proofs.Coupling.{place_of, context_at, IsHeld, HasDep, Covered, covered_empty, IsLeft, OnlyLast, Coupled, OwnerStep, changes, no_call, new_call, NewCall, over_change}
use Rattle.place_laws.proofs.CoupledOwners.{Knows, quiet_coupled, set_coupled, grow_coupled}
use Rattle.place_laws.proofs.Placed.{IsRegisterOp, reads_one, writes_one, kept_op, hands_nothing}

-- a stage whose context stays
pub context_set : (s : State) (stages : List Stage) (i place : ℕ) (w : Stage) → w.context ≡ (get_or stages i no_stage).context → (get_or (set stages i w) place no_stage).context ≡ (get_or stages place no_stage).context
context_set s stages i place w e = by_place (get_or_set stages i w place no_stage)
  where
    by_place : ((get_or (set stages i w) place no_stage ≡ w) × (place ≡ i) × (i < length stages)) ⊎ ((get_or (set stages i w) place no_stage ≡ get_or stages place no_stage) × ((place ≡ i → ⊥) ⊎ (length stages ≤ place))) → (get_or (set stages i w) place no_stage).context ≡ (get_or stages place no_stage).context
    by_place (inl f) = ap (λ (x : Stage). x.context) f.0 ∙ (e ∙ ap (λ (j : ℕ). (get_or stages j no_stage).context) (sym f.1))
    by_place (inr f) = ap (λ (x : Stage). x.context) f.0

-- the service of the stage at a place
abbrev pub service_at : (c : Config) → KeepsToServices c → ℕ → ServiceId
service_at c q place = q.service (place + 1)

-- each statement of a stage keeps to the service of its place
pub kept_at : (c : Config) (q : KeepsToServices c) (n place : ℕ) → KeepsTo (service_at c q (n - 1)) (statement_at c n place)
kept_at c q zero place = q.statements 1 place
kept_at c q (suc m) place = subst (λ (k : ℕ). KeepsTo (q.service k) (statement_at c (suc m) place)) (omega arith) (q.statements (suc m) place)

module _ (c : Config) (n : IsInOrder c) (q : KeepsToServices c) (Was : Key → Carstamp → ℕ → Type 0) where
  abbrev id : ℕ → ServiceId
  id = service_at c q

  abbrev pub Tells : State → Type 0
  Tells s = Coupled id Was s

  -- stages and pipes
  alone : (s : State) (m : ℕ) (x : Statement ℕ Key ℕ ℕ) → next_statement c s m ≡ x → hands_over x ≡ true → ⊥
  alone s m x e f = hands_nothing (id (m - 1)) (next_statement c s m) (kept_at c q m (stage_at s m).cursor.position) (ap hands_over e ∙ f)

  lies_not : (s : State) (m : ℕ) (t : Token) (seen : Seen) → Lying c s m t seen → ⊥
  lies_not s m _ _ (exited child e f) = alone s m _ e refl
  lies_not s m _ _ (stubbed child how e f) = alone s m _ e refl
  lies_not s m _ _ (marked variable p number seen e f) = alone s m _ e refl

  pub stages_coupled : (s t : State) → StageMove c s t → Tells s → Tells t
  stages_coupled s _ (counts m) h = quiet_coupled c n id Was s _ refl refl (λ place. context_set s s.stages (m - 1) place _ refl) h
  stages_coupled s _ (goes_to m cursor) h = quiet_coupled c n id Was s _ refl refl (λ place. context_set s s.stages (m - 1) place _ refl) h
  stages_coupled s _ (spawns_one m child cursor a e) h = absurd (alone s m _ e refl)
  stages_coupled s _ (gets m t seen cursor a l) h = absurd (lies_not s m t seen l)
  stages_coupled s _ (takes_one m variable p chunk chunks cursor a e f) h = absurd (alone s m _ e refl)
  stages_coupled s _ (puts_one m p value dropped cursor a) h = quiet_coupled c n id Was s _ refl refl (λ place. context_set s s.stages (m - 1) place _ refl) h
  stages_coupled s _ (closes_one m p seen g) h = quiet_coupled c n id Was s _ refl refl (λ place. refl) h
  stages_coupled s _ (cuts_off_one p) h = quiet_coupled c n id Was s _ refl refl (λ place. refl) h
  stages_coupled s _ (is_over m a) h = quiet_coupled c n id Was s _ refl refl (λ place. context_set s s.stages (m - 1) place _ refl) h
  stages_coupled s _ (exit_given m seen g) h = quiet_coupled c n id Was s _ refl refl (λ place. refl) h

  -- a stage dies
  stub_no_call : (u : Option (Attempt × List ℕ)) (x : Op) → kind.Stubbing u ≡ kind.Calling x → ⊥
  stub_no_call u x e = cc

  stub_no_fence : (u : Option (Attempt × List ℕ)) → kind.Stubbing u ≡ kind.Fencing → ⊥
  stub_no_fence u e = cc

  record Gone (f : OwnerFate) : Type 0 where
    over : is_running f ≡ false
    not_ended : f ≡ Ended → ⊥

  gone_by : (A : OwnerFate → Type 0) (s : State) (m : ℕ) (how : How) (f : OwnerFate) → Dying A s m how f → Gone f
  gone_by A s m _ _ (killed e) = record { over = refl; not_ended = dropped_not_ended }
    where
      dropped_not_ended : Dropped ≡ Ended → ⊥
      dropped_not_ended e = cc
  gone_by A s m _ _ (lost o target e a g) = record { over = refl; not_ended = cut_not_ended }
    where
      cut_not_ended : CutOff target ≡ Ended → ⊥
      cut_not_ended e = cc

  gone_step : (s : State) (o : ℕ) (f : OwnerFate) → Gone f → OwnerStep id Was s (owner_at s o) (closed s o f)
  gone_step s o f g = changes (over_change id Was s (owner_at s o) (closed s o f) refl refl g.over (λ key z l. g.not_ended l.ended) refl refl)

  pub dies_coupled : (A : OwnerFate → Type 0) (s : State) (m : ℕ) (how : How) (f : OwnerFate) → Dying A s m how f → Tells s → Tells (dies s m how f)
  dies_coupled A s m how f y h = by_owner (stage_at s m).owner
    where
      grown : (t : State) (u : Option (Attempt × List ℕ)) (seen : Seen) (history : List Entry) (w : Stage) → w.context ≡ (stage_at t m).context → Tells t → Tells (record t {
        owners = t.owners ++ opening_owner m (kind.Stubbing u) false (no_works seen) s.steps ∷ [];
        stages = set t.stages (m - 1) w;
        history = history;
      })
      grown t u seen history w e g = grow_coupled c n id Was t _ _ refl refl (λ place. context_set t t.stages (m - 1) place w e) (λ v. no_call (stub_no_call u) (λ f r. stub_no_fence u f)) g

      by_owner : (o : Option ℕ) → Tells (let t = closes_owner s o f in record t {
        owners = t.owners ++ opening_owner m (kind.Stubbing (unsettled_by s o)) false (no_works (stage_at s m).context) s.steps ∷ [];
        stages = set t.stages (m - 1) (record (stage_at t m) { life = life.Over how; owner = None; stub = Some (length t.owners) });
        history = t.history ++ Over m how ∷ [];
      })
      by_owner None = grown s (unsettled_by s None) (stage_at s m).context _ _ refl h
      by_owner (Some o) =
          let t = with_owner s o (closed s o f) in
          grown t (unsettled_by s (Some o)) (stage_at s m).context _ _ refl
          (set_coupled c n id Was s t o (closed s o f) refl refl (λ place. refl) (gone_step s o f (gone_by A s m how f y)) h)

  -- a call or a fence statement begins
  no_fences : (seen : Seen) (x : ServiceId) → OnlyLast x seen → (plan_for seen x).fences ≡ []
  no_fences seen x h = ap (fences_of seen) h

  service_is : (x : ServiceId) (y : Op) → IsRegisterOp x y → service_of y ≡ x
  service_is x _ (reads_one key e) = e
  service_is x _ (writes_one key value e) = e

  pub begins_coupled : (s t : State) (w : Owner) (b : Beginning c s w) → BeginNotes c s w b t → Tells s → Tells t
  begins_coupled s t _ (calls m x e) g h = subst Tells (sym g.1) (grow_coupled c n id Was s (opens_call s m x) _ refl refl (λ place. context_set s s.stages (m - 1) place _ refl) (λ v. new_call begun) h)
    where
      home : IsRegisterOp (id (m - 1)) x
      home = kept_op (id (m - 1)) (next_statement c s m) (stage_at s m).cursor.variables x (kept_at c q m (stage_at s m).cursor.position) e

      begun : NewCall id s (opening_owner m (kind.Calling x) true (planned (stage_at s m).context (plan_for (stage_at s m).context (service_of x))) s.steps)
      begun = record {
        op = x;
        of_kind = refl;
        at_home = home;
        works = no_fences (stage_at s m).context (service_of x) (subst (λ (i : ServiceId). OnlyLast i (stage_at s m).context) (sym (service_is (id (m - 1)) x home)) (h.contexts (m - 1)));
        running = refl;
        copy = refl;
        launched = refl;
      }
  begins_coupled s t _ (fences m) g h = absurd (subst (KeepsTo (id (m - 1))) g.0.1 (kept_at c q m (stage_at s m).cursor.position))

  -- a call ends
  module _ (s : State) (o : ℕ) (y : Op) (k : Knows c n Was s) (h : Tells s) (e : (owner_at s o).kind ≡ kind.Calling y) (r : is_running (owner_at s o).fate ≡ true) (d : (owner_at s o).works.copy.deps ≡ [])
      (shown : List Shown) (cursor : Cursor) (seen : Seen) (last : OnlyLast (id (place_of (owner_at s o))) seen) (new : (key : Key) (z : Carstamp) → IsLeft id (closed s o Ended) key z → HasDep key z seen.deps) where
    abbrev t : State
    t = ends_call s o shown cursor seen

    abbrev at : ℕ
    at = place_of (owner_at s o)

    abbrev after : Stage
    after = record (stage_at s (owner_at s o).stage) { cursor = cursor; context = seen; owner = None }

    -- which owner, and which context, is another
    abbrev IsEnded : ℕ → Type 0
    IsEnded i = (owner_at t i ≡ closed s o Ended) × (i ≡ o)

    abbrev IsOld : ℕ → Type 0
    IsOld i = (owner_at t i ≡ owner_at s i) × (i ≡ o → ⊥)

    there : o < length s.owners
    there = by_place (get_or_past s.owners o no_owner)
      where
        fence_no_call : kind.Fencing ≡ kind.Calling y → ⊥
        fence_no_call f = cc

        by_place : (o < length s.owners) ⊎ (owner_at s o ≡ no_owner) → o < length s.owners
        by_place (inl l) = l
        by_place (inr f) = absurd (fence_no_call (sym (ap (λ (w : Owner). w.kind) f) ∙ e))

    which : (i : ℕ) → IsEnded i ⊎ IsOld i
    which i = by_place (get_or_set s.owners o (closed s o Ended) i no_owner)
      where
        by_place : ((owner_at t i ≡ closed s o Ended) × (i ≡ o) × (o < length s.owners)) ⊎ ((owner_at t i ≡ owner_at s i) × ((i ≡ o → ⊥) ⊎ (length s.owners ≤ i))) → IsEnded i ⊎ IsOld i
        by_place (inl f) = inl (f.0, f.1)
        by_place (inr f) = inr (f.0, other f.1)
          where
            other : (i ≡ o → ⊥) ⊎ (length s.owners ≤ i) → i ≡ o → ⊥
            other (inl g) z = g z
            other (inr g) z = let l = there in omega (arith, g, z, l)

    context_there : context_at t at ≡ seen
    context_there = by_place (get_or_set s.stages at _ at no_stage)
      where
        by_place : ((get_or (set s.stages at after) at no_stage ≡ after) × (at ≡ at) × (at < length s.stages)) ⊎ ((get_or (set s.stages at after) at no_stage ≡ get_or s.stages at no_stage) × ((at ≡ at → ⊥) ⊎ (length s.stages ≤ at))) → context_at t at ≡ seen
        by_place (inl f) = ap (λ (x : Stage). x.context) f.0
        by_place (inr f) = absurd (past f.1)
          where
            past : (at ≡ at → ⊥) ⊎ (length s.stages ≤ at) → ⊥
            past (inl g) = g refl
            past (inr g) = let l = k.staged o y e r in omega (arith, g, l)

    context_else : (place : ℕ) → (place ≡ at → ⊥) → context_at t place ≡ context_at s place
    context_else place f = by_place (get_or_set s.stages at _ place no_stage)
      where
        by_place : ((get_or (set s.stages at after) place no_stage ≡ after) × (place ≡ at) × (at < length s.stages)) ⊎ ((get_or (set s.stages at after) place no_stage ≡ get_or s.stages place no_stage) × ((place ≡ at → ⊥) ⊎ (length s.stages ≤ place))) → context_at t place ≡ context_at s place
        by_place (inl g) = absurd (f g.1)
        by_place (inr g) = ap (λ (x : Stage). x.context) g.0

    -- what had ended of this stage a majority holds
    held_now : (a : ℕ) (key : Key) (z : Carstamp) → IsLeft id (owner_at s a) key z → place_of (owner_at s a) ≡ at → IsHeld s key z
    held_now a key z l p = covered_empty s key z (owner_at s o).works.copy.deps d (h.copy a o key z y l p e r)

    at_contexts : (place : ℕ) → OnlyLast (id place) (context_at t place)
    at_contexts place = by_place (cases_eq place at)
      where
        by_place : (place ≡ at) ⊎ (place ≡ at → ⊥) → OnlyLast (id place) (context_at t place)
        by_place (inl f) = subst (λ (i : ℕ). OnlyLast (id i) (context_at t i)) (sym f) (subst (OnlyLast (id at)) (sym context_there) last)
        by_place (inr f) = subst (OnlyLast (id place)) (sym (context_else place f)) (h.contexts place)

    at_stage : (a : ℕ) (key : Key) (z : Carstamp) → IsLeft id (owner_at t a) key z → Covered t key z (context_at t (place_of (owner_at t a))).deps
    at_stage a key z l = by_which (which a)
      where
        by_place : IsLeft id (owner_at s a) key z → (place_of (owner_at s a) ≡ at) ⊎ (place_of (owner_at s a) ≡ at → ⊥) → Covered t key z (context_at t (place_of (owner_at s a))).deps
        by_place g (inl f) = inl (held_now a key z g f)
        by_place g (inr f) = subst (λ (x : Seen). Covered t key z x.deps) (sym (context_else (place_of (owner_at s a)) f)) (h.stage a key z g)

        by_which : IsEnded a ⊎ IsOld a → Covered t key z (context_at t (place_of (owner_at t a))).deps
        by_which (inl f) =
            subst (λ (w : Owner). Covered t key z (context_at t (place_of w)).deps) (sym f.0)
            (inr (subst (λ (x : Seen). HasDep key z x.deps) (sym context_there) (new key z (subst (λ (w : Owner). IsLeft id w key z) f.0 l))))
        by_which (inr f) =
            let g : IsLeft id (owner_at s a) key z = subst (λ (w : Owner). IsLeft id w key z) f.0 l in
            subst (λ (w : Owner). Covered t key z (context_at t (place_of w)).deps) (sym f.0) (by_place g (cases_eq (place_of (owner_at s a)) at))

    -- no other call of the stage has begun
    no_other : (b : ℕ) (x : Op) → (b ≡ o → ⊥) → at ≡ place_of (owner_at s b) → (owner_at s b).kind ≡ kind.Calling x → is_running (owner_at s b).fate ≡ true → ⊥
    no_other b x f p g m = by_order (cases_lt o b)
      where
        by_order : (o < b) ⊎ (b ≤ o) → ⊥
        by_order (inl l) = k.alone o b y x l p e g r
        by_order (inr l) = k.alone b o x y (grind (arith, l, f)) (sym p) g e m

    at_copy : (a b : ℕ) (key : Key) (z : Carstamp) (x : Op) → IsLeft id (owner_at t a) key z → place_of (owner_at t a) ≡ place_of (owner_at t b) → (owner_at t b).kind ≡ kind.Calling x → is_running (owner_at t b).fate ≡ true → Covered t key z (owner_at t b).works.copy.deps
    at_copy a b key z x l p g m = by_which (which a) (which b)
      where
        by_which : IsEnded a ⊎ IsOld a → IsEnded b ⊎ IsOld b → Covered t key z (owner_at t b).works.copy.deps
        by_which i (inl j) = absurd (true≢false (sym m ∙ ap (λ (w : Owner). is_running w.fate) j.0))
        by_which (inl i) (inr j) =
            absurd (no_other b x j.1 (sym (ap place_of i.0) ∙ (p ∙ ap place_of j.0)) (sym (ap (λ (w : Owner). w.kind) j.0) ∙ g) (sym (ap (λ (w : Owner). is_running w.fate) j.0) ∙ m))
        by_which (inr i) (inr j) =
            subst (λ (w : Owner). Covered t key z w.works.copy.deps) (sym j.0)
            (h.copy a b key z x (subst (λ (w : Owner). IsLeft id w key z) i.0 l) (sym (ap place_of i.0) ∙ (p ∙ ap place_of j.0)) (sym (ap (λ (w : Owner). w.kind) j.0) ∙ g) (sym (ap (λ (w : Owner). is_running w.fate) j.0) ∙ m))

    at_launch : (a b : ℕ) (key : Key) (z : Carstamp) (x : Op) → IsLeft id (owner_at t a) key z → place_of (owner_at t a) ≡ place_of (owner_at t b) → (owner_at t b).kind ≡ kind.Calling x → a < b → 0 < (owner_at t b).dates.launched → Was key z (owner_at t b).dates.launched
    at_launch a b key z x l p g m u = by_which (which a) (which b)
      where
        by_which : IsEnded a ⊎ IsOld a → IsEnded b ⊎ IsOld b → Was key z (owner_at t b).dates.launched
        by_which (inl i) (inl j) = absurd (let v = i.1 in let w = j.1 in omega (arith, v, w, m))
        by_which (inl i) (inr j) =
            absurd (k.alone o b y x (let v = i.1 in omega (arith, v, m)) (sym (ap place_of i.0) ∙ (p ∙ ap place_of j.0)) e (sym (ap (λ (w : Owner). w.kind) j.0) ∙ g) r)
        by_which (inr i) (inl j) =
            let f = j.1 in
            subst (λ (w : Owner). Was key z w.dates.launched) (sym j.0) (h.launched a o key z y (subst (λ (w : Owner). IsLeft id w key z) i.0 l) (sym (ap place_of i.0) ∙ (p ∙ ap place_of j.0)) e (omega (arith, m, f)) (subst (λ (w : Owner). 0 < w.dates.launched) j.0 u))
        by_which (inr i) (inr j) =
            subst (λ (w : Owner). Was key z w.dates.launched) (sym j.0) (h.launched a b key z x (subst (λ (w : Owner). IsLeft id w key z) i.0 l) (sym (ap place_of i.0) ∙ (p ∙ ap place_of j.0)) (sym (ap (λ (w : Owner). w.kind) j.0) ∙ g) m (subst (λ (w : Owner). 0 < w.dates.launched) j.0 u))

    at_works : (i : ℕ) (x : Op) → (owner_at t i).kind ≡ kind.Calling x → (owner_at t i).works.left ≡ []
    at_works i x g = by_which (which i)
      where
        by_which : IsEnded i ⊎ IsOld i → (owner_at t i).works.left ≡ []
        by_which (inl j) = ap (λ (w : Owner). w.works.left) j.0 ∙ h.works o y e
        by_which (inr j) = ap (λ (w : Owner). w.works.left) j.0 ∙ h.works i x (sym (ap (λ (w : Owner). w.kind) j.0) ∙ g)

    at_ops : (i : ℕ) (x : Op) → (owner_at t i).kind ≡ kind.Calling x → IsRegisterOp (id (place_of (owner_at t i))) x
    at_ops i x g = by_which (which i)
      where
        by_which : IsEnded i ⊎ IsOld i → IsRegisterOp (id (place_of (owner_at t i))) x
        by_which (inl j) = subst (λ (w : Owner). IsRegisterOp (id (place_of w)) x) (sym j.0) (h.ops o x (sym (ap (λ (w : Owner). w.kind) j.0) ∙ g))
        by_which (inr j) = subst (λ (w : Owner). IsRegisterOp (id (place_of w)) x) (sym j.0) (h.ops i x (sym (ap (λ (w : Owner). w.kind) j.0) ∙ g))

    at_fences : (i : ℕ) → (owner_at t i).kind ≡ kind.Fencing → is_running (owner_at t i).fate ≡ true → ⊥
    at_fences i g m = by_which (which i)
      where
        by_which : IsEnded i ⊎ IsOld i → ⊥
        by_which (inl j) = true≢false (sym m ∙ ap (λ (w : Owner). is_running w.fate) j.0)
        by_which (inr j) = h.fences i (sym (ap (λ (w : Owner). w.kind) j.0) ∙ g) (sym (ap (λ (w : Owner). is_running w.fate) j.0) ∙ m)

    pub ends_coupled : Tells (ends_call s o shown cursor seen)
    ends_coupled = record { ops = at_ops; fences = at_fences; contexts = at_contexts; works = at_works; stage = at_stage; copy = at_copy; launched = at_launch }
