-- How owners change as they go on, by what contexts tell.
use Rattle.std.proofs.Common.{◌≡◌, ℕ, ◌<◌, inl, inr, true, List, [], ◌∷◌, ◌++◌, length, get_or, Option, None, refl, sym, ap, ◌∙◌, subst, arith}
use Rattle.std.proofs.Math.ListN.{set}
use Rattle.truetime.specs.Reading.{Reading}
use Rattle.rss_names.specs.declared.attempt.Attempt.{Attempt}
use Rattle.rss_names.specs.declared.service.Key.{Key}
use Rattle.rss_names.specs.declared.service.ServiceId.{ServiceId}
use Rattle.carstamps.specs.declared.carstamp.Carstamp.{Carstamp}
use Rattle.causal_context.specs.declared.dep.Dep.{Dep}
use Rattle.pipeline_lang.specs.declared.config.Config.{Config}
use Rattle.rss_model.specs.declared.op.Op.{Op}
use Rattle.rss_names.specs.declared.service.Target.{Target}
use Rattle.rss_tables.specs.Outs.{Out}
use Rattle.rss_tables.specs.Works.{Works}
use Rattle.rss_tables.specs.declared.fences.FenceWork.{FenceWork}
use Rattle.rss_machine.specs.Moves.{sends_one, sends, closed}
use Rattle.rss_machine.specs.Session.{service_of}
use Rattle.rss_machine.specs.Standing.{is_running}
use Rattle.rss_machine.specs.State.{State, Owner, no_owner, owner_at}
use Rattle.rss_machine.specs.declared.session.OwnerKind.{OwnerKind}
use Rattle.rss_machine.specs.declared.session.OwnerKind.TheVariants as kind
use Rattle.rss_machine.specs.declared.state.OwnerFate.{OwnerFate}
use Rattle.rss_machine.specs.declared.state.OwnerFate.TheVariants.{Ended, CutOff}
use Rattle.world_laws.proofs.Doings.{Resting, plans, past, fixed, cleared, Working, owes_nothing, is_past, enters_own, Leaving, waits, fixes_work, fixes_own, asks_register, stamps_register, begins_snapshot, begins_txn, fence_done, stub_done, Doing, listens_one, fix_hears, fix_reached, register_hears, register_stores, register_reached, read_ends, write_ends, txn_ends, snap_ends, counts_one, cuts_one, is_closed, forgets_all, turns, stub_asks}
use Rattle.world_laws.proofs.StageMoves.{DoingNotes}
use Rattle.reg_laws.specs.Agree.{FixAgrees, Agrees, AllAgree}
use Rattle.reg_laws.specs.Files.{IsInOrder}
use Rattle.reg_laws.proofs.Awaiting.{set_each, grow_each}
use Rattle.reg_laws.proofs.Rounds.{Settled}
use Rattle.reg_laws.proofs.Settles.{fix_settles}
use Rattle.place_laws.proofs.Coupling.{place_of, context_at, IsHeld, Covered, covered_empty, covered_held, not_left, Coupled, OwnerStep, changes, no_call, holds_same, each_coupled, same_change, turn_change, over_change}
use Rattle.place_laws.proofs.Placed.{IsRegisterOp, reads_one, writes_one, ToShards, not_to_shards}

-- what is known of each state besides
pub record Knows (c : Config) (n : IsInOrder c) (Was : Key → Carstamp → ℕ → Type 0) (s : State) : Type 0 where
  pub alone : (a b : ℕ) (x y : Op) → a < b → place_of (owner_at s a) ≡ place_of (owner_at s b) → (owner_at s a).kind ≡ kind.Calling x → (owner_at s b).kind ≡ kind.Calling y → is_running (owner_at s a).fate ≡ true → ⊥
  pub staged : (o : ℕ) (x : Op) → (owner_at s o).kind ≡ kind.Calling x → is_running (owner_at s o).fate ≡ true → place_of (owner_at s o) < length s.stages
  pub agree : AllAgree s
  pub settled : Settled c n s
  pub now : (key : Key) (z : Carstamp) → IsHeld s key z → Was key z s.steps

module _ (c : Config) (n : IsInOrder c) (id : ℕ → ServiceId) (Was : Key → Carstamp → ℕ → Type 0) where
  -- owners that stay as they are
  pub same_step : (s : State) (v w : Owner) → w ≡ v → OwnerStep id Was s v w
  same_step s v w e = subst (OwnerStep id Was s v) (sym e) (changes (same_change id Was s v v refl refl refl refl refl refl refl))

  pub quiet_coupled : (s t : State) → t.replicas ≡ s.replicas → t.owners ≡ s.owners → ((place : ℕ) → context_at t place ≡ context_at s place) → Coupled id Was s → Coupled id Was t
  quiet_coupled s t e f g h = each_coupled id Was s t (holds_same s t e) g (λ i. same_step s (owner_at s i) (owner_at t i) (ap (λ (owners : List Owner). get_or owners i no_owner) f)) h

  pub set_coupled : (s t : State) (o : ℕ) (w : Owner) → t.replicas ≡ s.replicas → t.owners ≡ set s.owners o w → ((place : ℕ) → context_at t place ≡ context_at s place) → OwnerStep id Was s (owner_at s o) w → Coupled id Was s → Coupled id Was t
  set_coupled s t o w e f g k h =
      each_coupled id Was s t (holds_same s t e) g
      (subst (λ (owners : List Owner). (i : ℕ) → OwnerStep id Was s (owner_at s i) (get_or owners i no_owner)) (sym f)
      (set_each (λ i x. OwnerStep id Was s (owner_at s i) x) s.owners o w k (λ i. same_step s (owner_at s i) (owner_at s i) refl))) h

  pub grow_coupled : (s t : State) (w : Owner) → t.replicas ≡ s.replicas → t.owners ≡ s.owners ++ w ∷ [] → ((place : ℕ) → context_at t place ≡ context_at s place) → ((v : Owner) → OwnerStep id Was s v w) → Coupled id Was s → Coupled id Was t
  grow_coupled s t w e f g k h =
      each_coupled id Was s t (holds_same s t e) g
      (subst (λ (owners : List Owner). (i : ℕ) → OwnerStep id Was s (owner_at s i) (get_or owners i no_owner)) (sym f)
      (grow_each (λ i x. OwnerStep id Was s (owner_at s i) x) s.owners w (k (owner_at s (length s.owners))) (λ i. same_step s (owner_at s i) (owner_at s i) refl))) h

  -- requests that are sent
  one_coupled : (o : ℕ) (s : State) (out : Out) → Coupled id Was s → Coupled id Was (sends_one s o out)
  one_coupled o s out h = set_coupled s (sends_one s o out) o _ refl refl (λ place. refl) (changes (same_change id Was s (owner_at s o) _ refl refl refl refl refl refl refl)) h

  pub sends_coupled : (o : ℕ) (outs : List Out) (s : State) → Coupled id Was s → Coupled id Was (sends s o outs)
  sends_coupled o [] s h = h
  sends_coupled o (out ∷ outs) s h = sends_coupled o outs (sends_one s o out) (one_coupled o s out h)

  -- what works change
  full_not_empty : {X : Type 0} (x : X) (xs ys : List X) → ys ≡ x ∷ xs → ys ≡ [] → ⊥
  full_not_empty x xs ys e f = grind (arith, e, f)

  pub calling_not_stub : (x : Op) (u : Option (Attempt × List ℕ)) (k : OwnerKind) → k ≡ kind.Calling x → k ≡ kind.Stubbing u → ⊥
  calling_not_stub x u k e f = calling_is_not (sym e ∙ f)
    where
      calling_is_not : kind.Calling x ≡ kind.Stubbing u → ⊥
      calling_is_not g = cc

  -- an owner that goes on with its works, of which a call has none
  works_change : (s : State) (v w : Owner) (d : ServiceId × FenceWork) (rest : List (ServiceId × FenceWork)) → is_running v.fate ≡ true → v.works.left ≡ d ∷ rest → ((x : Op) → v.kind ≡ kind.Calling x → v.works.left ≡ []) → (v.kind ≡ kind.Fencing → is_running v.fate ≡ true → ⊥) → w.kind ≡ v.kind → OwnerStep id Was s v w
  works_change s v w d rest r l p g b = no_call (λ x f. full_not_empty d rest v.works.left l (p x (sym b ∙ f))) (λ f q. g (sym b ∙ f) r)

  pub fencing_not_stub : (u : Option (Attempt × List ℕ)) (k : OwnerKind) → k ≡ kind.Fencing → k ≡ kind.Stubbing u → ⊥
  fencing_not_stub u k e f = fencing_is_not (sym e ∙ f)
    where
      fencing_is_not : kind.Fencing ≡ kind.Stubbing u → ⊥
      fencing_is_not g = cc

  module _ (s : State) (o : ℕ) (h : Coupled id Was s) where
    plain : (x : Op) → (owner_at s o).kind ≡ kind.Calling x → (owner_at s o).works.left ≡ []
    plain x e = h.works o x e

    pub resting_step : (w : Owner) → Resting s o w → is_running (owner_at s o).fate ≡ true → Knows c n Was s → OwnerStep id Was s (owner_at s o) w
    resting_step _ (plans e b) r k = no_call (λ x f. calling_not_stub x None (owner_at s o).kind f e) (λ f q. fencing_not_stub None (owner_at s o).kind f e)
    resting_step _ (past i x rest time l e) r k = works_change s (owner_at s o) _ (i, x) rest r l plain (h.fences o) refl
    resting_step _ (fixed i x rest f e l a b d) r k = works_change s (owner_at s o) _ (i, x) rest r l plain (h.fences o) refl
    resting_step _ (cleared f e l a b d) r k = changes (record {
      stage = refl;
      of_kind = refl;
      works = λ x g p. p;
      left = λ key z g. absurd (not_left id _ key z r g);
      runs = λ g. r;
      copy = λ key z x i g q y. inl (settles key z x i g y);
      launched = inl refl;
    })
      where
        agrees : FixAgrees (owner_at s o) f
        agrees = subst (Agrees (owner_at s o)) a (k.agree.each o)

        service : (x : Op) → IsRegisterOp (id (place_of (owner_at s o))) x → service_of x ≡ id (place_of (owner_at s o))
        service _ (reads_one key e) = e
        service _ (writes_one key value e) = e

        settles : (key : Key) (z : Carstamp) (x : Op) → key.service ≡ id (place_of (owner_at s o)) → (owner_at s o).kind ≡ kind.Calling x → Covered s key z (owner_at s o).works.copy.deps → IsHeld s key z
        settles key z x i g y =
            let same : f.service ≡ id (place_of (owner_at s o)) = agrees.own x l g ∙ service x (h.ops o x g) in
            covered_held s f.service key z (i ∙ sym same) (owner_at s o).works.copy.deps (fix_settles c n s o f e k.settled k.agree a b) y

    pub working_step : (at : Reading) (w : Owner) → Working at s o w → is_running (owner_at s o).fate ≡ true → OwnerStep id Was s (owner_at s o) w
    working_step at _ (owes_nothing i rest l) r = works_change s (owner_at s o) _ (i, _) rest r l plain (h.fences o) refl
    working_step at _ (is_past i time rest l e) r = works_change s (owner_at s o) _ (i, _) rest r l plain (h.fences o) refl
    working_step at _ (enters_own x l e f) r = changes (turn_change id Was s (owner_at s o) _ r refl refl refl refl refl refl)

    -- a call that sends its own first round depends on nothing
    launch_change : (w : Owner) → Knows c n Was s → is_running (owner_at s o).fate ≡ true → (owner_at s o).works.copy.deps ≡ [] → w.dates.launched ≡ s.steps → w.stage ≡ (owner_at s o).stage → w.kind ≡ (owner_at s o).kind → w.fate ≡ (owner_at s o).fate → w.works ≡ (owner_at s o).works → OwnerStep id Was s (owner_at s o) w
    launch_change w k r e g a b d f = changes (record {
      stage = a;
      of_kind = b;
      works = λ x g p. ap (λ (y : Works). y.left) f ∙ p;
      left = λ key z g. absurd (not_left id w key z (subst (λ (y : OwnerFate). is_running y ≡ true) (sym d) r) g);
      runs = λ g. r;
      copy = λ key z x i g q y. subst (Covered s key z) (sym (ap (λ (m : Works). m.copy.deps) f)) y;
      launched = inr (λ key z y. subst (Was key z) (sym g) (k.now key z (covered_empty s key z (owner_at s o).works.copy.deps e y)), r);
    })

    to_shards : (x : Op) → (owner_at s o).kind ≡ kind.Calling x → Knows c n Was s → ToShards x → ⊥
    to_shards x e k m = not_to_shards (id (place_of (owner_at s o))) x (h.ops o x e) m

    pub leaving_step : (at : Reading) (w : Owner) (outs : List Out) → Leaving c at s o w outs → is_running (owner_at s o).fate ≡ true → Knows c n Was s → OwnerStep id Was s (owner_at s o) w
    leaving_step at _ _ (waits i time rest l) r k = changes (turn_change id Was s (owner_at s o) _ r refl refl refl refl refl refl)
    leaving_step at _ _ (fixes_work i rest l) r k = changes (turn_change id Was s (owner_at s o) _ r refl refl refl refl refl refl)
    leaving_step at _ _ (fixes_own x dep deps l e d) r k = changes (turn_change id Was s (owner_at s o) _ r refl refl refl refl refl refl)
    leaving_step at _ _ (asks_register key l e d) r k = launch_change _ k r d refl refl refl refl refl
    leaving_step at _ _ (stamps_register key value l e d) r k = launch_change _ k r d refl refl refl refl refl
    leaving_step at _ _ (begins_snapshot keys t l e d) r k = absurd (to_shards _ e k tt)
    leaving_step at _ _ (begins_txn reads guard writes t l e d) r k = absurd (to_shards _ e k tt)
    leaving_step at _ _ (fence_done l e) r k = absurd (h.fences o e r)
    leaving_step at _ _ (stub_done u l e) r k = no_call (λ x f. calling_not_stub x u (owner_at s o).kind f e) (λ f q. fencing_not_stub u (owner_at s o).kind f e)

    -- what else owners do, but end calls
    cut_not_ended : (target : Target) (f : OwnerFate) → f ≡ CutOff target → f ≡ Ended → ⊥
    cut_not_ended target f e g = cut_is_not (sym e ∙ g)
      where
        cut_is_not : CutOff target ≡ Ended → ⊥
        cut_is_not q = cc

    pub closed_step : (target : Target) (f : OwnerFate) → f ≡ CutOff target → OwnerStep id Was s (owner_at s o) (closed s o f)
    closed_step target f e =
        changes (over_change id Was s (owner_at s o) (closed s o f) refl refl (ap is_running e) (λ key z g. cut_not_ended target f e g.ended) refl refl)

    pub doing_step : (w : Owner) (outs : List Out) (new : List Dep) (t : State) → (b : Doing s o w outs new) → DoingNotes c s o w outs new b t → is_running (owner_at s o).fate ≡ true → Knows c n Was s → OwnerStep id Was s (owner_at s o) w
    doing_step _ _ _ t (listens_one slot x d) q r k = changes (turn_change id Was s (owner_at s o) _ r refl refl refl refl refl refl)
    doing_step _ _ _ t (fix_hears f slot y x d e) q r k = changes (turn_change id Was s (owner_at s o) _ r refl refl refl refl refl refl)
    doing_step _ _ _ t (fix_reached f slot y z x d e) q r k = changes (turn_change id Was s (owner_at s o) _ r refl refl refl refl refl refl)
    doing_step _ _ _ t (register_hears f slot y x d a e) q r k = changes (turn_change id Was s (owner_at s o) _ r refl refl refl refl refl refl)
    doing_step _ _ _ t (register_stores f slot y x d a e) q r k = changes (turn_change id Was s (owner_at s o) _ r refl refl refl refl refl refl)
    doing_step _ _ _ t (register_reached f slot y z x d e) q r k = absurd q
    doing_step _ _ _ t (read_ends f key cell dep x a b) q r k = absurd q
    doing_step _ _ _ t (write_ends f key value e x a b) q r k = absurd q
    doing_step _ _ _ t (txn_ends x y time a b d) q r k = let g = subst (Agrees (owner_at s o)) b (k.agree.each o) in absurd (to_shards _ g.of_kind k tt)
    doing_step _ _ _ t (snap_ends x y time a b d) q r k = let g = subst (Agrees (owner_at s o)) b (k.agree.each o) in absurd (to_shards _ g.of_kind k tt)
    doing_step _ _ _ t (counts_one target) q r k = changes (turn_change id Was s (owner_at s o) _ r refl refl refl refl refl refl)
    doing_step _ _ _ t (cuts_one service replica) q r k = changes (turn_change id Was s (owner_at s o) _ r refl refl refl refl refl refl)
    doing_step _ _ _ t (is_closed f) q r k = closed_step q.0.target f q.0.cut
    doing_step _ _ _ t forgets_all q r k = changes (turn_change id Was s (owner_at s o) _ r refl refl refl refl refl refl)
    doing_step _ _ _ t (turns x outs y) q r k = changes (turn_change id Was s (owner_at s o) _ r refl refl refl refl refl refl)
    doing_step _ _ _ t (stub_asks attempt shards e b) q r k = changes (turn_change id Was s (owner_at s o) _ r refl refl refl refl refl refl)
