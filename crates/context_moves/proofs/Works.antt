-- Owners come to rest between their works, and go from work to work: what their copies cover stays covered.
use Rattle.std.proofs.Common.{◌≡◌, ℕ, ◌-◌, ◌<◌, inl, inr, Bool, true, false, List, [], ◌∷◌, Some, None, All, refl, sym, ap, ◌∙◌, subst, arith}
use Rattle.std.specs.Prelude.{nat_lt}
use Rattle.std.proofs.Math.ListN.{set}
use Rattle.std.proofs.lemmas.Bool.{true≢false, false≢true}
use Rattle.std.proofs.lemmas.Bool.Decides.{nat_tests}
use Rattle.std.proofs.lemmas.List.Elements.{All-head}
use Rattle.truetime.specs.Reading.{Reading}
use Rattle.rss_names.specs.declared.service.ServiceId.{ServiceId}
use Rattle.rss_names.specs.declared.service.ServiceId.TheVariants.{Txn, Reg}
use Rattle.rss_names.specs.Services.{same_service}
use Rattle.causal_context.specs.declared.dep.Dep.{Dep}
use Rattle.causal_context.specs.Deps.{deps_of}
use Rattle.causal_context.specs.Services.{IsService}
use Rattle.causal_context.specs.Seen.{Seen, entered, deps_cleared}
use Rattle.causal_context.proofs.SameServices.{same_itself}
use Rattle.pipeline_lang.specs.declared.config.Config.{Config}
use Rattle.rss_model.specs.declared.op.Op.{Op}
use Rattle.rss_model.specs.declared.op.Op.TheVariants as op
use Rattle.rss_tables.specs.RegisterSession.{RegSession, phase_end}
use Rattle.rss_tables.specs.declared.fences.FenceWork.{FenceWork}
use Rattle.rss_tables.specs.declared.fences.FenceWork.TheVariants.{Nothing, Past, Fix}
use Rattle.rss_tables.specs.declared.register_session.RegEnd.{RegEnd}
use Rattle.rss_machine.specs.Session.{service_of}
use Rattle.rss_machine.specs.Standing.{is_running}
use Rattle.rss_machine.specs.State.{State, Owner, owner_at}
use Rattle.rss_machine.specs.declared.session.Session.TheVariants as session
use Rattle.rss_machine.specs.declared.session.OwnerKind.{OwnerKind}
use Rattle.rss_machine.specs.declared.session.OwnerKind.TheVariants as kind
use Rattle.world_laws.specs.Planned.{ArePlanned, FitsContext, has_planned, called_service}
use Rattle.world_laws.specs.Registers.{IsRegister}
use Rattle.world_laws.proofs.Contexts.{copy_holds}
use Rattle.world_laws.proofs.Doings.{Resting, plans, past, fixed, cleared, Working, owes_nothing, is_past, enters_own, fence_ended}
use Rattle.world_laws.proofs.OwnerFits.{is_own}
use Rattle.world_laws.proofs.PlannedOwners.{is_fixing, left_planned}
use Rattle.world_laws.proofs.Plans.{Fitting}
use Rattle.world_laws.proofs.SessionMoves.{session_at}
use Rattle.world_laws.proofs.StageMoves.{Quiet}
use Rattle.world_laws.proofs.TurnMoves.{RestingNotes}
use Rattle.reg_laws.specs.Agree.{Agrees, FixAgrees}
use Rattle.world_laws.specs.InOrder.{IsInOrder}
use Rattle.reg_laws.proofs.Base.{named_of}
use Rattle.reg_laws.proofs.RoundsHeld.{DepHeld}
use Rattle.reg_laws.proofs.Settles as settles
use Rattle.world_laws.proofs.Waits.{past_work, fixed_work}
use Rattle.order_laws.specs.CallsBehind.{CallsBehind}
use Rattle.coupling_laws.specs.Calls.{View}
use Rattle.coupling_laws.specs.Covers.{Covers, IsAt}
use Rattle.coupling_laws.proofs.Fences.{fence_ends, txn_entered, reg_entered}
use Rattle.coupling_laws.proofs.Ends as ends_of
use Rattle.coupling_laws.proofs.Used.{at_no_other}
use Rattle.context_moves.specs.Views.{view_of}
use Rattle.context_moves.specs.Covering.{IsCallAt, Covering}
use Rattle.world_laws.specs.Served.{IsServed}
use Rattle.context_moves.proofs.At.{no_other}
use Rattle.context_moves.proofs.Facts.{Facts, IsDone, owed_none, passed, stored, work_settles, view_is, come_before}
use Rattle.context_moves.proofs.Later.{SameClock, covers_later}
use Rattle.context_moves.proofs.Own.{own_later, changed, new_owner}

-- a context at a transaction service depends on nothing
pub no_deps_at_txn : (v : View) (calls : ℕ → Bool) (seen : Seen) (m : ℕ) → IsAt seen (Txn m) → All (λ (d : Dep). (n : ℕ) × (d.key.service ≡ Reg n)) seen.deps → Covers v calls seen → seen.deps ≡ []
no_deps_at_txn v calls seen m at g k = by_deps seen.deps refl g
  where
    other : (n : ℕ) → same_service (Reg n) (Txn m) ≡ false
    other n = refl

    none : (n : ℕ) → deps_of (Reg n) seen.deps ≡ []
    none n = k.out_deps n (at_no_other seen (Txn m) (Reg n) at (other n))

    cons_not_nil : (d : Dep) (ds : List Dep) → d ∷ ds ≡ [] → ⊥
    cons_not_nil d ds e = cc

    by_deps : (deps : List Dep) → seen.deps ≡ deps → All (λ (d : Dep). (n : ℕ) × (d.key.service ≡ Reg n)) deps → seen.deps ≡ []
    by_deps [] e g = e
    by_deps (d ∷ ds) e g = absurd (cons_not_nil d (deps_of (Reg q.0) ds) (first d ds q.0 q.1 ∙ (ap (deps_of (Reg q.0)) (sym e) ∙ none q.0)))
      where
        q : (n : ℕ) × (d.key.service ≡ Reg n)
        q = All-head (λ (d : Dep). (n : ℕ) × (d.key.service ≡ Reg n)) d ds g

        first : (d : Dep) (ds : List Dep) (n : ℕ) → d.key.service ≡ Reg n → d ∷ deps_of (Reg n) ds ≡ deps_of (Reg n) (d ∷ ds)
        first d ds n e = let i = ap (same_service (Reg n)) e ∙ same_itself (Reg n) in grind (arith, i)

-- a context at one service still is where its dependencies are cleared
pub cleared_at : (seen : Seen) (id : ServiceId) → IsAt seen id → IsAt (deps_cleared seen) id
cleared_at seen id (inl e) = inl e
cleared_at seen id (inr e) = inr (ap deps_cleared e)

module _ (c : Config) (n : IsInOrder c) (at : Reading) (b : CallsBehind) (s : State) (h : Facts c n at s) (k : Covering c (view_of c s) b s) where
  abbrev v : View
  v = view_of c s

  -- what owners depend on are registers of the file
  pub deps_kept : (o : ℕ) → All (λ (d : Dep). (n : ℕ) × (d.key.service ≡ Reg n)) (owner_at s o).works.copy.deps
  deps_kept o i d l = let g = copy_holds (λ (d : Dep). IsRegister c d.key) s o (named_of c s h.settled.0.0.0.0).deps i d l in (g.number, g.is)

  pub service_is : (x : Op) → IsServed c x → IsService (service_of x)
  service_is (op.Read key) g = subst IsService (sym g.is) (g.first, g.last)
  service_is (op.Write key value) g = subst IsService (sym g.is) (g.first, g.last)
  service_is (op.Snap keys) g = subst IsService (sym g.is) g.service
  service_is (op.Txn reads guard writes) g = subst IsService (sym g.is) g.service

  -- an owner that has works left, or no session of its own, has sent no round of its own
  pub not_own : (o : ℕ) → is_own (session_at s o) ≡ false → 0 < (owner_at s o).dates.launched → ⊥
  not_own o e l = let u = (h.told.fits o).unlaunched e in omega (arith, u, l)

  pub works_left : (o : ℕ) (x : ServiceId × FenceWork) (rest : List (ServiceId × FenceWork)) → (owner_at s o).works.left ≡ x ∷ rest → 0 < (owner_at s o).dates.launched → ⊥
  works_left o x rest e l = by_own (is_own (session_at s o)) refl
    where
      cons_not_nil : (x : ServiceId × FenceWork) (rest : List (ServiceId × FenceWork)) → x ∷ rest ≡ [] → ⊥
      cons_not_nil x rest e = cc

      by_own : (t : Bool) → is_own (session_at s o) ≡ t → ⊥
      by_own true f = cons_not_nil x rest (sym e ∙ (h.told.fits o).done f)
      by_own false f = not_own o f l

  -- the first of the works left fits the copy
  pub first_fits : (o : ℕ) (id : ServiceId) (x : FenceWork) (rest : List (ServiceId × FenceWork)) → (owner_at s o).works.left ≡ (id, x) ∷ rest → FitsContext (owner_at s o).works.copy id x
  first_fits o id x rest e =
      let p = (h.planned o).works (left_planned (owner_at s o) (id, x) rest e (h.planned o)) in
      All-head (Fitting (owner_at s o).works.copy) (id, x) rest (subst (All (Fitting (owner_at s o).works.copy)) e p.fits)

  module _ (t : State) (o : ℕ) (e : SameClock s t) (q : Quiet s t) (r : is_running (owner_at s o).fate ≡ true) where
    -- the copy, by what it covers before
    copied : (w : Owner) → t.owners ≡ set s.owners o w → ((j : ℕ) → j - 1 ≡ (owner_at s o).stage - 1 → Covers v (b.stage j) (owner_at s o).works.copy → Covers v (b.stage j) w.works.copy) → (j : ℕ) → j - 1 ≡ (owner_at s o).stage - 1 → Covers (view_of c t) (b.stage j) w.works.copy
    copied w d f j g = covers_later v (view_of c t) (b.stage j) (b.stage j) w.works.copy (own_later c b s t o w e d r) (λ a i. i) (f j g ((k.owners o).copy j (inl r) g))

    -- a work is done, and its service fenced
    pub fenced : (id : ServiceId) (x : FenceWork) (rest : List (ServiceId × FenceWork)) → t.owners ≡ set s.owners o (fence_ended s o id) → (owner_at s o).works.left ≡ (id, x) ∷ rest → IsDone c n at s h (owner_at s o).works.copy id x → Covering c (view_of c t) b t
    fenced id x rest d l done =
        changed c b s t o (fence_ended s o id) e d r q refl refl
        (new_owner (view_of c t) b s.stages (owner_at s o) (fence_ended s o id) refl refl r
        (copied (fence_ended s o id) d (λ j g m. fence_ends v (b.stage j) (owner_at s o).works.copy id (view_is c n at s h) m (work_settles c n at s h (owner_at s o).works.copy id x (first_fits o id x rest l) done (b.stage j) m)))
        (λ op g m. absurd (works_left o (id, x) rest l m)) (λ f m. absurd (false≢true f)) v (k.owners o)) k

    -- a call enters its service
    pub enters : (x : Op) → (owner_at s o).works.left ≡ [] → (owner_at s o).kind ≡ kind.Calling x → is_own (session_at s o) ≡ false → is_fixing (session_at s o) ≡ false → (w : Owner)
        → w ≡ record (owner_at s o) { works = record (owner_at s o).works { copy = entered (owner_at s o).works.copy (service_of x) at.latest; enter = false }; dates = record (owner_at s o).dates { entered = s.steps } } → t.owners ≡ set s.owners o w → Covering c (view_of c t) b t
    enters x l y own fix w z d =
        changed c b s t o w e d r q (ap (λ (i : Owner). i.stage) z) (ap (λ (i : Owner). i.kind) z)
        (new_owner (view_of c t) b s.stages (owner_at s o) w (ap (λ (i : Owner). i.stage) z) (ap (λ (i : Owner). i.kind) z) r
        (copied w d (λ j g m. subst (Covers v (b.stage j)) (sym (ap (λ (i : Owner). i.works.copy) z)) (by_service (b.stage j) m (service_of x) refl)))
        (λ op g m. absurd (not_own o own (subst (λ (i : Owner). 0 < i.dates.launched) z m))) (λ f m. absurd (true≢false (sym (ap (λ (i : Owner). is_fixing i.session) (sym z) ∙ f) ∙ fix))) v (k.owners o)) k
      where
        planned_own : ArePlanned (Some (service_of x)) (owner_at s o).works
        planned_own = subst (λ (i : OwnerKind). ArePlanned (called_service i) (owner_at s o).works) y ((h.planned o).works (ap (λ (i : OwnerKind). has_planned i (owner_at s o).started (session_at s o)) y))

        by_service : (calls : ℕ → Bool) → Covers v calls (owner_at s o).works.copy → (id : ServiceId) → service_of x ≡ id → Covers v calls (entered (owner_at s o).works.copy (service_of x) at.latest)
        by_service calls m (Txn i) f =
            subst (λ (id : ServiceId). Covers v calls (entered (owner_at s o).works.copy id at.latest)) (sym f)
            (txn_entered v calls (owner_at s o).works.copy i at.latest (view_is c n at s h) m (subst IsService f (service_is x (h.served.each o x y)))
            (λ other g. no_other (service_of x) (owner_at s o).works planned_own l other g ∙ f) (λ a g u. come_before c n at s h a u))
        by_service calls m (Reg i) f =
            subst (λ (id : ServiceId). Covers v calls (entered (owner_at s o).works.copy id at.latest)) (sym f)
            (reg_entered v calls (owner_at s o).works.copy i at.latest m (subst IsService f (service_is x (h.served.each o x y)))
            (λ other g. no_other (service_of x) (owner_at s o).works planned_own l other g ∙ f))

    -- how an owner comes to rest
    earlier : (time : ℕ) → nat_lt time at.earliest ≡ true → time < s.moment
    earlier time f = let l = h.earliest in grind (arith, nat_tests, f, l)

    fix_held : (y : RegSession) (z : RegEnd) (id : ServiceId) → session_at s o ≡ session.Fixing y → phase_end y.phase ≡ Some z → y.service ≡ id → All (DepHeld s id) (deps_of id (owner_at s o).works.copy.deps)
    fix_held y z id f g i = subst (λ (id : ServiceId). All (DepHeld s id) (deps_of id (owner_at s o).works.copy.deps)) i (settles.fix_settles c n s o y z h.settled h.agree f g)

    agrees : (y : RegSession) → session_at s o ≡ session.Fixing y → FixAgrees (owner_at s o) y
    agrees y f = subst (Agrees (owner_at s o)) f (h.agree.each o)

    pub rests_cover : (w : Owner) (y : Resting s o w) → RestingNotes at s o w y → t.owners ≡ set s.owners o w → Covering c (view_of c t) b t
    rests_cover _ (plans f g) i d =
        changed c b s t o _ e d r q refl refl
        (new_owner (view_of c t) b s.stages (owner_at s o) _ refl refl r (copied _ d (λ j g m. m)) (λ op g m. absurd (stub_not_call op (sym f ∙ g))) (λ f m. absurd (false≢true f)) v (k.owners o)) k
      where
        stub_not_call : (op : Op) → kind.Stubbing None ≡ kind.Calling op → ⊥
        stub_not_call op e = cc
    rests_cover _ (past id x rest time l f) i d = fenced id x rest d l (subst (IsDone c n at s h (owner_at s o).works.copy id) (sym (past_work (owner_at s o) id x rest time (h.waits o) l f)) (passed time (earlier time i)))
    rests_cover _ (fixed id x rest y z l f g u) i d =
        fenced id x rest d l (subst (IsDone c n at s h (owner_at s o).works.copy id) (sym (fixed_work (owner_at s o) id x rest (h.waits o) l (ap is_fixing f))) (stored (fix_held y z id f g ((agrees y f).first id x rest l))))
    rests_cover _ (cleared y z l f g u) i d =
        changed c b s t o _ e d r q refl refl
        (new_owner (view_of c t) b s.stages (owner_at s o) _ refl refl r
        (copied _ d (λ j g m. ends_of.cleared v (b.stage j) (owner_at s o).works.copy call.number m (subst (IsAt (owner_at s o).works.copy) call.is call.at) (come (b.stage j) m)))
        (λ op g m. absurd (not_own o (ap is_own f) m)) (λ f m. absurd (false≢true f)) v (k.owners o)) k
      where
        call : IsCallAt (owner_at s o)
        call = (k.owners o).fixing r (ap is_fixing f) l

        come : (calls : ℕ → Bool) → Covers v calls (owner_at s o).works.copy → (a : ℕ) → calls a ≡ true → (v.call a).service ≡ Reg call.number → v.come a ≡ true
        come calls m = work_settles c n at s h (owner_at s o).works.copy (Reg call.number) Fix tt (stored (fix_held y z (Reg call.number) f g ((agrees y f).own call.op l call.of_kind ∙ call.is))) calls m

    pub works_cover : (w : Owner) (y : Working at s o w) → is_own (session_at s o) ≡ false → is_fixing (session_at s o) ≡ false → t.owners ≡ set s.owners o w → Covering c (view_of c t) b t
    works_cover _ (owes_nothing id rest l) own fix d = fenced id Nothing rest d l owed_none
    works_cover _ (is_past id time rest l f) own fix d = fenced id (Past time) rest d l (passed time (earlier time f))
    works_cover _ (enters_own x l f y) own fix d = enters x l f own fix _ refl d
