-- An owner leaves its works: it waits, sends a round, or ends.
use Rattle.std.proofs.Common.{◌≡◌, ℕ, ◌-◌, ◌<◌, ◌⊎◌, inl, inr, Bool, true, false, List, [], ◌∷◌, length, get_or, Option, Some, None, refl, sym, ap, ◌∙◌, subst}
use Rattle.std.specs.Prelude.{if◌then◌else◌, ◌==◌}
use Rattle.std.proofs.Math.ListN.{set}
use Rattle.std.proofs.lemmas.Bool.{true≢false, false≢true}
use Rattle.truetime.specs.Reading.{Reading}
use Rattle.rss_names.specs.declared.service.ServiceId.{ServiceId}
use Rattle.rss_names.specs.declared.service.ServiceId.TheVariants.{Reg}
use Rattle.causal_context.specs.declared.dep.Dep.{Dep}
use Rattle.causal_context.specs.Services.{has_service}
use Rattle.causal_context.specs.Seen.{Seen, deps_cleared, fenced_outside}
use Rattle.pipeline_lang.specs.declared.config.Config.{Config}
use Rattle.rss_model.specs.declared.op.Op.{Op}
use Rattle.rss_model.specs.declared.op.Op.TheVariants as op
use Rattle.rss_model.specs.Cursor.{Cursor}
use Rattle.rss_tables.specs.Outs.{Out}
use Rattle.rss_names.specs.declared.attempt.Attempt.{Attempt}
use Rattle.rss_tables.specs.Works.{Works}
use Rattle.rss_tables.specs.declared.fences.FenceWork.{FenceWork}
use Rattle.rss_machine.specs.Calls.{fenced_context}
use Rattle.rss_machine.specs.Moves.{ends_fence, closed}
use Rattle.rss_machine.specs.Session.{service_of}
use Rattle.rss_machine.specs.Standing.{is_running, is_over}
use Rattle.rss_machine.specs.State.{State, Owner, no_stage, stage_at, owner_at}
use Rattle.rss_machine.specs.declared.session.Session.TheVariants as session
use Rattle.rss_machine.specs.declared.session.OwnerKind.{OwnerKind}
use Rattle.rss_machine.specs.declared.session.OwnerKind.TheVariants as kind
use Rattle.rss_machine.specs.declared.state.OwnerFate.TheVariants.{Ended}
use Rattle.world_laws.specs.Planned.{ArePlanned, has_planned, called_service, has_work}
use Rattle.world_laws.specs.Calls.{is_stub}
use Rattle.world_laws.proofs.Doings.{Leaving, waits, fixes_work, fixes_own, asks_register, stamps_register, begins_snapshot, begins_txn, fence_done, stub_done}
use Rattle.world_laws.proofs.OwnerFits.{is_own}
use Rattle.world_laws.proofs.PlannedOwners.{is_fixing, none_own}
use Rattle.world_laws.proofs.SessionMoves.{session_at}
use Rattle.world_laws.proofs.StageMoves.{Quiet, LeavingNotes}
use Rattle.world_laws.proofs.TurnMoves.{LaunchNotes}
use Rattle.world_laws.specs.InOrder.{IsInOrder}
use Rattle.order_laws.specs.CallsBehind.{CallsBehind}
use Rattle.coupling_laws.specs.Calls.{View, Grows}
use Rattle.coupling_laws.specs.Covers.{Covers, IsAt}
use Rattle.coupling_laws.proofs.Fences.{outside_fenced, none_last}
use Rattle.coupling_laws.proofs.Used.{no_services, not_true}
use Rattle.context_moves.specs.Views.{view_of}
use Rattle.context_moves.specs.Covering.{IsCallAt, OwnerCovers, Covering}
use Rattle.world_laws.specs.Served.{IsServed, IsTxn}
use Rattle.context_moves.proofs.At.{is_at}
use Rattle.context_moves.proofs.Ends.{it_ends}
use Rattle.context_moves.proofs.Facts.{Facts}
use Rattle.context_moves.proofs.Later.{SameClock, covers_later}
use Rattle.context_moves.proofs.Own.{own_later, changed, new_owner}
use Rattle.context_moves.proofs.Works.{deps_kept, not_own, no_deps_at_txn, cleared_at}

-- what is known of a call at rest that enters its service no more: its copy is at that service
abbrev pub Ready : State → ℕ → Type 0
Ready s o = (x : Op) → (owner_at s o).kind ≡ kind.Calling x → IsAt (owner_at s o).works.copy (service_of x)

calling_is : (k : OwnerKind) (x y : Op) → k ≡ kind.Calling x → k ≡ kind.Calling y → x ≡ y
calling_is k x y e f = cc

module _ (c : Config) (n : IsInOrder c) (at : Reading) (b : CallsBehind) (s : State) (h : Facts c n at s) (k : Covering c (view_of c s) b s) (o : ℕ) (r : is_running (owner_at s o).fate ≡ true) where
  abbrev v : View
  v = view_of c s

  abbrev copy : Seen
  copy = (owner_at s o).works.copy

  abbrev own_calls : ℕ → Bool
  own_calls = b.stage (owner_at s o).stage

  covered : Covers v own_calls copy
  covered = (k.owners o).copy (owner_at s o).stage (inl r) refl

  -- a call that is not to enter its service any more
  pub ready_at : (x : Op) → (owner_at s o).works.left ≡ [] → (owner_at s o).kind ≡ kind.Calling x → (owner_at s o).works.enter ≡ false → Ready s o
  ready_at x l e f y g = subst (λ (z : Op). IsAt copy (service_of z)) (calling_is (owner_at s o).kind x y e g) (is_at v own_calls (service_of x) (owner_at s o).works planned_own l f covered)
    where
      planned_own : ArePlanned (Some (service_of x)) (owner_at s o).works
      planned_own = subst (λ (i : OwnerKind). ArePlanned (called_service i) (owner_at s o).works) e ((h.planned o).works (ap (λ (i : OwnerKind). has_planned i (owner_at s o).started (session_at s o)) e))

  -- and one whose dependencies are stored
  pub cleared_ready : (t : State) (w : Owner) → owner_at t o ≡ w → w.works.copy ≡ deps_cleared copy → w.kind ≡ (owner_at s o).kind → is_fixing (session_at s o) ≡ true → (owner_at s o).works.left ≡ [] → Ready t o
  cleared_ready t w e f g fix l x y =
      let call = (k.owners o).fixing r fix l in
      let same = calling_is (owner_at s o).kind call.op x call.of_kind (sym g ∙ (ap (λ (z : Owner). z.kind) (sym e) ∙ y)) in
      subst (λ (z : Owner). IsAt z.works.copy (service_of x)) (sym e) (subst (λ (z : Seen). IsAt z (service_of x)) (sym f) (cleared_at copy (service_of x) (subst (λ (z : Op). IsAt copy (service_of z)) same call.at)))

  -- a call of no register service depends on nothing where it is at its service
  pub own_none : (x : Op) → IsTxn (service_of x) → IsAt copy (service_of x) → copy.deps ≡ []
  own_none x i a = no_deps_at_txn v own_calls copy i.number (subst (IsAt copy) i.is a) (deps_kept c n at b s h k o) covered

  reg_call : (x : Op) (dep : Dep) (deps : List Dep) → IsServed c x → copy.deps ≡ dep ∷ deps → IsAt copy (service_of x) → (m : ℕ) × (service_of x ≡ Reg m)
  reg_call (op.Read key) dep deps i d a = (i.number, i.is)
  reg_call (op.Write key value) dep deps i d a = (i.number, i.is)
  reg_call (op.Snap keys) dep deps i d a = absurd (cons_not_nil dep deps (sym d ∙ own_none (op.Snap keys) i a))
    where
      cons_not_nil : (d : Dep) (ds : List Dep) → d ∷ ds ≡ [] → ⊥
      cons_not_nil d ds e = cc
  reg_call (op.Txn reads guard writes) dep deps i d a = absurd (cons_not_nil dep deps (sym d ∙ own_none (op.Txn reads guard writes) i a))
    where
      cons_not_nil : (d : Dep) (ds : List Dep) → d ∷ ds ≡ [] → ⊥
      cons_not_nil d ds e = cc

  -- works that are done leave no service used last, but a call's own
  none_used : has_planned (owner_at s o).kind (owner_at s o).started (session_at s o) ≡ true → (owner_at s o).works.left ≡ [] → called_service (owner_at s o).kind ≡ None → copy.last.services ≡ []
  none_used f l e = no_services copy.last.services (λ id. not_true (has_service copy.last.services id) (λ g. by_way id (((h.planned o).works f).last id g)))
    where
      by_way : (id : ServiceId) → (called_service (owner_at s o).kind ≡ Some id) ⊎ (has_work (owner_at s o).works.left id ≡ true) → ⊥
      by_way id (inl g) = none_own id (sym e ∙ g)
      by_way id (inr g) = false≢true (ap (λ (xs : List (ServiceId × FenceWork)). has_work xs id) (sym l) ∙ g)

  module _ (t : State) (e : SameClock s t) (idle : session_at s o ≡ session.Idle) where
    later : (w : Owner) → t.owners ≡ set s.owners o w → Grows v (view_of c t)
    later w d = own_later c b s t o w e d r

    kept_copy : (w : Owner) → t.owners ≡ set s.owners o w → w.works.copy ≡ copy → (j : ℕ) → j - 1 ≡ (owner_at s o).stage - 1 → Covers (view_of c t) (b.stage j) w.works.copy
    kept_copy w d f j g = covers_later v (view_of c t) (b.stage j) (b.stage j) w.works.copy (later w d) (λ a i. i) (subst (Covers v (b.stage j)) (sym f) ((k.owners o).copy j (inl r) g))

    -- it sends its own first round
    launches : Quiet s t → (x : Op) (w : Owner) → t.owners ≡ set s.owners o w → w.stage ≡ (owner_at s o).stage → w.kind ≡ (owner_at s o).kind → w.works ≡ (owner_at s o).works → (owner_at s o).kind ≡ kind.Calling x → is_fixing w.session ≡ false → IsAt copy (service_of x) → copy.deps ≡ [] → Covering c (view_of c t) b t
    launches q x w d f g i y fix a z =
        changed c b s t o w e d r q f g
        (new_owner (view_of c t) b s.stages (owner_at s o) w f g r (kept_copy w d (ap (λ (m : Works). m.copy) i))
        (λ z' m l. record { at = subst (λ (m : Works). IsAt m.copy (service_of z')) (sym i) (subst (λ (m : Op). IsAt copy (service_of m)) (calling_is (owner_at s o).kind x z' y m) a); none = ap (λ (m : Works). m.copy.deps) i ∙ z })
        (λ m l. absurd (false≢true (sym fix ∙ m))) v (k.owners o)) k

    goes : Quiet s t → (w : Owner) → t.owners ≡ set s.owners o w → w.stage ≡ (owner_at s o).stage → w.kind ≡ (owner_at s o).kind → w.works.copy ≡ copy → w.dates.launched ≡ (owner_at s o).dates.launched → (is_fixing w.session ≡ true → w.works.left ≡ [] → IsCallAt w) → Covering c (view_of c t) b t
    goes q w d f g i y fix =
        changed c b s t o w e d r q f g
        (new_owner (view_of c t) b s.stages (owner_at s o) w f g r (kept_copy w d i) (λ z m l. absurd (not_own c n at b s h k o (ap is_own idle) (subst (λ (j : ℕ). 0 < j) y l))) fix v (k.owners o)) k

    cons_none : (x : ServiceId × FenceWork) (rest : List (ServiceId × FenceWork)) → (owner_at s o).works.left ≡ x ∷ rest → (owner_at s o).works.left ≡ [] → ⊥
    cons_none x rest f g = cons_not_nil x rest (sym f ∙ g)
      where
        cons_not_nil : (x : ServiceId × FenceWork) (rest : List (ServiceId × FenceWork)) → x ∷ rest ≡ [] → ⊥
        cons_not_nil x rest e = cc

    -- a fence statement ends
    fence_ends : (cursor : Cursor) → (owner_at s o).works.left ≡ [] → (owner_at s o).kind ≡ kind.Fencing → t ≡ ends_fence s o cursor (fenced_context (stage_at s (owner_at s o).stage).context copy) → t.owners ≡ set s.owners o (closed s o Ended) → Covering c (view_of c t) b t
    fence_ends cursor l f z d =
        subst (λ (u : State). Covering c (view_of c t) b u) (sym z)
        (it_ends c v b s o r (ap is_stub f) h.told.stages k (view_of c t) b s.history cursor _ (later (closed s o Ended) d) (λ j a g m. m) (λ j a m. m) (λ x a. refl) (λ j m. m) own)
      where
        come : (a : ℕ) → own_calls a ≡ true → v.come a ≡ true
        come = none_last v own_calls copy covered (none_used (ap (λ (i : OwnerKind). has_planned i (owner_at s o).started (session_at s o)) f) l (ap called_service f))

        come_at : (j : ℕ) → j - 1 ≡ (owner_at s o).stage - 1 → (a : ℕ) → b.stage j a ≡ true → v.come a ≡ true
        come_at j g = none_last v (b.stage j) copy ((k.owners o).copy j (inl r) g) (none_used (ap (λ (i : OwnerKind). has_planned i (owner_at s o).started (session_at s o)) f) l (ap called_service f))

        own : (j : ℕ) → j - 1 ≡ (owner_at s o).stage - 1 → Covers (view_of c t) (b.stage j) (fenced_context (stage_at s (owner_at s o).stage).context copy)
        own j g = covers_later v (view_of c t) (b.stage j) (b.stage j) _ (later (closed s o Ended) d) (λ a i. i) (by_last (length (stage_at s (owner_at s o).stage).context.last.services == 0) (stage_at s (owner_at s o).stage).context.last.outside)
          where
            outside : Covers v (b.stage j) (fenced_outside copy)
            outside = outside_fenced v (b.stage j) copy ((k.owners o).copy j (inl r) g) (come_at j g)

            before : Covers v (b.stage j) (stage_at s (owner_at s o).stage).context
            before = subst (λ (i : ℕ). Covers v (b.stage j) (get_or s.stages i no_stage).context) g (k.stages j).context

            by_last : (m l : Bool) → Covers v (b.stage j) (if m then (if l then fenced_outside copy else (stage_at s (owner_at s o).stage).context) else fenced_outside copy)
            by_last true true = outside
            by_last true false = before
            by_last false l = outside

    -- a stub is done
    stub_ends : Quiet s t → (w : Owner) → (u : Option (Attempt × List ℕ)) → has_planned (owner_at s o).kind (owner_at s o).started (session_at s o) ≡ true → (owner_at s o).works.left ≡ [] → (owner_at s o).kind ≡ kind.Stubbing u → t.owners ≡ set s.owners o w → w.stage ≡ (owner_at s o).stage → w.kind ≡ (owner_at s o).kind → is_running w.fate ≡ false → w.works.copy ≡ fenced_outside copy → Covering c (view_of c t) b t
    stub_ends q w u flag l f d g i over z = changed c b s t o w e d r q g i new k
      where
        come : (j : ℕ) → j - 1 ≡ (owner_at s o).stage - 1 → (a : ℕ) → b.stage j a ≡ true → v.come a ≡ true
        come j m = none_last v (b.stage j) copy ((k.owners o).copy j (inl r) m) (none_used flag l (ap called_service f))

        new : OwnerCovers (view_of c t) b s.stages w
        new = record {
          copy = λ j x m. covers_later v (view_of c t) (b.stage j) (b.stage j) w.works.copy (later w d) (λ a y. y) (subst (Covers v (b.stage j)) (sym z) (outside_fenced v (b.stage j) copy ((k.owners o).copy j (inl r) (m ∙ ap (λ (y : ℕ). y - 1) g)) (come j (m ∙ ap (λ (y : ℕ). y - 1) g))));
          dead = λ m. ap (λ (y : ℕ). is_over (get_or s.stages (y - 1) no_stage).life) g ∙ (k.owners o).dead (ap is_stub f);
          own = λ x y m. absurd (true≢false (sym m ∙ over));
          fixing = λ m. absurd (true≢false (sym m ∙ over));
        }

    -- by the reasons of the rows
    pub leaves_cover : (w : Owner) (outs : List Out) (y : Leaving c at s o w outs) → LeavingNotes c at s o w outs y t → LaunchNotes Ready c at s o w outs y → has_planned (owner_at s o).kind (owner_at s o).started (session_at s o) ≡ true → t.owners ≡ set s.owners o w → Covering c (view_of c t) b t
    leaves_cover _ _ (waits id time rest l) q z flag d = goes q _ d refl refl refl refl (λ f m. absurd (true≢false (sym f ∙ ap is_fixing idle)))
    leaves_cover _ _ (fixes_work id rest l) q z flag d = goes q _ d refl refl refl refl (λ f m. absurd (cons_none _ rest l m))
    leaves_cover _ _ (fixes_own x dep deps l f y) q z flag d =
        let a = z x f in
        let m = reg_call x dep deps (h.served.each o x f) y a in
        goes q _ d refl refl refl refl (λ i j. record { op = x; number = m.0; of_kind = f; is = m.1; at = a })
    leaves_cover _ _ (asks_register key l f y) q z flag d = launches q (op.Read key) _ d refl refl refl f refl (z (op.Read key) f) y
    leaves_cover _ _ (stamps_register key value l f y) q z flag d = launches q (op.Write key value) _ d refl refl refl f refl (z (op.Write key value) f) y
    leaves_cover _ _ (begins_snapshot keys x l f y) q z flag d = let a = z (op.Snap keys) f in launches q (op.Snap keys) _ d refl refl refl f refl a (own_none (op.Snap keys) (h.served.each o (op.Snap keys) f) a)
    leaves_cover _ _ (begins_txn reads guard writes x l f y) q z flag d = let a = z (op.Txn reads guard writes) f in launches q (op.Txn reads guard writes) _ d refl refl refl f refl a (own_none (op.Txn reads guard writes) (h.served.each o (op.Txn reads guard writes) f) a)
    leaves_cover _ _ (fence_done l f) q z flag d = fence_ends _ l f q d
    leaves_cover _ _ (stub_done u l f) q z flag d = stub_ends q _ u flag l f d refl refl refl refl
