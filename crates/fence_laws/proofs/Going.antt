-- An owner within a step: its works are not planned yet, or so many of the works with which it went into the step are
-- done, and the times of those that waited for times have come. By the reasons of the rows.
use Rattle.std.proofs.Common.{◌≡◌, ℕ, zero, suc, ◌<◌, ◌≤◌, ◌⊎◌, inl, inr, Bool, true, false, List, [], ◌∷◌, drop, length, get_or, refl, ap, sym, ◌∙◌, subst, arith}
use Rattle.std.specs.Prelude.{◌&&◌, not}
use Rattle.std.proofs.lemmas.Bool.{true≢false, ltb-true, cases_lt}
use Rattle.truetime.specs.Reading.{Reading}
use Rattle.rss_names.specs.declared.service.ServiceId.{ServiceId}
use Rattle.rss_names.specs.declared.service.Target.TheVariants.{Replica}
use Rattle.causal_context.specs.declared.dep.Dep.{Dep}
use Rattle.causal_context.specs.Seen.{Seen}
use Rattle.pipeline_lang.specs.declared.config.Config.{Config}
use Rattle.rss_tables.specs.Outs.{Out}
use Rattle.rss_tables.specs.Works.{Works, planned, plan_for, plan_all}
use Rattle.rss_tables.specs.declared.fences.FenceWork.{FenceWork}
use Rattle.rss_tables.specs.declared.fences.FenceWork.TheVariants.{Nothing, Past, Fix}
use Rattle.rss_machine.specs.Moves.{session_without}
use Rattle.rss_machine.specs.Session.{Session, service_of}
use Rattle.rss_machine.specs.State.{State, Owner, owner_at, stage_at}
use Rattle.rss_machine.specs.declared.session.OwnerKind.{OwnerKind}
use Rattle.rss_machine.specs.declared.session.OwnerKind.TheVariants as kind
use Rattle.rss_machine.specs.declared.session.Session.TheVariants as session
use Rattle.world_laws.specs.Calls.{is_stub}
use Rattle.world_laws.specs.Planned.{is_settling, has_planned}
use Rattle.world_laws.proofs.Doings.{Beginning, calls, fences, Resting, plans, past, fixed, cleared, Working, owes_nothing, is_past, enters_own, Leaving, waits, fixes_work, fixes_own, asks_register, stamps_register, begins_snapshot, begins_txn, fence_done, stub_done, Doing, listens_one, fix_hears, fix_reached, register_hears, register_stores, register_reached, read_ends, write_ends, txn_ends, snap_ends, counts_one, cuts_one, is_closed, forgets_all, turns, stub_asks, fence_ended, ShardTurning, txn_heard, txn_woken, txn_passed, snap_heard, snap_woken}
use Rattle.world_laws.proofs.PlannedOwners.{is_fixing}
use Rattle.world_laws.proofs.SessionMoves.{session_at}
use Rattle.world_laws.proofs.TurnMoves.{RestingNotes}
use Rattle.fence_laws.specs.Fences.{is_planned, no_work, Before, had, call_begins, fence_begins, stub_plans, stub_begins, plans_none}
use Rattle.world_laws.proofs.Waits.{OwnWaits, past_work, fixed_work}

-- an owner whose works are not planned yet
pub record Unplanned (u : State) (o : ℕ) (w : Owner) : Type 0 where
  pub flag : is_planned w ≡ false
  pub left : w.works.left ≡ []
  pub calm : is_fixing w.session ≡ false
  pub old : o < length u.owners → (w.works.copy ≡ (owner_at u o).works.copy) × (is_planned (owner_at u o) ≡ false)

-- an owner that goes through its works
pub record Going (u : State) (at : Reading) (o : ℕ) (w : Owner) : Type 0 where
  pub flag : is_planned w ≡ true
  pub calm : is_settling w.session ≡ false
  pub seen : Seen
  pub works : List (ServiceId × FenceWork)
  pub before : Before u o w seen works
  pub gone : ℕ
  pub left : w.works.left ≡ drop gone works
  pub come : (k time : ℕ) (id : ServiceId) → k < gone → get_or works k no_work ≡ (id, Past time) → time < at.earliest

abbrev pub Owned : State → Reading → ℕ → Owner → Type 0
Owned u at o w = Unplanned u o w ⊎ Going u at o w

-- whether works are planned, by the session
same_planned : (k : OwnerKind) (a : Bool) (x y : Session) → is_settling x ≡ is_settling y → has_planned k a x ≡ has_planned k a y
same_planned (kind.Calling x) a y z e = refl
same_planned kind.Fencing a y z e = refl
same_planned (kind.Stubbing u) a y z e = ap (λ (b : Bool). a && not b) e

still_planned : (k : OwnerKind) (a : Bool) (x y : Session) → is_settling y ≡ false → has_planned k a x ≡ true → has_planned k a y ≡ true
still_planned (kind.Calling x) a y z e f = refl
still_planned kind.Fencing a y z e f = refl
still_planned (kind.Stubbing u) a y z e f = ap (λ (b : Bool). b && not (is_settling z)) (both_true a (not (is_settling y)) f) ∙ ap (λ (b : Bool). not b) e
  where
    both_true : (a b : Bool) → (a && b) ≡ true → a ≡ true
    both_true true b e = refl
    both_true false b e = absurd (true≢false (sym e))

unplanned_stub : (k : OwnerKind) (a : Bool) (x : Session) → has_planned k a x ≡ false → is_stub k ≡ true
unplanned_stub (kind.Calling y) a x e = absurd (true≢false e)
unplanned_stub kind.Fencing a x e = absurd (true≢false e)
unplanned_stub (kind.Stubbing u) a x e = refl

-- an owner with the same works
pub record Alike (v w : Owner) : Type 0 where
  pub of_kind : w.kind ≡ v.kind
  pub of_stage : w.stage ≡ v.stage
  pub flag : is_planned w ≡ is_planned v
  pub copy : w.works.copy ≡ v.works.copy
  pub left : w.works.left ≡ v.works.left
  pub fixes : is_fixing v.session ≡ false → is_fixing w.session ≡ false
  pub settles : is_planned v ≡ true → is_settling v.session ≡ false → is_settling w.session ≡ false

-- where the session is the same, or one of the same sort
pub alike_same : (v w : Owner) → w.kind ≡ v.kind → w.stage ≡ v.stage → w.started ≡ v.started → w.works ≡ v.works → is_settling w.session ≡ is_settling v.session → is_fixing w.session ≡ is_fixing v.session → Alike v w
alike_same v w a b d e f g = record {
  of_kind = a;
  of_stage = b;
  flag = ap (λ (k : OwnerKind). has_planned k w.started w.session) a ∙ (ap (λ (k : Bool). has_planned v.kind k w.session) d ∙ same_planned v.kind v.started w.session v.session f);
  copy = ap (λ (x : Works). x.copy) e;
  left = ap (λ (x : Works). x.left) e;
  fixes = λ h. g ∙ h;
  settles = λ h i. f ∙ i;
}

-- the works with which an owner went into the step stay so
before_kept : (u : State) (o : ℕ) (v w : Owner) (seen : Seen) (works : List (ServiceId × FenceWork)) → w.kind ≡ v.kind → w.stage ≡ v.stage → (is_stub v.kind ≡ true → w.works.copy.least ≡ v.works.copy.least) → is_planned v ≡ true → Before u o v seen works → Before u o w seen works
before_kept u o v w _ _ k a q f (had i e) = had i e
before_kept u o v w _ _ k a q f (call_begins x l e) = subst (λ (n : ℕ). Before u o w (stage_at u n).context (plan_for (stage_at u n).context (service_of x)).fences) a (call_begins x l (k ∙ e))
before_kept u o v w _ _ k a q f (fence_begins l e) = subst (λ (n : ℕ). Before u o w (stage_at u n).context (plan_all (stage_at u n).context).fences) a (fence_begins l (k ∙ e))
before_kept u o v w _ _ k a q f (stub_plans i g e) = stub_plans i g (ap is_stub k ∙ e)
before_kept u o v w _ _ k a q f (stub_begins seen l e r) = stub_begins seen l (ap is_stub k ∙ e) (q e ∙ r)
before_kept u o v w _ _ k a q f (plans_none e) = absurd (true≢false (sym f ∙ e))

-- an owner with the same works left
going_kept : (u : State) (at : Reading) (o : ℕ) (v w : Owner) → w.kind ≡ v.kind → w.stage ≡ v.stage → (is_stub v.kind ≡ true → w.works.copy.least ≡ v.works.copy.least) → w.works.left ≡ v.works.left → is_planned w ≡ true → is_settling w.session ≡ false → Going u at o v → Going u at o w
going_kept u at o v w k a q l f z g = record {
  flag = f;
  calm = z;
  seen = g.seen;
  works = g.works;
  before = before_kept u o v w g.seen g.works k a q g.flag g.before;
  gone = g.gone;
  left = l ∙ g.left;
  come = g.come;
}

pub owned_alike : (u : State) (at : Reading) (o : ℕ) (v w : Owner) → Alike v w → Owned u at o v → Owned u at o w
owned_alike u at o v w h (inl p) = inl (record { flag = h.flag ∙ p.flag; left = h.left ∙ p.left; calm = h.fixes p.calm; old = λ i. let q = p.old i in (h.copy ∙ q.0, q.1) })
owned_alike u at o v w h (inr g) = inr (going_kept u at o v w h.of_kind h.of_stage (λ e. ap (λ (x : Seen). x.least) h.copy) h.left (h.flag ∙ g.flag) (h.settles g.flag g.calm) g)

-- lists of works: behind some, and the one that stands there
drop_more : (n : ℕ) (xs : List (ServiceId × FenceWork)) → drop 1 (drop n xs) ≡ drop (suc n) xs
drop_more zero xs = refl
drop_more (suc n) [] = refl
drop_more (suc n) (x ∷ xs) = drop_more n xs

stands_there : (n : ℕ) (xs : List (ServiceId × FenceWork)) (x : ServiceId × FenceWork) (rest : List (ServiceId × FenceWork)) → x ∷ rest ≡ drop n xs → get_or xs n no_work ≡ x
stands_there zero [] x rest e = cc
stands_there zero (y ∷ xs) x rest e = cc
stands_there (suc n) [] x rest e = absurd (nothing_there n e)
  where
    nothing_there : (n : ℕ) → x ∷ rest ≡ drop (suc n) [] → ⊥
    nothing_there n e = cc
stands_there (suc n) (y ∷ xs) x rest e = stands_there n xs x rest e

cons_not_nil : (x : ServiceId × FenceWork) (rest : List (ServiceId × FenceWork)) → x ∷ rest ≡ [] → ⊥
cons_not_nil x rest e = cc

-- the first work left of an owner has ended; its time has come, if it waited for one
fence_going : (u : State) (at : Reading) (s : State) (o : ℕ) (id : ServiceId) (x : FenceWork) (rest : List (ServiceId × FenceWork)) → (owner_at s o).works.left ≡ (id, x) ∷ rest → ((time : ℕ) → x ≡ Past time → time < at.earliest) → Going u at o (owner_at s o) → Going u at o (fence_ended s o id)
fence_going u at s o id x rest l t g = record {
  flag = still_planned (owner_at s o).kind (owner_at s o).started (session_at s o) session.Idle refl g.flag;
  calm = refl;
  seen = g.seen;
  works = g.works;
  before = before_kept u o (owner_at s o) (fence_ended s o id) g.seen g.works refl refl (λ e. refl) g.flag g.before;
  gone = suc g.gone;
  left = ap (λ (y : List (ServiceId × FenceWork)). drop 1 y) g.left ∙ drop_more g.gone g.works;
  come = λ k time other i e. by_last k time other i e (cases_lt k g.gone);
}
  where
    there : get_or g.works g.gone no_work ≡ (id, x)
    there = stands_there g.gone g.works (id, x) rest (sym l ∙ g.left)

    by_last : (k time : ℕ) (other : ServiceId) → k < suc g.gone → get_or g.works k no_work ≡ (other, Past time) → (k < g.gone) ⊎ (g.gone ≤ k) → time < at.earliest
    by_last k time other i e (inl a) = g.come k time other a e
    by_last k time other i e (inr a) =
        let q : k ≡ g.gone = omega (arith, i, a) in
        t time (ap (λ (y : ServiceId × FenceWork). y.1) (sym there ∙ (ap (λ (n : ℕ). get_or g.works n no_work) (sym q) ∙ e)))

fence_owned : (u : State) (at : Reading) (s : State) (o : ℕ) (id : ServiceId) (x : FenceWork) (rest : List (ServiceId × FenceWork)) → (owner_at s o).works.left ≡ (id, x) ∷ rest → ((time : ℕ) → x ≡ Past time → time < at.earliest) → Owned u at o (owner_at s o) → Going u at o (fence_ended s o id)
fence_owned u at s o id x rest l t (inl p) = absurd (cons_not_nil (id, x) rest (sym l ∙ p.left))
fence_owned u at s o id x rest l t (inr g) = fence_going u at s o id x rest l t g

-- a stub plans the fences of its copy
abbrev pub planned_all : Owner → Owner
planned_all v = record v { started = true; session = session.Idle; works = planned v.works.copy (plan_all v.works.copy) }

pub plans_going : (u : State) (at : Reading) (o : ℕ) (v : Owner) → Unplanned u o v → Going u at o (planned_all v)
plans_going u at o v p = by_place (cases_lt o (length u.owners))
  where
    stub : is_stub v.kind ≡ true
    stub = unplanned_stub v.kind v.started v.session p.flag

    flag : is_planned (planned_all v) ≡ true
    flag = by_kind v.kind stub
      where
        by_kind : (k : OwnerKind) → is_stub k ≡ true → has_planned k true session.Idle ≡ true
        by_kind (kind.Calling x) e = refl
        by_kind kind.Fencing e = refl
        by_kind (kind.Stubbing a) e = refl

    by_place : (o < length u.owners) ⊎ (length u.owners ≤ o) → Going u at o (planned_all v)
    by_place (inl i) =
        let q = p.old i in
        record {
          flag = flag;
          calm = refl;
          seen = (owner_at u o).works.copy;
          works = (plan_all (owner_at u o).works.copy).fences;
          before = stub_plans i q.1 stub;
          gone = 0;
          left = ap (λ (x : Seen). (plan_all x).fences) q.0;
          come = λ k time id l e. absurd (omega (arith, l));
        }
    by_place (inr l) = record {
      flag = flag;
      calm = refl;
      seen = v.works.copy;
      works = (plan_all v.works.copy).fences;
      before = stub_begins v.works.copy l stub refl;
      gone = 0;
      left = refl;
      come = λ k time id l e. absurd (omega (arith, l));
    }

-- how an owner comes to rest
same_time : (a b : ℕ) → Past a ≡ Past b → a ≡ b
same_time a b e = cc

fix_is_not : (time : ℕ) → Fix ≡ Past time → ⊥
fix_is_not time e = cc

pub resting_going : (u : State) (at : Reading) (s : State) (o : ℕ) (w : Owner) (b : Resting s o w) → RestingNotes at s o w b → OwnWaits (owner_at s o) → Owned u at o (owner_at s o) → Going u at o w
resting_going u at s o _ (plans e b) n h (inl p) = plans_going u at o (owner_at s o) p
resting_going u at s o _ (plans e b) n h (inr g) = absurd (true≢false (sym g.flag ∙ (ap (λ (k : OwnerKind). has_planned k (owner_at s o).started (session_at s o)) e ∙ ap (λ (a : Bool). a && not (is_settling (session_at s o))) b)))
resting_going u at s o _ (past id x rest time l e) n h q =
    fence_owned u at s o id x rest l (λ t f. let d : t ≡ time = same_time t time (sym f ∙ past_work (owner_at s o) id x rest time h l e) in let m = ltb-true time at.earliest n in omega (arith, d, m)) q
resting_going u at s o _ (fixed id x rest r e l a b d) n h q = fence_owned u at s o id x rest l (λ t f. absurd (fix_is_not t (sym (fixed_work (owner_at s o) id x rest h l (ap is_fixing a)) ∙ f))) q
resting_going u at s o w (cleared r e l a b d) n h (inl p) = absurd (true≢false (ap is_fixing (sym a) ∙ p.calm))
resting_going u at s o w (cleared r e l a b d) n h (inr g) = going_kept u at o (owner_at s o) w refl refl (λ f. refl) refl (still_planned (owner_at s o).kind (owner_at s o).started (session_at s o) session.Idle refl g.flag) refl g

-- and goes from work to work
pub working_going : (u : State) (at : Reading) (s : State) (o : ℕ) (w : Owner) → Working at s o w → Going u at o (owner_at s o) → Going u at o w
working_going u at s o _ (owes_nothing id rest l) g = fence_going u at s o id Nothing rest l (λ t f. absurd (nothing_past t f)) g
  where
    nothing_past : (t : ℕ) → Nothing ≡ Past t → ⊥
    nothing_past t f = cc
working_going u at s o _ (is_past id time rest l e) g = fence_going u at s o id (Past time) rest l (λ t f. let d : time ≡ t = same_time time t f in let m = ltb-true time at.earliest e in omega (arith, d, m)) g
working_going u at s o w (enters_own x l e f) g = going_kept u at o (owner_at s o) w refl refl (λ i. absurd (true≢false (sym i ∙ ap is_stub e))) refl g.flag g.calm g

-- and leaves them
pub leaving_going : (c : Config) (u : State) (at : Reading) (s : State) (o : ℕ) (w : Owner) (outs : List Out) → Leaving c at s o w outs → Going u at o (owner_at s o) → Going u at o w
leaving_going c u at s o w _ (waits id time rest l) g = going_kept u at o (owner_at s o) w refl refl (λ i. refl) refl g.flag g.calm g
leaving_going c u at s o w _ (fixes_work id rest l) g = going_kept u at o (owner_at s o) w refl refl (λ i. refl) refl (still_planned (owner_at s o).kind (owner_at s o).started (session_at s o) w.session refl g.flag) refl g
leaving_going c u at s o w _ (fixes_own x dep deps l e d) g = going_kept u at o (owner_at s o) w refl refl (λ i. refl) refl (still_planned (owner_at s o).kind (owner_at s o).started (session_at s o) w.session refl g.flag) refl g
leaving_going c u at s o w _ (asks_register key l e d) g = going_kept u at o (owner_at s o) w refl refl (λ i. refl) refl (still_planned (owner_at s o).kind (owner_at s o).started (session_at s o) w.session refl g.flag) refl g
leaving_going c u at s o w _ (stamps_register key value l e d) g = going_kept u at o (owner_at s o) w refl refl (λ i. refl) refl (still_planned (owner_at s o).kind (owner_at s o).started (session_at s o) w.session refl g.flag) refl g
leaving_going c u at s o w _ (begins_snapshot keys t l e d) g = going_kept u at o (owner_at s o) w refl refl (λ i. refl) refl (still_planned (owner_at s o).kind (owner_at s o).started (session_at s o) w.session refl g.flag) refl g
leaving_going c u at s o w _ (begins_txn reads guard writes t l e d) g = going_kept u at o (owner_at s o) w refl refl (λ i. refl) refl (still_planned (owner_at s o).kind (owner_at s o).started (session_at s o) w.session refl g.flag) refl g
leaving_going c u at s o w _ (fence_done l e) g = going_kept u at o (owner_at s o) w refl refl (λ i. refl) refl g.flag g.calm g
leaving_going c u at s o w _ (stub_done a l e) g = going_kept u at o (owner_at s o) w refl refl (λ i. refl) refl g.flag g.calm g

-- a call or a fence statement begins, where nothing has happened in the step yet
pub record Untouched (u s : State) : Type 0 where
  pub owners : s.owners ≡ u.owners
  pub contexts : (n : ℕ) → (stage_at s n).context ≡ (stage_at u n).context

pub begins_going : (c : Config) (u : State) (at : Reading) (s : State) (o : ℕ) (w : Owner) → length u.owners ≤ o → Beginning c s w → Untouched u s → Going u at o w
begins_going c u at s o w l (calls n x e) f = record {
  flag = refl;
  calm = refl;
  seen = (stage_at u n).context;
  works = (plan_for (stage_at u n).context (service_of x)).fences;
  before = call_begins x l refl;
  gone = 0;
  left = ap (λ (y : Seen). (plan_for y (service_of x)).fences) (f.contexts n);
  come = λ k time id i q. absurd (omega (arith, i));
}
begins_going c u at s o w l (fences n) f = record {
  flag = refl;
  calm = refl;
  seen = (stage_at u n).context;
  works = (plan_all (stage_at u n).context).fences;
  before = fence_begins l refl;
  gone = 0;
  left = ap (λ (y : Seen). (plan_all y).fences) (f.contexts n);
  come = λ k time id i q. absurd (omega (arith, i));
}

-- what else an owner does leaves its works as they are
without_sort : (x : Session) (id : ServiceId) (replica : ℕ) → (is_settling (session_without x (Replica id replica)) ≡ is_settling x) × (is_fixing (session_without x (Replica id replica)) ≡ is_fixing x)
without_sort (session.Register r) id replica = (refl, refl)
without_sort (session.Fixing r) id replica = (refl, refl)
without_sort session.Idle id replica = (refl, refl)
without_sort (session.Transaction t) id replica = (refl, refl)
without_sort (session.Snapshot t) id replica = (refl, refl)
without_sort (session.Settling attempt shards) id replica = (refl, refl)

turning_sort : (s : State) (o : ℕ) (x : Session) (outs : List Out) → ShardTurning s o x outs → (is_settling x ≡ is_settling (session_at s o)) × (is_fixing x ≡ is_fixing (session_at s o))
turning_sort s o _ _ (txn_heard t l at r e) = (ap is_settling (sym e), ap is_fixing (sym e))
turning_sort s o _ _ (txn_woken t l e) = (ap is_settling (sym e), ap is_fixing (sym e))
turning_sort s o _ _ (txn_passed t e) = (ap is_settling (sym e), ap is_fixing (sym e))
turning_sort s o _ _ (snap_heard t l r e) = (ap is_settling (sym e), ap is_fixing (sym e))
turning_sort s o _ _ (snap_woken t l e) = (ap is_settling (sym e), ap is_fixing (sym e))

pub doing_alike : (s : State) (o : ℕ) (w : Owner) (outs : List Out) (new : List Dep) → Doing s o w outs new → Alike (owner_at s o) w
doing_alike s o w _ _ (listens_one slot r d) = alike_same (owner_at s o) w refl refl refl refl refl refl
doing_alike s o w _ _ (fix_hears f slot r x d e) = alike_same (owner_at s o) w refl refl refl refl (ap is_settling (sym x)) (ap is_fixing (sym x))
doing_alike s o w _ _ (fix_reached f slot r y x d e) = alike_same (owner_at s o) w refl refl refl refl (ap is_settling (sym x)) (ap is_fixing (sym x))
doing_alike s o w _ _ (register_hears f slot r x d a e) = alike_same (owner_at s o) w refl refl refl refl (ap is_settling (sym x)) (ap is_fixing (sym x))
doing_alike s o w _ _ (register_stores f slot r x d a e) = alike_same (owner_at s o) w refl refl refl refl (ap is_settling (sym x)) (ap is_fixing (sym x))
doing_alike s o w _ _ (register_reached f slot r y x d e) = alike_same (owner_at s o) w refl refl refl refl (ap is_settling (sym x)) (ap is_fixing (sym x))
doing_alike s o w _ _ (read_ends f key cell dep x a b) = alike_same (owner_at s o) w refl refl refl refl refl refl
doing_alike s o w _ _ (write_ends f key value e x a b) = alike_same (owner_at s o) w refl refl refl refl refl refl
doing_alike s o w _ _ (txn_ends y t time a b d) = alike_same (owner_at s o) w refl refl refl refl refl refl
doing_alike s o w _ _ (snap_ends y t time a b d) = alike_same (owner_at s o) w refl refl refl refl refl refl
doing_alike s o w _ _ (counts_one target) = alike_same (owner_at s o) w refl refl refl refl refl refl
doing_alike s o w _ _ (cuts_one id replica) = let k = without_sort (session_at s o) id replica in alike_same (owner_at s o) w refl refl refl refl k.0 k.1
doing_alike s o w _ _ (is_closed f) = alike_same (owner_at s o) w refl refl refl refl refl refl
doing_alike s o w _ _ forgets_all = alike_same (owner_at s o) w refl refl refl refl refl refl
doing_alike s o w _ _ (turns x outs y) = let k = turning_sort s o x outs y in alike_same (owner_at s o) w refl refl refl refl k.0 k.1
doing_alike s o w _ _ (stub_asks attempt shards e b) = record {
  of_kind = refl;
  of_stage = refl;
  flag = ap (λ (k : OwnerKind). has_planned k true w.session) e ∙ sym unplanned;
  copy = refl;
  left = refl;
  fixes = λ f. refl;
  settles = λ f g. absurd (true≢false (sym f ∙ unplanned));
}
  where
    unplanned : is_planned (owner_at s o) ≡ false
    unplanned = ap (λ (k : OwnerKind). has_planned k (owner_at s o).started (session_at s o)) e ∙ ap (λ (a : Bool). a && not (is_settling (session_at s o))) b
