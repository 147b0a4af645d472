-- How an owner goes through its works.
use Rattle.std.proofs.Common.{◌≡◌, ℕ, ◌+◌, ◌<◌, ◌≤◌, ◌==◌, Bool, true, false, List, [], ◌∷◌, ◌++◌, length, drop, nat_lt, ◌⊎◌, inl, inr, Option, Some, None, refl, sym, ap, subst, ◌∙◌, arith}
use Rattle.std.specs.Prelude.{if◌then◌else◌, not, max}
use Rattle.std.specs.List.{filter}
use Rattle.truetime.specs.Reading.{Reading}
use Rattle.causal_context.specs.Deps.{deps_fenced, deps_elsewhere}
use Rattle.causal_context.specs.LeastTimes.{least_of, least_raised, put_least}
use Rattle.causal_context.specs.Seen.{Seen, after_fence, entered}
use Rattle.causal_context.specs.Services.{IsService}
use Rattle.causal_context.specs.declared.dep.Dep.{Dep}
use Rattle.causal_context.proofs.Looked.{least_of_put}
use Rattle.pipeline_lang.specs.Config.{home_of}
use Rattle.pipeline_lang.specs.declared.config.Config.{Config}
use Rattle.rss_tables.specs.Lines.{lines_of}
use Rattle.rss_names.specs.declared.service.Key.{Key}
use Rattle.rss_names.specs.declared.service.ServiceId.{ServiceId}
use Rattle.rss_names.specs.declared.service.ServiceId.TheVariants.{Txn, Reg}
use Rattle.rss_names.specs.Services.{same_service}
use Rattle.rss_model.specs.declared.op.Op.{Op}
use Rattle.rss_model.specs.declared.op.Op.TheVariants as op
use Rattle.rss_tables.specs.Outs.{Out}
use Rattle.rss_tables.specs.Works.{Works}
use Rattle.rss_tables.specs.declared.fences.FenceWork.{FenceWork}
use Rattle.rss_tables.specs.declared.fences.FenceWork.TheVariants.{Nothing, Past, Fix}
use Rattle.rss_tables.specs.declared.register_session.RegWork.{RegWork}
use Rattle.rss_tables.specs.declared.register_session.RegWork.TheVariants as work
use Rattle.rss_machine.specs.Session.{Session, service_of}
use Rattle.rss_machine.specs.State.{Owner}
use Rattle.rss_machine.specs.declared.session.OwnerKind.{OwnerKind}
use Rattle.rss_machine.specs.declared.session.OwnerKind.TheVariants as kind
use Rattle.rss_machine.specs.declared.session.Session.TheVariants as session
use Rattle.turn_laws.specs.Turns as turn
use Rattle.turn_laws.specs.Turns.{OwnerTurn, Through, through, through_turn, begin_turn, work_turn, works_over_turn, start_turn, register_start, launch_turn, fenced, waiting, goes_with, ends_with, entered_before}
use Rattle.session_stub.specs.Passing.{passed, first_ended, through_works, next_work}
use Rattle.session_stub.specs.declared.works.Next.{Next}
use Rattle.session_stub.specs.declared.works.Next.TheVariants as next
use Rattle.owner_sessions.specs.Boxed.{HasBoxRoom}
use Rattle.owner_sessions.specs.declared.doing.Doing.{Doing}
use Rattle.owner_sessions.specs.declared.outbox.Outbox.{Outbox}
use Rattle.owner_turns.specs.Whole.{OwnerFits, KindFits}
use Rattle.owner_turns.specs.declared.aim.Aim.{Aim}
use Rattle.owner_turns.specs.declared.aim.Aim.TheVariants as aim
use Rattle.owner_turns.proofs.Places.{filled}
use Rattle.owner_turns.specs.Going.{SpareView, OpensKind, OpensOp, OpensTxn, OpensSnap, HasStart, AimServed, aim_of, through_of, launches, starts_register, enters_first, works_ended}

-- NO FENCES

register_plans : (c : Config) (o step : ℕ) (at : Reading) (x : Op) (deps : List Dep) (w : Owner) → (launch_turn c o step at x w).fences ≡ [] → (register_start c o step at x deps w).fences ≡ []
register_plans c o step at x [] w e = e
register_plans c o step at x (dep ∷ deps) w e = refl

start_plans : (c : Config) (o step : ℕ) (at : Reading) (x : Op) (w : Owner) → (start_turn c o step at x w).fences ≡ []
start_plans c o step at (op.Read key) w = register_plans c o step at (op.Read key) w.works.copy.deps w refl
start_plans c o step at (op.Write key value) w = register_plans c o step at (op.Write key value) w.works.copy.deps w refl
start_plans c o step at (op.Snap keys) w = refl
start_plans c o step at (op.Txn reads guard writes) w = refl

over_plans : (c : Config) (o step : ℕ) (at : Reading) (w : Owner) (k : OwnerKind) → (works_over_turn c o step at w k).fences ≡ []
over_plans c o step at w (kind.Calling x) = start_plans c o step at x (entered_before step at x w)
over_plans c o step at w kind.Fencing = refl
over_plans c o step at w (kind.Stubbing unsettled) = refl

pub through_plans : (c : Config) (o step : ℕ) (at : Reading) (t : Through) → (through_turn c o step at t).fences ≡ []
through_plans c o step at (turn.over w) = over_plans c o step at w w.kind
through_plans c o step at (turn.waits w) = refl
through_plans c o step at (turn.stores w id) = refl

-- going through works plans no fence
pub begin_plans : (c : Config) (o step : ℕ) (at : Reading) (w : Owner) → (begin_turn c o step at w).fences ≡ []
begin_plans c o step at w = through_plans c o step at (through at w w.works.left)

pub from_empty : (now before outs : List Out) → before ≡ [] → now ≡ before ++ outs → now ≡ outs
from_empty now before outs e h = h ∙ ap (λ (l : List Out). l ++ outs) e

pub ruleset begins = (begin_plans, from_empty)

-- WHAT COMES NEXT

abbrev idle : Owner → Owner
idle w = record w { session = session.Idle }

through_idle : (at : Reading) (w : Owner) (works : List (ServiceId × FenceWork)) → through at (idle w) works ≡ through_of (next_work at works) (record w { works = through_works at w.works works; session = session.Idle })
through_idle at w [] = refl
through_idle at w ((id, Nothing) ∷ works) = through_idle at (record w { works = passed w.works id }) works
through_idle at w ((id, Past time) ∷ works) = by (nat_lt time at.earliest) (through_idle at (record w { works = passed w.works id }) works)
  where
    by : (b : Bool) → through at (idle (record w { works = passed w.works id })) works ≡ through_of (next_work at works) (record w { works = through_works at (passed w.works id) works; session = session.Idle })
        → (if b then through at (fenced (idle w) id) works else turn.waits (waiting (idle w) time)) ≡ through_of (if b then next_work at works else next.Waits time) (record w { works = if b then through_works at (passed w.works id) works else record w.works { wait = Some time }; session = session.Idle })
    by true h = h
    by false h = refl
through_idle at w ((id, Fix) ∷ works) = refl

is_idle : (w : Owner) → w.session ≡ session.Idle → w ≡ idle w
is_idle w e = ap (λ (x : Session). record w { session = x }) e

pub begins_so : (c : Config) (o step : ℕ) (at : Reading) (w : Owner) → w.session ≡ session.Idle → begin_turn c o step at w ≡ through_turn c o step at (through_of (next_work at w.works.left) (record w { works = through_works at w.works w.works.left }))
begins_so c o step at w e =
    ap (λ (x : Owner). through_turn c o step at (through at x w.works.left)) (is_idle w e)
    ∙ ap (through_turn c o step at) (through_idle at w w.works.left)
    ∙ ap (λ (x : Session). through_turn c o step at (through_of (next_work at w.works.left) (record w { works = through_works at w.works w.works.left; session = x }))) (sym e)

-- THE COPY OF THE CONTEXT

fewer_kept : (p : Dep → Bool) (deps : List Dep) → length (filter p deps) ≤ length deps
fewer_kept p [] = omega arith
fewer_kept p (dep ∷ deps) = by (p dep) (fewer_kept p deps)
  where
    by : (b : Bool) → length (filter p deps) ≤ length deps → length (if b then dep ∷ filter p deps else filter p deps) ≤ length (dep ∷ deps)
    by true h = omega (arith, h)
    by false h = omega (arith, h)

fewer_fenced : (id : ServiceId) (deps : List Dep) → length (deps_fenced id deps) ≤ length deps
fewer_fenced (Txn n) deps = omega arith
fewer_fenced (Reg n) deps = fewer_kept (λ (dep : Dep). not (same_service (Reg n) dep.key.service)) deps

fewer_passed : (at : Reading) (w : Works) (works : List (ServiceId × FenceWork)) → length (through_works at w works).copy.deps ≤ length w.copy.deps
fewer_passed at w [] = omega arith
fewer_passed at w ((id, Nothing) ∷ works) = let h = fewer_passed at (passed w id) works in let k = fewer_fenced id w.copy.deps in omega (arith, h, k)
fewer_passed at w ((id, Past time) ∷ works) = by (nat_lt time at.earliest) (fewer_passed at (passed w id) works) (fewer_fenced id w.copy.deps)
  where
    by : (b : Bool) → length (through_works at (passed w id) works).copy.deps ≤ length (passed w id).copy.deps → length (deps_fenced id w.copy.deps) ≤ length w.copy.deps → length (if b then through_works at (passed w id) works else record w { wait = Some time }).copy.deps ≤ length w.copy.deps
    by true h k = omega (arith, h, k)
    by false h k = omega arith
fewer_passed at w ((id, Fix) ∷ works) = omega arith

least_passed : (at : Reading) (w : Works) (works : List (ServiceId × FenceWork)) → (through_works at w works).copy.least ≡ w.copy.least
least_passed at w [] = refl
least_passed at w ((id, Nothing) ∷ works) = least_passed at (passed w id) works
least_passed at w ((id, Past time) ∷ works) = by (nat_lt time at.earliest) (least_passed at (passed w id) works)
  where
    by : (b : Bool) → (through_works at (passed w id) works).copy.least ≡ w.copy.least → (if b then through_works at (passed w id) works else record w { wait = Some time }).copy.least ≡ w.copy.least
    by true h = h
    by false h = refl
least_passed at w ((id, Fix) ∷ works) = refl

-- what is made for a call stays so while its least times do
opens_op : (c : Config) (at : Reading) (a b : Seen) (s : SpareView) (x : Op) → a.least ≡ b.least → OpensOp c at b s x → OpensOp c at a s x
opens_op c at a b s (op.Read key) e h = tt
opens_op c at a b s (op.Write key value) e h = tt
opens_op c at a b s (op.Snap keys) e h = subst (λ (t : ℕ). OpensSnap (lines_of (home_of c) keys []) t s.snap) (ap (λ (l : List (ServiceId × ℕ)). max at.latest (least_of l (service_of (op.Snap keys)))) (sym e)) h
opens_op c at a b s (op.Txn reads guard writes) e h = h

pub opens_kept : (c : Config) (at : Reading) (a b : Seen) (s : SpareView) (k : OwnerKind) → a.least ≡ b.least → OpensKind c at b s k → OpensKind c at a s k
opens_kept c at a b s (kind.Calling x) e h = opens_op c at a b s x e h
opens_kept c at a b s kind.Fencing e h = tt
opens_kept c at a b s (kind.Stubbing unsettled) e h = tt

pub box_less : (o : Outbox) (n m : ℕ) → n ≤ m → HasBoxRoom o m → HasBoxRoom o n
box_less o n m l h = record { lines = h.lines; keys = h.keys; writes = h.writes; rounds = h.rounds; lists = h.lists; width = omega (arith, l, h.width) }

pub passed_start : (c : Config) (at : Reading) (w : Owner) (s : SpareView) → HasStart c at w.works.copy w.kind s → HasStart c at (through_works at w.works w.works.left).copy w.kind s
passed_start c at w s h = record {
  deps = let f = fewer_passed at w.works w.works.left in omega (arith, f, h.deps);
  opens = opens_kept c at (through_works at w.works w.works.left).copy w.works.copy s w.kind (least_passed at w.works w.works.left) h.opens;
}

pub passed_box : (at : Reading) (w : Owner) (o : Outbox) → HasBoxRoom o (length w.works.copy.deps) → HasBoxRoom o (length (through_works at w.works w.works.left).copy.deps)
passed_box at w o h = box_less o _ _ (fewer_passed at w.works w.works.left) h

pub ruleset passes = (begins_so, passed_start, passed_box)

-- ONE WORK ENDS

pub work_none : (c : Config) (o step : ℕ) (at : Reading) (w : Owner) (works : List (ServiceId × FenceWork)) → (length works == 0) ≡ true → work_turn c o step at w works ≡ goes_with w []
work_none c o step at w [] e = refl
work_none c o step at w (x ∷ works) e = absurd (filled (length works) e)

work_by : (c : Config) (o step : ℕ) (at : Reading) (w : Owner) (works : List (ServiceId × FenceWork)) → w.works.left ≡ works → (length works == 0) ≡ false → work_turn c o step at w works ≡ begin_turn c o step at (works_ended w works)
work_by c o step at w [] q e = cc
work_by c o step at w (x ∷ works) q e = ap (λ (l : List (ServiceId × FenceWork)). through_turn c o step at (through at (fenced w x.0) (drop 1 l))) (sym q)

pub work_some : (c : Config) (o step : ℕ) (at : Reading) (w : Owner) → (length w.works.left == 0) ≡ false → work_turn c o step at w w.works.left ≡ begin_turn c o step at (works_ended w w.works.left)
work_some c o step at w e = work_by c o step at w w.works.left refl e

fewer_ended : (w : Works) (works : List (ServiceId × FenceWork)) → length (first_ended w works).copy.deps ≤ length w.copy.deps
fewer_ended w [] = omega arith
fewer_ended w (x ∷ works) = fewer_fenced x.0 w.copy.deps

least_ended : (w : Works) (works : List (ServiceId × FenceWork)) → (first_ended w works).copy.least ≡ w.copy.least
least_ended w [] = refl
least_ended w (x ∷ works) = refl

pub ended_start : (c : Config) (at : Reading) (w : Owner) (s : SpareView) → HasStart c at w.works.copy w.kind s → HasStart c at (works_ended w w.works.left).works.copy w.kind s
ended_start c at w s h = record {
  deps = let f = fewer_ended w.works w.works.left in omega (arith, f, h.deps);
  opens = opens_kept c at (first_ended w.works w.works.left).copy w.works.copy s w.kind (least_ended w.works w.works.left) h.opens;
}

pub ended_box : (w : Owner) (o : Outbox) → HasBoxRoom o (length w.works.copy.deps) → HasBoxRoom o (length (works_ended w w.works.left).works.copy.deps)
ended_box w o h = box_less o _ _ (fewer_ended w.works w.works.left) h

pub ruleset works = (work_none, work_some, ended_start, ended_box)

-- ALL WORKS ARE DONE

pub aims : (k : OwnerKind) (d : Doing) → OwnerFits k d → AimServed (aim_of k)
aims k d h = served k h.of_kind
  where
    served : (j : OwnerKind) → KindFits j → AimServed (aim_of j)
    served (kind.Calling (op.Read key)) f = f.service
    served (kind.Calling (op.Write key value)) f = f.service
    served (kind.Calling (op.Snap keys)) f = f.service
    served (kind.Calling (op.Txn reads guard writes)) f = f.service
    served kind.Fencing f = tt
    served (kind.Stubbing unsettled) f = tt

-- an owner that may have entered its service
entering_deps : (step : ℕ) (at : Reading) (id : ServiceId) (w : Owner) → (enters_first step at id w).works.copy.deps ≡ w.works.copy.deps
entering_deps step at id w = by w.works.enter
  where
    by : (b : Bool) → (if b then turn.entering step id at.latest w else w).works.copy.deps ≡ w.works.copy.deps
    by true = refl
    by false = refl

entering_kind : (step : ℕ) (at : Reading) (id : ServiceId) (w : Owner) → (enters_first step at id w).kind ≡ w.kind
entering_kind step at id w = by w.works.enter
  where
    by : (b : Bool) → (if b then turn.entering step id at.latest w else w).kind ≡ w.kind
    by true = refl
    by false = refl

max_again : (a b : ℕ) → max a (max b a) ≡ max a b
max_again a b = grind arith

raised : (latest : ℕ) (id : ServiceId) (least : List (ServiceId × ℕ)) → max latest (least_of (least_raised id latest least) id) ≡ max latest (least_of least id)
raised latest (Txn n) least = ap (max latest) (least_of_put (Txn n) (max (least_of least (Txn n)) latest) least) ∙ max_again latest (least_of least (Txn n))
raised latest (Reg n) least = refl

entering_least : (step : ℕ) (at : Reading) (id : ServiceId) (w : Owner) → max at.latest (least_of (enters_first step at id w).works.copy.least id) ≡ max at.latest (least_of w.works.copy.least id)
entering_least step at id w = by w.works.enter
  where
    by : (b : Bool) → max at.latest (least_of (if b then turn.entering step id at.latest w else w).works.copy.least id) ≡ max at.latest (least_of w.works.copy.least id)
    by true = raised at.latest id w.works.copy.least
    by false = refl

opens_entered : (c : Config) (at : Reading) (a b : Seen) (s : SpareView) (k : OwnerKind) (id : ServiceId) → (aim_of k ≡ aim.Snap id) ⊎ (aim_of k ≡ aim.Txn id) → max at.latest (least_of a.least id) ≡ max at.latest (least_of b.least id) → OpensKind c at b s k → OpensKind c at a s k
opens_entered c at a b s (kind.Calling (op.Read key)) id q e h = tt
opens_entered c at a b s (kind.Calling (op.Write key value)) id q e h = tt
opens_entered c at a b s (kind.Calling (op.Snap keys)) id (inl q) e h =
    let same : service_of (op.Snap keys) ≡ id = snaps q in
    subst (λ (t : ℕ). OpensSnap (lines_of (home_of c) keys []) t s.snap) (ap (λ (i : ServiceId). max at.latest (least_of b.least i)) same ∙ sym e ∙ ap (λ (i : ServiceId). max at.latest (least_of a.least i)) (sym same)) h
  where
    snaps : {x y : ServiceId} → aim.Snap x ≡ aim.Snap y → x ≡ y
    snaps p = cc
opens_entered c at a b s (kind.Calling (op.Snap keys)) id (inr q) e h = cc
opens_entered c at a b s (kind.Calling (op.Txn reads guard writes)) id q e h = h
opens_entered c at a b s kind.Fencing id q e h = tt
opens_entered c at a b s (kind.Stubbing unsettled) id q e h = tt

pub opens_snap : (c : Config) (step : ℕ) (at : Reading) (w : Owner) (s : SpareView) (id : ServiceId) → aim_of w.kind ≡ aim.Snap id → HasStart c at w.works.copy w.kind s → OpensKind c at (enters_first step at id w).works.copy s (enters_first step at id w).kind
opens_snap c step at w s id q h = subst (OpensKind c at (enters_first step at id w).works.copy s) (sym (entering_kind step at id w)) (opens_entered c at (enters_first step at id w).works.copy w.works.copy s w.kind id (inl q) (entering_least step at id w) h.opens)

pub opens_txn : (c : Config) (step : ℕ) (at : Reading) (w : Owner) (s : SpareView) (id : ServiceId) → aim_of w.kind ≡ aim.Txn id → HasStart c at w.works.copy w.kind s → OpensKind c at (enters_first step at id w).works.copy s (enters_first step at id w).kind
opens_txn c step at w s id q h = subst (OpensKind c at (enters_first step at id w).works.copy s) (sym (entering_kind step at id w)) (opens_entered c at (enters_first step at id w).works.copy w.works.copy s w.kind id (inr q) (entering_least step at id w) h.opens)

pub aims_same : (step : ℕ) (at : Reading) (w : Owner) (id : ServiceId) (a : Aim) → aim_of w.kind ≡ a → aim_of (enters_first step at id w).kind ≡ a
aims_same step at w id a e = ap aim_of (entering_kind step at id w) ∙ e

pub entered_box : (step : ℕ) (at : Reading) (w : Owner) (id : ServiceId) (o : Outbox) → HasBoxRoom o (length w.works.copy.deps) → HasBoxRoom o (length (enters_first step at id w).works.copy.deps)
entered_box step at w id o h = subst (λ (l : List Dep). HasBoxRoom o (length l)) (sym (entering_deps step at id w)) h

pub entered_few : (c : Config) (step : ℕ) (at : Reading) (w : Owner) (id : ServiceId) (s : SpareView) → HasStart c at w.works.copy w.kind s → length (enters_first step at id w).works.copy.deps ≤ s.deps
entered_few c step at w id s h = subst (λ (l : List Dep). length l ≤ s.deps) (sym (entering_deps step at id w)) h.deps

starts_read : (c : Config) (o step : ℕ) (at : Reading) (key : Key) (deps : List Dep) (w : Owner) → register_start c o step at (op.Read key) deps w ≡ starts_register c o step (work.Read key) key.service deps w
starts_read c o step at key [] w = refl
starts_read c o step at key (dep ∷ deps) w = refl

starts_write : (c : Config) (o step : ℕ) (at : Reading) (key : Key) (value : ℕ) (deps : List Dep) (w : Owner) → register_start c o step at (op.Write key value) deps w ≡ starts_register c o step (work.Write key value) key.service deps w
starts_write c o step at key value [] w = refl
starts_write c o step at key value (dep ∷ deps) w = refl

reads_key : {a b : Key} → aim.Read a ≡ aim.Read b → a ≡ b
reads_key e = cc

pub over_read : (c : Config) (o step : ℕ) (at : Reading) (w : Owner) (k : OwnerKind) (key : Key) → aim_of k ≡ aim.Read key → works_over_turn c o step at w k ≡ starts_register c o step (work.Read key) key.service (enters_first step at key.service w).works.copy.deps (enters_first step at key.service w)
over_read c o step at w (kind.Calling (op.Read own)) key e =
    starts_read c o step at own (enters_first step at own.service w).works.copy.deps (enters_first step at own.service w)
    ∙ ap (λ (x : Key). starts_register c o step (work.Read x) x.service (enters_first step at x.service w).works.copy.deps (enters_first step at x.service w)) (reads_key e)
over_read c o step at w (kind.Calling (op.Write own value)) key e = cc
over_read c o step at w (kind.Calling (op.Snap keys)) key e = cc
over_read c o step at w (kind.Calling (op.Txn reads guard writes)) key e = cc
over_read c o step at w kind.Fencing key e = cc
over_read c o step at w (kind.Stubbing unsettled) key e = cc

writes_key : {a b : Key} {v w : ℕ} → aim.Write a v ≡ aim.Write b w → (a ≡ b) × (v ≡ w)
writes_key e = (cc, cc)

pub over_write : (c : Config) (o step : ℕ) (at : Reading) (w : Owner) (k : OwnerKind) (key : Key) (value : ℕ) → aim_of k ≡ aim.Write key value → works_over_turn c o step at w k ≡ starts_register c o step (work.Write key value) key.service (enters_first step at key.service w).works.copy.deps (enters_first step at key.service w)
over_write c o step at w (kind.Calling (op.Write own v)) key value e =
    starts_write c o step at own v (enters_first step at own.service w).works.copy.deps (enters_first step at own.service w)
    ∙ ap (λ (x : Key). starts_register c o step (work.Write x v) x.service (enters_first step at x.service w).works.copy.deps (enters_first step at x.service w)) (writes_key e).0
    ∙ ap (λ (x : ℕ). starts_register c o step (work.Write key x) key.service (enters_first step at key.service w).works.copy.deps (enters_first step at key.service w)) (writes_key e).1
over_write c o step at w (kind.Calling (op.Read own)) key value e = cc
over_write c o step at w (kind.Calling (op.Snap keys)) key value e = cc
over_write c o step at w (kind.Calling (op.Txn reads guard writes)) key value e = cc
over_write c o step at w kind.Fencing key value e = cc
over_write c o step at w (kind.Stubbing unsettled) key value e = cc

over_timed : (c : Config) (o step : ℕ) (at : Reading) (w : Owner) (k : OwnerKind) (id : ServiceId) → (aim_of k ≡ aim.Snap id) ⊎ (aim_of k ≡ aim.Txn id) → works_over_turn c o step at w k ≡ launches c o step at k (enters_first step at id w)
over_timed c o step at w (kind.Calling (op.Snap keys)) id (inl e) = ap (λ (x : ServiceId). launch_turn c o step at (op.Snap keys) (enters_first step at x w)) (snaps e)
  where
    snaps : {x y : ServiceId} → aim.Snap x ≡ aim.Snap y → x ≡ y
    snaps p = cc
over_timed c o step at w (kind.Calling (op.Snap keys)) id (inr e) = cc
over_timed c o step at w (kind.Calling (op.Txn reads guard writes)) id (inl e) = cc
over_timed c o step at w (kind.Calling (op.Txn reads guard writes)) id (inr e) = ap (λ (x : ServiceId). launch_turn c o step at (op.Txn reads guard writes) (enters_first step at x w)) (txns e)
  where
    txns : {x y : ServiceId} → aim.Txn x ≡ aim.Txn y → x ≡ y
    txns p = cc
over_timed c o step at w (kind.Calling (op.Read key)) id (inl e) = cc
over_timed c o step at w (kind.Calling (op.Read key)) id (inr e) = cc
over_timed c o step at w (kind.Calling (op.Write key value)) id (inl e) = cc
over_timed c o step at w (kind.Calling (op.Write key value)) id (inr e) = cc
over_timed c o step at w kind.Fencing id (inl e) = cc
over_timed c o step at w kind.Fencing id (inr e) = cc
over_timed c o step at w (kind.Stubbing unsettled) id (inl e) = cc
over_timed c o step at w (kind.Stubbing unsettled) id (inr e) = cc

pub over_snap : (c : Config) (o step : ℕ) (at : Reading) (w : Owner) (id : ServiceId) → aim_of w.kind ≡ aim.Snap id → works_over_turn c o step at w w.kind ≡ launches c o step at (enters_first step at id w).kind (enters_first step at id w)
over_snap c o step at w id e = over_timed c o step at w w.kind id (inl e) ∙ ap (λ (k : OwnerKind). launches c o step at k (enters_first step at id w)) (sym (entering_kind step at id w))

pub over_txn : (c : Config) (o step : ℕ) (at : Reading) (w : Owner) (id : ServiceId) → aim_of w.kind ≡ aim.Txn id → works_over_turn c o step at w w.kind ≡ launches c o step at (enters_first step at id w).kind (enters_first step at id w)
over_txn c o step at w id e = over_timed c o step at w w.kind id (inr e) ∙ ap (λ (k : OwnerKind). launches c o step at k (enters_first step at id w)) (sym (entering_kind step at id w))

pub over_fence : (c : Config) (o step : ℕ) (at : Reading) (w : Owner) (k : OwnerKind) → aim_of k ≡ aim.Fence → works_over_turn c o step at w k ≡ ends_with w turn.fence_over
over_fence c o step at w (kind.Calling (op.Read key)) e = cc
over_fence c o step at w (kind.Calling (op.Write key value)) e = cc
over_fence c o step at w (kind.Calling (op.Snap keys)) e = cc
over_fence c o step at w (kind.Calling (op.Txn reads guard writes)) e = cc
over_fence c o step at w kind.Fencing e = refl
over_fence c o step at w (kind.Stubbing unsettled) e = cc

pub over_stub : (c : Config) (o step : ℕ) (at : Reading) (w : Owner) (k : OwnerKind) → aim_of k ≡ aim.Stub → works_over_turn c o step at w k ≡ ends_with w turn.stub_over
over_stub c o step at w (kind.Calling (op.Read key)) e = cc
over_stub c o step at w (kind.Calling (op.Write key value)) e = cc
over_stub c o step at w (kind.Calling (op.Snap keys)) e = cc
over_stub c o step at w (kind.Calling (op.Txn reads guard writes)) e = cc
over_stub c o step at w kind.Fencing e = cc
over_stub c o step at w (kind.Stubbing unsettled) e = refl

start_goes : (c : Config) (o step : ℕ) (work : RegWork) (id : ServiceId) (deps : List Dep) (w : Owner) → (starts_register c o step work id deps w).ending ≡ turn.goes
start_goes c o step work id [] w = refl
start_goes c o step work id (dep ∷ deps) w = refl

launch_goes : (c : Config) (o step : ℕ) (at : Reading) (k : OwnerKind) (w : Owner) → (launches c o step at k w).ending ≡ turn.goes
launch_goes c o step at (kind.Calling (op.Read key)) w = refl
launch_goes c o step at (kind.Calling (op.Write key value)) w = refl
launch_goes c o step at (kind.Calling (op.Snap keys)) w = refl
launch_goes c o step at (kind.Calling (op.Txn reads guard writes)) w = refl
launch_goes c o step at kind.Fencing w = refl
launch_goes c o step at (kind.Stubbing unsettled) w = refl

pub starts_go : (c : Config) (o step : ℕ) (work : RegWork) (id : ServiceId) (deps : List Dep) (w : Owner) → (starts_register c o step work id deps w).ending ≡ turn.goes
starts_go = start_goes

pub launches_go : (c : Config) (o step : ℕ) (at : Reading) (k : OwnerKind) (w : Owner) → (launches c o step at k w).ending ≡ turn.goes
launches_go = launch_goes

pub read_served : (a : Aim) (key : Key) → a ≡ aim.Read key → AimServed a → IsService key.service
read_served a key e h = subst AimServed e h

pub write_served : (a : Aim) (key : Key) (value : ℕ) → a ≡ aim.Write key value → AimServed a → IsService key.service
write_served a key value e h = subst AimServed e h

pub snap_served : (a : Aim) (id : ServiceId) → a ≡ aim.Snap id → AimServed a → IsService id
snap_served a id e h = subst AimServed e h

pub txn_served : (a : Aim) (id : ServiceId) → a ≡ aim.Txn id → AimServed a → IsService id
txn_served a id e h = subst AimServed e h

pub ruleset overs = (read_served, write_served, snap_served, txn_served, over_read, over_write, over_snap, over_txn, over_fence, over_stub, starts_go, launches_go, opens_snap, opens_txn, aims_same, entered_box, entered_few)
