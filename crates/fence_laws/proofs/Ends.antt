-- What a fence waits for has come when it ends, over each step of a run.
use Rattle.std.proofs.Common.{◌≡◌, ℕ, zero, suc, ◌<◌, ◌≤◌, ◌⊎◌, inl, inr, Bool, true, false, All, List, [], ◌∷◌, ◌++◌, drop, length, get_or, Some, None, refl, ap, sym, ◌∙◌, subst, arith}
use Rattle.std.specs.Prelude.{◌||◌}
use Rattle.std.proofs.lemmas.Bool.{true≢false}
use Rattle.std.proofs.lemmas.List.Elements.{All-head, All-tail, All-nil}
use Rattle.truetime.specs.Reading.{Reading}
use Rattle.rss_names.specs.Services.{same_service}
use Rattle.rss_names.specs.declared.service.ServiceId.{ServiceId}
use Rattle.rss_names.specs.declared.service.ServiceId.TheVariants.{Txn, Reg}
use Rattle.causal_context.specs.LeastTimes.{least_of}
use Rattle.causal_context.specs.Seen.{Seen}
use Rattle.pipeline_lang.specs.declared.config.Config.{Config}
use Rattle.rss_tables.specs.Works.{others_than}
use Rattle.rss_tables.specs.declared.fences.FenceWork.{FenceWork}
use Rattle.rss_tables.specs.declared.fences.FenceWork.TheVariants.{Nothing, Past, Fix}
use Rattle.rss_machine.specs.Effect.{stepped}
use Rattle.rss_machine.specs.Moves.{ticks}
use Rattle.rss_machine.specs.Refusal.{refusal}
use Rattle.rss_machine.specs.Run.{run}
use Rattle.rss_machine.specs.Session.{service_of}
use Rattle.rss_machine.specs.State.{State, Owner, owner_at, stage_at, start}
use Rattle.rss_machine.specs.Times.{step_of_time}
use Rattle.rss_machine.specs.declared.step.Step.{Step}
use Rattle.world_laws.specs.Planned.{is_settling, has_work, FitsContext, WorksPlanned}
use Rattle.world_laws.proofs.Clock.{clock_step}
use Rattle.world_laws.proofs.Marked.{same_service_is}
use Rattle.world_laws.proofs.PlannedOwners.{is_fixing}
use Rattle.world_laws.proofs.PlannedRuns.{planned_run}
use Rattle.world_laws.proofs.Plans.{Fitting, fences_fit}
use Rattle.world_laws.proofs.Runs.{passes, run_more, run_keeps}
use Rattle.fence_laws.specs.Fences.{is_planned, no_work, Before, had, call_begins, fence_begins, stub_plans, stub_begins, plans_none, FencesEnd}
use Rattle.fence_laws.specs.Laws.{MomentsRise}
use Rattle.fence_laws.proofs.Going.{Owned}
use Rattle.fence_laws.proofs.StepsOf.{moments_run, step_by, step_rises}
use Rattle.world_laws.proofs.Waits.{AllWait, waits_start}
use Rattle.fence_laws.proofs.Walk.{Through, through_walk}

-- the works with which an owner goes into a step fit the context
before_fits : (u : State) (o : ℕ) (w : Owner) (seen : Seen) (works : List (ServiceId × FenceWork)) → WorksPlanned u → Before u o w seen works → All (Fitting seen) works
before_fits u o w _ _ h (had i e) = (h.each o e).fits
before_fits u o w _ _ h (call_begins x l e) = fences_fit (stage_at u w.stage).context (others_than (service_of x) (stage_at u w.stage).context.last.services)
before_fits u o w _ _ h (fence_begins l e) = fences_fit (stage_at u w.stage).context (stage_at u w.stage).context.last.services
before_fits u o w _ _ h (stub_plans i f e) = fences_fit (owner_at u o).works.copy (owner_at u o).works.copy.last.services
before_fits u o w _ _ h (stub_begins seen l e r) = fences_fit seen seen.last.services
before_fits u o w _ _ h (plans_none e) = All-nil (Fitting w.works.copy)

-- a work at a place fits too, and one that waits for a time waits for the least time of its service
past_is_least : (seen : Seen) (id : ServiceId) (time : ℕ) → FitsContext seen id (Past time) → time ≡ least_of seen.least id
past_is_least seen (Txn n) time h = h
past_is_least seen (Reg n) time h = absurd h

nothing_is_past : (time : ℕ) → Nothing ≡ Past time → ⊥
nothing_is_past time e = cc

nothing_past : (id : ServiceId) (time : ℕ) → no_work ≡ (id, Past time) → ⊥
nothing_past id time e = nothing_is_past time (ap (λ (y : ServiceId × FenceWork). y.1) e)

fits_at : (seen : Seen) (works : List (ServiceId × FenceWork)) (k time : ℕ) (id : ServiceId) → All (Fitting seen) works → get_or works k no_work ≡ (id, Past time) → time ≡ least_of seen.least id
fits_at seen [] zero time id h e = absurd (nothing_past id time e)
fits_at seen [] (suc k) time id h e = absurd (nothing_past id time e)
fits_at seen (x ∷ works) zero time id h e = past_is_least seen id time (subst (Fitting seen) e (All-head (Fitting seen) x works h))
fits_at seen (x ∷ works) (suc k) time id h e = fits_at seen works k time id (All-tail (Fitting seen) x works h) e

-- a work that is among some, and not among those left of them, stands at a place before
pub record Stands (works : List (ServiceId × FenceWork)) (gone n time : ℕ) : Type 0 where
  pub place : ℕ
  pub early : place < gone
  pub there : get_or works place no_work ≡ (Txn n, Past time)

stands_later : (x : ServiceId × FenceWork) (works : List (ServiceId × FenceWork)) (gone n time : ℕ) → Stands works gone n time → Stands (x ∷ works) (suc gone) n time
stands_later x works gone n time h = record { place = suc h.place; early = (let l = h.early in omega (arith, l)); there = h.there }

waits_least : (seen : Seen) (n : ℕ) (w : FenceWork) → FitsContext seen (Txn n) w → w ≡ Past (least_of seen.least (Txn n))
waits_least seen n Nothing h = absurd h
waits_least seen n (Past time) h = ap Past h
waits_least seen n Fix h = absurd h

stands_first : (seen : Seen) (x : ServiceId × FenceWork) (works : List (ServiceId × FenceWork)) (gone n : ℕ) → Fitting seen x → same_service (Txn n) x.0 ≡ true → Stands (x ∷ works) (suc gone) n (least_of seen.least (Txn n))
stands_first seen x works gone n f e =
    let i : Txn n ≡ x.0 = same_service_is (Txn n) x.0 e in
    let w : x.1 ≡ Past (least_of seen.least (Txn n)) = waits_least seen n x.1 (subst (λ (id : ServiceId). FitsContext seen id x.1) (sym i) f) in
    record { place = 0; early = omega arith; there = ap (λ (id : ServiceId). (id, x.1)) (sym i) ∙ ap (λ (y : FenceWork). (Txn n, y)) w }

gone_stands : (seen : Seen) (works : List (ServiceId × FenceWork)) (gone n : ℕ) → All (Fitting seen) works → has_work works (Txn n) ≡ true → has_work (drop gone works) (Txn n) ≡ false → Stands works gone n (least_of seen.least (Txn n))
gone_stands seen works zero n h e f = absurd (true≢false (sym e ∙ f))
gone_stands seen [] (suc gone) n h e f = absurd (true≢false (sym e))
gone_stands seen (x ∷ works) (suc gone) n h e f = by_test (same_service (Txn n) x.0) refl e (λ d. gone_stands seen works gone n (All-tail (Fitting seen) x works h) d f)
  where
    by_test : (b : Bool) → same_service (Txn n) x.0 ≡ b → (b || has_work works (Txn n)) ≡ true → (has_work works (Txn n) ≡ true → Stands works gone n (least_of seen.least (Txn n))) → Stands (x ∷ works) (suc gone) n (least_of seen.least (Txn n))
    by_test true t d r = stands_first seen x works gone n (All-head (Fitting seen) x works h) t
    by_test false t d r = stands_later x works gone n _ (r d)

-- a time below the reading of a step has come behind it
has_come : (v : State) (at : Reading) (time : ℕ) → MomentsRise v → at.earliest ≤ v.moment → time < at.earliest → (time < v.moment) × (step_of_time v time ≤ v.steps)
has_come v at time h l t =
    let n = h.now in
    (omega (arith, l, t), step_by v time v.steps h (omega arith) (omega (arith, n, l, t)))

-- of one owner
owner_ends : (u v : State) (at : Reading) (o : ℕ) → WorksPlanned u → MomentsRise v → at.earliest ≤ v.moment → Owned u at o (owner_at v o) → FencesEnd u v o
owner_ends u v at o p h l (inl d) = record {
  seen = (owner_at v o).works.copy;
  works = [];
  before = plans_none d.flag;
  gone = 0;
  left = d.left;
  come = λ k time id i e. absurd (omega (arith, i));
  over = λ n e f. absurd (true≢false (sym e));
}
owner_ends u v at o p h l (inr g) = record {
  seen = g.seen;
  works = g.works;
  before = g.before;
  gone = g.gone;
  left = g.left;
  come = λ k time id i e. let d = has_come v at time h l (g.come k time id i e) in (fits_at g.seen g.works k time id fits e, d.0, d.1);
  over = λ n e f.
      let d = gone_stands g.seen g.works g.gone n fits e (ap (λ (works : List (ServiceId × FenceWork)). has_work works (Txn n)) (sym g.left) ∙ f) in
      has_come v at _ h l (g.come d.place _ (Txn n) d.early d.there);
}
  where
    fits : All (Fitting g.seen) g.works
    fits = before_fits u o (owner_at v o) g.seen g.works p g.before

-- between steps: works are not planned and none is left, or they are, and nothing is left to settle
abbrev pub IsSorted : Owner → Type 0
IsSorted w = ((is_planned w ≡ false) × (w.works.left ≡ []) × (is_fixing w.session ≡ false)) ⊎ ((is_planned w ≡ true) × (is_settling w.session ≡ false))

pub record Between (s : State) : Type 0 where
  pub wait : AllWait s
  pub each : (o : ℕ) → o < length s.owners → IsSorted (owner_at s o)

-- an owner goes into a step with the works that it has left, or with none planned
start_owned : (u : State) (at : Reading) (o : ℕ) → o < length u.owners → IsSorted (owner_at u o) → Owned u at o (owner_at u o)
start_owned u at o i (inl e) = inl (record { flag = e.0; left = e.1; calm = e.2; old = λ l. (refl, e.0) })
start_owned u at o i (inr e) = inr (record {
  flag = e.0;
  calm = e.1;
  seen = (owner_at u o).works.copy;
  works = (owner_at u o).works.left;
  before = had i e.0;
  gone = 0;
  left = refl;
  come = λ k time id l f. absurd (omega (arith, l));
})

sorted_owned : (u : State) (at : Reading) (o : ℕ) (w : Owner) → Owned u at o w → IsSorted w
sorted_owned u at o w (inl p) = inl (p.flag, p.left, p.calm)
sorted_owned u at o w (inr g) = inr (g.flag, g.calm)

through_step : (c : Config) (s : State) (step : Step) → refusal c s step ≡ None → Between s → Through s step.at (stepped c s step)
through_step c s step e h =
    through_walk s step.at c (ticks s step.at) step.kind (passes c s step e).kind (record { owners = refl; contexts = λ n. refl })
    (h.wait, record { grown = omega arith; each = λ o l. start_owned s step.at o l (h.each o l) })

between_step : (c : Config) (s : State) (step : Step) → refusal c s step ≡ None → Between s → Between (stepped c s step)
between_step c s step e h = let t = through_step c s step e h in record { wait = t.0; each = λ o l. sorted_owned s step.at o (owner_at (stepped c s step) o) (t.1.each o l) }

between_run : (c : Config) (steps : List Step) (s : State) → run c steps ≡ Some s → Between s
between_run c steps s e = run_keeps c Between (between_step c) (record { wait = waits_start c; each = λ o l. first o l }) steps s e
  where
    first : (o : ℕ) → o < 1 → IsSorted (owner_at (start c) o)
    first zero l = inr (refl, refl)
    first (suc o) l = absurd (omega (arith, l))

-- what a fence waits for has come when it ends
pub fences_end : (c : Config) (steps : List Step) (s : State) (next : Step) → run c steps ≡ Some s → refusal c s next ≡ None → (o : ℕ) → o < length (stepped c s next).owners → FencesEnd s (stepped c s next) o
fences_end c steps s next e r o l =
    let v = stepped c s next in
    let q = (clock_step c s next r).1 in
    owner_ends s v next.at o (planned_run c steps s e) (moments_run c (steps ++ next ∷ []) v (run_more c steps s next e r)) (omega (arith, q)) ((through_step c s next r (between_run c steps s e)).1.each o l)

-- a service that was among an owner's works and is not among those left: each time that is at most its least time has its step by then
pub times_come : (u v : State) (o n time : ℕ) (h : FencesEnd u v o) → has_work h.works (Txn n) ≡ true → has_work (owner_at v o).works.left (Txn n) ≡ false → time ≤ least_of h.seen.least (Txn n) → step_of_time v time ≤ v.steps
times_come u v o n time h e f l = let a = step_rises v time (least_of h.seen.least (Txn n)) l in let b = (h.over n e f).1 in omega (arith, a, b)
