-- What has ended, by the dates of one state: the run goes through a state of as many steps as its date, in which it
-- stood as it stands later.
use Rattle.std.proofs.Common.{◌≡◌, ℕ, ◌<◌, ◌≤◌, ◌⊎◌, inl, inr, Bool, true, false, List, [], ◌∷◌, ◌++◌, length, Some, None, refl, ap, sym, ◌∙◌, subst, arith}
use Rattle.std.specs.Prelude.{◌+◌}
use Rattle.std.proofs.lemmas.Bool.{cases_lt}
use Rattle.rss_names.specs.declared.service.Key.{Key}
use Rattle.carstamps.specs.declared.carstamp.Carstamp.{Carstamp}
use Rattle.pipeline_lang.specs.declared.config.Config.{Config}
use Rattle.rss_tables.specs.RegisterSession.{RegSession, phase_end}
use Rattle.rss_tables.specs.declared.register_session.RegEnd.{RegEnd}
use Rattle.rss_tables.specs.declared.register_session.RegEnd.TheVariants as ends
use Rattle.rss_machine.specs.Effect.{stepped}
use Rattle.rss_machine.specs.Marks.{is_held}
use Rattle.rss_machine.specs.Run.{run, run_from}
use Rattle.rss_machine.specs.Standing.{is_running}
use Rattle.rss_machine.specs.State.{State, Owner, start, owner_at, no_owner, replicas_at}
use Rattle.rss_machine.specs.Times.{step_of_stamp}
use Rattle.rss_machine.specs.declared.session.Session.TheVariants as session
use Rattle.rss_machine.specs.declared.step.Step.{Step}
use Rattle.world_laws.specs.Calls.{Onward}
use Rattle.world_laws.specs.Registers.{IsRegister}
use Rattle.world_laws.proofs.Clock.{clock_step}
use Rattle.world_laws.proofs.Looks.{get_or_past}
use Rattle.world_laws.proofs.Runs.{run_rest, run_none, run_ends, run_before, run_is}
use Rattle.world_laws.proofs.Scripts.{onward_from}
use Rattle.world_laws.proofs.SessionMoves.{session_at}
use Rattle.world_laws.proofs.ToldLaws.{told_run}
use Rattle.world_laws.proofs.ToldRuns.{AllTold}
use Rattle.world_laws.proofs.OwnerFits.{is_own}
use Rattle.rss_machine.specs.Refusal.{refusal}
use Rattle.reg_laws.specs.Files.{IsInOrder}
use Rattle.reg_laws.specs.Line.{SeenFromOne, SeenAfter, EndsInTime}
use Rattle.reg_laws.proofs.Above.{ends_run}
use Rattle.reg_laws.proofs.Dates.{DatesSince, dated_since_from}
use Rattle.reg_laws.proofs.Handled.{stored_run}
use Rattle.reg_laws.proofs.Legal.{register_of, tells}
use Rattle.reg_laws.proofs.Seen.{seen_one}
use Rattle.world_laws.specs.Proper.{work_registers}

-- a run goes through a state of each number of steps
pub record Through (c : Config) (w s : State) (steps : List Step) (m : ℕ) : Type 0 where
  pub before : List Step
  pub after : List Step
  pub mid : State
  pub leads : run_from c w before ≡ Some mid
  pub goes : run_from c mid after ≡ Some s
  pub count : mid.steps ≡ m
  pub parts : before ++ after ≡ steps

pub through : (c : Config) (steps : List Step) (w s : State) (m : ℕ) → run_from c w steps ≡ Some s → w.steps ≤ m → m ≤ s.steps → Through c w s steps m
through c [] w s m e a b =
    let q : w ≡ s = run_none c w s e in
    record { before = []; after = []; mid = w; leads = run_ends c w; goes = e; count = let k = ap (λ (t : State). t.steps) q in omega (arith, a, b, k); parts = refl }
through c (step ∷ steps) w s m e a b = by_count (cases_lt w.steps m) (through c steps (stepped c w step) s m t.1)
  where
    t : (refusal c w step ≡ None) × (run_from c (stepped c w step) steps ≡ Some s)
    t = run_rest c w step steps s e

    next : (stepped c w step).steps ≡ w.steps + 1
    next = (clock_step c w step t.0).0

    by_count : (w.steps < m) ⊎ (m ≤ w.steps) → ((stepped c w step).steps ≤ m → m ≤ s.steps → Through c (stepped c w step) s steps m) → Through c w s (step ∷ steps) m
    by_count (inr l) ih = record { before = []; after = step ∷ steps; mid = w; leads = run_ends c w; goes = e; count = omega (arith, a, l); parts = refl }
    by_count (inl l) ih =
        let r = ih (omega (arith, l, next)) b in
        record { before = step ∷ r.before; after = r.after; mid = r.mid; leads = run_before c w step r.before r.mid t.0 r.leads; goes = r.goes; count = r.count; parts = ap (λ (xs : List Step). step ∷ xs) r.parts }

-- the state in whose step an owner was over: it has under way there what it has later
pub record AtEnd (c : Config) (steps : List Step) (s : State) (o : ℕ) : Type 0 where
  pub before : List Step
  pub after : List Step
  pub mid : State
  pub leads : run c before ≡ Some mid
  pub parts : before ++ after ≡ steps
  pub count : mid.steps ≡ (owner_at s o).dates.ended
  pub same : session_at mid o ≡ session_at s o

start_steps : (c : Config) → (start c).steps ≡ 0
start_steps c = refl

pub at_end : (c : Config) (steps : List Step) (s : State) (o : ℕ) → run c steps ≡ Some s → 0 < (owner_at s o).dates.ended → AtEnd c steps s o
unfolding run
at_end c steps s o e z = record { before = t.before; after = t.after; mid = u; leads = leads; parts = t.parts; count = t.count; same = sym ((up.each o there).session over) }
  where
    told : AllTold s
    told = told_run c steps s (run_is c steps s e)

    t : Through c (start c) s steps (owner_at s o).dates.ended
    t = through c steps (start c) s (owner_at s o).dates.ended e (omega arith) (told.told.fits o).dates.ended

    u : State
    u = t.mid

    leads : run c t.before ≡ Some u
    leads = run_is c t.before u t.leads

    told_mid : AllTold u
    told_mid = told_run c t.before u leads

    up : Onward u s
    up = onward_from c t.after u s told_mid t.goes

    since : DatesSince u (owner_at u o).dates (owner_at s o).dates
    since = ((dated_since_from c t.after u s t.goes).1.each o).since

    ended : (owner_at s o).dates.ended ≡ (owner_at u o).dates.ended
    ended = by_since since.ended
      where
        by_since : ((owner_at s o).dates.ended ≡ (owner_at u o).dates.ended) ⊎ (u.steps < (owner_at s o).dates.ended) → (owner_at s o).dates.ended ≡ (owner_at u o).dates.ended
        by_since (inl q) = q
        by_since (inr l) = absurd (let k = t.count in omega (arith, l, k))

    over : is_running (owner_at u o).fate ≡ false
    over = by_running (is_running (owner_at u o).fate) refl
      where
        by_running : (b : Bool) → is_running (owner_at u o).fate ≡ b → is_running (owner_at u o).fate ≡ false
        by_running false r = r
        by_running true r = absurd (let k = (told_mid.told.fits o).dates.runs r in omega (arith, z, ended, k))

    there : o < length u.owners
    there = by_place (get_or_past u.owners o no_owner)
      where
        by_place : (o < length u.owners) ⊎ (owner_at u o ≡ no_owner) → o < length u.owners
        by_place (inl l) = l
        by_place (inr q) = absurd (let k = ap (λ (w : Owner). w.dates.ended) q in omega (arith, z, ended, k))

-- a call whose rounds are done has ended after it sent the first
done_ended : (c : Config) (steps : List Step) (s : State) (o : ℕ) (r : RegSession) (e : RegEnd) → run c steps ≡ Some s → session_at s o ≡ session.Register r → phase_end r.phase ≡ Some e → 0 < (owner_at s o).dates.ended
done_ended c steps s o r e f x p =
    let h = told_run c steps s f in
    let over : is_running (owner_at s o).fate ≡ false = ap is_running ((h.done o).ended r e x p) in
    let l = ((h.told.fits o).dates.is_over over).2 in
    let k = (h.told.fits o).launched (ap is_own x) in
    omega (arith, l, k)

-- what a majority held at a date has its step by then, and later calls see it
seen_after : (c : Config) (steps : List Step) (s : State) (o : ℕ) (key : Key) (stamp : Carstamp) → IsInOrder c → run c steps ≡ Some s → IsRegister c key → (t : AtEnd c steps s o) → is_held (replicas_at t.mid key.service) key stamp ≡ true → SeenAfter c steps s key stamp (owner_at s o).dates.ended
seen_after c steps s o key stamp n e g t h = record {
  come = come;
  marked = let m = tells c n steps s e key stamp g in omega (arith, m, come);
  stored = λ i value other l w. seen.stored i value other (subst (λ (k : ℕ). k < (owner_at s i).dates.launched) (sym t.count) l) w;
  written = λ i value other l w. seen.written i value other (subst (λ (k : ℕ). k < (owner_at s i).dates.launched) (sym t.count) l) w;
  read = λ i cell dep l r. seen.read i cell dep (subst (λ (k : ℕ). k < (owner_at s i).dates.launched) (sym t.count) l) r;
}
  where
    seen : SeenFromOne c steps t.mid s key stamp
    seen = subst (λ (xs : List Step). SeenFromOne c xs t.mid s key stamp) t.parts (seen_one c t.before t.after t.mid s key stamp n t.leads (subst (λ (xs : List Step). run c xs ≡ Some s) (sym t.parts) e) h)

    come : step_of_stamp c steps key stamp ≤ (owner_at s o).dates.ended
    come = let a = seen.come in let b = t.count in omega (arith, a, b)

pub ends_in_time_run : (c : Config) (steps : List Step) (s : State) → IsInOrder c → run c steps ≡ Some s → EndsInTime c steps s
ends_in_time_run c steps s n e = record {
  stored = stored_run c n steps s e;
  write = λ o key value stamp w.
      let t = at_end c steps s o e (done_ended c steps s o w.round (ends.Written stamp) e w.under_way (ap phase_end w.in_phase)) in
      seen_after c steps s o key stamp n e (register_of c n steps s e o w.round key w.under_way (ap work_registers w.of_work)) t
      ((ends_run c t.before t.mid n t.leads).written o key value stamp (record { round = w.round; under_way = t.same ∙ w.under_way; of_work = w.of_work; in_phase = w.in_phase }));
  agreed = λ o key cell w.
      let t = at_end c steps s o e (done_ended c steps s o w.round (ends.Read cell None) e w.under_way (ap phase_end w.in_phase)) in
      seen_after c steps s o key cell.stamp n e (register_of c n steps s e o w.round key w.under_way (ap work_registers w.of_work)) t
      ((ends_run c t.before t.mid n t.leads).agreed o key cell (record { round = w.round; under_way = t.same ∙ w.under_way; of_work = w.of_work; in_phase = w.in_phase }));
}
