-- A round of dependencies that is under way is done before its owner sends its own first round: by then a majority
-- holds each of them, since an earlier step.
use Rattle.std.proofs.Common.{◌≡◌, ℕ, Bool, true, false, List, [], ◌∷◌, ◌++◌, length, Some, None, refl, ap, sym, ◌∙◌, subst}
use Rattle.causal_context.specs.declared.dep.Dep.{Dep}
use Rattle.pipeline_lang.specs.declared.config.Config.{Config}
use Rattle.rss_tables.specs.RegisterSession.{RegSession}
use Rattle.rss_machine.specs.Run.{run}
use Rattle.rss_machine.specs.State.{State, Owner, no_owner}
use Rattle.rss_machine.specs.declared.session.Session.TheVariants as session
use Rattle.rss_machine.specs.declared.step.Step.{Step}
use Rattle.world_laws.proofs.SessionMoves.{session_at}
use Rattle.std.proofs.Common.{◌<◌, ◌⊎◌, inl, inr, All, arith, ◌-◌}
use Rattle.std.specs.Prelude.{◌+◌}
use Rattle.std.proofs.lemmas.Bool.{true≢false}
use Rattle.std.proofs.lemmas.List.{append_assoc, append-nil}
use Rattle.std.proofs.lemmas.List.Elements.{All-weaker}
use Rattle.rss_machine.specs.declared.state.Dates.{Dates}
use Rattle.causal_context.specs.Deps.{deps_of}
use Rattle.rss_machine.specs.Effect.{stepped}
use Rattle.rss_machine.specs.Refusal.{refusal}
use Rattle.rss_machine.specs.Run.{run, run_from}
use Rattle.rss_machine.specs.State.{owner_at}
use Rattle.rss_machine.specs.Times.{step_of_stamp}
use Rattle.world_laws.proofs.Clock.{clock_step}
use Rattle.world_laws.proofs.Looks.{get_or_past}
use Rattle.world_laws.proofs.OwnerFits.{is_own}
use Rattle.world_laws.proofs.Runs.{run_rest, run_none, run_more, run_from_more, run_split}
use Rattle.world_laws.proofs.ToldLaws.{told_run}
use Rattle.world_laws.proofs.ToldRuns.{AllTold}
use Rattle.reg_laws.specs.Agree.{FixAgrees, Agrees, AllAgree}
use Rattle.reg_laws.specs.Files.{IsInOrder}
use Rattle.reg_laws.specs.Line.{SeenFromOne, FixesFirst}
use Rattle.reg_laws.proofs.Above.{step_alone, SameKept}
use Rattle.reg_laws.proofs.Agree.{agree_run}
use Rattle.reg_laws.proofs.AtDates.{Through, through}
use Rattle.reg_laws.proofs.Dates.{DatesSince, dated_since_from}
use Rattle.reg_laws.proofs.Rounds.{Settled, settled_run}
use Rattle.reg_laws.proofs.RoundsHeld.{DepHeld}
use Rattle.reg_laws.proofs.Settles.{deps_seen}
use Rattle.reg_laws.proofs.FixesWalk.{StillFixes, is_fixing, Fixed, held_moved, fixed_from}

pub basis_run : (c : Config) (n : IsInOrder c) (steps : List Step) (s : State) → run c steps ≡ Some s → Settled c n s × AllAgree s
basis_run c n steps s e = (settled_run c n steps s e, agree_run c steps s e)

-- a run goes on by steps from its state
run_goes : (c : Config) (steps before : List Step) (u s : State) → run c steps ≡ Some u → run_from c u before ≡ Some s → run c (steps ++ before) ≡ Some s
run_goes c steps [] u s e f = subst (λ (xs : List Step). run c xs ≡ Some s) (sym (append-nil steps)) (subst (λ (t : State). run c steps ≡ Some t) (run_none c u s f) e)
run_goes c steps (next ∷ before) u s e f =
    let z = run_rest c u next before s f in
    subst (λ (xs : List Step). run c xs ≡ Some s) (append_assoc steps (next ∷ []) before) (run_goes c (steps ++ next ∷ []) before (stepped c u next) s (run_more c steps u next e z.0) z.1)

-- an owner that has a round of dependencies under way in a state, and sends its own first round later
module _ (c : Config) (n : IsInOrder c) (steps more : List Step) (u s : State) (e : run c steps ≡ Some u) (f : run c (steps ++ more) ≡ Some s) (q : ℕ) (r : RegSession) (x : session_at u q ≡ session.Fixing r) (l : u.steps < (owner_at s q).dates.launched) where
  abbrev deps : List Dep
  deps = deps_of r.service (owner_at u q).works.copy.deps

  agrees : FixAgrees (owner_at u q) r
  agrees = subst (Agrees (owner_at u q)) x ((agree_run c steps u e).each q)

  inside : q < length u.owners
  inside = by_place (get_or_past u.owners q no_owner)
    where
      by_place : (q < length u.owners) ⊎ (owner_at u q ≡ no_owner) → q < length u.owners
      by_place (inl k) = k
      by_place (inr k) = absurd (true≢false (ap is_fixing (sym x) ∙ ap (λ (w : Owner). is_fixing w.session) k))

  told : AllTold s
  told = told_run c (steps ++ more) s f

  -- the state before the step in which it did so
  t : Through c u s more ((owner_at s q).dates.launched - 1)
  t = through c more u s ((owner_at s q).dates.launched - 1) (run_split c steps more u s e f) (omega (arith, l)) (let k = (told.told.fits q).dates.launched in omega (arith, k))

  mid_run : run c (steps ++ t.before) ≡ Some t.mid
  mid_run = run_goes c steps t.before u t.mid e t.leads

  told_mid : AllTold t.mid
  told_mid = told_run c (steps ++ t.before) t.mid mid_run

  -- what stands there stands in the run
  held_before : (after : List Step) → run_from c t.mid after ≡ Some s → All (DepHeld t.mid r.service) deps
  held_before [] g = absurd (let k = ap (λ (v : State). v.steps) (run_none c t.mid s g) in let m = t.count in let o = (told.told.fits q).dates.launched in omega (arith, k, m, o, l))
  held_before (next ∷ after) g = by_alone (step_alone c t.mid next z.0)
    where
      z : (refusal c t.mid next ≡ None) × (run_from c (stepped c t.mid next) after ≡ Some s)
      z = run_rest c t.mid next after s g

      v : State
      v = stepped c t.mid next

      counted : v.steps ≡ t.mid.steps + 1
      counted = (clock_step c t.mid next z.0).0

      v_run : run c ((steps ++ t.before) ++ next ∷ []) ≡ Some v
      v_run = run_more c (steps ++ t.before) t.mid next mid_run z.0

      told_v : AllTold v
      told_v = told_run c ((steps ++ t.before) ++ next ∷ []) v v_run

      since : DatesSince v (owner_at v q).dates (owner_at s q).dates
      since = ((dated_since_from c after v s z.1).1.each q).since

      launched : (owner_at s q).dates.launched ≡ (owner_at v q).dates.launched
      launched = by_since since.launched
        where
          by_since : ((owner_at s q).dates.launched ≡ (owner_at v q).dates.launched) ⊎ (v.steps < (owner_at s q).dates.launched) → (owner_at s q).dates.launched ≡ (owner_at v q).dates.launched
          by_since (inl k) = k
          by_since (inr k) = absurd (let m = t.count in omega (arith, k, m, counted, l))

      fixed_v : Fixed c n q r.service deps v
      fixed_v =
          fixed_from c n q r.service deps (t.before ++ next ∷ []) u v (basis_run c n steps u e) (run_from_more c t.before u t.mid next t.leads z.0)
          (record { there = inside; state = inl (record { round = r; under_way = x; of_work = agrees.stores; of_service = refl }) })

      own : is_own (session_at v q) ≡ true
      own = by_own (is_own (session_at v q)) refl
        where
          by_own : (b : Bool) → is_own (session_at v q) ≡ b → is_own (session_at v q) ≡ true
          by_own true k = k
          by_own false k = absurd (let m = (told_v.told.fits q).unlaunched k in omega (arith, m, launched, l))

      held : All (DepHeld v r.service) deps
      held = by_state fixed_v.state
        where
          by_state : StillFixes r.service deps (session_at v q) ⊎ All (DepHeld v r.service) deps → All (DepHeld v r.service) deps
          by_state (inr k) = k
          by_state (inl k) = absurd (true≢false (sym own ∙ ap is_own k.under_way))

      by_alone : SameKept t.mid v ⊎ ((o : ℕ) → (owner_at v o).dates ≡ (owner_at t.mid o).dates) → All (DepHeld t.mid r.service) deps
      by_alone (inl k) = held_moved c n q r.service deps v t.mid (sym k.replicas) held
      by_alone (inr k) = absurd (let a = ap (λ (d : Dates). d.launched) (k q) in let b = (told_mid.told.fits q).dates.launched in let m = t.count in omega (arith, a, b, m, launched, l))

  first : All (λ (dep : Dep). step_of_stamp c (steps ++ more) dep.key dep.stamp < (owner_at s q).dates.launched) deps
  first =
      All-weaker (λ (dep : Dep). SeenFromOne c (steps ++ more) t.mid s dep.key dep.stamp) (λ (dep : Dep). step_of_stamp c (steps ++ more) dep.key dep.stamp < (owner_at s q).dates.launched)
      (λ d k. let a = k.come in let m = t.count in omega (arith, a, m, l)) deps
      (subst (λ (xs : List Step). All (λ (dep : Dep). SeenFromOne c xs t.mid s dep.key dep.stamp) deps) whole (deps_seen c (steps ++ t.before) t.after t.mid s n mid_run (subst (λ (xs : List Step). run c xs ≡ Some s) (sym whole) f) r.service (owner_at u q).works.copy.deps (held_before t.after t.goes)))
    where
      whole : (steps ++ t.before) ++ t.after ≡ steps ++ more
      whole = append_assoc steps t.before t.after ∙ ap (λ (xs : List Step). steps ++ xs) t.parts

pub fixes_first_run : (c : Config) (steps more : List Step) (u s : State) → IsInOrder c → run c steps ≡ Some u → run c (steps ++ more) ≡ Some s → FixesFirst c (steps ++ more) u s
fixes_first_run c steps more u s n e f = record { fix = λ o r x l. first c n steps more u s e f o r x l }
