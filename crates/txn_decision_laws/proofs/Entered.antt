-- In every run, entries have raised least times.
use Rattle.std.proofs.Common.{◌≡◌, ℕ, ◌+◌, ◌≤◌, List, [], ◌∷◌, All, Some, None, refl, sym, ap, subst, arith}
use Rattle.std.proofs.lemmas.List.Elements.{All-head, All-tail}
use Rattle.truetime.specs.Reading.{Reading}
use Rattle.causal_context.specs.LeastTimes.{least_of}
use Rattle.pipeline_lang.specs.declared.config.Config.{Config}
use Rattle.rss_machine.specs.Effect.{stepped}
use Rattle.rss_machine.specs.Moves.{ticks}
use Rattle.rss_machine.specs.Refusal.{refusal}
use Rattle.rss_machine.specs.Run.{run, run_from, readings_of}
use Rattle.rss_machine.specs.Session.{service_of}
use Rattle.rss_machine.specs.State.{State, Owner, start, owner_at}
use Rattle.rss_machine.specs.declared.step.Step.{Step}
use Rattle.world_laws.specs.Laws.{IsOrdered}
use Rattle.world_laws.proofs.Clock.{clock_step}
use Rattle.world_laws.proofs.OwnerWalk.{owner_walk}
use Rattle.world_laws.proofs.Runs.{passes, run_rest, run_none}
use Rattle.shard_event_laws.proofs.Clocks.{Clocked}
use Rattle.shard_event_laws.proofs.Runs.{Moments, Rested, rested_start, clocked_ticks, events_step}
use Rattle.txn_decision_laws.specs.Entered.{AllEntered}
use Rattle.txn_decision_laws.proofs.Entering.{Entering, entering_keeps}
use Rattle.txn_decision_laws.proofs.DateSessions.{moment_in}
use Rattle.txn_decision_laws.proofs.DateStarts.{moment_stays, nobody}

-- a step is counted
ticked : (s : State) (at : Reading) → Moments s → AllEntered s → Entering (ticks s at).moments (s.steps + 1) (ticks s at)
ticked s at m h = record {
  steps = refl;
  each = λ o. record {
    up_to = let l = h.entered o in omega (arith, l);
    raised = λ x e f l. let q = h.raised o x e f l in let z = moment_stays s at m.long (owner_at s o).dates.entered (h.entered o) in omega (arith, q, z);
  };
}

-- a step is made
pub entered_step : (c : Config) (s : State) (step : Step) → refusal c s step ≡ None → IsOrdered step.at → Moments s → AllEntered s → AllEntered (stepped c s step)
entered_step c s step e i m h =
    record {
      entered = λ o. subst (λ (n : ℕ). (owner_at t o).dates.entered ≤ n) (sym walked.steps) (walked.each o).up_to;
      raised = λ o x f g l.
          subst (λ (ms : List ℕ). moment_in ms (owner_at t o).dates.entered ≤ least_of (owner_at t o).works.copy.least (service_of x)) (sym (clock_step c s step e).2)
          ((walked.each o).raised x f g l);
    }
  where
    t : State
    t = stepped c s step

    u : State
    u = ticks s step.at

    clock : Clocked step.at u
    clock = clocked_ticks c s step e i m

    now : moment_in u.moments (s.steps + 1) ≤ step.at.latest
    now = let a = clock.now in let b = clock.latest in omega (arith, a, b)

    walked : Entering u.moments (s.steps + 1) t
    walked = owner_walk c step.at (Entering u.moments (s.steps + 1)) (λ v o. Entering u.moments (s.steps + 1) v) (entering_keeps u.moments (s.steps + 1) c step.at now) u step.kind (passes c s step e).kind (ticked s step.at m h)

-- nobody has entered before the first step
pub entered_start : (c : Config) → AllEntered (start c)
entered_start c = record {
  entered = λ o. let e = ap (λ (w : Owner). w.dates.entered) (nobody c o) in omega (arith, e);
  raised = λ o x f g l. let e = ap (λ (w : Owner). w.dates.entered) (nobody c o) in absurd (omega (arith, e, l));
}

entered_from : (c : Config) (steps : List Step) (u s : State) → All IsOrdered (readings_of steps) → run_from c u steps ≡ Some s → Rested u → AllEntered u → AllEntered s
entered_from c [] u s a e r h = subst AllEntered (run_none c u s e) h
entered_from c (step ∷ steps) u s a e r h =
    let q = run_rest c u step steps s e in
    let i = All-head IsOrdered step.at (readings_of steps) a in
    entered_from c steps (stepped c u step) s (All-tail IsOrdered step.at (readings_of steps) a) q.1 (events_step c u step q.0 i r).rested (entered_step c u step q.0 i r.2 h)

-- in every run, whose readings begin no later than they end
pub entered_run : (c : Config) (steps : List Step) (s : State) → All IsOrdered (readings_of steps) → run c steps ≡ Some s → AllEntered s
unfolding run
entered_run c steps s a e = entered_from c steps (start c) s a e (rested_start c) (entered_start c)
