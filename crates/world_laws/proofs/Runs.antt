-- Runs by their lists of steps: one step more, and how many steps there were.
use Rattle.std.proofs.Common.{◌≡◌, ◌<◌, Bool, true, false, List, [], ◌∷◌, ◌++◌, Option, Some, None, refl, ap, sym, subst}
use Rattle.std.proofs.lemmas.Bool.{leb-false}
use Rattle.std.specs.Prelude.{nat_le, if◌then◌else◌}
use Rattle.pipeline_lang.specs.declared.config.Config.{Config}
use Rattle.truetime.specs.TrueMoment.{admits}
use Rattle.rss_machine.specs.State.{State, start}
use Rattle.rss_machine.specs.Effect.{stepped}
use Rattle.rss_machine.specs.Refusal.{refusal, kind_refusal}
use Rattle.rss_machine.specs.Run.{run, run_from, unless_refused, steps_of}
use Rattle.rss_machine.specs.declared.step.Logged.{Logged}
use Rattle.rss_machine.specs.declared.step.Step.{Step}
use Rattle.rss_machine.specs.declared.step.StepRefusal.{StepRefusal}
use Rattle.rss_machine.specs.declared.step.StepRefusal.TheVariants.{LogFull, Reading as Untimely}
use Rattle.world_laws.proofs.Looks.{some_is, none_is_not, some_is_not}

-- what follows a step that was not refused
pub not_refused : (r : Option StepRefusal) (after : Option State) (s : State) → unless_refused r after ≡ Some s → (r ≡ None) × (after ≡ Some s)
not_refused None after s e = (refl, e)
not_refused (Some cause) after s e = absurd (none_is_not s e)

-- a run of some steps goes on with the others
pub run_rest : (c : Config) (u : State) (step : Step) (steps : List Step) (s : State) → run_from c u (step ∷ steps) ≡ Some s → (refusal c u step ≡ None) × (run_from c (stepped c u step) steps ≡ Some s)
unfolding run_from
run_rest c u step steps s e = not_refused (refusal c u step) (run_from c (stepped c u step) steps) s e

-- a run of no steps ends where it began
pub run_none : (c : Config) (u s : State) → run_from c u [] ≡ Some s → u ≡ s
unfolding run_from
run_none c u s e = some_is u s e

-- a step that is not refused, before a run
pub run_before : (c : Config) (u : State) (step : Step) (steps : List Step) (s : State) → refusal c u step ≡ None → run_from c (stepped c u step) steps ≡ Some s → run_from c u (step ∷ steps) ≡ Some s
unfolding run_from
run_before c u step steps s r e = rw r e

-- the run of no steps
pub run_ends : (c : Config) (u : State) → run_from c u [] ≡ Some u
unfolding run_from
run_ends c u = refl

-- a run from any state goes on by a step that is not refused
pub run_from_more : (c : Config) (steps : List Step) (u s : State) (next : Step) → run_from c u steps ≡ Some s → refusal c s next ≡ None → run_from c u (steps ++ next ∷ []) ≡ Some (stepped c s next)
run_from_more c [] u s next e r = let q = run_none c u s e in subst (λ (t : State). run_from c t (next ∷ []) ≡ Some (stepped c s next)) (sym q) (run_before c s next [] (stepped c s next) r (run_ends c (stepped c s next)))
run_from_more c (step ∷ steps) u s next e r =
    let t = run_rest c u step steps s e in
    run_before c u step (steps ++ next ∷ []) (stepped c s next) t.0 (run_from_more c steps (stepped c u step) s next t.1 r)

-- a run goes on by a step that is not refused
pub run_more : (c : Config) (steps : List Step) (s : State) (next : Step) → run c steps ≡ Some s → refusal c s next ≡ None → run c (steps ++ next ∷ []) ≡ Some (stepped c s next)
unfolding run
run_more c steps s next e r = run_from_more c steps (start c) s next e r

-- what lets a step pass: there is room, its reading is admitted, and nothing refuses its kind
pub record Passes (c : Config) (s : State) (step : Step) : Type 0 where
  pub room : s.steps < c.max_steps
  pub admitted : admits s.moment step.at ≡ true
  pub kind : kind_refusal c s step.at step.kind ≡ None

-- a step that is not refused passes
pub passes : (c : Config) (s : State) (step : Step) → refusal c s step ≡ None → Passes c s step
unfolding refusal
passes c s step = by_room (nat_le c.max_steps s.steps) (admits s.moment step.at) refl refl
  where
    by_room : (full admitted : Bool) → nat_le c.max_steps s.steps ≡ full → admits s.moment step.at ≡ admitted → (if full then Some LogFull else (if admitted then kind_refusal c s step.at step.kind else Some (Untimely record { greatest_earliest = s.moment; latest = step.at.latest }))) ≡ None → Passes c s step
    by_room true admitted f a e = absurd (some_is_not _ e)
    by_room false true f a e = record { room = leb-false c.max_steps s.steps f; admitted = a; kind = e }
    by_room false false f a e = absurd (some_is_not _ e)

-- a log grows by a step
pub steps_grow : (log : List Logged) (l : Logged) → steps_of (log ++ l ∷ []) ≡ steps_of log ++ l.step ∷ []
steps_grow [] l = refl
steps_grow (k ∷ log) l = ap (λ (steps : List Step). k.step ∷ steps) (steps_grow log l)

-- the later part of a run
pub run_from_split : (c : Config) (steps more : List Step) (u s t : State) → run_from c u steps ≡ Some s → run_from c u (steps ++ more) ≡ Some t → run_from c s more ≡ Some t
run_from_split c [] more u s t e f = subst (λ (v : State). run_from c v more ≡ Some t) (run_none c u s e) f
run_from_split c (step ∷ steps) more u s t e f =
    run_from_split c steps more (stepped c u step) s t (run_rest c u step steps s e).1 (run_rest c u step (steps ++ more) t f).1

pub run_split : (c : Config) (steps more : List Step) (s t : State) → run c steps ≡ Some s → run c (steps ++ more) ≡ Some t → run_from c s more ≡ Some t
unfolding run
run_split c steps more s t e f = run_from_split c steps more (start c) s t e f

-- what every step that is not refused keeps, every run keeps
pub steps_keep : (c : Config) (P : State → Type 0) → ((s : State) (step : Step) → refusal c s step ≡ None → P s → P (stepped c s step)) → (steps : List Step) (u s : State) → run_from c u steps ≡ Some s → P u → P s
steps_keep c P f [] u s e h = subst P (run_none c u s e) h
steps_keep c P f (step ∷ steps) u s e h = let t = run_rest c u step steps s e in steps_keep c P f steps (stepped c u step) s t.1 (f u step t.0 h)

pub run_keeps : (c : Config) (P : State → Type 0) → ((s : State) (step : Step) → refusal c s step ≡ None → P s → P (stepped c s step)) → P (start c) → (steps : List Step) (s : State) → run c steps ≡ Some s → P s
unfolding run
run_keeps c P f h steps s e = steps_keep c P f steps (start c) s e h

-- a run is one from the beginning
pub run_is : (c : Config) (steps : List Step) (s : State) → run_from c (start c) steps ≡ Some s → run c steps ≡ Some s
unfolding run
run_is c steps s e = e
