-- What every World keeps, before the first step and after each one.
use Rattle.std.proofs.Common.{◌≡◌, ℕ, zero, suc, ◌+◌, ◌≤◌, ◌<◌, ◌^◌, get_or, Bool, true, false, List, [], ◌∷◌, ◌++◌, length, Option, Some, None, All, refl, arith, ap, ◌∙◌, sym, subst}
use Rattle.std.specs.List.{list_all}
use Rattle.std.proofs.lemmas.Bool.{and_parts}
use Rattle.std.proofs.lemmas.List.Elements.{All-cons, All-nil}
use Rattle.pipeline_lang.specs.declared.config.Config.{Config}
use Rattle.truetime.specs.Reading.{Reading, IsReading}
use Rattle.rss_machine.specs.Effect.{stepped}
use Rattle.rss_machine.specs.Refusal.{refusal}
use Rattle.rss_machine.specs.Run.{run, run_from, steps_of, readings_of}
use Rattle.rss_machine.specs.State.{State, start}
use Rattle.rss_machine.specs.declared.step.Step.{Step}
use Rattle.rss_machine.specs.declared.step.Logged.{Logged}
use Rattle.world_laws.specs.Laws.{IsOrdered}
use Rattle.world_laws.specs.Numbered.{is_numbered, are_numbered}
use Rattle.world_laws.specs.Shapes.{IsSoundFile}
use Rattle.world_laws.proofs.Clock.{run_counted}
use Rattle.world_laws.proofs.Runs.{run_more, steps_grow}
use Rattle.fence_laws.proofs.StepsOf.{moments_run}
use Rattle.world_machine.specs.declared.machine.Machine.{Machine}
use Rattle.world_machine.specs.Machine.{state_of, IsOpening, SameButRoom}
use Rattle.world_machine.specs.Asking.{CanAsk}
use Rattle.world_machine.specs.Ready.{IsReady, HasFacts}
use Rattle.event_world.specs.Kept.{IsKept, IsPrepared, IsWorld, AreReadings}
use Rattle.run_laws.specs.Facts.{RunKeeps}
use Rattle.run_laws.proofs.Facts.{keeps_run}
use Rattle.turn_facts.specs.Steps.{StepFacts}
use Rattle.turn_facts.proofs.Steps.{step_facts_run}
use Rattle.turn_facts.proofs.Facts.{facts_run as turn_facts_run}
use Rattle.place_facts.specs.Facts.{PlaceFacts}
use Rattle.place_facts.proofs.Facts.{facts_run as places_run}
use Rattle.world_machine.specs.StepRooms.{HasRoom}
use Rattle.world_traffic.specs.View.{IsQuiet}
use Rattle.world_turns.specs.Asked.{CanTell}

-- a log with one more step has one more reading
readings_more : (log : List Logged) (l : Logged) → AreReadings (readings_of (steps_of log)) → IsReading l.step.at → AreReadings (readings_of (steps_of (log ++ l ∷ [])))
readings_more [] l h r = (r, tt)
readings_more (x ∷ log) l h r = (h.0, readings_more log l h.1 r)

numbered_more : (log : List Logged) (l : Logged) → are_numbered (steps_of log) ≡ true → is_numbered l.step.kind ≡ true → are_numbered (steps_of (log ++ l ∷ [])) ≡ true
numbered_more [] l h k = rw k refl
numbered_more (x ∷ log) l h k =
    let p = and_parts (is_numbered x.step.kind) (are_numbered (steps_of log)) h in
    rw p.0 (numbered_more log l p.1 k)

-- each reading is in order
pub ordered : (steps : List Step) → AreReadings (readings_of steps) → (k : ℕ) (d : Reading) → k < length (readings_of steps) → IsOrdered (get_or (readings_of steps) k d)
ordered [] h k d l = absurd (omega (arith, l))
ordered (x ∷ xs) h zero d l = h.0.0
ordered (x ∷ xs) h (suc k) d l = ordered xs h.1 k d (omega (arith, l))

all_readings : (readings : List Reading) → AreReadings readings → All IsReading readings
all_readings [] h = All-nil IsReading
all_readings (at ∷ readings) h = All-cons IsReading at readings h.0 (all_readings readings h.1)

all_ordered : (readings : List Reading) → AreReadings readings → All IsOrdered readings
all_ordered [] h = All-nil IsOrdered
all_ordered (at ∷ readings) h = All-cons IsOrdered at readings h.0.0 (all_ordered readings h.1)

pub kept_more : (old new : Machine) (log items : List Logged) (l : Logged) → IsKept old log → refusal old.config (state_of old) l.step ≡ None → state_of new ≡ stepped old.config (state_of old) l.step → new.config ≡ old.config → IsReading l.step.at → is_numbered l.step.kind ≡ true → items ≡ log ++ l ∷ [] → IsQuiet new.traffic → IsKept new items
kept_more old new log items l k allowed state config reading number pushed quiet =
    let c : Config = old.config in
    let run_is : run c (steps_of log ++ l.step ∷ []) ≡ Some (stepped c (state_of old) l.step) = run_more c (steps_of log) (state_of old) l.step k.replays allowed in
    let steps_are : steps_of (log ++ l ∷ []) ≡ steps_of log ++ l.step ∷ [] = steps_grow log l in
    let P : List Logged → Type 0 = λ xs. AreReadings (readings_of (steps_of xs)) in
    let Q : List Logged → Type 0 = λ xs. are_numbered (steps_of xs) ≡ true in
    record {
      replays = ap (λ (x : Config). run x (steps_of items)) config ∙ ap (λ (xs : List Logged). run c (steps_of xs)) pushed ∙ ap (run c) steps_are ∙ run_is ∙ ap (λ (s : State). Some s) (sym state);
      readings = subst P (sym pushed) (readings_more log l k.readings reading);
      numbered = subst Q (sym pushed) (numbered_more log l k.numbered number);
      file = subst IsSoundFile (sym config) k.file;
      quiet = quiet;
    }

pub kept_new : (c : Config) (m : Machine) → IsSoundFile c → IsOpening m c → IsQuiet m.traffic → IsKept m []
unfolding run run_from
kept_new c m file opening quiet = record {
  replays = ap (λ (x : Config). Some (start x)) opening.config ∙ ap (λ (s : State). Some s) (sym opening.state);
  readings = tt;
  numbered = refl;
  file = subst IsSoundFile (sym opening.config) file;
  quiet = quiet;
}

-- where only room was made, all is kept
pub kept_room : (old new : Machine) (log : List Logged) → IsKept old log → SameButRoom old new → IsQuiet new.traffic → IsKept new log
kept_room old new log k same quiet = record {
  replays = ap (λ (x : Config). run x (steps_of log)) same.config ∙ k.replays ∙ ap (λ (s : State). Some s) (sym same.state);
  readings = k.readings;
  numbered = k.numbered;
  file = subst IsSoundFile (sym same.config) k.file;
  quiet = quiet;
}

-- a prepared step that is not refused has room, and so has the log
pub room_for : (m : Machine) (log : List Logged) (capacity len : ℕ) (prepared : Option Step) (step : Step) → IsWorld m log capacity len prepared → prepared ≡ Some step → refusal m.config (state_of m) step ≡ None → HasRoom m step
room_for m log capacity len prepared step w e allowed = (subst (IsPrepared m len capacity) e w.room allowed).1

pub log_room : (m : Machine) (log : List Logged) (capacity len : ℕ) (prepared : Option Step) (step : Step) → IsWorld m log capacity len prepared → prepared ≡ Some step → refusal m.config (state_of m) step ≡ None → len + 1 ≤ capacity
log_room m log capacity len prepared step w e allowed = (subst (IsPrepared m len capacity) e w.room allowed).0

-- what a World keeps gives its steps what they need
module _ (log : List Logged) (m : Machine) (k : IsKept m log) where
  run_keeps : RunKeeps m.config (state_of m)
  run_keeps = keeps_run m.config (steps_of log) (state_of m) k.file (all_readings (readings_of (steps_of log)) k.readings) k.numbered k.replays

  pub ready : IsReady m
  ready = record {
    clock = record { steps = m.clock.steps; moment = m.clock.moment; moments = m.clock.moments.items };
    net = m.traffic.traffic.net;
    says = record { same_length = refl; envelopes = λ i. refl; bodies = λ i. refl };
    facts = record { file = k.file; run = run_keeps.ready; exchanges = run_keeps.exchanges };
  }

  steps_facts : StepFacts m.config (state_of m)
  steps_facts = step_facts_run m.config (steps_of log) (state_of m) k.file (all_readings (readings_of (steps_of log)) k.readings) k.numbered k.replays

  pub facts : HasFacts m
  facts = let f = steps_facts in record {
    shallow = f.shallow;
    holders = f.holders;
    first = f.first;
    left = f.left;
    positions = f.positions;
    turn = turn_facts_run m.config (steps_of log) (state_of m) k.file (all_readings (readings_of (steps_of log)) k.readings) k.numbered k.replays;
  }

  pub can_tell : CanTell m
  can_tell = let f = steps_facts in record {
    ask = record { file = k.file; holders = λ n o e. f.holders o };
    stages = f.stages;
    acts = f.acts;
    calls = λ n o e. f.calls o;
  }

  pub place_facts : PlaceFacts (state_of m)
  place_facts = places_run m.config (steps_of log) (state_of m) k.file.keys (all_ordered (readings_of (steps_of log)) k.readings) k.replays

  pub can_ask : CanAsk m
  can_ask = can_tell.ask

  pub few_steps : m.clock.steps ≤ 200000
  few_steps =
      let counted = (run_counted m.config (steps_of log) (state_of m) k.replays).1 in
      let within = k.file.within.steps in
      omega (arith, counted, within)

  pub few_moments : length m.clock.moments.items + 1 < 2 ^ 32
  few_moments =
      let long = (moments_run m.config (steps_of log) (state_of m) k.replays).long in
      let few = few_steps in
      omega (arith, long, few)

  pub steps_low : m.clock.steps + 1 < 2 ^ 32
  steps_low = let few = few_steps in omega (arith, few)

  pub few_stages : length m.staging.staging.stages ≤ 16
  few_stages = can_tell.stages

  pub few_owners : length m.traffic.traffic.owners < 2 ^ 32
  few_owners =
      let most = run_keeps.ready.sizes.owners in
      let few = few_steps in
      omega (arith, most, few)
