-- The machine takes the steps of the serial policy.
use Rattle.std.proofs.Common.{◌≡◌, ℕ, zero, suc, ◌+◌, ◌-◌, ◌<◌, ◌≤◌, ◌^◌, max, Bool, true, false, List, [], ◌∷◌, ◌++◌, length, Option, Some, None, refl, sym, ap, ◌∙◌, subst, arith}
use Rattle.std.proofs.lemmas.Bool.Decides.{nat_tests}
use Rattle.std.specs.Option.{option_map}
use Rattle.std.specs.Prelude.{nat_le, nat_lt, if◌then◌else◌}
use Rattle.std.proofs.lemmas.List.{append_assoc, append-nil}
use Rattle.truetime.specs.TrueMoment.{admits}
use Rattle.pipeline_lang.specs.declared.config.Config.{Config}
use Rattle.rss_machine.specs.Effect.{stepped}
use Rattle.rss_machine.specs.Refusal.{refusal, kind_refusal}
use Rattle.rss_machine.specs.Run.{run, run_from}
use Rattle.rss_machine.specs.Serial.{Stepping, serial_clock, reading_of, can_read_at, ticked, moved_to, passed, step_with, turn_step, stage_under_way, step_of_stage, followed_by, serial_from, serial}
use Rattle.rss_machine.specs.State.{State, start}
use Rattle.rss_machine.specs.Turns.{next_for}
use Rattle.rss_machine.specs.declared.step.Step.{Step}
use Rattle.rss_machine.specs.declared.step.StepKind.{StepKind}
use Rattle.rss_machine.specs.declared.step.StepRefusal.{StepRefusal}
use Rattle.rss_machine.specs.declared.step.StepRefusal.TheVariants.{LogFull, Reading as Untimely}
use Rattle.rss_machine.specs.declared.turn.Turn.{Turn}
use Rattle.rss_machine.specs.declared.turn.Turn.TheVariants as turn
use Rattle.world_laws.proofs.Clock.{clock_step}
use Rattle.world_laws.proofs.Looks.{some_is, none_is_not}
use Rattle.world_laws.proofs.Replies.{exchanges_run}
use Rattle.world_laws.proofs.Runs.{run_more}
use Rattle.policy_laws.specs.Laws.{IsAhead, IsTaken, IsRun}
use Rattle.policy_laws.proofs.Places.{free_run}
use Rattle.policy_laws.proofs.Turns.{Passes, turn_passes}

-- A STEP BY A CLOCK THAT IS AHEAD

allowed_by : (c : Config) (s : State) (step : Step) → s.steps < c.max_steps → s.moment ≤ step.at.latest → kind_refusal c s step.at step.kind ≡ None → refusal c s step ≡ None
unfolding refusal
allowed_by c s step r m k =
    let f : nat_le c.max_steps s.steps ≡ false = grind (arith, nat_tests, r) in
    let a : admits s.moment step.at ≡ true = grind (arith, nat_tests, m) in
    let late : Option StepRefusal = Some (Untimely record { greatest_earliest = s.moment; latest = step.at.latest }) in
    ap (λ (b : Bool). if b then Some LogFull else (if admits s.moment step.at then kind_refusal c s step.at step.kind else late)) f
    ∙ ap (λ (b : Bool). if b then kind_refusal c s step.at step.kind else late) a
    ∙ k

taken : (c : Config) (s : State) (kind : StepKind) (clock : Stepping) → s.steps < c.max_steps → IsAhead clock s → kind_refusal c s (reading_of clock) kind ≡ None → IsTaken c s (step_with kind clock)
taken c s kind clock r a k =
    let step : Step = (step_with kind clock).0 in
    let allowed : refusal c s step ≡ None = allowed_by c s step r (omega (arith, a)) k in
    let q = clock_step c s step allowed in
    let moment : (stepped c s step).moment ≡ max s.moment (clock.now - clock.half) = q.1 in
    record { allowed = allowed; counted = q.0; ahead = omega (arith, moment, a) }

-- THE CLOCK

ticked_ahead : (clock : Stepping) (s : State) → IsAhead clock s → IsAhead (ticked clock) s
ticked_ahead clock s a = by_limit (can_read_at clock (clock.now + clock.tick))
  where
    by_limit : (b : Bool) → IsAhead (if b then record clock { now = clock.now + clock.tick } else clock) s
    by_limit true = omega (arith, a)
    by_limit false = a

moved_is : (clock k : Stepping) (time : ℕ) → moved_to clock time ≡ Some k → record clock { now = time } ≡ k
moved_is clock k time = by_limit (can_read_at clock time)
  where
    by_limit : (b : Bool) → (if b then Some (record clock { now = time }) else None) ≡ Some k → record clock { now = time } ≡ k
    by_limit true e = some_is (record clock { now = time }) k e
    by_limit false e = absurd (none_is_not k e)

-- a reading that begins above a time
record IsPast (clock k : Stepping) (time : ℕ) : Type 0 where
  half : k.half ≡ clock.half
  later : clock.now ≤ k.now
  above : time < k.now - k.half

passed_is : (clock k : Stepping) (time : ℕ) → passed clock time ≡ Some k → IsPast clock k time
passed_is clock k time e =
    let m = max (clock.now + clock.tick) (time + 1 + clock.half) in
    let q : record clock { now = m } ≡ k = moved_is clock k m e in
    subst (λ (x : Stepping). IsPast clock x time) q (record { half = refl; later = omega arith; above = omega arith })

-- TURNS

turn_taken : (c : Config) (s : State) (clock : Stepping) (t : Turn) (made : Step × Stepping) → Passes c s t → s.steps < c.max_steps → IsAhead clock s → turn_step clock t ≡ Some made → IsTaken c s made
turn_taken c s clock (turn.Step kind) made p r a e =
    subst (IsTaken c s) (some_is (step_with kind (ticked clock)) made e)
    (taken c s kind (ticked clock) r (ticked_ahead clock s a) (p (reading_of (ticked clock))))
turn_taken c s clock (turn.Past kind time) made p r a e = by_clock (passed clock time) refl e
  where
    by_clock : (o : Option Stepping) → passed clock time ≡ o → option_map (step_with kind) o ≡ Some made → IsTaken c s made
    by_clock None q e = absurd (none_is_not made e)
    by_clock (Some k) q e =
        let h = passed_is clock k time q in
        let half = h.half in
        let later = h.later in
        subst (IsTaken c s) (some_is (step_with kind k) made e)
        (taken c s kind k r (omega (arith, half, later, a)) (p (reading_of k) h.above))
turn_taken c s clock (turn.Blocked b) made p r a e = absurd (none_is_not made e)
turn_taken c s clock turn.Unborn made p r a e = absurd (none_is_not made e)
turn_taken c s clock turn.Over made p r a e = absurd (none_is_not made e)

pub step_taken : (c : Config) (steps : List Step) (s : State) (clock : Stepping) (n : ℕ) (made : Step × Stepping) → run c steps ≡ Some s → s.steps < c.max_steps → IsAhead clock s → step_of_stage c s clock n ≡ Some made → IsTaken c s made
step_taken c steps s clock zero made e r a h = absurd (none_is_not made h)
step_taken c steps s clock (suc n) made e r a h =
    turn_taken c s clock (next_for c s (suc n)) made (turn_passes c s (suc n) (omega arith) (exchanges_run c steps s e) (free_run c steps s e)) r a h

-- the step of a stage is that of its turn
pub of_turn : (c : Config) (s : State) (clock : Stepping) (n : ℕ) → 1 ≤ n → step_of_stage c s clock n ≡ turn_step clock (next_for c s n)
of_turn c s clock zero h = absurd (omega (arith, h))
of_turn c s clock (suc n) h = refl

-- THE POLICY

ends : (c : Config) (steps : List Step) (s : State) → run c steps ≡ Some s → IsRun c (steps ++ [])
ends c steps s e = record { state = s; runs = ap (run c) (append-nil steps) ∙ e }

pub runs_from : (left : ℕ) (c : Config) (steps : List Step) (s : State) (clock : Stepping) (n : ℕ) → run c steps ≡ Some s → s.steps + left ≤ c.max_steps → IsAhead clock s → IsRun c (steps ++ serial_from left c s clock n)
unfolding serial_from
runs_from zero c steps s clock n e r a = ends c steps s e
runs_from (suc left) c steps s clock n e r a =
    let m = stage_under_way c s n in
    by_step (step_of_stage c s clock m) refl
    (λ made k. let q = k.counted in
    runs_from left c (steps ++ made.0 ∷ []) (stepped c s made.0) made.1 m (run_more c steps s made.0 e k.allowed) (omega (arith, q, r)) k.ahead)
  where
    m : ℕ
    m = stage_under_way c s n

    rest : Step × Stepping → List Step
    rest made = serial_from left c (stepped c s made.0) made.1 m

    by_step : (o : Option (Step × Stepping)) → step_of_stage c s clock m ≡ o → ((made : Step × Stepping) → IsTaken c s made → IsRun c ((steps ++ made.0 ∷ []) ++ rest made)) → IsRun c (steps ++ followed_by o rest)
    by_step None h later = ends c steps s e
    by_step (Some made) h later =
        subst (IsRun c) (append_assoc steps (made.0 ∷ []) (rest made)) (later made (step_taken c steps s clock m made e (omega (arith, r)) a h))

pub serial_runs : (c : Config) → IsRun c (serial c)
unfolding run run_from
serial_runs c = runs_from c.max_steps c [] (start c) serial_clock 1 refl (omega arith) (omega arith)
