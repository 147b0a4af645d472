-- The steps of the policy are made one after another.
use Rattle.std.proofs.Common.{◌≡◌, ℕ, zero, suc, ◌+◌, ◌-◌, ◌<◌, ◌≤◌, List, [], ◌∷◌, ◌++◌, length, Option, Some, None, refl, sym, ap, ◌∙◌, subst, arith}
use Rattle.std.proofs.lemmas.List.{append_assoc, append-nil}
use Rattle.std.specs.Prelude.{Result, Ok, Err, IfErr}
use Rattle.std.specs.Result.{IsOk}
use Rattle.pipeline_lang.specs.declared.config.Config.{Config}
use Rattle.rss_machine.specs.Effect.{stepped}
use Rattle.rss_machine.specs.Refusal.{refusal}
use Rattle.rss_machine.specs.Run.{run, steps_of}
use Rattle.rss_machine.specs.Serial.{Stepping, serial_clock, turn_step, stage_under_way, step_of_stage, followed_by, serial_from, serial}
use Rattle.rss_machine.specs.State.{State, start}
use Rattle.rss_machine.specs.Turns.{next_for}
use Rattle.rss_machine.specs.declared.step.Logged.{Logged}
use Rattle.rss_machine.specs.declared.step.Step.{Step}
use Rattle.rss_machine.specs.declared.step.StepRefusal.{StepRefusal}
use Rattle.world_laws.proofs.Looks.{none_is_not}
use Rattle.event_world.specs.World.{WorldView, Takes, SameWorld, IsNew}
use Rattle.policy_laws.specs.Laws.{IsAhead, IsTaken, HasEnded}
use Rattle.policy_laws.proofs.Taken.{of_turn, step_taken}
use Rattle.policy_laws.proofs.Whole.{serial_whole}
use Rattle.world_laws.specs.Shapes.{IsSoundFile}
use Rattle.serial_run.specs.Made.{made_by, IsSerial, IsUnderWay}

-- THE POLICY'S LIST

abbrev from_step : Config → State → ℕ → ℕ → Option (Step × Stepping) → List Step
from_step c s left m o = followed_by o (λ made. serial_from left c (stepped c s made.0) made.1 m)

one_more : (left : ℕ) (c : Config) (s : State) (clock : Stepping) (n : ℕ) → 0 < left → serial_from left c s clock n ≡ from_step c s (left - 1) (stage_under_way c s n) (step_of_stage c s clock (stage_under_way c s n))
unfolding serial_from
one_more zero c s clock n h = absurd (omega (arith, h))
one_more (suc left) c s clock n h = let e : suc left - 1 ≡ left = omega arith in rw e refl

-- it ends where no stage has a step
no_stage : (left : ℕ) (c : Config) (s : State) (clock : Stepping) (n : ℕ) → 0 < left → 0 ≡ stage_under_way c s n → serial_from left c s clock n ≡ []
no_stage left c s clock n h e =
    one_more left c s clock n h ∙ ap (λ (m : ℕ). from_step c s (left - 1) m (step_of_stage c s clock m)) (sym e)

-- or where the stage under way has none
stage_has : (left : ℕ) (c : Config) (s : State) (clock : Stepping) (n m : ℕ) (o : Option (Step × Stepping)) → 0 < left → 1 ≤ m → m ≡ stage_under_way c s n → turn_step clock (next_for c s m) ≡ o → serial_from left c s clock n ≡ from_step c s (left - 1) m o
stage_has left c s clock n m o h z e t =
    one_more left c s clock n h
    ∙ ap (λ (k : ℕ). from_step c s (left - 1) k (step_of_stage c s clock k)) (sym e)
    ∙ ap (from_step c s (left - 1) m) (of_turn c s clock m z ∙ t)

steps_made : (steps : List Step) → steps_of (made_by 0 steps) ≡ steps
steps_made [] = refl
steps_made (step ∷ steps) = ap (λ (rest : List Step). step ∷ rest) (steps_made steps)

-- THE WORLD ON ITS WAY

pub begins : (w : WorldView) (left : ℕ) → IsNew w w.config → left ≡ w.config.max_steps → IsUnderWay w.config left w serial_clock 1
begins w left new l = record {
  config = refl;
  whole =
      ap (λ (log : List Logged). log ++ made_by 0 (serial_from left w.config w.state serial_clock 1)) new.log
      ∙ ap (λ (s : State). made_by 0 (serial_from left w.config s serial_clock 1)) new.state
      ∙ ap (λ (k : ℕ). made_by 0 (serial_from k w.config (start w.config) serial_clock 1)) l;
  counted = let none : w.state.steps ≡ 0 = ap (λ (s : State). s.steps) new.state in omega (arith, none, l);
  ahead = subst (IsAhead serial_clock) (sym new.state) (omega arith);
}

-- all is made where nothing is left
whole_made : (c : Config) (left : ℕ) (w : WorldView) (clock : Stepping) (n : ℕ) → IsUnderWay c left w clock n → serial_from left c w.state clock n ≡ [] → run w.config (steps_of w.log) ≡ Some w.state → IsSerial c w
whole_made c left w clock n h e r =
    let log : w.log ≡ made_by 0 (serial c) = sym (append-nil w.log) ∙ ap (λ (steps : List Step). w.log ++ made_by 0 steps) (sym e) ∙ h.whole in
    record {
      config = h.config;
      log = log;
      runs = ap (run c) (sym (ap steps_of log ∙ steps_made (serial c))) ∙ ap (λ (d : Config). run d (steps_of w.log)) (sym h.config) ∙ r;
    }

pub all_made : (c : Config) (left : ℕ) (w : WorldView) (clock : Stepping) (n : ℕ) → IsUnderWay c left w clock n → left ≤ 0 → run w.config (steps_of w.log) ≡ Some w.state → IsSerial c w
unfolding serial_from
all_made c zero w clock n h l r = whole_made c zero w clock n h refl r
all_made c (suc left) w clock n h l r = absurd (omega (arith, l))

pub no_stage_made : (c : Config) (left : ℕ) (w : WorldView) (clock : Stepping) (n : ℕ) → IsUnderWay c left w clock n → 0 < left → 0 ≡ stage_under_way w.config w.state n → run w.config (steps_of w.log) ≡ Some w.state → IsSerial c w
no_stage_made c left w clock n h l e r =
    whole_made c left w clock n h (no_stage left c w.state clock n l (e ∙ ap (λ (d : Config). stage_under_way d w.state n) h.config)) r

pub no_step_made : (c : Config) (left : ℕ) (w : WorldView) (clock : Stepping) (n m : ℕ) → IsUnderWay c left w clock n → 0 < left → 1 ≤ m → m ≡ stage_under_way w.config w.state n → turn_step clock (next_for w.config w.state m) ≡ None → run w.config (steps_of w.log) ≡ Some w.state → IsSerial c w
no_step_made c left w clock n m h l z e t r =
    let e2 = e ∙ ap (λ (d : Config). stage_under_way d w.state n) h.config in
    let t2 = ap (λ (d : Config). turn_step clock (next_for d w.state m)) (sym h.config) ∙ t in
    whole_made c left w clock n h (stage_has left c w.state clock n m None l z e2 t2) r

-- A STEP

pub is_taken : (c : Config) (left : ℕ) (w : WorldView) (clock : Stepping) (n m : ℕ) (made : Step × Stepping) → IsUnderWay c left w clock n → 0 < left → 1 ≤ m → turn_step clock (next_for w.config w.state m) ≡ Some made → run w.config (steps_of w.log) ≡ Some w.state → IsTaken w.config w.state made
is_taken c left w clock n m made h l z t r =
    let counted = h.counted in
    let same = ap (λ (d : Config). d.max_steps) h.config in
    step_taken w.config (steps_of w.log) w.state clock m made r (omega (arith, counted, same, l)) h.ahead (of_turn w.config w.state clock m z ∙ t)

-- with room for it the World is the same, and takes it
pub taken_with_room : (w v : WorldView) (made : Step × Stepping) → SameWorld w v → IsTaken w.config w.state made → refusal v.config v.state made.0 ≡ None
taken_with_room w v made same k =
    ap (λ (d : Config). refusal d v.state made.0) same.config ∙ ap (λ (s : State). refusal w.config s made.0) same.state ∙ k.allowed

pub is_ok : {T : Type 0} (r : Result T StepRefusal) (found : Option StepRefusal) → found ≡ None → IfErr r (λ e. found ≡ Some e) → IsOk r
is_ok (Ok x) found none h = refl
is_ok (Err e) found none h = absurd (none_is_not e (sym none ∙ h))

pub goes_on : (c : Config) (left : ℕ) (w v u : WorldView) (clock after : Stepping) (n m : ℕ) (step : Step) → IsUnderWay c left w clock n → 0 < left → 1 ≤ m → m ≡ stage_under_way w.config w.state n → turn_step clock (next_for w.config w.state m) ≡ Some (step, after) → run w.config (steps_of w.log) ≡ Some w.state → SameWorld w v → Takes v u step 0 → IsUnderWay c (left - 1) u after m
goes_on c left w v u clock after n m step h l z e t r same takes =
    let k = is_taken c left w clock n m (step, after) h l z t r in
    let state : u.state ≡ stepped w.config w.state step = takes.state ∙ ap (λ (d : Config). stepped d v.state step) same.config ∙ ap (λ (s : State). stepped w.config s step) same.state in
    let here : stepped w.config w.state step ≡ stepped c w.state step = ap (λ (d : Config). stepped d w.state step) h.config in
    let e2 = e ∙ ap (λ (d : Config). stage_under_way d w.state n) h.config in
    let t2 = ap (λ (d : Config). turn_step clock (next_for d w.state m)) (sym h.config) ∙ t in
    let rest : List Step = serial_from (left - 1) c (stepped c w.state step) after m in
    let list : serial_from left c w.state clock n ≡ step ∷ rest = stage_has left c w.state clock n m (Some (step, after)) l z e2 t2 in
    let logged : Logged = record { step = step; driver = 0 } in
    let log : u.log ≡ w.log ++ logged ∷ [] = takes.log ∙ ap (λ (items : List Logged). items ++ logged ∷ []) same.log in
    let counted = k.counted in
    let before = h.counted in
    let now : u.state.steps ≡ w.state.steps + 1 = ap (λ (s : State). s.steps) state ∙ counted in
    record {
      config = takes.config ∙ same.config ∙ h.config;
      whole =
          ap (λ (items : List Logged). items ++ made_by 0 (serial_from (left - 1) c u.state after m)) log
          ∙ ap (λ (s : State). (w.log ++ logged ∷ []) ++ made_by 0 (serial_from (left - 1) c s after m)) (state ∙ here)
          ∙ append_assoc w.log (logged ∷ []) (made_by 0 rest)
          ∙ ap (λ (steps : List Step). w.log ++ made_by 0 steps) (sym list)
          ∙ h.whole;
      counted = omega (arith, now, before, l);
      ahead = subst (IsAhead after) (sym state) k.ahead;
    }

-- THE END

-- the state of an option, if it has one
abbrev held : Option State → State → State
held (Some s) other = s
held None other = other

pub has_ended : (c : Config) (w : WorldView) → IsSoundFile c → IsSerial c w → HasEnded c w.state
has_ended c w f h =
    let k = serial_whole c f in
    let same : k.state ≡ w.state = ap (λ (o : Option State). held o w.state) (sym k.runs ∙ h.runs) in
    subst (HasEnded c) same k.ends
