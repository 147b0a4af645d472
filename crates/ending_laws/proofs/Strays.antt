-- No step of the serial policy is astray.
use Rattle.std.proofs.Common.{◌≡◌, ◌⊎◌, inl, inr, ℕ, zero, suc, ◌+◌, ◌<◌, ◌≤◌, Bool, true, false, List, [], ◌∷◌, ◌++◌, length, get_or, Option, Some, None, refl, sym, ap, ◌∙◌, subst, arith}
use Rattle.std.proofs.lemmas.Bool.{true≢false}
use Rattle.std.specs.Option.{option_map}
use Rattle.std.specs.Prelude.{◌||◌, ◌==◌, not, if◌then◌else◌}
use Rattle.pipeline_lang.specs.declared.config.Config.{Config}
use Rattle.rss_machine.specs.Effect.{stepped}
use Rattle.rss_machine.specs.Run.{run, run_from}
use Rattle.rss_machine.specs.Serial.{Stepping, serial_clock, passed, step_with, ticked, turn_step, has_step, first_stage, stage_under_way, step_of_stage, followed_by, serial_from, serial, strays_from}
use Rattle.rss_machine.specs.State.{State, Stage, start, no_stage}
use Rattle.rss_machine.specs.Turns.{life_turn, next_for, same_kind, is_turn, is_some_turn, is_astray}
use Rattle.rss_machine.specs.declared.step.Step.{Step}
use Rattle.rss_machine.specs.declared.step.StepKind.{StepKind}
use Rattle.rss_machine.specs.declared.step.StepKind.TheVariants.{Act, Go, Lose, Again, Kill, Stub}
use Rattle.rss_machine.specs.declared.turn.Turn.{Turn}
use Rattle.rss_machine.specs.declared.turn.Turn.TheVariants as turn
use Rattle.world_laws.proofs.Looks.{some_is, none_is_not, get_or_past}
use Rattle.world_laws.proofs.Runs.{run_more}
use Rattle.world_laws.proofs.ToldLaws.{told_step, told_start}
use Rattle.world_laws.proofs.ToldRuns.{AllTold}
use Rattle.policy_laws.specs.Laws.{IsAhead, IsTaken}
use Rattle.policy_laws.proofs.Taken.{step_taken}
use Rattle.ending_laws.proofs.Stages.{step_long}

same : (n : ℕ) → (n == n) ≡ true
same n = grind (arith)

kind_same : (x : StepKind) → same_kind x x ≡ true
kind_same (Act n) = same n
kind_same (Go n) = same n
kind_same (Lose n) = same n
kind_same (Again n) = same n
kind_same (Kill n) = same n
kind_same (Stub n) = same n

-- the step that is made of a turn is that turn
made_turn : (clock : Stepping) (t : Turn) (made : Step × Stepping) → turn_step clock t ≡ Some made → is_turn made.0.kind t ≡ true
made_turn clock (turn.Step kind) made e = subst (λ (m : Step × Stepping). same_kind m.0.kind kind ≡ true) (some_is (step_with kind (ticked clock)) made e) (kind_same kind)
made_turn clock (turn.Past kind time) made e = by_clock (passed clock time) e
  where
    by_clock : (o : Option Stepping) → option_map (step_with kind) o ≡ Some made → same_kind made.0.kind kind ≡ true
    by_clock None e = absurd (none_is_not made e)
    by_clock (Some k) e = subst (λ (m : Step × Stepping). same_kind m.0.kind kind ≡ true) (some_is (step_with kind k) made e) (kind_same kind)
made_turn clock (turn.Blocked a) made e = absurd (none_is_not made e)
made_turn clock turn.Unborn made e = absurd (none_is_not made e)
made_turn clock turn.Over made e = absurd (none_is_not made e)

-- the turn of one of these many stages is one of their turns
or_true : (a : Bool) → (a || true) ≡ true
or_true true = refl
or_true false = refl

this_or_later : (n m : ℕ) → n ≤ m → (n ≡ m) ⊎ (n + 1 ≤ m)
this_or_later n m a = grind (arith, a)

some_turn : (c : Config) (s : State) (x : StepKind) (m : ℕ) → is_turn x (next_for c s m) ≡ true → (n left : ℕ) → n ≤ m → m < n + left → is_some_turn c s x n left ≡ true
some_turn c s x m e n zero a b = absurd (omega (arith, a, b))
some_turn c s x m e n (suc left) a b = by_place (this_or_later n m a) (λ l. some_turn c s x m e (n + 1) left l (omega (arith, b)))
  where
    by_place : (n ≡ m) ⊎ (n + 1 ≤ m) → (n + 1 ≤ m → is_some_turn c s x (n + 1) left ≡ true) → (is_turn x (next_for c s n) || is_some_turn c s x (n + 1) left) ≡ true
    by_place (inl q) later = ap (λ (t : Bool). t || is_some_turn c s x (n + 1) left) (subst (λ (i : ℕ). is_turn x (next_for c s i) ≡ true) (sym q) e)
    by_place (inr l) later = ap (λ (t : Bool). is_turn x (next_for c s n) || t) (later l) ∙ or_true (is_turn x (next_for c s n))

-- a step of a stage that is there is not astray
not_astray : (c : Config) (s : State) (clock : Stepping) (m : ℕ) (made : Step × Stepping) → m ≤ length s.stages → step_of_stage c s clock m ≡ Some made → is_astray c s made.0.kind ≡ false
not_astray c s clock zero made l e = absurd (none_is_not made e)
not_astray c s clock (suc m) made l e =
    ap not (some_turn c s made.0.kind (suc m) (made_turn clock (next_for c s (suc m)) made e) 1 (length s.stages) (omega arith) (omega (arith, l)))

-- the stage under way is there
found_there : (c : Config) (s : State) (n left : ℕ) → 1 ≤ n → first_stage c s n left < n + left
found_there c s n zero z = omega (arith, z)
found_there c s n (suc left) z = by_turn (has_step (next_for c s n)) (found_there c s (n + 1) left (omega arith))
  where
    by_turn : (b : Bool) → first_stage c s (n + 1) left < n + 1 + left → (if b then n else first_stage c s (n + 1) left) < n + suc left
    by_turn true l = omega arith
    by_turn false l = omega (arith, l)

way_there : (c : Config) (s : State) (n : ℕ) → (has_step (next_for c s n) ≡ true → n ≤ length s.stages) → stage_under_way c s n ≤ length s.stages
way_there c s n h = by_turn (has_step (next_for c s n)) refl
  where
    by_turn : (b : Bool) → has_step (next_for c s n) ≡ b → (if b then n else first_stage c s 1 (length s.stages)) ≤ length s.stages
    by_turn true e = h e
    by_turn false e = let l = found_there c s 1 (length s.stages) (omega arith) in omega (arith, l)

-- what is counted of a step that is not astray
one_straight : (c : Config) (s : State) (step : Step) (steps : List Step) → is_astray c s step.kind ≡ false → strays_from c (stepped c s step) steps ≡ 0 → strays_from c s (step ∷ steps) ≡ 0
unfolding strays_from
one_straight c s step steps a e = ap (λ (b : Bool). if b then suc (strays_from c (stepped c s step) steps) else strays_from c (stepped c s step) steps) a ∙ e

none_straight : (c : Config) (s : State) → strays_from c s [] ≡ 0
unfolding strays_from
none_straight c s = refl

straight_from : (left : ℕ) (c : Config) (steps : List Step) (s : State) (clock : Stepping) (n : ℕ) → run c steps ≡ Some s → s.steps + left ≤ c.max_steps → IsAhead clock s → AllTold s → (has_step (next_for c s n) ≡ true → n ≤ length s.stages) → strays_from c s (serial_from left c s clock n) ≡ 0
unfolding serial_from
straight_from zero c steps s clock n e r a h l = none_straight c s
straight_from (suc left) c steps s clock n e r a h l =
    let m = stage_under_way c s n in
    by_step (step_of_stage c s clock m) refl
    (λ made k. let q = k.counted in
    straight_from left c (steps ++ made.0 ∷ []) (stepped c s made.0) made.1 m (run_more c steps s made.0 e k.allowed) (omega (arith, q, r)) k.ahead (told_step c s made.0 k.allowed h)
    (λ b. subst (λ (i : ℕ). m ≤ i) (sym (step_long c s made.0 k.allowed h)) (way_there c s n l)))
  where
    m : ℕ
    m = stage_under_way c s n

    rest : Step × Stepping → List Step
    rest made = serial_from left c (stepped c s made.0) made.1 m

    by_step : (o : Option (Step × Stepping)) → step_of_stage c s clock m ≡ o → ((made : Step × Stepping) → IsTaken c s made → strays_from c (stepped c s made.0) (rest made) ≡ 0) → strays_from c s (followed_by o rest) ≡ 0
    by_step None q later = none_straight c s
    by_step (Some made) q later =
        let k = step_taken c steps s clock m made e (omega (arith, r)) a q in
        one_straight c s made.0 (rest made) (not_astray c s clock m made (way_there c s n l) q) (later made k)

-- at the beginning a stage that has a step is there
first_there : (c : Config) → has_step (next_for c (start c) 1) ≡ true → 1 ≤ length (start c).stages
first_there c e = by_place (get_or_past (start c).stages 0 no_stage)
  where
    by_place : (0 < length (start c).stages) ⊎ (get_or (start c).stages 0 no_stage ≡ no_stage) → 1 ≤ length (start c).stages
    by_place (inl l) = l
    by_place (inr q) = absurd (true≢false (sym e ∙ ap (λ (x : Stage). has_step (life_turn c (start c) 1 x.life)) q))

pub serial_straight : (c : Config) → strays_from c (start c) (serial c) ≡ 0
unfolding run run_from
serial_straight c = straight_from c.max_steps c [] (start c) serial_clock 1 refl (omega arith) (omega arith) (told_start c) (first_there c)
