-- Each step of the serial policy is on the grammar of step text.
use Rattle.std.proofs.Common.{◌≡◌, ◌⊎◌, inl, inr, ℕ, zero, suc, ◌+◌, ◌-◌, ◌*◌, ◌<◌, ◌≤◌, ◌^◌, max, Bool, true, false, List, [], ◌∷◌, ◌++◌, length, get_or, All, Option, Some, None, refl, sym, ap, ◌∙◌, subst, arith}
use Rattle.std.proofs.lemmas.Bool.{true≢false}
use Rattle.std.proofs.lemmas.Bool.Decides.{nat_tests}
use Rattle.std.proofs.lemmas.List.Elements.{All-cons, All-nil}
use Rattle.std.specs.Option.{option_map}
use Rattle.std.specs.Prelude.{if◌then◌else◌, nat_lt, ◌&&◌}
use Rattle.truetime.specs.Reading.{Reading, IsReading}
use Rattle.pipeline_lang.specs.declared.config.Config.{Config}
use Rattle.rss_wire.specs.Messages.{is_sent, message_at}
use Rattle.rss_wire.specs.Net.{fate_refusal, repeat_refusal}
use Rattle.rss_machine.specs.Effect.{stepped}
use Rattle.rss_machine.specs.Enabling.{act_enabling, live_enabling, stub_enabling, stub_enabling_of, is_enabled_at}
use Rattle.rss_machine.specs.declared.turn.Enabling.TheVariants.{Never}
use Rattle.rss_machine.specs.Refusal.{unless_enabled, kind_refusal, refusal}
use Rattle.rss_machine.specs.Run.{run, run_from}
use Rattle.rss_machine.specs.Serial.{Stepping, serial_clock, reading_of, can_read_at, ticked, moved_to, passed, step_with, turn_step, stage_under_way, step_of_stage, followed_by, serial_from, serial}
use Rattle.rss_machine.specs.Standing.{is_live, is_over}
use Rattle.rss_machine.specs.State.{State, Stage, start, stage_at, no_stage}
use Rattle.rss_machine.specs.Turns.{next_for}
use Rattle.rss_machine.specs.declared.state.Life.{Life}
use Rattle.rss_machine.specs.declared.state.Life.TheVariants.{Unborn, Live, Over}
use Rattle.rss_machine.specs.declared.step.Step.{Step}
use Rattle.rss_machine.specs.declared.step.StepKind.{StepKind}
use Rattle.rss_machine.specs.declared.step.StepKind.TheVariants.{Act, Go, Lose, Again, Kill, Stub}
use Rattle.rss_machine.specs.declared.step.StepRefusal.{StepRefusal}
use Rattle.rss_machine.specs.declared.step.StepRefusal.TheVariants as cause
use Rattle.rss_machine.specs.declared.turn.Turn.{Turn}
use Rattle.rss_machine.specs.declared.turn.Turn.TheVariants as turn
use Rattle.step_text.specs.Spelling.{IsKind, IsStep}
use Rattle.world_laws.specs.Numbered.{is_numbered, are_numbered}
use Rattle.world_laws.specs.Shapes.{IsSoundFile}
use Rattle.world_laws.specs.Sizes.{FitsSizes}
use Rattle.world_laws.proofs.Looks.{some_is, none_is_not, some_is_not, get_or_past}
use Rattle.world_laws.proofs.Runs.{passes, run_more}
use Rattle.world_laws.proofs.StoreMoves.{IsSent, by_sent}
use Rattle.count_laws.proofs.Runs.{sizes_run}
use Rattle.policy_laws.specs.Laws.{IsAhead, IsTaken}
use Rattle.policy_laws.proofs.Taken.{step_taken}
use Rattle.policy_laws.proofs.Proper.{serial_proper}

-- STAGES AND MESSAGES

-- a stage that lives, or has a stub, is one of the file
is_there : (s : State) (n : ℕ) → (stage_at s n ≡ no_stage → ⊥) → n ≤ length s.stages
is_there s n h = by_place (get_or_past s.stages (n - 1) no_stage)
  where
    by_place : (n - 1 < length s.stages) ⊎ (stage_at s n ≡ no_stage) → n ≤ length s.stages
    by_place (inl l) = omega (arith, l)
    by_place (inr e) = absurd (h e)

enabled_lives : (c : Config) (s : State) (n : ℕ) (at : Reading) → unless_enabled (is_enabled_at (act_enabling c s n) at.earliest) ≡ None → stage_at s n ≡ no_stage → ⊥
enabled_lives c s n at e absent = some_is_not _ (subst (λ (stage : Stage). unless_enabled (is_enabled_at (if is_live stage.life then live_enabling c s n stage.owner else Never) at.earliest) ≡ None) absent e)

live_there : (s : State) (n : ℕ) → unless_enabled (is_live (stage_at s n).life) ≡ None → stage_at s n ≡ no_stage → ⊥
live_there s n e absent = some_is_not _ (subst (λ (stage : Stage). unless_enabled (is_live stage.life) ≡ None) absent e)

stub_there : (s : State) (n : ℕ) (at : Reading) → unless_enabled (is_enabled_at (stub_enabling s n) at.earliest) ≡ None → stage_at s n ≡ no_stage → ⊥
stub_there s n at e absent = some_is_not _ (subst (λ (stage : Stage). unless_enabled (is_enabled_at (stub_enabling_of s stage.stub) at.earliest) ≡ None) absent e)

-- behind a first test
behind : (x : StepRefusal) (b : Bool) (other : Option StepRefusal) → (if b then Some x else other) ≡ None → other ≡ None
behind x true other e = absurd (some_is_not _ e)
behind x false other e = e

within : (c : Config) (s : State) (n : ℕ) → IsSoundFile c → FitsSizes c s → nat_lt 0 n ≡ true → (stage_at s n ≡ no_stage → ⊥) → (1 ≤ n) × (n ≤ 16)
within c s n f z k h =
    let l = is_there s n h in let b = f.within.stages in let e = z.stages in
    (grind (arith, nat_tests, k), omega (arith, l, b, e))

sent : (c : Config) (s : State) (m : ℕ) → IsSoundFile c → FitsSizes c s → IsSent s m → (1 ≤ m) × (m < 2 ^ 32)
sent c s m f z h =
    let n = z.messages in let k = z.steps in let b = f.within.steps in let i = h.numbered in let j = h.sent in
    (omega (arith, i), omega (arith, j, n, k, b))

kind_is : (c : Config) (s : State) (at : Reading) (kind : StepKind) → IsSoundFile c → FitsSizes c s → is_numbered kind ≡ true → kind_refusal c s at kind ≡ None → IsKind kind
unfolding IsKind
kind_is c s at (Act n) f z k e = within c s n f z k (enabled_lives c s n at (behind cause.StageOver (is_over (stage_at s n).life) _ e))
kind_is c s at (Kill n) f z k e = within c s n f z k (live_there s n (behind cause.StageOver (is_over (stage_at s n).life) _ e))
kind_is c s at (Stub n) f z k e = within c s n f z k (stub_there s n at e)
kind_is c s at (Go m) f z k e = sent c s m f z (by_sent s m (is_sent s.net m) refl (fate_refusal (message_at s.net m).fate) e)
kind_is c s at (Lose m) f z k e = sent c s m f z (by_sent s m (is_sent s.net m) refl (fate_refusal (message_at s.net m).fate) e)
kind_is c s at (Again m) f z k e = sent c s m f z (by_sent s m (is_sent s.net m) refl (repeat_refusal (message_at s.net m).fate) e)

-- READINGS

-- a clock that can read at its time
abbrev CanRead : Stepping → Type 0
CanRead clock = clock.now + clock.half < 2 ^ 62

reads : (kind : StepKind) (clock : Stepping) → CanRead clock → IsReading (step_with kind clock).0.at
reads kind clock h = (omega arith, h)

can_read : (clock : Stepping) (time : ℕ) → can_read_at clock time ≡ true → time + clock.half < 2 ^ 62
can_read clock time e = grind (arith, nat_tests, e)

ticked_reads : (clock : Stepping) → CanRead clock → CanRead (ticked clock)
ticked_reads clock h = by_limit (can_read_at clock (clock.now + clock.tick)) refl
  where
    by_limit : (b : Bool) → can_read_at clock (clock.now + clock.tick) ≡ b → CanRead (if b then record clock { now = clock.now + clock.tick } else clock)
    by_limit true e = can_read clock (clock.now + clock.tick) e
    by_limit false e = h

moved_reads : (clock x : Stepping) (time : ℕ) → moved_to clock time ≡ Some x → CanRead x
moved_reads clock x time e = by_limit (can_read_at clock time) refl e
  where
    by_limit : (b : Bool) → can_read_at clock time ≡ b → (if b then Some (record clock { now = time }) else None) ≡ Some x → CanRead x
    by_limit true t e = subst CanRead (some_is (record clock { now = time }) x e) (can_read clock time t)
    by_limit false t e = absurd (none_is_not x e)

-- what is known of a step that is made, and of the clock behind it
record ReadsOn (made : Step × Stepping) : Type 0 where
  reading : IsReading made.0.at
  clock : CanRead made.1

made_reads : (kind : StepKind) (clock : Stepping) → CanRead clock → ReadsOn (step_with kind clock)
made_reads kind clock h = record { reading = reads kind clock h; clock = h }

turn_reads : (clock : Stepping) (t : Turn) (made : Step × Stepping) → CanRead clock → turn_step clock t ≡ Some made → ReadsOn made
turn_reads clock (turn.Step kind) made h e = subst ReadsOn (some_is (step_with kind (ticked clock)) made e) (made_reads kind (ticked clock) (ticked_reads clock h))
turn_reads clock (turn.Past kind time) made h e = by_clock (passed clock time) refl e
  where
    by_clock : (o : Option Stepping) → passed clock time ≡ o → option_map (step_with kind) o ≡ Some made → ReadsOn made
    by_clock None p e = absurd (none_is_not made e)
    by_clock (Some x) p e = subst ReadsOn (some_is (step_with kind x) made e) (made_reads kind x (moved_reads clock x (max (clock.now + clock.tick) (time + 1 + clock.half)) p))
turn_reads clock (turn.Blocked b) made h e = absurd (none_is_not made e)
turn_reads clock turn.Unborn made h e = absurd (none_is_not made e)
turn_reads clock turn.Over made h e = absurd (none_is_not made e)

step_reads : (c : Config) (s : State) (clock : Stepping) (n : ℕ) (made : Step × Stepping) → CanRead clock → step_of_stage c s clock n ≡ Some made → ReadsOn made
step_reads c s clock zero made h e = absurd (none_is_not made e)
step_reads c s clock (suc n) made h e = turn_reads clock (next_for c s (suc n)) made h e

-- THE POLICY

both : (a b : Bool) → (a && b) ≡ true → (a ≡ true) × (b ≡ true)
both true true e = (refl, refl)
both true false e = absurd (true≢false (sym e))
both false b e = absurd (true≢false (sym e))

is_step : (c : Config) (steps : List Step) (s : State) (clock : Stepping) (n : ℕ) (made : Step × Stepping) → IsSoundFile c → run c steps ≡ Some s → CanRead clock → step_of_stage c s clock n ≡ Some made → IsTaken c s made → is_numbered made.0.kind ≡ true → IsStep made.0
is_step c steps s clock n made f e h k t p = record {
  kind = kind_is c s made.0.at made.0.kind f (sizes_run c steps s f e) p (passes c s made.0 t.allowed).kind;
  at = (step_reads c s clock n made h k).reading;
}

grammar_from : (left : ℕ) (c : Config) (steps : List Step) (s : State) (clock : Stepping) (n : ℕ) → IsSoundFile c → run c steps ≡ Some s → s.steps + left ≤ c.max_steps → IsAhead clock s → CanRead clock → are_numbered (serial_from left c s clock n) ≡ true → All IsStep (serial_from left c s clock n)
unfolding serial_from
grammar_from zero c steps s clock n f e r a h p = All-nil IsStep
grammar_from (suc left) c steps s clock n f e r a h p =
    let m = stage_under_way c s n in
    by_step (step_of_stage c s clock m) refl p
    (λ made t g p. let q = t.counted in
    grammar_from left c (steps ++ made.0 ∷ []) (stepped c s made.0) made.1 m f (run_more c steps s made.0 e t.allowed) (omega (arith, q, r)) t.ahead g p)
  where
    m : ℕ
    m = stage_under_way c s n

    rest : Step × Stepping → List Step
    rest made = serial_from left c (stepped c s made.0) made.1 m

    by_step : (o : Option (Step × Stepping)) → step_of_stage c s clock m ≡ o → are_numbered (followed_by o rest) ≡ true → ((made : Step × Stepping) → IsTaken c s made → CanRead made.1 → are_numbered (rest made) ≡ true → All IsStep (rest made)) → All IsStep (followed_by o rest)
    by_step None k p later = All-nil IsStep
    by_step (Some made) k p later =
        let t = step_taken c steps s clock m made e (omega (arith, r)) a k in
        let numbered = both (is_numbered made.0.kind) (are_numbered (rest made)) p in
        All-cons IsStep made.0 (rest made) (is_step c steps s clock m made f e h k t numbered.0) (later made t (step_reads c s clock m made h k).clock numbered.1)

pub serial_grammar : (c : Config) → IsSoundFile c → All IsStep (serial c)
unfolding run run_from
serial_grammar c f = grammar_from c.max_steps c [] (start c) serial_clock 1 f refl (omega arith) (omega arith) (omega arith) (serial_proper c).numbered
