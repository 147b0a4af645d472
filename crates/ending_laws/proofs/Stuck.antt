-- Where no stage has a step, nothing is to come: so the steps of the serial policy never end unfinished.
use Rattle.std.proofs.Common.{◌≡◌, ◌⊎◌, inl, inr, ℕ, zero, suc, ◌+◌, ◌<◌, ◌≤◌, Bool, true, false, List, [], ◌∷◌, length, Option, Some, None, refl, sym, ap, ◌∙◌, subst, arith}
use Rattle.std.proofs.lemmas.Bool.{true≢false}
use Rattle.std.proofs.lemmas.Bool.Decides.{nat_tests}
use Rattle.std.specs.List.{list_any}
use Rattle.std.specs.Prelude.{◌&&◌, ◌||◌, ◌==◌, not, nat_le, if◌then◌else◌}
use Rattle.pipeline_lang.specs.declared.config.Config.{Config}
use Rattle.rss_wire.specs.Messages.{message_at, is_pending, pending_count}
use Rattle.rss_wire.specs.declared.envelope.Envelope.{Envelope}
use Rattle.rss_wire.specs.declared.message.Message.{Message}
use Rattle.rss_machine.specs.Enabling.{live_enabling, act_enabling, stub_enabling_of, stub_enabling, is_possible}
use Rattle.rss_machine.specs.Endings.{all_settled, any_possible, is_stuck, ending_of}
use Rattle.rss_machine.specs.Run.{run}
use Rattle.rss_machine.specs.Serial.{has_step, serial}
use Rattle.rss_machine.specs.Standing.{is_live, is_over, state_of_stage, is_hurt}
use Rattle.rss_machine.specs.State.{State, Stage, start, stage_at}
use Rattle.rss_machine.specs.Turns.{is_due, due_message, message_turn, kills_at, turn_of, live_turn, life_turn, turn_after, next_for}
use Rattle.rss_machine.specs.declared.ending.Ending.TheVariants as ending
use Rattle.rss_machine.specs.declared.state.Life.{Life}
use Rattle.rss_machine.specs.declared.state.Life.TheVariants.{Unborn, Live, Over}
use Rattle.rss_machine.specs.declared.step.StepKind.TheVariants.{Act, Kill, Stub}
use Rattle.rss_machine.specs.declared.turn.Enabling.{Enabling}
use Rattle.rss_machine.specs.declared.turn.Enabling.TheVariants.{Never, Always, After}
use Rattle.rss_machine.specs.declared.turn.Turn.TheVariants as turn
use Rattle.world_laws.specs.Shapes.{IsSoundFile}
use Rattle.world_laws.specs.Traffic.{StubsFit}
use Rattle.world_laws.proofs.Looks.{some_is}
use Rattle.ready_laws.proofs.Stubs.{stubs_run}
use Rattle.policy_laws.specs.Laws.{HasEnded}
use Rattle.policy_laws.proofs.Proper.{serial_proper}
use Rattle.policy_laws.proofs.Whole.{serial_whole}
use Rattle.ending_laws.proofs.RangedRuns.{KeepsStages, stages_run}

-- NO MESSAGE

step_of_message : (c : Config) (e : Envelope) → has_step (message_turn c e) ≡ true
step_of_message c e = refl

none_due : (c : Config) (s : State) (n : ℕ) (o : Option Envelope) → has_step (turn_after c s n o) ≡ false → o ≡ None
none_due c s n None f = refl
none_due c s n (Some e) f = absurd (true≢false (sym (step_of_message c e) ∙ f))

some_not_none : {A : Type 0} (a : A) → Some a ≡ None → ⊥
some_not_none a e = cc

same : (n : ℕ) → (n == n) ≡ true
same n = grind (arith)

not_due : (n : ℕ) (net : List Message) → due_message n net ≡ None → (i : ℕ) → i < length net → (message_at net i).envelope.stage ≡ n → is_pending (message_at net i).fate ≡ false
not_due n [] e i l q = absurd (omega (arith, l))
not_due n (m ∷ net) e i l q = by_due (is_due n m) refl e (not_due n net) i l q
  where
    first : is_due n m ≡ false → m.envelope.stage ≡ n → is_pending m.fate ≡ false
    first d q = ap (λ (b : Bool). b && is_pending m.fate) (sym (ap (λ (k : ℕ). k == n) q ∙ same n)) ∙ d

    by_due : (b : Bool) → is_due n m ≡ b → (if b then Some m.envelope else due_message n net) ≡ None → (due_message n net ≡ None → (j : ℕ) → j < length net → (message_at net j).envelope.stage ≡ n → is_pending (message_at net j).fate ≡ false) → (i : ℕ) → i < length (m ∷ net) → (message_at (m ∷ net) i).envelope.stage ≡ n → is_pending (message_at (m ∷ net) i).fate ≡ false
    by_due true d e later i l q = absurd (some_not_none m.envelope e)
    by_due false d e later zero l q = first d q
    by_due false d e later (suc i) l q = later e i (omega (arith, l)) q

none_pending : (net : List Message) → ((i : ℕ) → i < length net → is_pending (message_at net i).fate ≡ false) → pending_count net ≡ 0
none_pending [] f = refl
none_pending (m ∷ net) f = ap (λ (b : Bool). if b then suc (pending_count net) else pending_count net) (f 0 (omega arith)) ∙ none_pending net (λ i l. f (suc i) (omega (arith, l)))

-- NOTHING THAT IS ENABLED

never_possible : (x : Enabling) → x ≡ Never → is_possible x ≡ false
never_possible x e = ap is_possible e

live_never : (c : Config) (s : State) (n : ℕ) (x : Enabling) → has_step (live_turn c s n x) ≡ false → x ≡ Never
live_never c s n Never f = refl
live_never c s n Always f = absurd (true≢false f)
live_never c s n (After time) f = absurd (by_file (kills_at c n ((stage_at s n).acts + 1)) f)
  where
    by_file : (b : Bool) → has_step (if b then turn.Step (Kill n) else turn.Past (Act n) time) ≡ false → ⊥
    by_file true f = true≢false f
    by_file false f = true≢false f

settle_never : (n : ℕ) (x : Enabling) → has_step (turn_of (Stub n) turn.Over x) ≡ false → x ≡ Never
settle_never n Never f = refl
settle_never n Always f = absurd (true≢false f)
settle_never n (After time) f = absurd (true≢false f)

-- only a stage that lives acts, and only one that is over has a stub
act_never : (c : Config) (s : State) (n : ℕ) (l : Life) → (stage_at s n).life ≡ l → has_step (life_turn c s n l) ≡ false → act_enabling c s n ≡ Never
act_never c s n Unborn e f = ap (λ (x : Life). if is_live x then live_enabling c s n (stage_at s n).owner else Never) e
act_never c s n Live e f = live_never c s n (act_enabling c s n) f
act_never c s n (Over how) e f = ap (λ (x : Life). if is_live x then live_enabling c s n (stage_at s n).owner else Never) e

no_stub : (s : State) (n : ℕ) → StubsFit s → is_over (stage_at s n).life ≡ false → stub_enabling s n ≡ Never
no_stub s n h f = by_stub (stage_at s n).stub refl
  where
    by_stub : (o : Option ℕ) → (stage_at s n).stub ≡ o → stub_enabling_of s o ≡ Never
    by_stub None e = refl
    by_stub (Some o) e = absurd (true≢false (sym (h.dead n o e) ∙ f))

stub_never : (c : Config) (s : State) (n : ℕ) (l : Life) → StubsFit s → (stage_at s n).life ≡ l → has_step (life_turn c s n l) ≡ false → stub_enabling s n ≡ Never
stub_never c s n Unborn h e f = no_stub s n h (ap is_over e)
stub_never c s n Live h e f = no_stub s n h (ap is_over e)
stub_never c s n (Over how) h e f = settle_never n (stub_enabling s n) f

-- A STAGE WITHOUT A STEP

record IsStill (c : Config) (s : State) (n : ℕ) : Type 0 where
  due : due_message n s.net ≡ None
  act : act_enabling c s n ≡ Never
  stub : stub_enabling s n ≡ Never

still : (c : Config) (s : State) (n : ℕ) → StubsFit s → has_step (next_for c s n) ≡ false → IsStill c s n
still c s n h f =
    let d = none_due c s n (due_message n s.net) f in
    let g : has_step (life_turn c s n (stage_at s n).life) ≡ false = ap (λ (o : Option Envelope). has_step (turn_after c s n o)) (sym d) ∙ f in
    record { due = d; act = act_never c s n (stage_at s n).life refl g; stub = stub_never c s n (stage_at s n).life h refl g }

abbrev AreStill : Config → State → Type 0
AreStill c s = (n : ℕ) → 1 ≤ n → n ≤ length s.stages → IsStill c s n

none_possible : (c : Config) (s : State) (n left : ℕ) → ((k : ℕ) → n ≤ k → k < n + left → IsStill c s k) → any_possible c s n left ≡ false
none_possible c s n zero f = refl
none_possible c s n (suc left) f =
    let k = f n (omega arith) (omega arith) in
    ap (λ (x : Enabling). is_possible x || is_possible (stub_enabling s n) || any_possible c s (n + 1) left) k.act
    ∙ ap (λ (x : Enabling). is_possible x || any_possible c s (n + 1) left) k.stub
    ∙ none_possible c s (n + 1) left (λ k a b. f k (omega (arith, a)) (omega (arith, b)))

above : (i : ℕ) → (i ≡ 0) ⊎ (1 ≤ i)
above zero = inl refl
above (suc i) = inr (omega arith)

no_message : (c : Config) (s : State) (many : ℕ) → KeepsStages many s → AreStill c s → (i : ℕ) → i < length s.net → is_pending (message_at s.net i).fate ≡ false
no_message c s many k f i l = by_place (above i)
  where
    by_place : (i ≡ 0) ⊎ (1 ≤ i) → is_pending (message_at s.net i).fate ≡ false
    by_place (inl e) = ap (λ (j : ℕ). is_pending (message_at s.net j).fate) e ∙ k.ranged.first
    by_place (inr z) =
        let p = (k.ranged.messages i z l).stage in
        let last = p.1 in
        let long = k.long in
        not_due (message_at s.net i).envelope.stage s.net (f (message_at s.net i).envelope.stage p.0 (omega (arith, last, long))).due i l refl

stuck : (c : Config) (s : State) (many : ℕ) → KeepsStages many s → AreStill c s → is_stuck c s ≡ true
stuck c s many k f =
    ap (λ (n : ℕ). (n == 0) && not (any_possible c s 1 (length s.stages))) (none_pending s.net (no_message c s many k f))
    ∙ ap not (none_possible c s 1 (length s.stages) (λ n a b. f n a (omega (arith, b))))

-- THE ENDING

not_unfinished : (settled hurt full still : Bool) → (full ≡ true) ⊎ (still ≡ true) → (if settled then (if hurt then ending.Hurt else ending.Done) else (if full then ending.Limit else (if still then ending.Stuck else ending.Unfinished))) ≡ ending.Unfinished → ⊥
not_unfinished true true full still h e = hurt e
  where
    hurt : ending.Hurt ≡ ending.Unfinished → ⊥
    hurt e = cc
not_unfinished true false full still h e = done e
  where
    done : ending.Done ≡ ending.Unfinished → ⊥
    done e = cc
not_unfinished false hurt true still h e = limit e
  where
    limit : ending.Limit ≡ ending.Unfinished → ⊥
    limit e = cc
not_unfinished false hurt false true h e = stuck e
  where
    stuck : ending.Stuck ≡ ending.Unfinished → ⊥
    stuck e = cc
not_unfinished false hurt false false (inl f) e = true≢false (sym f)
not_unfinished false hurt false false (inr f) e = true≢false (sym f)

ends : (c : Config) (s : State) → (nat_le c.max_steps s.steps ≡ true) ⊎ (is_stuck c s ≡ true) → ending_of c s ≡ ending.Unfinished → ⊥
unfolding ending_of
ends c s h e = not_unfinished (all_settled c s 1 (length s.stages)) (list_any (λ (stage : Stage). is_hurt (state_of_stage s stage)) s.stages) (nat_le c.max_steps s.steps) (is_stuck c s) h e

full : (steps most : ℕ) → steps ≡ most → nat_le most steps ≡ true
full steps most e = grind (arith, nat_tests, e)

pub ends_whole : (c : Config) → IsSoundFile c → (s : State) → run c (serial c) ≡ Some s → HasEnded c s → ending_of c s ≡ ending.Unfinished → ⊥
ends_whole c f s e (inl q) = ends c s (inl (full s.steps c.max_steps q))
ends_whole c f s e (inr none) =
    let z = (serial_proper c).numbered in
    let h = stubs_run c (serial c) s f z e in
    ends c s (inr (stuck c s (length (start c).stages) (stages_run c (serial c) s z e) (λ n a b. still c s n h (none n a b))))

pub never_unfinished : (c : Config) → IsSoundFile c → (s : State) → run c (serial c) ≡ Some s → ending_of c s ≡ ending.Unfinished → ⊥
never_unfinished c f s e =
    let w = serial_whole c f in
    ends_whole c f s e (subst (HasEnded c) (some_is w.state s (sym w.runs ∙ e)) w.ends)
