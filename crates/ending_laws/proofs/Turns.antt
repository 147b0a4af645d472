-- What turns are: no loss and no kill where the file orders none; and a step that is not astray is some stage's turn.
use Rattle.std.proofs.Common.{◌≡◌, ℕ, zero, suc, ◌+◌, Bool, true, false, List, ◌∷◌, length, Option, Some, None, refl, sym, ap, ◌∙◌, arith}
use Rattle.std.proofs.lemmas.Bool.{true≢false}
use Rattle.std.specs.List.{list_any}
use Rattle.std.specs.Prelude.{⊤, ◌&&◌, ◌||◌, ◌==◌, not, if◌then◌else◌}
use Rattle.pipeline_lang.specs.declared.config.Config.{Config}
use Rattle.pipeline_lang.specs.declared.config.KillAt.{KillAt}
use Rattle.pipeline_lang.specs.declared.config.Withhold.{Withhold}
use Rattle.rss_wire.specs.declared.envelope.Envelope.{Envelope}
use Rattle.rss_tables.specs.declared.endings.Await.{Await}
use Rattle.rss_machine.specs.Effect.{stepped}
use Rattle.rss_machine.specs.Enabling.{act_enabling, stub_enabling}
use Rattle.rss_machine.specs.Endings.{awaits_of}
use Rattle.rss_machine.specs.Serial.{strays_from}
use Rattle.rss_machine.specs.State.{State, stage_at}
use Rattle.rss_machine.specs.Turns.{covers, is_withheld, due_message, message_turn, kills_at, turn_of, blocked_on, live_turn, life_turn, turn_after, next_for, same_kind, is_turn, is_some_turn, is_astray}
use Rattle.rss_machine.specs.declared.state.Life.{Life}
use Rattle.rss_machine.specs.declared.state.Life.TheVariants.{Unborn, Live, Over}
use Rattle.rss_machine.specs.declared.step.Step.{Step}
use Rattle.rss_machine.specs.declared.step.StepKind.{StepKind}
use Rattle.rss_machine.specs.declared.step.StepKind.TheVariants.{Act, Go, Lose, Again, Kill, Stub}
use Rattle.rss_machine.specs.declared.turn.Enabling.{Enabling}
use Rattle.rss_machine.specs.declared.turn.Enabling.TheVariants.{Never, Always, After}
use Rattle.rss_machine.specs.declared.turn.Turn.{Turn}
use Rattle.rss_machine.specs.declared.turn.Turn.TheVariants as turn
use Rattle.ending_laws.specs.Laws.{IsCalm}

-- whether a step loses no message and kills no stage
abbrev pub is_mild : StepKind → Bool
is_mild (Act n) = true
is_mild (Go m) = true
is_mild (Lose m) = false
is_mild (Again m) = true
is_mild (Kill n) = false
is_mild (Stub n) = true

-- a turn's step is mild
abbrev pub IsMild : Turn → Type 0
IsMild (turn.Step kind) = is_mild kind ≡ true
IsMild (turn.Past kind time) = is_mild kind ≡ true
IsMild (turn.Blocked a) = ⊤
IsMild turn.Unborn = ⊤
IsMild turn.Over = ⊤

-- A FILE THAT ORDERS NOTHING

and_false : (b : Bool) → (b && false) ≡ false
and_false true = refl
and_false false = refl

not_withheld : (c : Config) (e : Envelope) → IsCalm c → is_withheld c e ≡ false
not_withheld c e h = ap (λ (ws : List Withhold). e.request && list_any (covers e) ws) h.withholds ∙ and_false e.request

not_killed : (c : Config) (n act : ℕ) → IsCalm c → kills_at c n act ≡ false
not_killed c n act h = ap (λ (ks : List KillAt). list_any (λ (k : KillAt). k.stage == n && k.act == act) ks) h.kills

message_mild : (c : Config) (e : Envelope) → IsCalm c → IsMild (message_turn c e)
message_mild c e h = ap (λ (b : Bool). is_mild (if b then Lose e.number else Go e.number)) (not_withheld c e h)

blocked_mild : (o : Option Await) → IsMild (blocked_on o)
blocked_mild None = tt
blocked_mild (Some a) = tt

live_mild : (c : Config) (s : State) (n : ℕ) (x : Enabling) → IsCalm c → IsMild (live_turn c s n x)
live_mild c s n Never h = blocked_mild (awaits_of c s n (stage_at s n).owner)
live_mild c s n Always h = ap (λ (b : Bool). is_mild (if b then Kill n else Act n)) (not_killed c n ((stage_at s n).acts + 1) h)
live_mild c s n (After time) h = by_file (kills_at c n ((stage_at s n).acts + 1)) (not_killed c n ((stage_at s n).acts + 1) h)
  where
    by_file : (b : Bool) → b ≡ false → IsMild (if b then turn.Step (Kill n) else turn.Past (Act n) time)
    by_file true e = absurd (true≢false e)
    by_file false e = refl

settle_mild : (n : ℕ) (x : Enabling) → IsMild (turn_of (Stub n) turn.Over x)
settle_mild n Never = tt
settle_mild n Always = refl
settle_mild n (After time) = refl

life_mild : (c : Config) (s : State) (n : ℕ) (l : Life) → IsCalm c → IsMild (life_turn c s n l)
life_mild c s n Unborn h = tt
life_mild c s n Live h = live_mild c s n (act_enabling c s n) h
life_mild c s n (Over how) h = settle_mild n (stub_enabling s n)

after_mild : (c : Config) (s : State) (n : ℕ) (o : Option Envelope) → IsCalm c → IsMild (turn_after c s n o)
after_mild c s n None h = life_mild c s n (stage_at s n).life h
after_mild c s n (Some e) h = message_mild c e h

-- A STEP THAT IS SOME TURN

same_mild : (x y : StepKind) → same_kind x y ≡ true → is_mild y ≡ true → is_mild x ≡ true
same_mild (Act a) y e m = refl
same_mild (Go a) y e m = refl
same_mild (Again a) y e m = refl
same_mild (Stub a) y e m = refl
same_mild (Lose a) (Lose b) e m = absurd (true≢false (sym m))
same_mild (Lose a) (Act b) e m = absurd (true≢false (sym e))
same_mild (Lose a) (Go b) e m = absurd (true≢false (sym e))
same_mild (Lose a) (Again b) e m = absurd (true≢false (sym e))
same_mild (Lose a) (Kill b) e m = absurd (true≢false (sym e))
same_mild (Lose a) (Stub b) e m = absurd (true≢false (sym e))
same_mild (Kill a) (Kill b) e m = absurd (true≢false (sym m))
same_mild (Kill a) (Act b) e m = absurd (true≢false (sym e))
same_mild (Kill a) (Go b) e m = absurd (true≢false (sym e))
same_mild (Kill a) (Again b) e m = absurd (true≢false (sym e))
same_mild (Kill a) (Lose b) e m = absurd (true≢false (sym e))
same_mild (Kill a) (Stub b) e m = absurd (true≢false (sym e))

turn_mild : (x : StepKind) (t : Turn) → is_turn x t ≡ true → IsMild t → is_mild x ≡ true
turn_mild x (turn.Step kind) e m = same_mild x kind e m
turn_mild x (turn.Past kind time) e m = same_mild x kind e m
turn_mild x (turn.Blocked a) e m = absurd (true≢false (sym e))
turn_mild x turn.Unborn e m = absurd (true≢false (sym e))
turn_mild x turn.Over e m = absurd (true≢false (sym e))

some_mild : (c : Config) (s : State) (x : StepKind) → IsCalm c → (n left : ℕ) → is_some_turn c s x n left ≡ true → is_mild x ≡ true
some_mild c s x h n zero e = absurd (true≢false (sym e))
some_mild c s x h n (suc left) e = by_turn (is_turn x (next_for c s n)) refl e (some_mild c s x h (n + 1) left)
  where
    by_turn : (b : Bool) → is_turn x (next_for c s n) ≡ b → (b || is_some_turn c s x (n + 1) left) ≡ true → (is_some_turn c s x (n + 1) left ≡ true → is_mild x ≡ true) → is_mild x ≡ true
    by_turn true q e later = turn_mild x (next_for c s n) q (after_mild c s n (due_message n s.net) h)
    by_turn false q e later = later e

not_false : (b : Bool) → not b ≡ false → b ≡ true
not_false true e = refl
not_false false e = absurd (true≢false e)

pub mild : (c : Config) (s : State) (x : StepKind) → IsCalm c → is_astray c s x ≡ false → is_mild x ≡ true
mild c s x h e = some_mild c s x h 1 (length s.stages) (not_false (is_some_turn c s x 1 (length s.stages)) e)

-- where no step is astray, the first is not, and none of the others is
pub no_strays : (c : Config) (s : State) (step : Step) (steps : List Step) → strays_from c s (step ∷ steps) ≡ 0 → (is_astray c s step.kind ≡ false) × (strays_from c (stepped c s step) steps ≡ 0)
unfolding strays_from
no_strays c s step steps = by_astray (is_astray c s step.kind)
  where
    by_astray : (b : Bool) → (if b then suc (strays_from c (stepped c s step) steps) else strays_from c (stepped c s step) steps) ≡ 0 → (b ≡ false) × (strays_from c (stepped c s step) steps ≡ 0)
    by_astray true e = absurd (not_zero (strays_from c (stepped c s step) steps) e)
      where
        not_zero : (n : ℕ) → suc n ≡ 0 → ⊥
        not_zero n e = omega (arith, e)
    by_astray false e = (refl, e)
