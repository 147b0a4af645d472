-- The steps of the serial policy have readings in order, and name stages by their numbers from 1.
use Rattle.std.proofs.Common.{◌≡◌, ℕ, zero, suc, ◌+◌, ◌-◌, ◌<◌, ◌≤◌, Bool, true, false, List, [], ◌∷◌, Option, Some, None, All, refl, sym, subst, arith}
use Rattle.std.proofs.lemmas.Bool.Decides.{nat_tests}
use Rattle.std.proofs.lemmas.List.Elements.{All-cons, All-nil}
use Rattle.std.specs.Option.{option_map}
use Rattle.std.specs.Prelude.{⊤, nat_lt, if◌then◌else◌}
use Rattle.pipeline_lang.specs.declared.config.Config.{Config}
use Rattle.rss_wire.specs.declared.envelope.Envelope.{Envelope}
use Rattle.rss_tables.specs.declared.endings.Await.{Await}
use Rattle.rss_machine.specs.Effect.{stepped}
use Rattle.rss_machine.specs.Enabling.{act_enabling, stub_enabling}
use Rattle.rss_machine.specs.Endings.{awaits_of}
use Rattle.rss_machine.specs.Run.{readings_of}
use Rattle.rss_machine.specs.Serial.{Stepping, serial_clock, reading_of, ticked, passed, step_with, turn_step, stage_under_way, step_of_stage, followed_by, serial_from, serial}
use Rattle.rss_machine.specs.State.{State, start, stage_at}
use Rattle.rss_machine.specs.Turns.{due_message, is_withheld, message_turn, kills_at, turn_of, blocked_on, live_turn, life_turn, turn_after, next_for}
use Rattle.rss_machine.specs.declared.state.Life.{Life}
use Rattle.rss_machine.specs.declared.state.Life.TheVariants.{Unborn, Live, Over}
use Rattle.rss_machine.specs.declared.step.Step.{Step}
use Rattle.rss_machine.specs.declared.step.StepKind.{StepKind}
use Rattle.rss_machine.specs.declared.step.StepKind.TheVariants.{Act, Go, Lose, Kill, Stub}
use Rattle.rss_machine.specs.declared.turn.Enabling.{Enabling}
use Rattle.rss_machine.specs.declared.turn.Enabling.TheVariants.{Never, Always, After}
use Rattle.rss_machine.specs.declared.turn.Turn.{Turn}
use Rattle.rss_machine.specs.declared.turn.Turn.TheVariants as turn
use Rattle.world_laws.specs.Laws.{IsOrdered}
use Rattle.world_laws.specs.Numbered.{is_numbered, are_numbered}
use Rattle.world_laws.proofs.Looks.{some_is, none_is_not}
use Rattle.policy_laws.specs.Laws.{AreProper}

-- a turn's step names its stage by its number from 1
abbrev IsNumbered : Turn → Type 0
IsNumbered (turn.Step kind) = is_numbered kind ≡ true
IsNumbered (turn.Past kind time) = is_numbered kind ≡ true
IsNumbered (turn.Blocked a) = ⊤
IsNumbered turn.Unborn = ⊤
IsNumbered turn.Over = ⊤

from_one : (n : ℕ) → 0 < n → nat_lt 0 n ≡ true
from_one n z = grind (arith, nat_tests, z)

message_numbered : (c : Config) (e : Envelope) → IsNumbered (message_turn c e)
message_numbered c e = by_fate (is_withheld c e)
  where
    by_fate : (b : Bool) → is_numbered (if b then Lose e.number else Go e.number) ≡ true
    by_fate true = refl
    by_fate false = refl

blocked_numbered : (o : Option Await) → IsNumbered (blocked_on o)
blocked_numbered None = tt
blocked_numbered (Some a) = tt

live_numbered : (c : Config) (s : State) (n : ℕ) (x : Enabling) → 0 < n → IsNumbered (live_turn c s n x)
live_numbered c s n Never z = blocked_numbered (awaits_of c s n (stage_at s n).owner)
live_numbered c s n Always z = by_file (kills_at c n ((stage_at s n).acts + 1))
  where
    by_file : (b : Bool) → is_numbered (if b then Kill n else Act n) ≡ true
    by_file true = from_one n z
    by_file false = from_one n z
live_numbered c s n (After time) z = by_file (kills_at c n ((stage_at s n).acts + 1))
  where
    by_file : (b : Bool) → IsNumbered (if b then turn.Step (Kill n) else turn.Past (Act n) time)
    by_file true = from_one n z
    by_file false = from_one n z

settle_numbered : (n : ℕ) (x : Enabling) → 0 < n → IsNumbered (turn_of (Stub n) turn.Over x)
settle_numbered n Never z = tt
settle_numbered n Always z = from_one n z
settle_numbered n (After time) z = from_one n z

life_numbered : (c : Config) (s : State) (n : ℕ) (l : Life) → 0 < n → IsNumbered (life_turn c s n l)
life_numbered c s n Unborn z = tt
life_numbered c s n Live z = live_numbered c s n (act_enabling c s n) z
life_numbered c s n (Over how) z = settle_numbered n (stub_enabling s n) z

after_numbered : (c : Config) (s : State) (n : ℕ) (o : Option Envelope) → 0 < n → IsNumbered (turn_after c s n o)
after_numbered c s n None z = life_numbered c s n (stage_at s n).life z
after_numbered c s n (Some e) z = message_numbered c e

-- a step of the policy
record IsProper (step : Step) : Type 0 where
  ordered : IsOrdered step.at
  numbered : is_numbered step.kind ≡ true

made_proper : (kind : StepKind) (clock : Stepping) → is_numbered kind ≡ true → IsProper (step_with kind clock).0
made_proper kind clock k = record { ordered = omega arith; numbered = k }

turn_proper : (clock : Stepping) (t : Turn) (made : Step × Stepping) → IsNumbered t → turn_step clock t ≡ Some made → IsProper made.0
turn_proper clock (turn.Step kind) made k e =
    subst (λ (m : Step × Stepping). IsProper m.0) (some_is (step_with kind (ticked clock)) made e) (made_proper kind (ticked clock) k)
turn_proper clock (turn.Past kind time) made k e = by_clock (passed clock time) e
  where
    by_clock : (o : Option Stepping) → option_map (step_with kind) o ≡ Some made → IsProper made.0
    by_clock None e = absurd (none_is_not made e)
    by_clock (Some x) e = subst (λ (m : Step × Stepping). IsProper m.0) (some_is (step_with kind x) made e) (made_proper kind x k)
turn_proper clock (turn.Blocked b) made k e = absurd (none_is_not made e)
turn_proper clock turn.Unborn made k e = absurd (none_is_not made e)
turn_proper clock turn.Over made k e = absurd (none_is_not made e)

step_proper : (c : Config) (s : State) (clock : Stepping) (n : ℕ) (made : Step × Stepping) → step_of_stage c s clock n ≡ Some made → IsProper made.0
step_proper c s clock zero made h = absurd (none_is_not made h)
step_proper c s clock (suc n) made h =
    turn_proper clock (next_for c s (suc n)) made (after_numbered c s (suc n) (due_message (suc n) s.net) (omega arith)) h

one_more : (step : Step) (steps : List Step) → IsProper step → AreProper steps → AreProper (step ∷ steps)
one_more step steps k h = record { ordered = All-cons IsOrdered step.at (readings_of steps) k.ordered h.ordered; numbered = rw k.numbered h.numbered }

none_proper : AreProper []
none_proper = record { ordered = All-nil IsOrdered; numbered = refl }

proper_from : (left : ℕ) (c : Config) (s : State) (clock : Stepping) (n : ℕ) → AreProper (serial_from left c s clock n)
unfolding serial_from
proper_from zero c s clock n = none_proper
proper_from (suc left) c s clock n =
    let m = stage_under_way c s n in
    by_step (step_of_stage c s clock m) refl (λ made. proper_from left c (stepped c s made.0) made.1 m)
  where
    m : ℕ
    m = stage_under_way c s n

    rest : Step × Stepping → List Step
    rest made = serial_from left c (stepped c s made.0) made.1 m

    by_step : (o : Option (Step × Stepping)) → step_of_stage c s clock m ≡ o → ((made : Step × Stepping) → AreProper (rest made)) → AreProper (followed_by o rest)
    by_step None h later = none_proper
    by_step (Some made) h later = one_more made.0 (rest made) (step_proper c s clock m made h) (later made)

pub serial_proper : (c : Config) → AreProper (serial c)
serial_proper c = proper_from c.max_steps c (start c) serial_clock 1
