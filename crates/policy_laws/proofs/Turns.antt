-- A turn that is a step is refused for nothing in its kind, once the time that it waits for has passed.
use Rattle.std.proofs.Common.{◌≡◌, ℕ, zero, suc, ◌+◌, ◌<◌, Bool, true, false, List, [], ◌∷◌, length, Option, Some, None, refl, sym, ap, ◌∙◌, subst, arith}
use Rattle.std.proofs.lemmas.Bool.{true≢false, and_parts, eqb-true}
use Rattle.std.proofs.lemmas.Bool.Decides.{nat_tests}
use Rattle.std.specs.Option.{option_map}
use Rattle.std.specs.Prelude.{⊤, ◌==◌, nat_lt, if◌then◌else◌}
use Rattle.truetime.specs.Reading.{Reading}
use Rattle.pipeline_lang.specs.declared.config.Config.{Config}
use Rattle.rss_wire.specs.Messages.{no_message, message_at, is_pending, is_sent}
use Rattle.rss_wire.specs.Net.{fate_refusal, deliver_refusal}
use Rattle.rss_wire.specs.declared.envelope.Envelope.{Envelope}
use Rattle.rss_wire.specs.declared.message.Fate.{Fate}
use Rattle.rss_wire.specs.declared.message.Fate.TheVariants.{Pending, Delivered, Repeated, Lost}
use Rattle.rss_wire.specs.declared.message.Message.{Message}
use Rattle.rss_wire.specs.declared.refusal.NetRefusal.{NetRefusal}
use Rattle.rss_wire.specs.declared.refusal.NetRefusal.TheVariants.{NoSuchMessage}
use Rattle.rss_tables.specs.declared.endings.Await.{Await}
use Rattle.rss_machine.specs.Enabling.{act_enabling, stub_enabling, is_enabled_at}
use Rattle.rss_machine.specs.Endings.{awaits_of}
use Rattle.rss_machine.specs.Refusal.{kind_refusal, unless_enabled}
use Rattle.rss_machine.specs.Standing.{is_live, is_over}
use Rattle.rss_machine.specs.State.{State, stage_at}
use Rattle.rss_machine.specs.Turns.{is_due, due_message, is_withheld, message_turn, kills_at, turn_of, blocked_on, live_turn, life_turn, turn_after, next_for}
use Rattle.rss_machine.specs.declared.state.Life.{Life}
use Rattle.rss_machine.specs.declared.state.Life.TheVariants.{Unborn, Live, Over}
use Rattle.rss_machine.specs.declared.step.StepKind.{StepKind}
use Rattle.rss_machine.specs.declared.step.StepKind.TheVariants.{Act, Go, Lose, Kill, Stub}
use Rattle.rss_machine.specs.declared.step.StepRefusal.{StepRefusal}
use Rattle.rss_machine.specs.declared.step.StepRefusal.TheVariants.{StageOver, Message as OfMessage}
use Rattle.rss_machine.specs.declared.turn.Enabling.{Enabling}
use Rattle.rss_machine.specs.declared.turn.Enabling.TheVariants.{Never, Always, After}
use Rattle.rss_machine.specs.declared.turn.Turn.{Turn}
use Rattle.rss_machine.specs.declared.turn.Turn.TheVariants as turn
use Rattle.world_laws.specs.Exchanges.{Exchanges}
use Rattle.world_laws.proofs.Looks.{some_is, none_is_not}
use Rattle.policy_laws.proofs.Places.{IsFree}

-- what a turn's step passes: at once, or in a reading that begins above the time
abbrev pub Passes : Config → State → Turn → Type 0
Passes c s (turn.Step kind) = (at : Reading) → kind_refusal c s at kind ≡ None
Passes c s (turn.Past kind time) = (at : Reading) → time < at.earliest → kind_refusal c s at kind ≡ None
Passes c s (turn.Blocked a) = ⊤
Passes c s turn.Unborn = ⊤
Passes c s turn.Over = ⊤

-- A MESSAGE THAT IS DUE

record IsDueAt (n i : ℕ) (net : List Message) (e : Envelope) : Type 0 where
  inside : i < length net
  is : (message_at net i).envelope ≡ e
  stage : e.stage ≡ n
  pending : is_pending (message_at net i).fate ≡ true

due_there : (n : ℕ) (net : List Message) (e : Envelope) → due_message n net ≡ Some e → (i : ℕ) × IsDueAt n i net e
due_there n [] e h = absurd (none_is_not e h)
due_there n (m ∷ net) e h = by_due (is_due n m) refl h (due_there n net e)
  where
    by_due : (b : Bool) → is_due n m ≡ b → (if b then Some m.envelope else due_message n net) ≡ Some e → (due_message n net ≡ Some e → (i : ℕ) × IsDueAt n i net e) → (i : ℕ) × IsDueAt n i (m ∷ net) e
    by_due true d h later =
        let q : m.envelope ≡ e = some_is m.envelope e h in
        let p = and_parts (m.envelope.stage == n) (is_pending m.fate) d in
        (0, record { inside = omega arith; is = q; stage = ap (λ (x : Envelope). x.stage) (sym q) ∙ eqb-true m.envelope.stage n p.0; pending = p.1 })
    by_due false d h later =
        let t = later h in
        let l = t.1.inside in
        (suc t.0, record { inside = omega (arith, l); is = t.1.is; stage = t.1.stage; pending = t.1.pending })

fate_passes : (f : Fate) → is_pending f ≡ true → fate_refusal f ≡ None
fate_passes Pending p = refl
fate_passes Delivered p = absurd (true≢false (sym p))
fate_passes Repeated p = absurd (true≢false (sym p))
fate_passes Lost p = absurd (true≢false (sym p))

-- it is not at place 0, which holds none of a stage
place_above : (n i : ℕ) (s : State) (e : Envelope) → 0 < n → IsFree s → IsDueAt n i s.net e → 0 < i
place_above n zero s e z f d =
    let q : 0 ≡ n = ap (λ (x : Envelope). x.stage) (sym f.nothing) ∙ ap (λ (x : Envelope). x.stage) d.is ∙ d.stage in
    absurd (omega (arith, z, q))
place_above n (suc i) s e z f d = omega arith

meets_none : (net : List Message) (i : ℕ) → 0 < i → i < length net → is_pending (message_at net i).fate ≡ true → deliver_refusal net i ≡ None
meets_none net i z l p =
    let sent : is_sent net i ≡ true = grind (arith, nat_tests, z, l) in
    ap (λ (b : Bool). if b then fate_refusal (message_at net i).fate else Some NoSuchMessage) sent ∙ fate_passes (message_at net i).fate p

of_message : (o : Option NetRefusal) → o ≡ None → option_map OfMessage o ≡ None
of_message o e = ap (option_map OfMessage) e

message_passes : (c : Config) (s : State) (e : Envelope) → deliver_refusal s.net e.number ≡ None → Passes c s (message_turn c e)
message_passes c s e h = λ at. by_fate at (is_withheld c e)
  where
    by_fate : (at : Reading) (b : Bool) → kind_refusal c s at (if b then Lose e.number else Go e.number) ≡ None
    by_fate at true = of_message (deliver_refusal s.net e.number) h
    by_fate at false = of_message (deliver_refusal s.net e.number) h

due_passes : (c : Config) (s : State) (n : ℕ) (e : Envelope) → 0 < n → Exchanges s.net → IsFree s → due_message n s.net ≡ Some e → Passes c s (message_turn c e)
due_passes c s n e z x f d =
    let t = due_there n s.net e d in
    let i = t.0 in
    let above : 0 < i = place_above n i s e z f t.1 in
    let number : e.number ≡ i = ap (λ (y : Envelope). y.number) (sym t.1.is) ∙ (x i above t.1.inside).number in
    message_passes c s e (ap (deliver_refusal s.net) number ∙ meets_none s.net i above t.1.inside t.1.pending)

-- AN ACT, A KILL, A STUB'S STEP

abbrev act_refusal : Bool → Enabling → ℕ → Option StepRefusal
act_refusal over x earliest = if over then Some StageOver else unless_enabled (is_enabled_at x earliest)

act_passes : (c : Config) (s : State) (n : ℕ) (at : Reading) (x : Enabling) → (stage_at s n).life ≡ Live → act_enabling c s n ≡ x → is_enabled_at x at.earliest ≡ true → kind_refusal c s at (Act n) ≡ None
act_passes c s n at x l e p =
    ap (λ (life : Life). act_refusal (is_over life) (act_enabling c s n) at.earliest) l
    ∙ ap (λ (y : Enabling). act_refusal false y at.earliest) e
    ∙ ap unless_enabled p

kill_passes : (c : Config) (s : State) (n : ℕ) (at : Reading) → (stage_at s n).life ≡ Live → kind_refusal c s at (Kill n) ≡ None
kill_passes c s n at l = ap (λ (life : Life). if is_over life then Some StageOver else unless_enabled (is_live life)) l

stub_passes : (c : Config) (s : State) (n : ℕ) (at : Reading) (x : Enabling) → stub_enabling s n ≡ x → is_enabled_at x at.earliest ≡ true → kind_refusal c s at (Stub n) ≡ None
stub_passes c s n at x e p = ap (λ (y : Enabling). unless_enabled (is_enabled_at y at.earliest)) e ∙ ap unless_enabled p

above : (time earliest : ℕ) → time < earliest → nat_lt time earliest ≡ true
above time earliest l = grind (arith, nat_tests, l)

blocked_passes : (c : Config) (s : State) (o : Option Await) → Passes c s (blocked_on o)
blocked_passes c s None = tt
blocked_passes c s (Some a) = tt

live_passes : (c : Config) (s : State) (n : ℕ) (x : Enabling) → (stage_at s n).life ≡ Live → act_enabling c s n ≡ x → Passes c s (live_turn c s n x)
live_passes c s n Never l e = blocked_passes c s (awaits_of c s n (stage_at s n).owner)
live_passes c s n Always l e = λ at. by_file at (kills_at c n ((stage_at s n).acts + 1))
  where
    by_file : (at : Reading) (b : Bool) → kind_refusal c s at (if b then Kill n else Act n) ≡ None
    by_file at true = kill_passes c s n at l
    by_file at false = act_passes c s n at Always l e refl
live_passes c s n (After time) l e = by_file (kills_at c n ((stage_at s n).acts + 1))
  where
    by_file : (b : Bool) → Passes c s (if b then turn.Step (Kill n) else turn.Past (Act n) time)
    by_file true = λ at. kill_passes c s n at l
    by_file false = λ at p. act_passes c s n at (After time) l e (above time at.earliest p)

settle_passes : (c : Config) (s : State) (n : ℕ) (x : Enabling) → stub_enabling s n ≡ x → Passes c s (turn_of (Stub n) turn.Over x)
settle_passes c s n Never e = tt
settle_passes c s n Always e = λ at. stub_passes c s n at Always e refl
settle_passes c s n (After time) e = λ at p. stub_passes c s n at (After time) e (above time at.earliest p)

life_passes : (c : Config) (s : State) (n : ℕ) (l : Life) → (stage_at s n).life ≡ l → Passes c s (life_turn c s n l)
life_passes c s n Unborn e = tt
life_passes c s n Live e = live_passes c s n (act_enabling c s n) e refl
life_passes c s n (Over how) e = settle_passes c s n (stub_enabling s n) refl

-- of every stage of a run
pub turn_passes : (c : Config) (s : State) (n : ℕ) → 0 < n → Exchanges s.net → IsFree s → Passes c s (next_for c s n)
turn_passes c s n z x f = by_due (due_message n s.net) refl
  where
    by_due : (o : Option Envelope) → due_message n s.net ≡ o → Passes c s (turn_after c s n o)
    by_due None d = life_passes c s n (stage_at s n).life refl
    by_due (Some e) d = due_passes c s n e z x f d
