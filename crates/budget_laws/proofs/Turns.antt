-- Which turns lose a message: those of a message that the file withholds; and no turn repeats one.
use Rattle.std.proofs.Common.{◌≡◌, ℕ, zero, suc, ◌+◌, ◌<◌, Bool, true, false, List, [], ◌∷◌, length, Option, Some, None, refl, sym, ap, ◌∙◌, subst, arith}
use Rattle.std.proofs.lemmas.Bool.{true≢false, eqb-true}
use Rattle.std.specs.Prelude.{◌||◌, not, if◌then◌else◌}
use Rattle.pipeline_lang.specs.declared.config.Config.{Config}
use Rattle.rss_wire.specs.Messages.{message_at}
use Rattle.rss_wire.specs.declared.envelope.Envelope.{Envelope}
use Rattle.rss_wire.specs.declared.message.Message.{Message}
use Rattle.rss_tables.specs.declared.endings.Await.{Await}
use Rattle.rss_machine.specs.Effect.{stepped}
use Rattle.rss_machine.specs.Enabling.{act_enabling, stub_enabling}
use Rattle.rss_machine.specs.Endings.{awaits_of}
use Rattle.rss_machine.specs.Serial.{strays_from}
use Rattle.rss_machine.specs.State.{State, stage_at}
use Rattle.rss_machine.specs.Turns.{is_withheld, is_due, due_message, message_turn, kills_at, turn_of, blocked_on, live_turn, life_turn, turn_after, next_for, same_kind, is_turn, is_some_turn, is_astray}
use Rattle.rss_machine.specs.declared.state.Life.{Life}
use Rattle.rss_machine.specs.declared.state.Life.TheVariants.{Unborn, Live, Over}
use Rattle.rss_machine.specs.declared.step.Step.{Step}
use Rattle.rss_machine.specs.declared.step.StepKind.{StepKind}
use Rattle.rss_machine.specs.declared.step.StepKind.TheVariants.{Act, Go, Lose, Again, Kill, Stub}
use Rattle.rss_machine.specs.declared.turn.Enabling.{Enabling}
use Rattle.rss_machine.specs.declared.turn.Enabling.TheVariants.{Never, Always, After}
use Rattle.rss_machine.specs.declared.turn.Turn.{Turn}
use Rattle.rss_machine.specs.declared.turn.Turn.TheVariants as turn
use Rattle.world_laws.proofs.Looks.{some_is, none_is_not}

-- the outside of each message has its place as its number
abbrev pub Numbers : List Message → Type 0
Numbers net = (i : ℕ) → i < length net → (message_at net i).envelope.number ≡ i

-- a turn that neither loses nor repeats a message
pub record IsQuiet (t : Turn) : Type 0 where
  pub lose : (m : ℕ) → is_turn (Lose m) t ≡ false
  pub again : (m : ℕ) → is_turn (Again m) t ≡ false

blocked_quiet : (o : Option Await) → IsQuiet (blocked_on o)
blocked_quiet None = record { lose = λ m. refl; again = λ m. refl }
blocked_quiet (Some a) = record { lose = λ m. refl; again = λ m. refl }

live_quiet : (c : Config) (s : State) (n : ℕ) (x : Enabling) → IsQuiet (live_turn c s n x)
live_quiet c s n Never = blocked_quiet (awaits_of c s n (stage_at s n).owner)
live_quiet c s n Always = by_file (kills_at c n ((stage_at s n).acts + 1))
  where
    by_file : (b : Bool) → IsQuiet (turn.Step (if b then Kill n else Act n))
    by_file true = record { lose = λ m. refl; again = λ m. refl }
    by_file false = record { lose = λ m. refl; again = λ m. refl }
live_quiet c s n (After time) = by_file (kills_at c n ((stage_at s n).acts + 1))
  where
    by_file : (b : Bool) → IsQuiet (if b then turn.Step (Kill n) else turn.Past (Act n) time)
    by_file true = record { lose = λ m. refl; again = λ m. refl }
    by_file false = record { lose = λ m. refl; again = λ m. refl }

settle_quiet : (n : ℕ) (x : Enabling) → IsQuiet (turn_of (Stub n) turn.Over x)
settle_quiet n Never = record { lose = λ m. refl; again = λ m. refl }
settle_quiet n Always = record { lose = λ m. refl; again = λ m. refl }
settle_quiet n (After time) = record { lose = λ m. refl; again = λ m. refl }

life_quiet : (c : Config) (s : State) (n : ℕ) (l : Life) → IsQuiet (life_turn c s n l)
life_quiet c s n Unborn = record { lose = λ m. refl; again = λ m. refl }
life_quiet c s n Live = live_quiet c s n (act_enabling c s n)
life_quiet c s n (Over how) = settle_quiet n (stub_enabling s n)

-- A MESSAGE THAT IS DUE

record IsDueAt (i : ℕ) (net : List Message) (e : Envelope) : Type 0 where
  inside : i < length net
  is : (message_at net i).envelope ≡ e

due_there : (n : ℕ) (net : List Message) (e : Envelope) → due_message n net ≡ Some e → (i : ℕ) × IsDueAt i net e
due_there n [] e h = absurd (none_is_not e h)
due_there n (m ∷ net) e h = by_due (is_due n m) h (due_there n net e)
  where
    by_due : (b : Bool) → (if b then Some m.envelope else due_message n net) ≡ Some e → (due_message n net ≡ Some e → (i : ℕ) × IsDueAt i net e) → (i : ℕ) × IsDueAt i (m ∷ net) e
    by_due true h later = (0, record { inside = omega arith; is = some_is m.envelope e h })
    by_due false h later =
        let t = later h in
        let l = t.1.inside in
        (suc t.0, record { inside = omega (arith, l); is = t.1.is })

withheld_turn : (c : Config) (e : Envelope) (m : ℕ) → is_turn (Lose m) (message_turn c e) ≡ true → (is_withheld c e ≡ true) × (m ≡ e.number)
withheld_turn c e m = by_file (is_withheld c e)
  where
    by_file : (b : Bool) → same_kind (Lose m) (if b then Lose e.number else Go e.number) ≡ true → (b ≡ true) × (m ≡ e.number)
    by_file true h = (refl, eqb-true m e.number h)
    by_file false h = absurd (true≢false (sym h))

never_again : (c : Config) (e : Envelope) (m : ℕ) → is_turn (Again m) (message_turn c e) ≡ false
never_again c e m = by_file (is_withheld c e)
  where
    by_file : (b : Bool) → same_kind (Again m) (if b then Lose e.number else Go e.number) ≡ false
    by_file true = refl
    by_file false = refl

lost_there : (c : Config) (net : List Message) (n m : ℕ) (e : Envelope) → Numbers net → due_message n net ≡ Some e → is_turn (Lose m) (message_turn c e) ≡ true → is_withheld c (message_at net m).envelope ≡ true
lost_there c net n m e h d t =
    let q = due_there n net e d in
    let i = q.0 in
    let w = withheld_turn c e m t in
    let z : i ≡ m = sym (h i q.1.inside) ∙ (ap (λ (x : Envelope). x.number) q.1.is ∙ sym w.1) in
    subst (λ (k : ℕ). is_withheld c (message_at net k).envelope ≡ true) z (ap (is_withheld c) q.1.is ∙ w.0)

after_lost : (c : Config) (s : State) (n m : ℕ) (o : Option Envelope) → Numbers s.net → due_message n s.net ≡ o → is_turn (Lose m) (turn_after c s n o) ≡ true → is_withheld c (message_at s.net m).envelope ≡ true
after_lost c s n m None h d t = absurd (true≢false (sym t ∙ (life_quiet c s n (stage_at s n).life).lose m))
after_lost c s n m (Some e) h d t = lost_there c s.net n m e h d t

after_again : (c : Config) (s : State) (n m : ℕ) (o : Option Envelope) → is_turn (Again m) (turn_after c s n o) ≡ false
after_again c s n m None = (life_quiet c s n (stage_at s n).life).again m
after_again c s n m (Some e) = never_again c e m

-- A STEP THAT IS NOT ASTRAY

some_turn : (c : Config) (s : State) (x : StepKind) (n left : ℕ) → is_some_turn c s x n left ≡ true → (k : ℕ) × (is_turn x (next_for c s k) ≡ true)
some_turn c s x n zero e = absurd (true≢false (sym e))
some_turn c s x n (suc left) e = by_turn (is_turn x (next_for c s n)) refl e (some_turn c s x (n + 1) left)
  where
    by_turn : (b : Bool) → is_turn x (next_for c s n) ≡ b → (b || is_some_turn c s x (n + 1) left) ≡ true → (is_some_turn c s x (n + 1) left ≡ true → (k : ℕ) × (is_turn x (next_for c s k) ≡ true)) → (k : ℕ) × (is_turn x (next_for c s k) ≡ true)
    by_turn true q e later = (n, q)
    by_turn false q e later = later e

not_false : (b : Bool) → not b ≡ false → b ≡ true
not_false true e = refl
not_false false e = absurd (true≢false e)

is_turn_of : (c : Config) (s : State) (x : StepKind) → is_astray c s x ≡ false → (k : ℕ) × (is_turn x (next_for c s k) ≡ true)
is_turn_of c s x e = some_turn c s x 1 (length s.stages) (not_false (is_some_turn c s x 1 (length s.stages)) e)

-- what is lost by a turn, the file withholds
pub lost_withheld : (c : Config) (s : State) (m : ℕ) → Numbers s.net → is_astray c s (Lose m) ≡ false → is_withheld c (message_at s.net m).envelope ≡ true
lost_withheld c s m h e = let t = is_turn_of c s (Lose m) e in after_lost c s t.0 m (due_message t.0 s.net) h refl t.1

pub none_again : (c : Config) (s : State) (m : ℕ) → is_astray c s (Again m) ≡ false → ⊥
none_again c s m e = let t = is_turn_of c s (Again m) e in true≢false (sym t.1 ∙ after_again c s t.0 m (due_message t.0 s.net))

-- where no step is astray, the first is not, and none of the others is
pub no_strays : (c : Config) (s : State) (step : Step) (steps : List Step) → strays_from c s (step ∷ steps) ≡ 0 → (is_astray c s step.kind ≡ false) × (strays_from c (stepped c s step) steps ≡ 0)
unfolding strays_from
no_strays c s step steps = by_astray (is_astray c s step.kind)
  where
    by_astray : (b : Bool) → (if b then suc (strays_from c (stepped c s step) steps) else strays_from c (stepped c s step) steps) ≡ 0 → (b ≡ false) × (strays_from c (stepped c s step) steps ≡ 0)
    by_astray true e = absurd (not_zero (strays_from c (stepped c s step) steps) e)
      where
        not_zero : (n : ℕ) → suc n ≡ 0 → ⊥
        not_zero n e = omega (arith, e)
    by_astray false e = (refl, e)
