-- Each turn that tells of an end, by what the stage is and has under way.
use Rattle.std.proofs.Common.{◌≡◌, ◌⊎◌, inl, inr, ℕ, ◌+◌, Bool, true, false, Option, Some, None, refl, sym, ap, ◌∙◌}
use Rattle.std.proofs.lemmas.Bool.{true≢false}
use Rattle.std.specs.Prelude.{if◌then◌else◌}
use Rattle.rss_names.specs.declared.service.Key.{Key}
use Rattle.pipeline_lang.specs.declared.config.Config.{Config}
use Rattle.pipeline_lang.specs.declared.script.Statement.{Statement}
use Rattle.pipeline_lang.specs.declared.script.Statement.TheVariants as statement
use Rattle.rss_wire.specs.declared.envelope.Envelope.{Envelope}
use Rattle.rss_tables.specs.declared.endings.Await.{Await}
use Rattle.rss_machine.specs.Enabling.{next_statement, can_make, whether, owner_enabling, live_enabling, act_enabling, session_enabling}
use Rattle.rss_machine.specs.Endings.{awaits_in, awaits_statement, awaits_of}
use Rattle.rss_machine.specs.Session.{Session}
use Rattle.rss_machine.specs.Standing.{is_live, is_over}
use Rattle.rss_machine.specs.State.{State, stage_at, owner_at}
use Rattle.rss_machine.specs.Turns.{due_message, message_turn, kills_at, blocked_on, live_turn, life_turn, turn_after, next_for}
use Rattle.rss_machine.specs.declared.state.Life.{Life}
use Rattle.rss_machine.specs.declared.state.Life.TheVariants.{Unborn, Live, Over}
use Rattle.rss_machine.specs.declared.step.StepKind.{StepKind}
use Rattle.rss_machine.specs.declared.step.StepKind.TheVariants.{Act, Kill}
use Rattle.rss_machine.specs.declared.turn.Enabling.{Enabling}
use Rattle.rss_machine.specs.declared.turn.Enabling.TheVariants.{Never, Always, After}
use Rattle.rss_machine.specs.declared.turn.Turn.{Turn}
use Rattle.rss_machine.specs.declared.turn.Turn.TheVariants as turn
use Rattle.await_laws.specs.Laws.{IsForsaken}

-- OTHER TURNS

step_not : (kind : StepKind) → turn.Step kind ≡ turn.Over → ⊥
step_not kind e = cc

past_not : (kind : StepKind) (time : ℕ) → turn.Past kind time ≡ turn.Over → ⊥
past_not kind time e = cc

blocked_not : (a : Await) → turn.Blocked a ≡ turn.Over → ⊥
blocked_not a e = cc

unborn_not : turn.Unborn ≡ turn.Over → ⊥
unborn_not e = cc

message_not : (c : Config) (e : Envelope) → message_turn c e ≡ turn.Over → ⊥
message_not c e h = step_not _ h

always_not : Always ≡ Never → ⊥
always_not e = cc

after_not : (time : ℕ) → After time ≡ Never → ⊥
after_not time e = cc

some_not : {A : Type 0} (a : A) → Some a ≡ None → ⊥
some_not a e = cc

-- A LIVE STAGE

blocked_none : (o : Option Await) → blocked_on o ≡ turn.Over → o ≡ None
blocked_none None e = refl
blocked_none (Some a) e = absurd (blocked_not a e)

-- it has no act, and waits for nothing
record HasNone (c : Config) (s : State) (n : ℕ) : Type 0 where
  act : act_enabling c s n ≡ Never
  nothing : awaits_of c s n (stage_at s n).owner ≡ None

live_none : (c : Config) (s : State) (n : ℕ) (x : Enabling) → act_enabling c s n ≡ x → live_turn c s n x ≡ turn.Over → HasNone c s n
live_none c s n Never a e = record { act = a; nothing = blocked_none (awaits_of c s n (stage_at s n).owner) e }
live_none c s n Always a e = absurd (step_not _ e)
live_none c s n (After time) a e = absurd (by_file (kills_at c n ((stage_at s n).acts + 1)) e)
  where
    by_file : (b : Bool) → (if b then turn.Step (Kill n) else turn.Past (Act n) time) ≡ turn.Over → ⊥
    by_file true e = step_not (Kill n) e
    by_file false e = past_not (Act n) time e

never_made : (b : Bool) → whether b ≡ Never → b ≡ false
never_made true e = absurd (always_not e)
never_made false e = refl

-- a statement that cannot be made waits for something
statement_waits : (c : Config) (s : State) (x : Statement ℕ Key ℕ ℕ) → can_make c s x ≡ false → awaits_statement x ≡ None → ⊥
statement_waits c s (statement.Wait child) m e = some_not _ e
statement_waits c s (statement.Put p value) m e = some_not _ e
statement_waits c s (statement.Take variable p) m e = some_not _ e
statement_waits c s (statement.Let variable value) m e = true≢false m
statement_waits c s (statement.Read variable key) m e = true≢false m
statement_waits c s (statement.Write key value) m e = true≢false m
statement_waits c s (statement.Snap pairs) m e = true≢false m
statement_waits c s (statement.Txn reads guard writes) m e = true≢false m
statement_waits c s (statement.Spawn child) m e = true≢false m
statement_waits c s (statement.Close p) m e = true≢false m
statement_waits c s statement.Fence m e = true≢false m
statement_waits c s (statement.Repeat times) m e = true≢false m
statement_waits c s (statement.When test) m e = true≢false m
statement_waits c s statement.End m e = true≢false m
statement_waits c s statement.Exit m e = true≢false m

-- an owner that does nothing by itself waits for no time
record IsStill (s : State) (wait : Option ℕ) (x : Session) : Type 0 where
  none : wait ≡ None
  still : session_enabling s x ≡ Never

owner_still : (s : State) (wait : Option ℕ) (x : Session) → owner_enabling s wait x ≡ Never → IsStill s wait x
owner_still s None x e = record { none = refl; still = e }
owner_still s (Some time) x e = absurd (after_not time e)

by_owner : (c : Config) (s : State) (n : ℕ) (o : Option ℕ) → (stage_at s n).life ≡ Live → due_message n s.net ≡ None → (stage_at s n).owner ≡ o → live_enabling c s n o ≡ Never → awaits_of c s n o ≡ None → IsForsaken c s n
by_owner c s n None l d e a w = absurd (statement_waits c s (next_statement c s n) (never_made (can_make c s (next_statement c s n)) a) w)
by_owner c s n (Some o) l d e a w =
    let q = owner_still s (owner_at s o).works.wait (owner_at s o).session a in
    record { live = l; due = d; owner = o; under_way = e; wait = q.none; still = q.still; nobody = w }

forsaken : (c : Config) (s : State) (n : ℕ) → (stage_at s n).life ≡ Live → due_message n s.net ≡ None → HasNone c s n → IsForsaken c s n
forsaken c s n l d h =
    let live : act_enabling c s n ≡ live_enabling c s n (stage_at s n).owner = ap (λ (x : Life). if is_live x then live_enabling c s n (stage_at s n).owner else Never) l in
    by_owner c s n (stage_at s n).owner l d refl (sym live ∙ h.act) h.nothing

-- ALL STAGES

by_life : (c : Config) (s : State) (n : ℕ) (l : Life) → (stage_at s n).life ≡ l → due_message n s.net ≡ None → life_turn c s n l ≡ turn.Over → (is_over (stage_at s n).life ≡ true) ⊎ IsForsaken c s n
by_life c s n Unborn l d e = absurd (unborn_not e)
by_life c s n Live l d e = inr (forsaken c s n l d (live_none c s n (act_enabling c s n) refl e))
by_life c s n (Over how) l d e = inl (ap is_over l)

by_due : (c : Config) (s : State) (n : ℕ) (o : Option Envelope) → due_message n s.net ≡ o → turn_after c s n o ≡ turn.Over → (is_over (stage_at s n).life ≡ true) ⊎ IsForsaken c s n
by_due c s n None d e = by_life c s n (stage_at s n).life refl d e
by_due c s n (Some x) d e = absurd (message_not c x e)

pub over_told : (c : Config) (s : State) (n : ℕ) → next_for c s n ≡ turn.Over → (is_over (stage_at s n).life ≡ true) ⊎ IsForsaken c s n
over_told c s n e = by_due c s n (due_message n s.net) refl e
