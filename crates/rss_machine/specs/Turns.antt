-- Whose turn it is: the next step of a stage, where the file withholds exchanges and kills stages.
use Rattle.std.specs.Prelude.{ℕ, zero, suc, ◌+◌, Bool, true, false, ◌&&◌, ◌||◌, ◌==◌, not, List, [], ◌∷◌, length, get_or, Option, Some, None, nat_le, nat_lt, if◌then◌else◌}
use Rattle.std.specs.List.{list_any}
use Rattle.rss_names.specs.declared.service.Target.{Target}
use Rattle.pipeline_lang.specs.declared.config.Config.{Config}
use Rattle.pipeline_lang.specs.declared.config.Withhold.{Withhold}
use Rattle.pipeline_lang.specs.declared.config.KillAt.{KillAt}
use Rattle.rss_wire.specs.declared.envelope.Envelope.{Envelope}
use Rattle.rss_wire.specs.declared.message.Message.{Message}
use Rattle.rss_wire.specs.Messages.{is_pending, same_target}
use Rattle.rss_tables.specs.declared.endings.Await.{Await}
use Rattle.rss_machine.specs.Enabling.{act_enabling, stub_enabling}
use Rattle.rss_machine.specs.Endings.{awaits_of}
use Rattle.rss_machine.specs.Standing.{is_running}
use Rattle.rss_machine.specs.State.{State, Stage, stage_at, owner_at}
use Rattle.rss_machine.specs.declared.state.Life.{Life}
use Rattle.rss_machine.specs.declared.state.Life.TheVariants as life
use Rattle.rss_machine.specs.declared.step.StepKind.{StepKind}
use Rattle.rss_machine.specs.declared.step.StepKind.TheVariants.{Act, Go, Lose, Again, Kill, Stub}
use Rattle.rss_machine.specs.declared.turn.Enabling.{Enabling}
use Rattle.rss_machine.specs.declared.turn.Enabling.TheVariants.{Never, Always, After}
use Rattle.rss_machine.specs.declared.turn.Turn.{Turn}
use Rattle.rss_machine.specs.declared.turn.Turn.TheVariants as turn

-- whether a withhold of the file covers a request
abbrev pub covers : Envelope → Withhold → Bool
covers e w = w.stage == e.stage && same_target w.target e.target && nat_le w.first e.ordinal && nat_lt e.ordinal (w.first + w.count)

-- whether the file withholds a message: a request whose number to its target a withhold covers
abbrev pub is_withheld : Config → Envelope → Bool
is_withheld c e = e.request && list_any (covers e) c.withholds

-- whether a message of a stage is still to come
abbrev pub is_due : ℕ → Message → Bool
is_due n m = m.envelope.stage == n && is_pending m.fate

-- the outside of the least-numbered message of a stage that is still to come
abbrev pub due_message : ℕ → List Message → Option Envelope
due_message n [] = None
due_message n (m ∷ net) = if is_due n m then Some m.envelope else due_message n net

-- a message that is due is delivered, or lost where the file withholds it
abbrev pub message_turn : Config → Envelope → Turn
message_turn c e = turn.Step (if is_withheld c e then Lose e.number else Go e.number)

-- whether the file kills a stage in place of its act of this number
abbrev pub kills_at : Config → ℕ → ℕ → Bool
kills_at c n act = list_any (λ (k : KillAt). k.stage == n && k.act == act) c.kills

-- a step that is enabled, at once or behind a time
abbrev pub turn_of : StepKind → Turn → Enabling → Turn
turn_of kind otherwise Never = otherwise
turn_of kind otherwise Always = turn.Step kind
turn_of kind otherwise (After time) = turn.Past kind time

-- what a live stage waits for that has no step
abbrev pub blocked_on : Option Await → Turn
blocked_on None = turn.Over
blocked_on (Some a) = turn.Blocked a

-- the turn of a live stage that no message is due for: an act that is possible, or the kill of the file in its place
abbrev pub live_turn : Config → State → ℕ → Enabling → Turn
live_turn c s n Never = blocked_on (awaits_of c s n (stage_at s n).owner)
live_turn c s n Always = turn.Step (if kills_at c n ((stage_at s n).acts + 1) then Kill n else Act n)
live_turn c s n (After time) =
    if kills_at c n ((stage_at s n).acts + 1) then turn.Step (Kill n) else turn.Past (Act n) time

-- the turn of a stage that no message is due for
abbrev pub life_turn : Config → State → ℕ → Life → Turn
life_turn c s n life.Unborn = turn.Unborn
life_turn c s n life.Live = live_turn c s n (act_enabling c s n)
life_turn c s n (life.Over how) = turn_of (Stub n) turn.Over (stub_enabling s n)

abbrev pub turn_after : Config → State → ℕ → Option Envelope → Turn
turn_after c s n None = life_turn c s n (stage_at s n).life
turn_after c s n (Some e) = message_turn c e

-- the next step of a stage
abbrev pub next_for : Config → State → ℕ → Turn
next_for c s n = turn_after c s n (due_message n s.net)

-- whether two kinds of step are the same
abbrev pub same_kind : StepKind → StepKind → Bool
same_kind (Act a) (Act b) = a == b
same_kind (Go a) (Go b) = a == b
same_kind (Lose a) (Lose b) = a == b
same_kind (Again a) (Again b) = a == b
same_kind (Kill a) (Kill b) = a == b
same_kind (Stub a) (Stub b) = a == b
same_kind _ _ = false

-- whether a turn is this step
abbrev pub is_turn : StepKind → Turn → Bool
is_turn kind (turn.Step step) = same_kind kind step
is_turn kind (turn.Past step time) = same_kind kind step
is_turn kind (turn.Blocked a) = false
is_turn kind turn.Unborn = false
is_turn kind turn.Over = false

-- whether a step is the turn of one of these many stages from a number on
abbrev pub is_some_turn : Config → State → StepKind → ℕ → ℕ → Bool
is_some_turn c s kind n zero = false
is_some_turn c s kind n (suc left) = is_turn kind (next_for c s n) || is_some_turn c s kind (n + 1) left

-- a step is astray where it is no stage's turn
abbrev pub is_astray : Config → State → StepKind → Bool
is_astray c s kind = not (is_some_turn c s kind 1 (length s.stages))
