-- What a driver makes of its stage's turn: the fates may kill the stage, or lose or repeat a message.
-- Where the turn is no step, or the log is full, it asks nobody and makes no step.
use Rattle.std.specs.Prelude.{ℕ, zero, suc, Bool, true, false, List, [], ◌∷◌, if◌then◌else◌}
use Rattle.rss_machine.specs.declared.step.StepKind.{StepKind}
use Rattle.rss_machine.specs.declared.step.StepKind.TheVariants.{Act, Go, Lose, Again, Kill, Stub}
use Rattle.rss_machine.specs.declared.turn.Fate.{Fate}
use Rattle.rss_machine.specs.declared.turn.Fate.TheVariants as fate
use Rattle.rss_machine.specs.declared.turn.Turn.{Turn}
use Rattle.rss_machine.specs.declared.turn.Turn.TheVariants.{Step, Past, Blocked, Unborn, Over}

-- an act by a stage that the fates kill is a kill in its place, which waits for no time
abbrev pub killed_instead : Turn → Bool → Turn
killed_instead (Step (Act n)) true = Step (Kill n)
killed_instead (Past (Act n) time) true = Step (Kill n)
killed_instead turn _ = turn

-- whether a driver asks the fates to kill its stage: in place of an act, where the log has room for so
-- many steps
abbrev pub asks_kill : Turn → ℕ → Bool
asks_kill turn zero = false
asks_kill (Step (Act n)) (suc room) = true
asks_kill (Past (Act n) time) (suc room) = true
asks_kill turn (suc room) = false

-- whether it asks for the fate of a message: where that is to be delivered, and the log has room for two steps
abbrev pub asks_fate : Turn → ℕ → Bool
asks_fate (Step (Go m)) (suc (suc room)) = true
asks_fate turn room = false

-- whether it takes a reading
abbrev pub takes_reading : Turn → ℕ → Bool
takes_reading turn zero = false
takes_reading (Step kind) (suc room) = true
takes_reading (Past kind time) (suc room) = true
takes_reading (Blocked a) (suc room) = false
takes_reading Unborn (suc room) = false
takes_reading Over (suc room) = false

-- the delivery of a message as the fates order it, where the log has room for two steps
abbrev pub fated : ℕ → Fate → List StepKind
fated m fate.Deliver = Go m ∷ []
fated m fate.Lose = Lose m ∷ []
fated m fate.Again = Go m ∷ Again m ∷ []

-- the steps of a kind that is a turn, where the log has room for one step and so many more: the fates
-- are asked of a delivery where there is room for two
abbrev pub kinds_of : StepKind → ℕ → Fate → List StepKind
kinds_of (Go m) (suc more) order = fated m order
kinds_of kind _ order = kind ∷ []

-- the steps that a driver makes of a turn, where the log has room for so many, by the answers of the
-- fates; with a reading that begins at or below the time that the turn waits for it makes none
abbrev pub driver_steps : Turn → ℕ → Fate → Bool → List StepKind
driver_steps turn zero order passed = []
driver_steps (Step kind) (suc more) order passed = kinds_of kind more order
driver_steps (Past kind time) (suc more) order passed = if passed then kind ∷ [] else []
driver_steps (Blocked a) (suc more) order passed = []
driver_steps Unborn (suc more) order passed = []
driver_steps Over (suc more) order passed = []
