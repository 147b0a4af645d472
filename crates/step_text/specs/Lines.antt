-- How the line of a step is read: its kind, the reading of the clock, and the newline.
use Rattle.std.specs.Prelude.{ℕ, ◌-◌, ◌^◌, List, length, Result, Ok, Err, codes, cond, nat_le}
use Rattle.truetime.specs.Reading.{Reading}
use Rattle.rss_machine.specs.declared.step.Step.{Step}
use Rattle.rss_machine.specs.declared.step.StepKind.{StepKind}
use Rattle.rss_machine.specs.declared.step.StepKind.TheVariants.{Act, Go, Lose, Again, Kill, Stub}
use Rattle.step_text.specs.Reading.{◌>>=◌, after_word, furthest}
use Rattle.step_text.specs.Numbers.{number_at}

-- this word, and the number of a stage
unfoldable pub stage_at : List ℕ → List ℕ → Result (ℕ × List ℕ) ℕ
stage_at word bytes = do
  rest ← after_word word bytes
  number_at 1 16 rest

-- this word, and the number of a message
unfoldable pub message_at : List ℕ → List ℕ → Result (ℕ × List ℕ) ℕ
message_at word bytes = do
  rest ← after_word word bytes
  number_at 1 (2 ^ 32 - 1) rest

-- `act S`
unfoldable pub act_at : List ℕ → Result (StepKind × List ℕ) ℕ
act_at bytes = do
  stage ← stage_at (codes "act ") bytes
  Ok (Act stage.0, stage.1)

-- `go M`
unfoldable pub go_at : List ℕ → Result (StepKind × List ℕ) ℕ
go_at bytes = do
  message ← message_at (codes "go ") bytes
  Ok (Go message.0, message.1)

-- `lose M`
unfoldable pub lose_at : List ℕ → Result (StepKind × List ℕ) ℕ
lose_at bytes = do
  message ← message_at (codes "lose ") bytes
  Ok (Lose message.0, message.1)

-- `again M`
unfoldable pub again_at : List ℕ → Result (StepKind × List ℕ) ℕ
again_at bytes = do
  message ← message_at (codes "again ") bytes
  Ok (Again message.0, message.1)

-- `kill S`
unfoldable pub kill_at : List ℕ → Result (StepKind × List ℕ) ℕ
kill_at bytes = do
  stage ← stage_at (codes "kill ") bytes
  Ok (Kill stage.0, stage.1)

-- `stub S`
unfoldable pub stub_at : List ℕ → Result (StepKind × List ℕ) ℕ
stub_at bytes = do
  stage ← stage_at (codes "stub ") bytes
  Ok (Stub stage.0, stage.1)

-- what a step does: the one of the six kinds that stands here, or the place behind which none of them can stand
unfoldable pub kind_at : List ℕ → Result (StepKind × List ℕ) ℕ
kind_at bytes = furthest (furthest (furthest (furthest (furthest (act_at bytes) (go_at bytes)) (lose_at bytes)) (again_at bytes)) (kill_at bytes)) (stub_at bytes)

-- the reading of the clock, with a space before each of its two ends, and the newline.
-- An earliest above the latest is judged at the newline, and its place is where the latest begins
unfoldable pub clock_at : List ℕ → Result (Reading × List ℕ) ℕ
clock_at bytes = do
  first ← after_word (codes " ") bytes
  earliest ← number_at 0 (2 ^ 62 - 1) first
  second ← after_word (codes " ") earliest.1
  latest ← number_at 0 (2 ^ 62 - 1) second
  rest ← after_word (codes "\n") latest.1
  cond (nat_le earliest.0 latest.0) (Ok (record { earliest = earliest.0; latest = latest.0 }, rest)) (Err (length second))

-- the line of a step
unfoldable pub step_at : List ℕ → Result (Step × List ℕ) ℕ
step_at bytes = do
  kind ← kind_at bytes
  clock ← clock_at kind.1
  Ok (record { kind = kind.0; at = clock.0 }, clock.1)
