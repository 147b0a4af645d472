-- Samples of the serial policy, each computed.
use Rattle.std.specs.Prelude.{◌≡◌, List, [], ◌∷◌, Some, codes, refl}
use Rattle.pipeline_lang.specs.declared.config.Config.{Config}
use Rattle.pipeline_lang.specs.declared.script.Statement.TheVariants as statement
use Rattle.pipeline_lang.specs.declared.script.Compare.TheVariants.{Equal}
use Rattle.rss_machine.proofs.SampleFiles.{first_register, number, variable, body, bare, one_register, write_then_read}
use Rattle.rss_machine.specs.declared.step.Step.{Step}
use Rattle.rss_machine.specs.declared.step.StepKind.TheVariants.{Act, Go}
use Rattle.rss_machine.proofs.Sampling.{step, lines, replay_report, serial_report}
use Rattle.rss_machine.specs.Run.{run, run_from}
use Rattle.rss_machine.specs.Refusal.{refusal}
use Rattle.rss_machine.specs.Effect.{effect}
use Rattle.rss_machine.specs.Endings.{ending_of}
use Rattle.rss_machine.specs.ReportText.{report_text, call_line, stage_line}
use Rattle.rss_machine.specs.Serial.{serial_from}
use Rattle.rss_tables.specs.ShardRow.{shard_after, shard_reply}
use Rattle.rss_tables.specs.ReplicaRow.{replica_after, replica_reply}
use Rattle.rss_model.specs.Cursor.{statements_to_end}
use Rattle.rss_model.specs.History.{has_ended, reply_of}
use Rattle.rss_model.specs.Legal.{table_at}
use Rattle.rss_model.specs.Walk.{all_zero}
use Rattle.std.specs.Fmt.{digits}

abbrev empty_file : Config
empty_file = record bare {
  bodies = body 2000 [] ∷ [];
}

-- an empty script
empty : serial_report empty_file ≡ Some (lines (
    codes "stage a exited" ∷
    codes "ending done" ∷
    []))
unfolding serial_from run run_from refusal effect shard_after shard_reply replica_after replica_reply ending_of report_text call_line stage_line statements_to_end has_ended reply_of table_at all_zero digits
empty = refl

-- the smallest file
smallest-serial : serial_report write_then_read ≡ Some (lines (
    codes "call 1 a write r 5 ok place 1" ∷
    codes "call 2 a read r = 5 by 1 ok place 2" ∷
    codes "stage a exited" ∷
    codes "ending done" ∷
    []))
unfolding serial_from run run_from refusal effect shard_after shard_reply replica_after replica_reply ending_of report_text call_line stage_line statements_to_end has_ended reply_of table_at all_zero digits
smallest-serial = refl

abbrev filter_file : Config
filter_file = record one_register {
  pipes = codes "p" ∷ [];
  pipe_ends = record { giver = 1; taker = 2; capacity = 1 } ∷ [];
  stages = codes "a" ∷ codes "b" ∷ [];
  bodies = body 2000 (statement.Put 1 (number 1) ∷ statement.Put 1 (number 2) ∷ []) ∷ body 2000 (statement.Repeat 3 ∷ statement.Take 1 1 ∷ statement.When (Equal (variable 0) (number 1)) ∷ statement.Exit ∷ statement.End ∷ statement.Write first_register (variable 1) ∷ statement.End ∷ []) ∷ [];
}

-- a pipe that ends
filter-serial : serial_report filter_file ≡ Some (lines (
    codes "call 1 b write r 1 ok place 1" ∷
    codes "call 2 b write r 2 ok place 2" ∷
    codes "stage a exited" ∷
    codes "stage b exited" ∷
    codes "ending done" ∷
    []))
unfolding serial_from run run_from refusal effect shard_after shard_reply replica_after replica_reply ending_of report_text call_line stage_line statements_to_end has_ended reply_of table_at all_zero digits
filter-serial = refl

abbrev filter_replay_steps : List Step
filter_replay_steps =
    step (Act 1) 10 14 ∷ step (Act 2) 20 24 ∷ step (Act 2) 30 34 ∷ step (Act 2) 40 44 ∷ step (Act 2) 50 54 ∷
    step (Go 1) 60 64 ∷ step (Go 2) 70 74 ∷ step (Go 4) 80 84 ∷ step (Go 5) 90 94 ∷ step (Go 6) 100 104 ∷
    step (Go 7) 110 114 ∷ step (Go 9) 120 124 ∷ step (Go 10) 130 134 ∷ step (Act 1) 140 144 ∷ step (Act 1) 150 154 ∷
    step (Act 2) 160 164 ∷ step (Act 2) 170 174 ∷ step (Act 2) 180 184 ∷ step (Act 2) 190 194 ∷ step (Go 11) 200 204 ∷
    step (Go 12) 210 214 ∷ step (Go 14) 220 224 ∷ step (Go 15) 230 234 ∷ step (Go 16) 240 244 ∷ step (Go 17) 250 254 ∷
    step (Go 19) 260 264 ∷ step (Go 20) 270 274 ∷ step (Act 2) 280 284 ∷ step (Act 2) 290 294 ∷ step (Act 2) 300 304 ∷
    step (Act 2) 310 314 ∷
    []

-- the same by its steps
filter-replay : replay_report filter_file filter_replay_steps ≡ Some (lines (
    codes "call 1 b write r 1 ok place 1" ∷
    codes "call 2 b write r 2 ok place 2" ∷
    codes "stage a exited" ∷
    codes "stage b exited" ∷
    codes "ending done" ∷
    []))
unfolding run run_from refusal effect shard_after shard_reply replica_after replica_reply ending_of report_text call_line stage_line statements_to_end has_ended reply_of table_at all_zero digits
filter-replay = refl

abbrev pub kill_by_the_file_file : Config
kill_by_the_file_file = record write_then_read {
  kills = record { stage = 1; act = 2 } ∷ [];
}

-- the file kills a stage
kill-by-the-file : serial_report kill_by_the_file_file ≡ Some (lines (
    codes "call 1 a write r 5 ok place 1" ∷
    codes "stage a killed fenced" ∷
    codes "service reg fences 1" ∷
    codes "ending hurt" ∷
    []))
unfolding serial_from run run_from refusal effect shard_after shard_reply replica_after replica_reply ending_of report_text call_line stage_line statements_to_end has_ended reply_of table_at all_zero digits
kill-by-the-file = refl

abbrev stuck_file : Config
stuck_file = record bare {
  pipes = codes "out" ∷ codes "back" ∷ [];
  pipe_ends = record { giver = 1; taker = 2; capacity = 1 } ∷ record { giver = 2; taker = 1; capacity = 1 } ∷ [];
  stages = codes "a" ∷ codes "b" ∷ [];
  bodies = body 2000 (statement.Take 1 2 ∷ statement.Put 1 (number 1) ∷ []) ∷ body 2000 (statement.Take 1 1 ∷ statement.Put 2 (number 1) ∷ []) ∷ [];
}

-- two stages that wait for each other
stuck-serial : serial_report stuck_file ≡ Some (lines (
    codes "stage a waits take back" ∷
    codes "stage b waits take out" ∷
    codes "ending stuck" ∷
    []))
unfolding serial_from run run_from refusal effect shard_after shard_reply replica_after replica_reply ending_of report_text call_line stage_line statements_to_end has_ended reply_of table_at all_zero digits
stuck-serial = refl

abbrev stuck_without_steps_steps : List Step
stuck_without_steps_steps =
    []

-- the same without a step
stuck-without-steps : replay_report stuck_file stuck_without_steps_steps ≡ Some (lines (
    codes "stage a waits take back" ∷
    codes "stage b waits take out" ∷
    codes "ending stuck" ∷
    []))
unfolding run run_from refusal effect shard_after shard_reply replica_after replica_reply ending_of report_text call_line stage_line statements_to_end has_ended reply_of table_at all_zero digits
stuck-without-steps = refl

abbrev step_limit_file : Config
step_limit_file = record write_then_read {
  max_steps = 3;
}

-- the log is full
step-limit-serial : serial_report step_limit_file ≡ Some (lines (
    codes "call 1 a write open" ∷
    codes "stage a running" ∷
    codes "ending limit" ∷
    []))
unfolding serial_from run run_from refusal effect shard_after shard_reply replica_after replica_reply ending_of report_text call_line stage_line statements_to_end has_ended reply_of table_at all_zero digits
step-limit-serial = refl

abbrev step_limit_replay_steps : List Step
step_limit_replay_steps =
    step (Act 1) 10 14 ∷ step (Go 1) 20 24 ∷ step (Go 2) 30 34 ∷
    []

-- the same by its steps
step-limit-replay : replay_report step_limit_file step_limit_replay_steps ≡ Some (lines (
    codes "call 1 a write open" ∷
    codes "stage a running" ∷
    codes "ending limit" ∷
    []))
unfolding run run_from refusal effect shard_after shard_reply replica_after replica_reply ending_of report_text call_line stage_line statements_to_end has_ended reply_of table_at all_zero digits
step-limit-replay = refl
