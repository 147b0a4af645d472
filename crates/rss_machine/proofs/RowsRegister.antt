-- Samples of runs over registers, each computed.
use Rattle.std.specs.Prelude.{◌≡◌, List, [], ◌∷◌, Some, codes, refl}
use Rattle.rss_names.specs.declared.service.ServiceId.TheVariants.{Reg}
use Rattle.pipeline_lang.specs.declared.config.Config.{Config}
use Rattle.pipeline_lang.specs.declared.script.Statement.TheVariants as statement
use Rattle.rss_machine.proofs.SampleFiles.{first_register, second_register, number, body, two_services, bare, one_register, write_then_read}
use Rattle.rss_machine.specs.declared.step.Step.{Step}
use Rattle.rss_machine.specs.declared.step.StepKind.TheVariants.{Act, Go, Lose, Again, Kill, Stub}
use Rattle.rss_machine.proofs.Sampling.{step, lines, replay_report}
use Rattle.rss_machine.specs.Run.{run, run_from}
use Rattle.rss_machine.specs.Refusal.{refusal}
use Rattle.rss_machine.specs.Effect.{effect}
use Rattle.rss_machine.specs.Endings.{ending_of}
use Rattle.rss_machine.specs.ReportText.{report_text, call_line, stage_line}
use Rattle.rss_tables.specs.ShardRow.{shard_after, shard_reply}
use Rattle.rss_tables.specs.ReplicaRow.{replica_after, replica_reply}
use Rattle.rss_model.specs.Cursor.{statements_to_end}
use Rattle.rss_model.specs.History.{has_ended, reply_of}
use Rattle.rss_model.specs.Legal.{table_at}
use Rattle.rss_model.specs.Walk.{all_zero}
use Rattle.std.specs.Fmt.{digits}

abbrev pub smallest_steps : List Step
smallest_steps =
    step (Act 1) 10 14 ∷ step (Go 1) 20 24 ∷ step (Go 2) 30 34 ∷ step (Go 3) 40 44 ∷ step (Go 4) 50 54 ∷
    step (Go 5) 60 64 ∷ step (Go 6) 70 74 ∷ step (Go 7) 80 84 ∷ step (Go 8) 90 94 ∷ step (Go 9) 100 104 ∷
    step (Go 10) 110 114 ∷ step (Go 11) 120 124 ∷ step (Go 12) 130 134 ∷ step (Act 1) 140 144 ∷ step (Go 13) 150 154 ∷
    step (Go 14) 160 164 ∷ step (Go 15) 170 174 ∷ step (Go 16) 180 184 ∷ step (Go 17) 190 194 ∷ step (Go 18) 200 204 ∷
    step (Act 1) 210 214 ∷
    []

-- a register is written and read back
smallest : replay_report write_then_read smallest_steps ≡ Some (lines (
    codes "call 1 a write r 5 ok place 1" ∷
    codes "call 2 a read r = 5 by 1 ok place 2" ∷
    codes "stage a exited" ∷
    codes "ending done" ∷
    []))
unfolding run run_from refusal effect shard_after shard_reply replica_after replica_reply ending_of report_text call_line stage_line statements_to_end has_ended reply_of table_at all_zero digits
smallest = refl

abbrev pub place_is_not_call_number_file : Config
place_is_not_call_number_file = record bare {
  registers = codes "r" ∷ codes "q" ∷ [];
  register_services = Reg 1 ∷ Reg 1 ∷ [];
  stages = codes "a" ∷ codes "b" ∷ [];
  bodies = body 2000 (statement.Write first_register (number 1) ∷ []) ∷ body 2000 (statement.Write second_register (number 2) ∷ []) ∷ [];
}

abbrev pub place_is_not_call_number_steps : List Step
place_is_not_call_number_steps =
    step (Act 1) 10 14 ∷ step (Act 2) 20 24 ∷ step (Go 4) 30 34 ∷ step (Go 5) 40 44 ∷ step (Go 7) 50 54 ∷
    step (Go 8) 60 64 ∷ step (Go 9) 70 74 ∷ step (Go 10) 80 84 ∷ step (Go 12) 90 94 ∷ step (Go 13) 100 104 ∷
    step (Act 2) 110 114 ∷ step (Go 1) 120 124 ∷ step (Go 2) 130 134 ∷ step (Go 14) 140 144 ∷ step (Go 15) 150 154 ∷
    step (Go 16) 160 164 ∷ step (Go 17) 170 174 ∷ step (Go 19) 180 184 ∷ step (Go 20) 190 194 ∷ step (Act 1) 200 204 ∷
    []

-- the later call takes effect first
place-is-not-call-number : replay_report place_is_not_call_number_file place_is_not_call_number_steps ≡ Some (lines (
    codes "call 1 a write r 1 ok place 2" ∷
    codes "call 2 b write q 2 ok place 1" ∷
    codes "stage a exited" ∷
    codes "stage b exited" ∷
    codes "ending done" ∷
    []))
unfolding run run_from refusal effect shard_after shard_reply replica_after replica_reply ending_of report_text call_line stage_line statements_to_end has_ended reply_of table_at all_zero digits
place-is-not-call-number = refl

abbrev dependency_first_file : Config
dependency_first_file = record one_register {
  stages = codes "a" ∷ codes "b" ∷ [];
  bodies = body 2000 (statement.Write first_register (number 5) ∷ []) ∷ body 2000 (statement.Read 1 first_register ∷ statement.Read 2 first_register ∷ []) ∷ [];
}

abbrev dependency_first_steps : List Step
dependency_first_steps =
    step (Act 1) 10 14 ∷ step (Go 1) 20 24 ∷ step (Go 2) 30 34 ∷ step (Go 4) 40 44 ∷ step (Go 5) 50 54 ∷
    step (Go 6) 60 64 ∷ step (Act 2) 70 74 ∷ step (Go 10) 80 84 ∷ step (Go 11) 90 94 ∷ step (Go 13) 100 104 ∷
    step (Go 14) 110 114 ∷ step (Act 2) 120 124 ∷ step (Go 16) 130 134 ∷ step (Go 17) 140 144 ∷ step (Go 18) 150 154 ∷
    step (Go 19) 160 164 ∷ step (Go 21) 170 174 ∷ step (Go 22) 180 184 ∷ step (Go 23) 190 194 ∷ step (Go 24) 200 204 ∷
    step (Act 2) 210 214 ∷
    []

-- a read stores what it saw at a majority before it asks
dependency-first : replay_report dependency_first_file dependency_first_steps ≡ Some (lines (
    codes "call 1 a write r 5 open place 1" ∷
    codes "call 2 b read r = 5 by 1 ok place 2" ∷
    codes "call 3 b read r = 5 by 1 ok place 3" ∷
    codes "stage a running" ∷
    codes "stage b exited" ∷
    codes "ending unfinished" ∷
    []))
unfolding run run_from refusal effect shard_after shard_reply replica_after replica_reply ending_of report_text call_line stage_line statements_to_end has_ended reply_of table_at all_zero digits
dependency-first = refl

abbrev stub_fixes_steps : List Step
stub_fixes_steps =
    step (Act 1) 10 14 ∷ step (Go 1) 20 24 ∷ step (Go 2) 30 34 ∷ step (Go 4) 40 44 ∷ step (Go 5) 50 54 ∷
    step (Go 6) 60 64 ∷ step (Act 2) 70 74 ∷ step (Go 10) 80 84 ∷ step (Go 11) 90 94 ∷ step (Go 13) 100 104 ∷
    step (Go 14) 110 114 ∷ step (Kill 2) 120 124 ∷ step (Stub 2) 130 134 ∷
    []

-- the stub of a stage that saw what no majority holds stores it at one first
stub-fixes : replay_report dependency_first_file stub_fixes_steps ≡ Some (lines (
    codes "call 1 a write r 5 open place 1" ∷
    codes "call 2 b read r = 5 by 1 ok place 2" ∷
    codes "stage a running" ∷
    codes "stage b killed fencing" ∷
    codes "service reg fences 1" ∷
    codes "ending unfinished" ∷
    []))
unfolding run run_from refusal effect shard_after shard_reply replica_after replica_reply ending_of report_text call_line stage_line statements_to_end has_ended reply_of table_at all_zero digits
stub-fixes = refl

abbrev repeats_steps : List Step
repeats_steps =
    step (Act 1) 10 14 ∷ step (Go 1) 20 24 ∷ step (Again 1) 30 34 ∷ step (Go 2) 40 44 ∷ step (Again 2) 50 54 ∷
    step (Go 3) 60 64 ∷ step (Again 3) 70 74 ∷ step (Go 4) 80 84 ∷ step (Again 4) 90 94 ∷ step (Go 6) 100 104 ∷
    step (Again 6) 110 114 ∷ step (Go 10) 120 124 ∷ step (Again 10) 130 134 ∷ step (Go 11) 140 144 ∷ step (Again 11) 150 154 ∷
    step (Go 13) 160 164 ∷ step (Again 13) 170 174 ∷ step (Go 15) 180 184 ∷ step (Again 15) 190 194 ∷ step (Act 1) 200 204 ∷
    step (Go 17) 210 214 ∷ step (Again 17) 220 224 ∷ step (Go 18) 230 234 ∷ step (Again 18) 240 244 ∷ step (Go 20) 250 254 ∷
    step (Again 20) 260 264 ∷ step (Go 22) 270 274 ∷ step (Again 22) 280 284 ∷ step (Act 1) 290 294 ∷
    []

-- messages that come twice change nothing
repeats : replay_report write_then_read repeats_steps ≡ Some (lines (
    codes "call 1 a write r 5 ok place 1" ∷
    codes "call 2 a read r = 5 by 1 ok place 2" ∷
    codes "stage a exited" ∷
    codes "ending done" ∷
    []))
unfolding run run_from refusal effect shard_after shard_reply replica_after replica_reply ending_of report_text call_line stage_line statements_to_end has_ended reply_of table_at all_zero digits
repeats = refl

abbrev unfinished_write_that_was_read_file : Config
unfinished_write_that_was_read_file = record one_register {
  stages = codes "a" ∷ codes "b" ∷ [];
  bodies = body 2000 (statement.Write first_register (number 5) ∷ []) ∷ body 2000 (statement.Read 1 first_register ∷ []) ∷ [];
}

abbrev unfinished_write_that_was_read_steps : List Step
unfinished_write_that_was_read_steps =
    step (Act 1) 10 14 ∷ step (Go 1) 20 24 ∷ step (Go 2) 30 34 ∷ step (Go 4) 40 44 ∷ step (Go 5) 50 54 ∷
    step (Go 6) 60 64 ∷ step (Kill 1) 70 74 ∷ step (Stub 1) 80 84 ∷ step (Act 2) 90 94 ∷ step (Go 10) 100 104 ∷
    step (Go 11) 110 114 ∷ step (Go 13) 120 124 ∷ step (Go 14) 130 134 ∷ step (Act 2) 140 144 ∷
    []

-- a write of a killed stage is placed before who read it
unfinished-write-that-was-read : replay_report unfinished_write_that_was_read_file unfinished_write_that_was_read_steps ≡ Some (lines (
    codes "call 1 a write r 5 open place 1" ∷
    codes "call 3 b read r = 5 by 1 ok place 2" ∷
    codes "stage a killed fenced" ∷
    codes "stage b exited" ∷
    codes "ending hurt" ∷
    []))
unfolding run run_from refusal effect shard_after shard_reply replica_after replica_reply ending_of report_text call_line stage_line statements_to_end has_ended reply_of table_at all_zero digits
unfinished-write-that-was-read = refl

abbrev read_of_five_file : Config
read_of_five_file = record one_register {
  tries = 1;
  services = two_services 5;
  bodies = body 2000 (statement.Read 1 first_register ∷ []) ∷ [];
}

abbrev five_replicas_two_lost_steps : List Step
five_replicas_two_lost_steps =
    step (Act 1) 10 14 ∷ step (Lose 1) 20 24 ∷ step (Lose 2) 30 34 ∷ step (Go 3) 40 44 ∷ step (Go 4) 50 54 ∷
    step (Go 5) 60 64 ∷ step (Go 6) 70 74 ∷ step (Go 7) 80 84 ∷ step (Go 8) 90 94 ∷ step (Act 1) 100 104 ∷
    []

-- two of five replicas can be spared
five-replicas-two-lost : replay_report read_of_five_file five_replicas_two_lost_steps ≡ Some (lines (
    codes "call 1 a read r = 0 by 0 ok place 1" ∷
    codes "stage a exited" ∷
    codes "ending done" ∷
    []))
unfolding run run_from refusal effect shard_after shard_reply replica_after replica_reply ending_of report_text call_line stage_line statements_to_end has_ended reply_of table_at all_zero digits
five-replicas-two-lost = refl

abbrev five_replicas_three_lost_steps : List Step
five_replicas_three_lost_steps =
    step (Act 1) 10 14 ∷ step (Lose 1) 20 24 ∷ step (Lose 2) 30 34 ∷ step (Lose 3) 40 44 ∷
    []

-- three of five cannot
five-replicas-three-lost : replay_report read_of_five_file five_replicas_three_lost_steps ≡ Some (lines (
    codes "call 1 a read unavailable quorum" ∷
    codes "stage a unavailable fencing" ∷
    codes "ending unfinished" ∷
    []))
unfolding run run_from refusal effect shard_after shard_reply replica_after replica_reply ending_of report_text call_line stage_line statements_to_end has_ended reply_of table_at all_zero digits
five-replicas-three-lost = refl

abbrev read_lost_then_stub_steps : List Step
read_lost_then_stub_steps =
    step (Act 1) 10 14 ∷ step (Lose 1) 20 24 ∷ step (Lose 2) 30 34 ∷ step (Lose 3) 40 44 ∷ step (Stub 1) 50 54 ∷
    []

-- the stub of a stage whose quorum is lost
read-lost-then-stub : replay_report read_of_five_file read_lost_then_stub_steps ≡ Some (lines (
    codes "call 1 a read unavailable quorum" ∷
    codes "stage a unavailable fenced" ∷
    codes "ending hurt" ∷
    []))
unfolding run run_from refusal effect shard_after shard_reply replica_after replica_reply ending_of report_text call_line stage_line statements_to_end has_ended reply_of table_at all_zero digits
read-lost-then-stub = refl
