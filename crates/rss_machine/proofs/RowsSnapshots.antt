-- Samples of snapshots, each computed.
use Rattle.std.specs.Prelude.{◌≡◌, List, [], ◌∷◌, Some, None, codes, refl}
use Rattle.pipeline_lang.specs.declared.config.Config.{Config}
use Rattle.pipeline_lang.specs.declared.script.Statement.TheVariants as statement
use Rattle.rss_machine.proofs.SampleFiles.{first_key, second_key, third_key, number, variable, body, one_key, three_keys}
use Rattle.rss_machine.specs.declared.step.Step.{Step}
use Rattle.rss_machine.specs.declared.step.StepKind.TheVariants.{Act, Go, Lose, Kill, Stub}
use Rattle.rss_machine.proofs.Sampling.{step, lines, replay_report}
use Rattle.rss_machine.specs.Run.{run, run_from}
use Rattle.rss_machine.specs.Refusal.{refusal}
use Rattle.rss_machine.specs.Effect.{effect}
use Rattle.rss_machine.specs.Endings.{ending_of}
use Rattle.rss_machine.specs.ReportText.{report_text, call_line, stage_line}
use Rattle.rss_tables.specs.ShardRow.{shard_after, shard_reply}
use Rattle.rss_tables.specs.ReplicaRow.{replica_after, replica_reply}
use Rattle.rss_model.specs.Cursor.{statements_to_end}
use Rattle.rss_model.specs.History.{has_ended, reply_of}
use Rattle.rss_model.specs.Legal.{table_at}
use Rattle.rss_model.specs.Walk.{all_zero}
use Rattle.std.specs.Fmt.{digits}

abbrev below_the_least_read_time_file : Config
below_the_least_read_time_file = record three_keys {
  bodies = body 1000 (statement.Txn [] None ((first_key, number 1) ∷ (third_key, (number 1)) ∷ []) ∷ []) ∷ body 1000 (statement.Snap ((1, first_key) ∷ []) ∷ statement.Snap ((2, third_key) ∷ []) ∷ []) ∷ body 1000 (statement.Txn ((1, first_key) ∷ []) None ((second_key, variable 1) ∷ []) ∷ []) ∷ [];
}

abbrev below_the_least_read_time_steps : List Step
below_the_least_read_time_steps =
    step (Act 1) 10 14 ∷ step (Go 1) 20 24 ∷ step (Go 2) 30 34 ∷ step (Go 3) 40 44 ∷ step (Go 4) 50 54 ∷
    step (Go 5) 60 64 ∷ step (Go 6) 70 74 ∷ step (Go 7) 80 84 ∷ step (Go 8) 90 94 ∷ step (Go 9) 100 104 ∷
    step (Act 3) 110 114 ∷ step (Go 11) 120 124 ∷ step (Go 12) 130 134 ∷ step (Go 13) 140 144 ∷ step (Go 14) 150 154 ∷
    step (Go 15) 160 164 ∷ step (Go 16) 170 174 ∷ step (Go 17) 180 184 ∷ step (Act 2) 190 194 ∷ step (Go 19) 200 204 ∷
    step (Go 20) 210 214 ∷ step (Act 2) 220 224 ∷ step (Go 21) 230 234 ∷ step (Go 22) 240 244 ∷ step (Go 23) 250 254 ∷
    step (Go 24) 260 264 ∷ step (Go 25) 270 274 ∷ step (Go 26) 280 284 ∷ step (Go 27) 290 294 ∷ step (Go 28) 300 304 ∷
    step (Act 2) 310 314 ∷
    []

-- a snapshot sees what its stage saw before
below-the-least-read-time : replay_report below_the_least_read_time_file below_the_least_read_time_steps ≡ Some (lines (
    codes "call 1 a txn : x = 1, z = 1 open place 1" ∷
    codes "call 2 c txn open" ∷
    codes "call 3 b snap x = 1 by 1 ok place 2" ∷
    codes "call 4 b snap z = 1 by 1 ok place 3" ∷
    codes "stage a running" ∷
    codes "stage b exited" ∷
    codes "stage c running" ∷
    codes "ending unfinished" ∷
    []))
unfolding run run_from refusal effect shard_after shard_reply replica_after replica_reply ending_of report_text call_line stage_line statements_to_end has_ended reply_of table_at all_zero digits
below-the-least-read-time = refl

abbrev two_rounds_file : Config
two_rounds_file = record three_keys {
  bodies = body 1000 (statement.Txn [] None ((first_key, number 1) ∷ (third_key, (number 1)) ∷ []) ∷ []) ∷ body 1000 (statement.Snap ((1, first_key) ∷ (2, third_key) ∷ []) ∷ []) ∷ body 1000 (statement.Txn ((1, first_key) ∷ []) None ((second_key, variable 1) ∷ []) ∷ []) ∷ [];
}

abbrev second_round_steps : List Step
second_round_steps =
    step (Act 1) 10 14 ∷ step (Go 1) 20 24 ∷ step (Go 2) 30 34 ∷ step (Go 3) 40 44 ∷ step (Go 4) 50 54 ∷
    step (Go 5) 60 64 ∷ step (Go 6) 70 74 ∷ step (Go 7) 80 84 ∷ step (Go 8) 90 94 ∷ step (Go 9) 100 104 ∷
    step (Act 3) 110 114 ∷ step (Go 11) 120 124 ∷ step (Go 12) 130 134 ∷ step (Go 13) 140 144 ∷ step (Go 14) 150 154 ∷
    step (Go 15) 160 164 ∷ step (Go 16) 170 174 ∷ step (Go 17) 180 184 ∷ step (Act 2) 190 194 ∷ step (Go 19) 200 204 ∷
    step (Go 20) 210 214 ∷ step (Go 21) 220 224 ∷ step (Go 22) 230 234 ∷ step (Go 23) 240 244 ∷ step (Go 24) 250 254 ∷
    step (Go 25) 260 264 ∷ step (Go 26) 270 274 ∷ step (Go 27) 280 284 ∷ step (Go 28) 290 294 ∷ step (Go 29) 300 304 ∷
    step (Go 30) 310 314 ∷ step (Act 2) 320 324 ∷
    []

-- a shard whose writer was passed by is asked again
second-round : replay_report two_rounds_file second_round_steps ≡ Some (lines (
    codes "call 1 a txn : x = 1, z = 1 open place 1" ∷
    codes "call 2 c txn open" ∷
    codes "call 3 b snap x = 1 by 1, z = 1 by 1 ok place 2" ∷
    codes "stage a running" ∷
    codes "stage b exited" ∷
    codes "stage c running" ∷
    codes "ending unfinished" ∷
    []))
unfolding run run_from refusal effect shard_after shard_reply replica_after replica_reply ending_of report_text call_line stage_line statements_to_end has_ended reply_of table_at all_zero digits
second-round = refl

abbrev one_round_steps : List Step
one_round_steps =
    step (Act 1) 10 14 ∷ step (Go 1) 20 24 ∷ step (Go 2) 30 34 ∷ step (Go 3) 40 44 ∷ step (Go 4) 50 54 ∷
    step (Go 5) 60 64 ∷ step (Go 6) 70 74 ∷ step (Go 7) 80 84 ∷ step (Go 8) 90 94 ∷ step (Go 9) 100 104 ∷
    step (Act 2) 110 114 ∷ step (Go 11) 120 124 ∷ step (Go 12) 130 134 ∷ step (Go 13) 140 144 ∷ step (Go 14) 150 154 ∷
    step (Act 2) 160 164 ∷
    []

-- both writers are passed by, and the snapshot stands before them
one-round : replay_report two_rounds_file one_round_steps ≡ Some (lines (
    codes "call 1 a txn : x = 1, z = 1 open place 2" ∷
    codes "call 2 b snap x = 0 by 0, z = 0 by 0 ok place 1" ∷
    codes "stage a running" ∷
    codes "stage b exited" ∷
    codes "stage c running" ∷
    codes "ending unfinished" ∷
    []))
unfolding run run_from refusal effect shard_after shard_reply replica_after replica_reply ending_of report_text call_line stage_line statements_to_end has_ended reply_of table_at all_zero digits
one-round = refl

abbrev snapshot_lost_file : Config
snapshot_lost_file = record one_key {
  bodies = body 2000 (statement.Snap ((1, first_key) ∷ []) ∷ []) ∷ [];
}

abbrev snapshot_two_lost_steps : List Step
snapshot_two_lost_steps =
    step (Act 1) 10 14 ∷ step (Lose 1) 20 24 ∷ step (Lose 2) 30 34 ∷ step (Go 3) 40 44 ∷ step (Go 4) 50 54 ∷
    step (Act 1) 60 64 ∷
    []

-- two lost messages are sent again
snapshot-two-lost : replay_report snapshot_lost_file snapshot_two_lost_steps ≡ Some (lines (
    codes "call 1 a snap x = 0 by 0 ok place 1" ∷
    codes "stage a exited" ∷
    codes "ending done" ∷
    []))
unfolding run run_from refusal effect shard_after shard_reply replica_after replica_reply ending_of report_text call_line stage_line statements_to_end has_ended reply_of table_at all_zero digits
snapshot-two-lost = refl

abbrev snapshot_three_lost_steps : List Step
snapshot_three_lost_steps =
    step (Act 1) 10 14 ∷ step (Lose 1) 20 24 ∷ step (Lose 2) 30 34 ∷ step (Lose 3) 40 44 ∷
    []

-- the third loss cuts the shard off
snapshot-three-lost : replay_report snapshot_lost_file snapshot_three_lost_steps ≡ Some (lines (
    codes "call 1 a snap unavailable shard s1" ∷
    codes "stage a unavailable fencing" ∷
    codes "ending unfinished" ∷
    []))
unfolding run run_from refusal effect shard_after shard_reply replica_after replica_reply ending_of report_text call_line stage_line statements_to_end has_ended reply_of table_at all_zero digits
snapshot-three-lost = refl

abbrev snapshot_lost_then_stub_steps : List Step
snapshot_lost_then_stub_steps =
    step (Act 1) 10 14 ∷ step (Lose 1) 20 24 ∷ step (Lose 2) 30 34 ∷ step (Lose 3) 40 44 ∷ step (Stub 1) 50 54 ∷
    []

-- the stub of a stage that lost its shard
snapshot-lost-then-stub : replay_report snapshot_lost_file snapshot_lost_then_stub_steps ≡ Some (lines (
    codes "call 1 a snap unavailable shard s1" ∷
    codes "stage a unavailable fenced" ∷
    codes "ending hurt" ∷
    []))
unfolding run run_from refusal effect shard_after shard_reply replica_after replica_reply ending_of report_text call_line stage_line statements_to_end has_ended reply_of table_at all_zero digits
snapshot-lost-then-stub = refl

abbrev stub_unfenced_file : Config
stub_unfenced_file = record one_key {
  tries = 1;
  stages = codes "p" ∷ codes "c" ∷ [];
  bodies = body 2000 (statement.Spawn 2 ∷ statement.Wait 2 ∷ []) ∷ body 2000 (statement.Txn [] None ((first_key, number 1) ∷ []) ∷ []) ∷ [];
}

abbrev stub_unfenced_steps : List Step
stub_unfenced_steps =
    step (Act 1) 10 14 ∷ step (Act 2) 20 24 ∷ step (Kill 2) 30 34 ∷ step (Stub 2) 40 44 ∷ step (Lose 2) 50 54 ∷
    step (Act 1) 60 64 ∷ step (Act 1) 70 74 ∷
    []

-- a stub that is cut off ends unfenced
stub-unfenced : replay_report stub_unfenced_file stub_unfenced_steps ≡ Some (lines (
    codes "call 1 c txn open" ∷
    codes "stage p exited" ∷
    codes "stage c killed unfenced" ∷
    codes "ending hurt" ∷
    []))
unfolding run run_from refusal effect shard_after shard_reply replica_after replica_reply ending_of report_text call_line stage_line statements_to_end has_ended reply_of table_at all_zero digits
stub-unfenced = refl
