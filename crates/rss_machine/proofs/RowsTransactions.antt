-- Samples of runs over shards, each computed.
use Rattle.std.specs.Prelude.{◌≡◌, List, [], ◌∷◌, Some, None, codes, refl}
use Rattle.pipeline_lang.specs.declared.config.Config.{Config}
use Rattle.pipeline_lang.specs.declared.script.Statement.TheVariants as statement
use Rattle.pipeline_lang.specs.declared.script.Expr.TheVariants.{Plus}
use Rattle.pipeline_lang.specs.declared.script.Term.TheVariants.{Number, Variable}
use Rattle.pipeline_lang.specs.declared.script.Compare.TheVariants.{Less}
use Rattle.rss_machine.proofs.SampleFiles.{first_key, second_key, number, variable, body, one_key, three_keys}
use Rattle.rss_machine.specs.declared.step.Step.{Step}
use Rattle.rss_machine.specs.declared.step.StepKind.TheVariants.{Act, Go}
use Rattle.rss_machine.proofs.Sampling.{step, lines, replay_report}
use Rattle.rss_machine.specs.Run.{run, run_from}
use Rattle.rss_machine.specs.Refusal.{refusal}
use Rattle.rss_machine.specs.Effect.{effect}
use Rattle.rss_machine.specs.Endings.{ending_of}
use Rattle.rss_machine.specs.ReportText.{report_text, call_line, stage_line}
use Rattle.rss_tables.specs.ShardRow.{shard_after, shard_reply}
use Rattle.rss_tables.specs.ReplicaRow.{replica_after, replica_reply}
use Rattle.rss_model.specs.Cursor.{statements_to_end}
use Rattle.rss_model.specs.History.{has_ended, reply_of}
use Rattle.rss_model.specs.Legal.{table_at}
use Rattle.rss_model.specs.Walk.{all_zero}
use Rattle.std.specs.Fmt.{digits}

abbrev completed_write_commit_undelivered_file : Config
completed_write_commit_undelivered_file = record one_key {
  stages = codes "a" ∷ codes "b" ∷ [];
  bodies = body 20 (statement.Txn [] None ((first_key, number 1) ∷ []) ∷ []) ∷ body 20 (statement.Snap ((1, first_key) ∷ []) ∷ []) ∷ [];
}

abbrev completed_write_commit_undelivered_steps : List Step
completed_write_commit_undelivered_steps =
    step (Act 1) 10 14 ∷ step (Go 1) 20 24 ∷ step (Go 2) 30 34 ∷ step (Go 3) 40 44 ∷ step (Go 4) 50 54 ∷
    step (Go 5) 60 64 ∷ step (Go 6) 70 74 ∷ step (Act 2) 80 84 ∷ step (Go 8) 90 94 ∷ step (Go 9) 100 104 ∷
    step (Go 10) 110 114 ∷ step (Go 11) 120 124 ∷ step (Go 12) 130 134 ∷ step (Go 13) 140 144 ∷ step (Go 14) 150 154 ∷
    step (Go 15) 160 164 ∷ step (Act 2) 170 174 ∷ step (Act 1) 180 184 ∷
    []

-- a snapshot waits for a transaction that has ended, and passes its outcome on
completed-write-commit-undelivered : replay_report completed_write_commit_undelivered_file completed_write_commit_undelivered_steps ≡ Some (lines (
    codes "call 1 a txn : x = 1 ok place 1" ∷
    codes "call 2 b snap x = 1 by 1 ok place 2" ∷
    codes "stage a exited" ∷
    codes "stage b exited" ∷
    codes "ending done" ∷
    []))
unfolding run run_from refusal effect shard_after shard_reply replica_after replica_reply ending_of report_text call_line stage_line statements_to_end has_ended reply_of table_at all_zero digits
completed-write-commit-undelivered = refl

abbrev wound_file : Config
wound_file = record three_keys {
  keys = codes "x" ∷ codes "y" ∷ [];
  homes = 1 ∷ 2 ∷ [];
  stages = codes "a" ∷ codes "b" ∷ [];
  bodies = body 0 (statement.Txn ((1, first_key) ∷ (2, second_key) ∷ []) None ((first_key, Plus (Variable 1) (Number 1)) ∷ (second_key, (Plus (Variable 2) (Number 1))) ∷ []) ∷ []) ∷ body 0 (statement.Txn ((1, first_key) ∷ (2, second_key) ∷ []) None ((first_key, Plus (Variable 1) (Number 1)) ∷ (second_key, (Plus (Variable 2) (Number 1))) ∷ []) ∷ []) ∷ [];
}

abbrev wound_steps : List Step
wound_steps =
    step (Act 1) 10 14 ∷ step (Act 2) 20 24 ∷ step (Go 4) 30 34 ∷ step (Go 1) 40 44 ∷ step (Go 2) 50 54 ∷
    step (Go 3) 60 64 ∷ step (Go 5) 70 74 ∷ step (Go 8) 80 84 ∷ step (Go 9) 90 94 ∷ step (Go 10) 100 104 ∷
    step (Go 6) 110 114 ∷ step (Go 7) 120 124 ∷ step (Go 11) 130 134 ∷ step (Go 12) 140 144 ∷ step (Go 13) 150 154 ∷
    step (Go 14) 160 164 ∷ step (Go 15) 170 174 ∷ step (Go 16) 180 184 ∷ step (Go 17) 190 194 ∷ step (Go 18) 200 204 ∷
    step (Act 2) 210 214 ∷ step (Go 21) 220 224 ∷ step (Go 22) 230 234 ∷ step (Go 23) 240 244 ∷ step (Go 24) 250 254 ∷
    step (Go 25) 260 264 ∷ step (Go 26) 270 274 ∷ step (Go 27) 280 284 ∷ step (Go 28) 290 294 ∷ step (Go 30) 300 304 ∷
    step (Go 31) 310 314 ∷ step (Go 32) 320 324 ∷ step (Go 33) 330 334 ∷ step (Go 34) 340 344 ∷ step (Go 35) 350 354 ∷
    step (Go 36) 360 364 ∷ step (Go 39) 370 374 ∷ step (Go 40) 380 384 ∷ step (Go 41) 390 394 ∷ step (Go 42) 400 404 ∷
    step (Go 43) 410 414 ∷ step (Go 44) 420 424 ∷ step (Go 45) 430 434 ∷ step (Go 46) 440 444 ∷ step (Act 2) 450 454 ∷
    step (Act 1) 460 464 ∷
    []

-- an older transaction wounds a younger one
wound : replay_report wound_file wound_steps ≡ Some (lines (
    codes "call 1 a txn x = 0 by 0, y = 0 by 0 : x = 1, y = 1 ok place 1" ∷
    codes "call 2 b txn x = 1 by 1, y = 1 by 1 : x = 2, y = 2 ok place 2" ∷
    codes "stage a exited" ∷
    codes "stage b exited" ∷
    codes "ending done" ∷
    []))
unfolding run run_from refusal effect shard_after shard_reply replica_after replica_reply ending_of report_text call_line stage_line statements_to_end has_ended reply_of table_at all_zero digits
wound = refl

abbrev guard_fails_second_time_file : Config
guard_fails_second_time_file = record one_key {
  bodies = body 20 (statement.Txn ((1, first_key) ∷ []) (Some (Less (variable 1) (number 1))) ((first_key, Plus (Variable 1) (Number 1)) ∷ []) ∷ statement.Txn ((1, first_key) ∷ []) (Some (Less (variable 1) (number 1))) ((first_key, Plus (Variable 1) (Number 1)) ∷ []) ∷ []) ∷ [];
}

abbrev guard_fails_second_time_steps : List Step
guard_fails_second_time_steps =
    step (Act 1) 10 14 ∷ step (Go 1) 20 24 ∷ step (Go 2) 30 34 ∷ step (Go 3) 40 44 ∷ step (Go 4) 50 54 ∷
    step (Go 5) 60 64 ∷ step (Go 6) 70 74 ∷ step (Go 7) 80 84 ∷ step (Act 1) 90 94 ∷ step (Go 9) 100 104 ∷
    step (Go 10) 110 114 ∷ step (Go 11) 120 124 ∷ step (Go 12) 130 134 ∷ step (Act 1) 140 144 ∷
    []

-- a guard that holds once and then fails
guard-fails-second-time : replay_report guard_fails_second_time_file guard_fails_second_time_steps ≡ Some (lines (
    codes "call 1 a txn x = 0 by 0 : x = 1 ok place 1" ∷
    codes "call 2 a txn x = 1 by 1 : failed ok place 2" ∷
    codes "stage a exited" ∷
    codes "ending done" ∷
    []))
unfolding run run_from refusal effect shard_after shard_reply replica_after replica_reply ending_of report_text call_line stage_line statements_to_end has_ended reply_of table_at all_zero digits
guard-fails-second-time = refl

abbrev guard_blocked_then_fails_file : Config
guard_blocked_then_fails_file = record one_key {
  stages = codes "a" ∷ codes "b" ∷ [];
  bodies = body 20 (statement.Txn [] None ((first_key, number 1) ∷ []) ∷ []) ∷ body 20 (statement.Txn ((1, first_key) ∷ []) (Some (Less (variable 1) (number 1))) ((first_key, number 9) ∷ []) ∷ []) ∷ [];
}

abbrev guard_blocked_then_fails_steps : List Step
guard_blocked_then_fails_steps =
    step (Act 1) 10 14 ∷ step (Go 1) 20 24 ∷ step (Go 2) 30 34 ∷ step (Go 3) 40 44 ∷ step (Go 4) 50 54 ∷
    step (Go 5) 60 64 ∷ step (Go 6) 70 74 ∷ step (Act 2) 80 84 ∷ step (Go 8) 90 94 ∷ step (Go 9) 100 104 ∷
    step (Go 10) 110 114 ∷ step (Go 11) 120 124 ∷ step (Go 12) 130 134 ∷ step (Go 13) 140 144 ∷ step (Go 14) 150 154 ∷
    step (Go 15) 160 164 ∷ step (Go 16) 170 174 ∷ step (Go 17) 180 184 ∷ step (Act 2) 190 194 ∷ step (Act 1) 200 204 ∷
    []

-- a guarded transaction waits for its key, and fails
guard-blocked-then-fails : replay_report guard_blocked_then_fails_file guard_blocked_then_fails_steps ≡ Some (lines (
    codes "call 1 a txn : x = 1 ok place 1" ∷
    codes "call 2 b txn x = 1 by 1 : failed ok place 2" ∷
    codes "stage a exited" ∷
    codes "stage b exited" ∷
    codes "ending done" ∷
    []))
unfolding run run_from refusal effect shard_after shard_reply replica_after replica_reply ending_of report_text call_line stage_line statements_to_end has_ended reply_of table_at all_zero digits
guard-blocked-then-fails = refl
