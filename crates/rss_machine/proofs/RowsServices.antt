-- Samples of runs over several services, each computed.
use Rattle.std.specs.Prelude.{◌≡◌, List, [], ◌∷◌, Some, None, codes, refl}
use Rattle.rss_names.specs.declared.service.ServiceId.TheVariants.{Txn, Reg}
use Rattle.pipeline_lang.specs.declared.config.Config.{Config}
use Rattle.pipeline_lang.specs.declared.script.Statement.TheVariants as statement
use Rattle.pipeline_lang.specs.declared.script.Expr.TheVariants.{Plus}
use Rattle.pipeline_lang.specs.declared.script.Term.TheVariants.{Number, Variable}
use Rattle.rss_machine.proofs.SampleFiles.{first_register, second_register, first_key, second_key, third_key, number, variable, body, bare, one_key, three_keys}
use Rattle.rss_machine.specs.declared.step.Step.{Step}
use Rattle.rss_machine.specs.declared.step.StepKind.TheVariants.{Act, Go, Kill, Stub}
use Rattle.rss_machine.proofs.Sampling.{step, lines, replay_report}
use Rattle.rss_machine.specs.Run.{run, run_from}
use Rattle.rss_machine.specs.Refusal.{refusal}
use Rattle.rss_machine.specs.Effect.{effect}
use Rattle.rss_machine.specs.Endings.{ending_of}
use Rattle.rss_machine.specs.ReportText.{report_text, call_line, stage_line}
use Rattle.rss_tables.specs.ShardRow.{shard_after, shard_reply}
use Rattle.rss_tables.specs.ReplicaRow.{replica_after, replica_reply}
use Rattle.rss_model.specs.Cursor.{statements_to_end}
use Rattle.rss_model.specs.History.{has_ended, reply_of}
use Rattle.rss_model.specs.Legal.{table_at}
use Rattle.rss_model.specs.Walk.{all_zero}
use Rattle.std.specs.Fmt.{digits}

abbrev entry_file : Config
entry_file = record three_keys {
  registers = codes "r" ∷ [];
  register_services = Reg 1 ∷ [];
  keys = codes "x" ∷ codes "z" ∷ [];
  homes = 1 ∷ 2 ∷ [];
  stages = codes "a" ∷ codes "c" ∷ codes "d" ∷ codes "e" ∷ [];
  bodies = body 1000 (statement.Txn [] None ((first_key, number 1) ∷ (second_key, (number 1)) ∷ []) ∷ []) ∷ body 0 (statement.Txn ((1, first_key) ∷ []) None ((first_key, Plus (Variable 1) (Number 1)) ∷ []) ∷ []) ∷ body 2000 (statement.Write first_register (number 7) ∷ []) ∷ body 2000 (statement.Read 1 first_register ∷ statement.Snap ((2, second_key) ∷ []) ∷ []) ∷ [];
}

abbrev entry_steps : List Step
entry_steps =
    step (Act 1) 10 14 ∷ step (Go 1) 20 24 ∷ step (Go 2) 30 34 ∷ step (Go 3) 40 44 ∷ step (Go 4) 50 54 ∷
    step (Go 5) 60 64 ∷ step (Go 6) 70 74 ∷ step (Go 7) 80 84 ∷ step (Go 8) 90 94 ∷ step (Go 9) 100 104 ∷
    step (Act 2) 110 114 ∷ step (Go 11) 120 124 ∷ step (Go 12) 130 134 ∷ step (Go 13) 140 144 ∷ step (Go 14) 150 154 ∷
    step (Go 15) 160 164 ∷ step (Go 16) 170 174 ∷ step (Go 17) 180 184 ∷ step (Go 18) 190 194 ∷ step (Go 19) 200 204 ∷
    step (Go 20) 210 214 ∷ step (Go 21) 220 224 ∷ step (Go 22) 230 234 ∷ step (Go 23) 240 244 ∷ step (Act 3) 250 254 ∷
    step (Go 25) 260 264 ∷ step (Go 26) 270 274 ∷ step (Go 28) 280 284 ∷ step (Go 29) 290 294 ∷ step (Go 30) 300 304 ∷
    step (Go 31) 310 314 ∷ step (Go 33) 320 324 ∷ step (Go 34) 330 334 ∷ step (Act 4) 340 344 ∷ step (Go 35) 350 354 ∷
    step (Go 36) 360 364 ∷ step (Go 38) 370 374 ∷ step (Go 39) 380 384 ∷ step (Act 4) 390 394 ∷ step (Go 40) 400 404 ∷
    step (Go 41) 410 414 ∷ step (Go 42) 420 424 ∷ step (Go 43) 430 434 ∷ step (Go 44) 440 444 ∷ step (Go 45) 450 454 ∷
    step (Go 46) 460 464 ∷ step (Go 47) 470 474 ∷ step (Act 4) 480 484 ∷ step (Act 2) 490 494 ∷ step (Act 3) 500 504 ∷
    []

-- a call at another service enters it first
entry : replay_report entry_file entry_steps ≡ Some (lines (
    codes "call 1 a txn : x = 1, z = 1 open place 1" ∷
    codes "call 2 c txn x = 1 by 1 : x = 2 ok place 2" ∷
    codes "call 3 d write r 7 ok place 3" ∷
    codes "call 4 e read r = 7 by 3 ok place 4" ∷
    codes "call 5 e snap z = 1 by 1 ok place 5" ∷
    codes "stage a running" ∷
    codes "stage c exited" ∷
    codes "stage d exited" ∷
    codes "stage e exited" ∷
    codes "service reg fences 1" ∷
    codes "ending unfinished" ∷
    []))
unfolding run run_from refusal effect shard_after shard_reply replica_after replica_reply ending_of report_text call_line stage_line statements_to_end has_ended reply_of table_at all_zero digits
entry = refl

abbrev join_file : Config
join_file = record one_key {
  registers = codes "r" ∷ codes "q" ∷ [];
  register_services = Reg 1 ∷ Reg 1 ∷ [];
  stages = codes "p" ∷ codes "c1" ∷ codes "c2" ∷ codes "w1" ∷ codes "w2" ∷ [];
  bodies = body 2000 (statement.Spawn 2 ∷ statement.Spawn 3 ∷ statement.Wait 2 ∷ statement.Wait 3 ∷ statement.Snap ((1, first_key) ∷ []) ∷ []) ∷ body 2000 (statement.Read 1 first_register ∷ []) ∷ body 2000 (statement.Read 1 second_register ∷ []) ∷ body 2000 (statement.Write first_register (number 5) ∷ []) ∷ body 2000 (statement.Write second_register (number 6) ∷ []) ∷ [];
}

abbrev join_steps : List Step
join_steps =
    step (Act 4) 10 14 ∷ step (Go 1) 20 24 ∷ step (Go 2) 30 34 ∷ step (Go 4) 40 44 ∷ step (Go 5) 50 54 ∷
    step (Go 6) 60 64 ∷ step (Act 5) 70 74 ∷ step (Go 10) 80 84 ∷ step (Go 11) 90 94 ∷ step (Go 13) 100 104 ∷
    step (Go 14) 110 114 ∷ step (Go 15) 120 124 ∷ step (Act 1) 130 134 ∷ step (Act 1) 140 144 ∷ step (Act 2) 150 154 ∷
    step (Go 19) 160 164 ∷ step (Go 20) 170 174 ∷ step (Go 22) 180 184 ∷ step (Go 23) 190 194 ∷ step (Act 2) 200 204 ∷
    step (Act 3) 210 214 ∷ step (Go 24) 220 224 ∷ step (Go 25) 230 234 ∷ step (Go 27) 240 244 ∷ step (Go 28) 250 254 ∷
    step (Act 3) 260 264 ∷ step (Act 1) 270 274 ∷ step (Act 1) 280 284 ∷ step (Act 1) 290 294 ∷ step (Go 29) 300 304 ∷
    step (Go 30) 310 314 ∷ step (Go 32) 320 324 ∷ step (Go 33) 330 334 ∷ step (Go 34) 340 344 ∷ step (Go 35) 350 354 ∷
    step (Act 1) 360 364 ∷
    []

-- contexts are joined when a stage waits for its children
join : replay_report join_file join_steps ≡ Some (lines (
    codes "call 1 w1 write r 5 open place 1" ∷
    codes "call 2 w2 write q 6 open place 3" ∷
    codes "call 3 c1 read r = 5 by 1 ok place 2" ∷
    codes "call 4 c2 read q = 6 by 2 ok place 4" ∷
    codes "call 5 p snap x = 0 by 0 ok place 5" ∷
    codes "stage p exited" ∷
    codes "stage c1 exited" ∷
    codes "stage c2 exited" ∷
    codes "stage w1 running" ∷
    codes "stage w2 running" ∷
    codes "service reg fences 1" ∷
    codes "ending unfinished" ∷
    []))
unfolding run run_from refusal effect shard_after shard_reply replica_after replica_reply ending_of report_text call_line stage_line statements_to_end has_ended reply_of table_at all_zero digits
join = refl

abbrev stub_and_entry_file : Config
stub_and_entry_file = record three_keys {
  stages = codes "p" ∷ codes "c" ∷ codes "a" ∷ codes "d" ∷ [];
  bodies = body 1000 (statement.Spawn 2 ∷ statement.Wait 2 ∷ statement.Snap ((1, third_key) ∷ []) ∷ []) ∷ body 1000 (statement.Snap ((1, first_key) ∷ []) ∷ []) ∷ body 1000 (statement.Txn [] None ((first_key, number 1) ∷ (third_key, (number 1)) ∷ []) ∷ []) ∷ body 1000 (statement.Txn ((1, first_key) ∷ []) None ((second_key, variable 1) ∷ []) ∷ []) ∷ [];
}

abbrev stub_and_entry_steps : List Step
stub_and_entry_steps =
    step (Act 3) 10 14 ∷ step (Go 1) 20 24 ∷ step (Go 2) 30 34 ∷ step (Go 3) 40 44 ∷ step (Go 4) 50 54 ∷
    step (Go 5) 60 64 ∷ step (Go 6) 70 74 ∷ step (Go 7) 80 84 ∷ step (Go 8) 90 94 ∷ step (Go 9) 100 104 ∷
    step (Act 4) 110 114 ∷ step (Go 11) 120 124 ∷ step (Go 12) 130 134 ∷ step (Go 13) 140 144 ∷ step (Go 14) 150 154 ∷
    step (Go 15) 160 164 ∷ step (Act 1) 170 174 ∷ step (Act 2) 180 184 ∷ step (Go 17) 190 194 ∷ step (Go 18) 200 204 ∷
    step (Kill 2) 210 214 ∷ step (Stub 2) 220 224 ∷ step (Act 1) 230 234 ∷ step (Act 1) 240 244 ∷ step (Go 19) 250 254 ∷
    step (Go 20) 260 264 ∷ step (Go 21) 270 274 ∷ step (Go 22) 280 284 ∷ step (Go 23) 290 294 ∷ step (Go 24) 300 304 ∷
    step (Go 25) 310 314 ∷ step (Go 26) 320 324 ∷ step (Act 1) 330 334 ∷
    []

-- a stub hands on a fenced context
stub-and-entry : replay_report stub_and_entry_file stub_and_entry_steps ≡ Some (lines (
    codes "call 1 a txn : x = 1, z = 1 open place 1" ∷
    codes "call 2 d txn open" ∷
    codes "call 3 c snap x = 1 by 1 ok place 2" ∷
    codes "call 5 p snap z = 1 by 1 ok place 3" ∷
    codes "stage p exited" ∷
    codes "stage c killed fenced" ∷
    codes "stage a running" ∷
    codes "stage d running" ∷
    codes "service txn fences 1" ∷
    codes "ending unfinished" ∷
    []))
unfolding run run_from refusal effect shard_after shard_reply replica_after replica_reply ending_of report_text call_line stage_line statements_to_end has_ended reply_of table_at all_zero digits
stub-and-entry = refl

abbrev two_transaction_services_file : Config
two_transaction_services_file = record three_keys {
  services = record { name = codes "txn"; id = Txn 1; replicas = 0 } ∷ record { name = codes "second"; id = Txn 2; replicas = 0 } ∷ record { name = codes "reg"; id = Reg 1; replicas = 3 } ∷ [];
  shard_services = Txn 1 ∷ Txn 2 ∷ [];
  keys = codes "x" ∷ codes "z" ∷ [];
  homes = 1 ∷ 2 ∷ [];
  stages = codes "a" ∷ [];
  bodies = body 0 (statement.Txn [] None ((first_key, number 1) ∷ []) ∷ statement.Txn [] None (((record { service = Txn 2; index = 1 }), (number 2)) ∷ []) ∷ []) ∷ [];
}

abbrev two_transaction_services_steps : List Step
two_transaction_services_steps =
    step (Act 1) 10 14 ∷ step (Go 1) 20 24 ∷ step (Go 2) 30 34 ∷ step (Go 3) 40 44 ∷ step (Go 4) 50 54 ∷
    step (Go 5) 60 64 ∷ step (Go 6) 70 74 ∷ step (Act 1) 80 84 ∷ step (Go 8) 90 94 ∷ step (Go 9) 100 104 ∷
    step (Go 10) 110 114 ∷ step (Go 11) 120 124 ∷ step (Go 12) 130 134 ∷ step (Go 13) 140 144 ∷ step (Act 1) 150 154 ∷
    []

-- a fence between two transaction services
two-transaction-services : replay_report two_transaction_services_file two_transaction_services_steps ≡ Some (lines (
    codes "call 1 a txn : x = 1 ok place 1" ∷
    codes "call 2 a txn : z = 2 ok place 2" ∷
    codes "stage a exited" ∷
    codes "service txn fences 1" ∷
    codes "ending done" ∷
    []))
unfolding run run_from refusal effect shard_after shard_reply replica_after replica_reply ending_of report_text call_line stage_line statements_to_end has_ended reply_of table_at all_zero digits
two-transaction-services = refl

abbrev three_shards_two_services_file : Config
three_shards_two_services_file = record bare {
  services = record { name = codes "txn"; id = Txn 1; replicas = 0 } ∷ record { name = codes "second"; id = Txn 2; replicas = 0 } ∷ record { name = codes "reg"; id = Reg 1; replicas = 3 } ∷ [];
  shards = codes "s1" ∷ codes "s2" ∷ codes "s3" ∷ [];
  shard_services = Txn 1 ∷ Txn 1 ∷ Txn 2 ∷ [];
  keys = codes "x" ∷ codes "z" ∷ codes "y" ∷ [];
  homes = 1 ∷ 2 ∷ 3 ∷ [];
  stages = codes "a" ∷ codes "c" ∷ codes "d" ∷ codes "e" ∷ [];
  bodies = body 1000 (statement.Txn [] None ((first_key, number 1) ∷ (second_key, (number 1)) ∷ []) ∷ []) ∷ body 0 (statement.Txn ((1, first_key) ∷ []) None ((first_key, Plus (Variable 1) (Number 1)) ∷ []) ∷ []) ∷ body 0 (statement.Txn [] None (((record { service = Txn 2; index = 2 }), (number 7)) ∷ []) ∷ []) ∷ body 0 (statement.Snap ((1, (record { service = Txn 2; index = 2 })) ∷ []) ∷ statement.Snap ((2, second_key) ∷ []) ∷ []) ∷ [];
}

abbrev three_shards_two_services_steps : List Step
three_shards_two_services_steps =
    step (Act 1) 10 14 ∷ step (Go 1) 20 24 ∷ step (Go 2) 30 34 ∷ step (Go 3) 40 44 ∷ step (Go 4) 50 54 ∷
    step (Go 5) 60 64 ∷ step (Go 6) 70 74 ∷ step (Go 7) 80 84 ∷ step (Go 8) 90 94 ∷ step (Go 9) 100 104 ∷
    step (Act 2) 110 114 ∷ step (Go 11) 120 124 ∷ step (Go 12) 130 134 ∷ step (Go 13) 140 144 ∷ step (Go 14) 150 154 ∷
    step (Go 15) 160 164 ∷ step (Go 16) 170 174 ∷ step (Go 17) 180 184 ∷ step (Go 18) 190 194 ∷ step (Go 19) 200 204 ∷
    step (Go 20) 210 214 ∷ step (Go 21) 220 224 ∷ step (Go 22) 230 234 ∷ step (Go 23) 240 244 ∷ step (Act 3) 250 254 ∷
    step (Go 25) 260 264 ∷ step (Go 26) 270 274 ∷ step (Go 27) 280 284 ∷ step (Go 28) 290 294 ∷ step (Go 29) 300 304 ∷
    step (Go 30) 310 314 ∷ step (Go 31) 320 324 ∷ step (Act 4) 330 334 ∷ step (Go 33) 340 344 ∷ step (Go 34) 350 354 ∷
    step (Act 4) 360 364 ∷ step (Go 35) 370 374 ∷ step (Go 36) 380 384 ∷ step (Go 37) 390 394 ∷ step (Go 38) 400 404 ∷
    step (Go 39) 410 414 ∷ step (Go 40) 420 424 ∷ step (Go 41) 430 434 ∷ step (Go 42) 440 444 ∷ step (Act 4) 450 454 ∷
    step (Act 2) 460 464 ∷ step (Act 3) 470 474 ∷
    []

-- a snapshot behind a call at another service
three-shards-two-services : replay_report three_shards_two_services_file three_shards_two_services_steps ≡ Some (lines (
    codes "call 1 a txn : x = 1, z = 1 open place 1" ∷
    codes "call 2 c txn x = 1 by 1 : x = 2 ok place 2" ∷
    codes "call 3 d txn : y = 7 ok place 3" ∷
    codes "call 4 e snap y = 7 by 3 ok place 4" ∷
    codes "call 5 e snap z = 1 by 1 ok place 5" ∷
    codes "stage a running" ∷
    codes "stage c exited" ∷
    codes "stage d exited" ∷
    codes "stage e exited" ∷
    codes "service second fences 1" ∷
    codes "ending unfinished" ∷
    []))
unfolding run run_from refusal effect shard_after shard_reply replica_after replica_reply ending_of report_text call_line stage_line statements_to_end has_ended reply_of table_at all_zero digits
three-shards-two-services = refl
