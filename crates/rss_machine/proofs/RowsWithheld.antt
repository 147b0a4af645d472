-- Samples of files that withhold messages, each computed.
use Rattle.std.specs.Prelude.{◌≡◌, [], ◌∷◌, Some, None, codes, refl}
use Rattle.rss_names.specs.declared.service.ServiceId.TheVariants.{Reg}
use Rattle.rss_names.specs.declared.service.Target.TheVariants.{Shard, Replica}
use Rattle.pipeline_lang.specs.declared.config.Config.{Config}
use Rattle.pipeline_lang.specs.declared.script.Statement.TheVariants as statement
use Rattle.pipeline_lang.specs.declared.script.Expr.TheVariants.{Plus}
use Rattle.pipeline_lang.specs.declared.script.Term.TheVariants.{Number, Variable}
use Rattle.rss_machine.proofs.SampleFiles.{first_register, second_register, first_key, second_key, variable, body, two_services, one_register, one_key, three_keys}
use Rattle.rss_machine.proofs.Sampling.{lines, serial_report, serial_sum}
use Rattle.rss_machine.specs.Run.{run, run_from}
use Rattle.rss_machine.specs.Refusal.{refusal}
use Rattle.rss_machine.specs.Effect.{effect}
use Rattle.rss_machine.specs.Endings.{ending_of}
use Rattle.rss_machine.specs.ReportText.{report_text, call_line, stage_line}
use Rattle.rss_machine.specs.Serial.{serial_from}
use Rattle.rss_tables.specs.ShardRow.{shard_after, shard_reply}
use Rattle.rss_tables.specs.ReplicaRow.{replica_after, replica_reply}
use Rattle.rss_model.specs.Cursor.{statements_to_end}
use Rattle.rss_model.specs.History.{has_ended, reply_of}
use Rattle.rss_model.specs.Legal.{table_at}
use Rattle.rss_model.specs.Walk.{all_zero}
use Rattle.std.specs.Fmt.{digits}

abbrev pub tries_two_lost_file : Config
tries_two_lost_file = record one_key {
  bodies = body 2000 (statement.Snap ((1, first_key) ∷ []) ∷ []) ∷ [];
  withholds = record { stage = 1; target = Shard 1; first = 1; count = 2 } ∷ [];
}

-- two withheld messages
tries-two-lost : serial_report tries_two_lost_file ≡ Some (lines (
    codes "call 1 a snap x = 0 by 0 ok place 1" ∷
    codes "stage a exited" ∷
    codes "ending done" ∷
    []))
unfolding serial_from run run_from refusal effect shard_after shard_reply replica_after replica_reply ending_of report_text call_line stage_line statements_to_end has_ended reply_of table_at all_zero digits
tries-two-lost = refl

abbrev pub tries_three_lost_file : Config
tries_three_lost_file = record one_key {
  bodies = body 2000 (statement.Snap ((1, first_key) ∷ []) ∷ []) ∷ [];
  withholds = record { stage = 1; target = Shard 1; first = 1; count = 3 } ∷ [];
}

-- three withheld messages
tries-three-lost : serial_report tries_three_lost_file ≡ Some (lines (
    codes "call 1 a snap unavailable shard s1" ∷
    codes "stage a unavailable fenced" ∷
    codes "ending hurt" ∷
    []))
unfolding serial_from run run_from refusal effect shard_after shard_reply replica_after replica_reply ending_of report_text call_line stage_line statements_to_end has_ended reply_of table_at all_zero digits
tries-three-lost = refl

abbrev pub quorum_two_withheld_file : Config
quorum_two_withheld_file = record one_register {
  tries = 1;
  services = two_services 5;
  bodies = body 2000 (statement.Read 1 first_register ∷ []) ∷ [];
  withholds = record { stage = 1; target = Replica (Reg 1) 1; first = 1; count = 1 } ∷ record { stage = 1; target = Replica (Reg 1) 2; first = 1; count = 1 } ∷ [];
}

-- two withheld replicas of five
quorum-two-withheld : serial_report quorum_two_withheld_file ≡ Some (lines (
    codes "call 1 a read r = 0 by 0 ok place 1" ∷
    codes "stage a exited" ∷
    codes "ending done" ∷
    []))
unfolding serial_from run run_from refusal effect shard_after shard_reply replica_after replica_reply ending_of report_text call_line stage_line statements_to_end has_ended reply_of table_at all_zero digits
quorum-two-withheld = refl

abbrev pub quorum_three_withheld_file : Config
quorum_three_withheld_file = record one_register {
  tries = 1;
  services = two_services 5;
  bodies = body 2000 (statement.Read 1 first_register ∷ []) ∷ [];
  withholds = record { stage = 1; target = Replica (Reg 1) 1; first = 1; count = 1 } ∷ record { stage = 1; target = Replica (Reg 1) 2; first = 1; count = 1 } ∷ record { stage = 1; target = Replica (Reg 1) 3; first = 1; count = 1 } ∷ [];
}

-- three withheld replicas of five
quorum-three-withheld : serial_report quorum_three_withheld_file ≡ Some (lines (
    codes "call 1 a read unavailable quorum" ∷
    codes "stage a unavailable fenced" ∷
    codes "ending hurt" ∷
    []))
unfolding serial_from run run_from refusal effect shard_after shard_reply replica_after replica_reply ending_of report_text call_line stage_line statements_to_end has_ended reply_of table_at all_zero digits
quorum-three-withheld = refl

abbrev generated_one_sum_file : Config
generated_one_sum_file = record three_keys {
  max_steps = 200000;
  registers = codes "blob" ∷ codes "thumb" ∷ [];
  register_services = Reg 1 ∷ Reg 1 ∷ [];
  keys = codes "count" ∷ codes "last" ∷ [];
  homes = 1 ∷ 2 ∷ [];
  pipes = codes "todo" ∷ [];
  pipe_ends = record { giver = 1; taker = 2; capacity = 1 } ∷ [];
  stages = codes "adder" ∷ codes "worker" ∷ [];
  bodies = body 2000 (statement.Repeat 1 ∷ statement.Let 1 (Plus (Variable 1) (Number 591)) ∷ statement.Write first_register (variable 1) ∷ statement.Txn ((2, first_key) ∷ []) None ((first_key, Plus (Variable 2) (Number 1)) ∷ (second_key, (variable 1)) ∷ []) ∷ statement.Put 1 (variable 1) ∷ statement.End ∷ []) ∷ body 2000 (statement.Repeat 1 ∷ statement.Take 1 1 ∷ statement.Read 2 first_register ∷ statement.Write second_register (Plus (Variable 2) (Number 1)) ∷ statement.Snap ((3, first_key) ∷ (4, second_key) ∷ []) ∷ statement.End ∷ []) ∷ [];
}

-- the generated file, with sums
generated-one-sum : serial_sum generated_one_sum_file ≡ Some (lines (
    codes "sum reads 1 writes 2 snaps 1 txns 1 open 0 steps 63" ∷
    codes "stage adder exited" ∷
    codes "stage worker exited" ∷
    codes "service txn fences 1" ∷
    codes "service reg fences 2" ∷
    codes "ending done" ∷
    []))
unfolding serial_from run run_from refusal effect shard_after shard_reply replica_after replica_reply ending_of report_text call_line stage_line statements_to_end has_ended reply_of table_at all_zero digits
generated-one-sum = refl
