-- Samples of steps that are refused, each computed.
use Rattle.std.specs.Prelude.{◌≡◌, List, [], ◌∷◌, Some, codes, refl}
use Rattle.rss_machine.proofs.SampleFiles.{write_then_read}
use Rattle.rss_machine.specs.declared.step.Step.{Step}
use Rattle.rss_machine.specs.declared.step.StepKind.TheVariants.{Act, Go, Lose, Again, Stub}
use Rattle.rss_machine.proofs.Sampling.{step, lines, replay_report}
use Rattle.rss_machine.specs.declared.step.StepRefusal.TheVariants as cause
use Rattle.rss_wire.specs.declared.refusal.NetRefusal.TheVariants as net
use Rattle.rss_machine.specs.Run.{run, run_from, first_refused, refused_from}
use Rattle.rss_machine.specs.Refusal.{refusal}
use Rattle.rss_machine.specs.Effect.{effect}
use Rattle.rss_machine.specs.Endings.{ending_of}
use Rattle.rss_machine.specs.ReportText.{report_text, call_line, stage_line}
use Rattle.rss_tables.specs.ShardRow.{shard_after, shard_reply}
use Rattle.rss_tables.specs.ReplicaRow.{replica_after, replica_reply}
use Rattle.rss_model.specs.Cursor.{statements_to_end}
use Rattle.rss_model.specs.History.{has_ended, reply_of}
use Rattle.rss_model.specs.Legal.{table_at}
use Rattle.rss_model.specs.Walk.{all_zero}
use Rattle.std.specs.Fmt.{digits}

abbrev net_no_such_message_steps : List Step
net_no_such_message_steps =
    step (Act 1) 10 14 ∷ step (Go 9) 20 24 ∷
    []

-- a message that was never sent
net-no-such-message : first_refused write_then_read net_no_such_message_steps ≡ Some (2, (cause.Message net.NoSuchMessage))
unfolding refused_from refusal effect shard_after shard_reply replica_after replica_reply statements_to_end all_zero
net-no-such-message = refl

abbrev net_not_delivered_steps : List Step
net_not_delivered_steps =
    step (Act 1) 10 14 ∷ step (Again 1) 20 24 ∷
    []

-- a repeat of a message that is still to come
net-not-delivered : first_refused write_then_read net_not_delivered_steps ≡ Some (2, (cause.Message net.NotDelivered))
unfolding refused_from refusal effect shard_after shard_reply replica_after replica_reply statements_to_end all_zero
net-not-delivered = refl

abbrev net_delivered_steps : List Step
net_delivered_steps =
    step (Act 1) 10 14 ∷ step (Go 1) 20 24 ∷ step (Go 1) 30 34 ∷
    []

-- a delivered message
net-delivered : first_refused write_then_read net_delivered_steps ≡ Some (3, (cause.Message net.Delivered))
unfolding refused_from refusal effect shard_after shard_reply replica_after replica_reply statements_to_end all_zero
net-delivered = refl

abbrev net_again_used_steps : List Step
net_again_used_steps =
    step (Act 1) 10 14 ∷ step (Go 1) 20 24 ∷ step (Again 1) 30 34 ∷ step (Again 1) 40 44 ∷
    []

-- a message that was repeated before
net-again-used : first_refused write_then_read net_again_used_steps ≡ Some (4, (cause.Message net.AgainUsed))
unfolding refused_from refusal effect shard_after shard_reply replica_after replica_reply statements_to_end all_zero
net-again-used = refl

abbrev net_lost_steps : List Step
net_lost_steps =
    step (Act 1) 10 14 ∷ step (Lose 1) 20 24 ∷ step (Go 1) 30 34 ∷
    []

-- a lost message
net-lost : first_refused write_then_read net_lost_steps ≡ Some (3, (cause.Message net.Lost))
unfolding refused_from refusal effect shard_after shard_reply replica_after replica_reply statements_to_end all_zero
net-lost = refl

abbrev net_stub_not_enabled_steps : List Step
net_stub_not_enabled_steps =
    step (Act 1) 10 14 ∷ step (Stub 1) 20 24 ∷
    []

-- a stub of a live stage
net-stub-not-enabled : first_refused write_then_read net_stub_not_enabled_steps ≡ Some (2, cause.NotEnabled)
unfolding refused_from refusal effect shard_after shard_reply replica_after replica_reply statements_to_end all_zero
net-stub-not-enabled = refl

abbrev readings_refused_steps : List Step
readings_refused_steps =
    step (Act 1) 10 20 ∷ step (Go 1) 5 9 ∷
    []

-- a reading that ends before an earlier one began
readings-refused : first_refused write_then_read readings_refused_steps ≡ Some (2, (cause.Reading record { greatest_earliest = 10; latest = 9 }))
unfolding refused_from refusal effect shard_after shard_reply replica_after replica_reply statements_to_end all_zero
readings-refused = refl

abbrev readings_accepted_steps : List Step
readings_accepted_steps =
    step (Act 1) 10 20 ∷ step (Go 1) 5 10 ∷
    []

-- readings that meet in one moment
readings-accepted : replay_report write_then_read readings_accepted_steps ≡ Some (lines (
    codes "call 1 a write open" ∷
    codes "stage a running" ∷
    codes "ending unfinished" ∷
    []))
unfolding run run_from refusal effect shard_after shard_reply replica_after replica_reply ending_of report_text call_line stage_line statements_to_end has_ended reply_of table_at all_zero digits
readings-accepted = refl
