-- Samples of waits, each computed: a step whose reading begins exactly at the time that is waited for does
-- not pass it, and one that begins above it does.
use Rattle.std.specs.Prelude.{◌≡◌, List, [], ◌∷◌, ◌++◌, Some, None, codes, refl}
use Rattle.std.specs.Fmt.{digits}
use Rattle.rss_names.specs.declared.service.ServiceId.TheVariants.{Reg}
use Rattle.pipeline_lang.specs.declared.config.Config.{Config}
use Rattle.pipeline_lang.specs.declared.script.Statement.TheVariants as statement
use Rattle.rss_model.specs.Cursor.{statements_to_end}
use Rattle.rss_model.specs.History.{has_ended, reply_of}
use Rattle.rss_model.specs.Legal.{table_at}
use Rattle.rss_model.specs.Walk.{all_zero}
use Rattle.rss_tables.specs.ReplicaRow.{replica_after, replica_reply}
use Rattle.rss_tables.specs.ShardRow.{shard_after, shard_reply}
use Rattle.rss_machine.proofs.SampleFiles.{first_register, first_key, number, body, one_key}
use Rattle.rss_machine.proofs.Sampling.{step, lines, replay_report}
use Rattle.rss_machine.specs.Effect.{effect}
use Rattle.rss_machine.specs.Endings.{ending_of}
use Rattle.rss_machine.specs.Refusal.{refusal}
use Rattle.rss_machine.specs.ReportText.{report_text, call_line, stage_line}
use Rattle.rss_machine.specs.Run.{run, run_from, first_refused, refused_from}
use Rattle.rss_machine.specs.declared.step.Step.{Step}
use Rattle.rss_machine.specs.declared.step.StepKind.TheVariants.{Act, Go, Kill, Stub}
use Rattle.rss_machine.specs.declared.step.StepRefusal.TheVariants.{NotEnabled}

-- a transaction that takes at least 100: it computes its writes in a step that ends at 34
abbrev commit_file : Config
commit_file = record one_key { bodies = body 100 (statement.Txn [] None ((first_key, number 1) ∷ []) ∷ []) ∷ [] }

abbrev commit_steps : List Step
commit_steps =
    step (Act 1) 10 14 ∷ step (Go 1) 20 24 ∷ step (Go 2) 30 34 ∷ step (Go 3) 40 44 ∷ step (Go 4) 50 54 ∷
    step (Go 5) 60 64 ∷
    []

-- so it waits for 134
commit-at-its-time : first_refused commit_file (commit_steps ++ step (Go 6) 70 74 ∷ step (Act 1) 134 140 ∷ []) ≡ Some (8, NotEnabled)
unfolding refused_from refusal effect shard_after shard_reply statements_to_end all_zero
commit-at-its-time = refl

commit-above-its-time : first_refused commit_file (commit_steps ++ step (Go 6) 70 74 ∷ step (Act 1) 135 140 ∷ []) ≡ None
unfolding refused_from refusal effect shard_after shard_reply statements_to_end all_zero
commit-above-its-time = refl

-- also where the wait begins in that step
commit-waits-at-once : replay_report commit_file (commit_steps ++ step (Go 6) 134 140 ∷ []) ≡ Some (lines (
    codes "call 1 a txn : x = 1 open place 1" ∷
    codes "stage a running" ∷
    codes "ending unfinished" ∷
    []))
unfolding run run_from refusal effect shard_after shard_reply ending_of report_text call_line stage_line statements_to_end has_ended reply_of table_at all_zero digits
commit-waits-at-once = refl

commit-passes-at-once : replay_report commit_file (commit_steps ++ step (Go 6) 135 140 ∷ []) ≡ Some (lines (
    codes "call 1 a txn : x = 1 ok place 1" ∷
    codes "stage a running" ∷
    codes "ending unfinished" ∷
    []))
unfolding run run_from refusal effect shard_after shard_reply ending_of report_text call_line stage_line statements_to_end has_ended reply_of table_at all_zero digits
commit-passes-at-once = refl

-- a snapshot that is entered, in a step whose reading ends at 100, behind a read; then a write, and a fence statement
abbrev snap_then_write_file : Config
snap_then_write_file = record one_key {
  registers = codes "r" ∷ [];
  register_services = Reg 1 ∷ [];
  bodies = body 0 (statement.Read 1 first_register ∷ statement.Snap ((2, first_key) ∷ []) ∷ statement.Write first_register (number 5) ∷ []) ∷ [];
}

abbrev snap_then_fence_file : Config
snap_then_fence_file = record snap_then_write_file {
  bodies = body 0 (statement.Read 1 first_register ∷ statement.Snap ((2, first_key) ∷ []) ∷ statement.Fence ∷ []) ∷ [];
}

abbrev snap_steps : List Step
snap_steps =
    step (Act 1) 10 14 ∷ step (Go 1) 20 24 ∷ step (Go 2) 30 34 ∷ step (Go 4) 40 44 ∷ step (Go 5) 50 54 ∷
    step (Act 1) 60 100 ∷ step (Go 6) 70 100 ∷ step (Go 7) 80 100 ∷
    []

-- the write fences the transactions first, and waits for 100
act-at-its-time : first_refused snap_then_write_file (snap_steps ++ step (Act 1) 90 110 ∷ step (Act 1) 100 110 ∷ []) ≡ Some (10, NotEnabled)
unfolding refused_from refusal effect shard_after shard_reply replica_after replica_reply statements_to_end all_zero
act-at-its-time = refl

act-above-its-time : first_refused snap_then_write_file (snap_steps ++ step (Act 1) 90 110 ∷ step (Act 1) 101 110 ∷ []) ≡ None
unfolding refused_from refusal effect shard_after shard_reply replica_after replica_reply statements_to_end all_zero
act-above-its-time = refl

-- so does the fence statement; where it begins at 100 it has a wait to pass, and above 100 it ends at once,
-- and the next act is the exit
fence-at-its-time : first_refused snap_then_fence_file (snap_steps ++ step (Act 1) 90 110 ∷ step (Act 1) 100 110 ∷ []) ≡ Some (10, NotEnabled)
unfolding refused_from refusal effect shard_after shard_reply replica_after replica_reply statements_to_end all_zero
fence-at-its-time = refl

fence-above-its-time : first_refused snap_then_fence_file (snap_steps ++ step (Act 1) 90 110 ∷ step (Act 1) 101 110 ∷ []) ≡ None
unfolding refused_from refusal effect shard_after shard_reply replica_after replica_reply statements_to_end all_zero
fence-above-its-time = refl

fence-waits-at-once : first_refused snap_then_fence_file (snap_steps ++ step (Act 1) 100 110 ∷ step (Act 1) 100 110 ∷ []) ≡ Some (10, NotEnabled)
unfolding refused_from refusal effect shard_after shard_reply replica_after replica_reply statements_to_end all_zero
fence-waits-at-once = refl

fence-passes-at-once : first_refused snap_then_fence_file (snap_steps ++ step (Act 1) 101 110 ∷ step (Act 1) 101 110 ∷ []) ≡ None
unfolding refused_from refusal effect shard_after shard_reply replica_after replica_reply statements_to_end all_zero
fence-passes-at-once = refl

-- and the stub of a stage that was killed there
stub-at-its-time : first_refused snap_then_write_file (snap_steps ++ step (Kill 1) 90 110 ∷ step (Stub 1) 91 110 ∷ step (Stub 1) 100 110 ∷ []) ≡ Some (11, NotEnabled)
unfolding refused_from refusal effect shard_after shard_reply replica_after replica_reply statements_to_end all_zero
stub-at-its-time = refl

stub-above-its-time : first_refused snap_then_write_file (snap_steps ++ step (Kill 1) 90 110 ∷ step (Stub 1) 91 110 ∷ step (Stub 1) 101 110 ∷ []) ≡ None
unfolding refused_from refusal effect shard_after shard_reply replica_after replica_reply statements_to_end all_zero
stub-above-its-time = refl
