use Rattle.std.proofs.Common.{rules}
use Rattle.std.proofs.Math.Dec.{leb}
use Rattle.std.proofs.lemmas.List.Sorted.{IsPartitionPoint-from_clause, IsPartitionedBy-leb}
use Rattle.step_times.proofs.Above.{first_from}
use Rattle.step_times.proofs.step_of_time.Goals as goal

-- the step is counted from 1
pub returns : goal.returns
returns c =
    first_from c.args.moments.now c.args.time c.partition_point.result c.partition_point.ensures.bound
    (IsPartitionPoint-from_clause (λ x. leb x c.args.time) c.args.moments.now c.partition_point.result c.partition_point.ensures.partitioned (IsPartitionedBy-leb (λ x. x) c.args.moments.now c.args.time c.requires.rising) (λ a r f' k. search rules))
