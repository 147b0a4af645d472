use Rattle.std.proofs.Common.{rules, sym}
use Rattle.std.proofs.lemmas.List.Sorted.{IsPartitionPoint-from_clause}
use Rattle.attempt_index.proofs.Searching.{parted, front-is}
use Rattle.attempt_index.proofs.sorted.place_of.Goals as goal

pub returns-clause-place : goal.returns-clause-place
returns-clause-place g c =
    let by_item = λ (y : _). g.T.Ordered.before y c.args.item.now in
    let point = IsPartitionPoint-from_clause by_item c.args.list.now c.partition_point.result c.partition_point.ensures.partitioned (parted g.T.Ordered.before by_item (λ a b p q. g.met.T.Ordered.transitive a b c.args.item.now p q) c.args.list.now c.requires.ascending) (λ a r f' k. search rules) in
    sym (front-is by_item c.args.list.now c.partition_point.result c.partition_point.ensures.bound point)
