use Rattle.std.proofs.Common.{not, rules, sym}
use Rattle.std.proofs.lemmas.List.Sorted.{IsPartitionPoint-from_clause}
use Rattle.attempt_index.specs.declared.index.KeyAttempt.{KeyAttempt}
use Rattle.attempt_index.specs.KeyIndex.{key_lt, key_attempt_lt}
use Rattle.attempt_index.proofs.Searching.{parted, front-is}
use Rattle.attempt_index.proofs.Found.{upto-key}
use Rattle.attempt_index.proofs.index.count_upto.Goals as goal

pub returns-clause-same : goal.returns-clause-same
returns-clause-same c =
    let by_key = λ (w : KeyAttempt). not (key_lt c.args.key w.key) in
    let point = IsPartitionPoint-from_clause by_key c.args.index.now c.partition_point.result c.partition_point.ensures.partitioned (parted key_attempt_lt by_key (λ a b p q. upto-key c.args.key a b p q) c.args.index.now c.requires.ascending) (λ a r f' k. search rules) in
    sym (front-is by_key c.args.index.now c.partition_point.result c.partition_point.ensures.bound point)
