use Rattle.std.proofs.Common.{rules, ◌≡◌}
use Rattle.std.proofs.lemmas.List.Sorted.{answers_always}
use Rattle.rss_witness.specs.Order.{key_of, key_order}
use Rattle.rss_witness.proofs.placing.sort_by_keys.Goals as goal

pub returns-clause-sorted : goal.returns-clause-sorted
unfolding key_order
returns-clause-sorted c = c.sort_unstable_by_key.ensures.sorted key_of (answers_always _ (λ a r. r ≡ key_of a.0.now) _ (λ f a r f' called. search rules))
