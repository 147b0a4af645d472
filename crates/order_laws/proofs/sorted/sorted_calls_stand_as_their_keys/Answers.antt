use Rattle.order_laws.proofs.SortedCalls.{same_calls, calls_once, comparable, before_as_below}
use Rattle.order_laws.proofs.sorted.sorted_calls_stand_as_their_keys.Goals as goal

pub returns-clause-same : goal.returns-clause-same
returns-clause-same g c keyed order s =
    same_calls (λ x. x.1) (λ x y. g.K.SortKey.below x.0 y.0) keyed order s

pub returns-clause-once : goal.returns-clause-once
returns-clause-once g c keyed order a s =
    calls_once (λ x. x.1) (λ x y. g.K.SortKey.below x.0 y.0) keyed order s (λ x y. a x.0 y.0)

pub returns-clause-compared : goal.returns-clause-compared
returns-clause-compared g c keyed order x y a s m n =
    before_as_below (λ x. x.1) (λ x y. g.K.SortKey.below x.0 y.0) keyed order s (λ x y. a x.0 y.0) x y m n

pub returns-clause-total : goal.returns-clause-total
returns-clause-total g c keyed order x y s m n =
    comparable (λ x. x.1) (λ x y. g.K.SortKey.below x.0 y.0) keyed order s x y m n
