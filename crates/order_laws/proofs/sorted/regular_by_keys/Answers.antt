use Rattle.order_laws.proofs.RegularByKeys.{regular}
use Rattle.order_laws.proofs.sorted.regular_by_keys.Goals as goal

pub returns : goal.returns
returns g c h readings keyed order a s f =
    regular (λ x. x.1) (λ x y. g.K.SortKey.below x.0 y.0) keyed order s (λ x y. a x.0 y.0) h readings f
