-- The places of register calls are regular.
use Rattle.place_laws.proofs.Regular.{regular_places, regular_orders}
use Rattle.place_laws.proofs.laws.register_places_are_regular.Goals as goal

pub returns-clause-states : goal.returns-clause-states
returns-clause-states g c steps s n q e = regular_places c n q steps s e

pub returns-clause-steps : goal.returns-clause-steps
returns-clause-steps g c steps n q = regular_orders c n q steps
