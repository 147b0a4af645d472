use Rattle.regular_laws.proofs.Runs.{places_run, orders_run}
use Rattle.regular_laws.proofs.laws.places_are_regular.Goals as goal

pub returns-clause-states : goal.returns-clause-states
returns-clause-states g c steps s file a m e = places_run c file steps s a m e

pub returns-clause-steps : goal.returns-clause-steps
returns-clause-steps g c steps file a m = orders_run c file steps a m
