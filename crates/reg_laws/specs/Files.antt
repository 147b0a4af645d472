-- Files whose scripts name their registers, and whose register services are numbered in order.
pub use Rattle.world_laws.specs.InOrder.{IsNext, next_number, AreNumbered, IsInOrder}
