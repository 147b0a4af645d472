use Rattle.std.proofs.Common.{◌≡◌, ℕ, drop}
use Rattle.call_tables.proofs.Noted.{AreNoted}
use Rattle.call_tables.proofs.tables.note_all.Given as goal

abbrev pub invariant-loop-at : goal.invariant-loop-at
invariant-loop-at l = AreNoted l.history l.at (drop l.at l.history) l.begun.items l.ended.items
