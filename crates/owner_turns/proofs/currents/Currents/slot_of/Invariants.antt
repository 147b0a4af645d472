use Rattle.std.proofs.Common.{◌≡◌, drop}
use Rattle.rss_machine.specs.Slots.{slot_in, slot_from}
use Rattle.owner_turns.proofs.currents.Currents.slot_of.Given as goal

-- none of the slots so far awaits this exchange
abbrev pub invariant-loop-slot : goal.invariant-loop-slot
invariant-loop-slot l = slot_in l.self l.exchange ≡ slot_from l.slot (drop l.slot l.self) l.exchange
