use Rattle.std.proofs.Common.{◌≡◌, true}
use Rattle.reg_world.specs.Rows.{marks_of, have_room_upto}
use Rattle.reg_world.proofs.registers.make_room.Given as goal

-- the registers that were passed have room
abbrev pub invariant-loop-place : goal.invariant-loop-place
invariant-loop-place l = record {
  same : marks_of l.registers ≡ marks_of l.fn.registers;
  room : have_room_upto l.place l.registers ≡ true;
}
