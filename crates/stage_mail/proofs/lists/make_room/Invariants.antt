use Rattle.stage_mail.specs.Lists.{AreGrown, HaveRoom}
use Rattle.stage_mail.proofs.lists.make_room.Given as goal

-- the lists that were passed have room
abbrev pub invariant-loop-place : goal.invariant-loop-place
invariant-loop-place l = record {
  grown : AreGrown l.fn.lists l.lists;
  room : HaveRoom l.place l.n l.lists;
}
