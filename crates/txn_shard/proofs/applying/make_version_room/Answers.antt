use Rattle.std.proofs.Common.{◌≡◌, ◌∙◌, add-one}
use Rattle.txn_shard.proofs.Applied.{have-more}
use Rattle.txn_shard.proofs.applying.make_version_room.Goals as goal

pub loop-write-preserved : goal.loop-write-preserved
loop-write-preserved c = record {
  same = c.in_ok-make_room.ensures.same ∙ c.loop-write.invariant.same;
  room = rw add-one (have-more c.loop-write.store c.make_room.new.self c.args.writes.now c.loop-write.write-index _ c.loop-write.invariant.room c.loop-write-test.true c.in_ok-make_room.ensures.kept c.in_ok-make_room.ensures.room);
}
