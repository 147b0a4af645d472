use Rattle.std.proofs.Common.{◌≡◌, ◌≤◌, ◌+◌, ◌++◌, drop}
use Rattle.rss_tables.specs.Lines.{tells_decision}
use Rattle.owner_turns.proofs.stubs.tell_all.Given as goal

-- what was told, with what is still told, is the whole
abbrev pub invariant-loop-shard : goal.invariant-loop-shard
invariant-loop-shard l = record {
  told : l.out.outs ++ tells_decision l.attempt l.outcome (drop l.shard-index l.shards) ≡ l.fn.out.outs ++ tells_decision l.attempt l.outcome l.shards;
  room : l.fn.out.room ≤ l.out.room + l.shard-index;
  keys : l.out.keys ≡ l.fn.out.keys;
  writes : l.out.writes ≡ l.fn.out.writes;
}
