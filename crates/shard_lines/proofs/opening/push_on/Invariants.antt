use Rattle.std.proofs.Common.{◌≡◌, ◌≤◌, ◌+◌, ◌++◌, drop, vec_len}
use Rattle.rss_tables.specs.Lines.{keys_on}
use Rattle.shard_lines.specs.Flat.{home_in}
use Rattle.shard_lines.proofs.opening.push_on.Given as goal

abbrev pub invariant-loop-key : goal.invariant-loop-key
invariant-loop-key l = record {
  whole : l.keys.items ++ keys_on (home_in l.homes) l.shard (drop l.key-index l.from) ≡ l.fn.keys.items ++ keys_on (home_in l.homes) l.shard l.from;
  few : vec_len l.keys ≤ vec_len l.fn.keys + l.key-index;
}
