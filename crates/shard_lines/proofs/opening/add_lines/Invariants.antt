use Rattle.std.proofs.Common.{◌≡◌, ◌≤◌, ◌++◌, ◌+◌, ◌-◌, [], map, vec_len}
use Rattle.rss_tables.specs.Lines.{lines_of, lines_from}
use Rattle.shard_lines.specs.Flat.{home_in, read_line, AreLines, AreBelow}
use Rattle.shard_lines.proofs.opening.add_lines.Given as goal

abbrev pub invariant-loop-at : goal.invariant-loop-at
invariant-loop-at l = record {
  whole : map (read_line l.keys.items [] []) l.lines.items ++ lines_from (home_in l.homes) l.reads l.writes (l.at + 1) (16 - l.at) ≡ lines_of (home_in l.homes) l.reads l.writes;
  lines : AreLines (vec_len l.keys) 0 0 l.lines.items;
  below : AreBelow (l.at + 1) l.lines.items;
  few : vec_len l.lines ≤ l.at;
}
