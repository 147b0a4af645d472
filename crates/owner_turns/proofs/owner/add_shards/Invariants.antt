use Rattle.std.proofs.Common.{◌≡◌, ◌++◌, drop}
use Rattle.rss_tables.specs.Lines.{shards_of}
use Rattle.owner_turns.proofs.owner.add_shards.Given as goal

-- the shards so far, with those to come, are the whole
abbrev pub invariant-loop-line : goal.invariant-loop-line
invariant-loop-line l = l.shards ++ shards_of (drop l.line l.session.lines) ≡ l.fn.shards ++ shards_of l.session.lines
