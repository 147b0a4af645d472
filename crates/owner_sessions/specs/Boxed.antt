-- The outbox of an owner: all that it sends, in order.
use Rattle.std.specs.Prelude.{◌≡◌, ℕ, ◌+◌, ◌≤◌, List, [], ◌++◌, length, vec_len, vec_capacity}
use Rattle.rss_tables.specs.Outs.{Out, awaited}
use Rattle.owner_sessions.specs.declared.outbox.Outbox.{Outbox}

-- what lines send, and behind it what rounds send
abbrev pub outs_of : Outbox → List Out
outs_of o = o.lines.outs ++ awaited o.rounds.requests

-- nothing is sent yet, and no fence is planned
pub record IsEmptyBox (o : Outbox) : Type 0 where
  pub lines : o.lines.outs ≡ []
  pub rounds : o.rounds.requests ≡ []
  pub fences : o.fences.items ≡ []

-- there is room for all that a session of lines sends in one step, for a round, and for lists of these many dependencies
pub record HasBoxRoom (o : Outbox) (deps : ℕ) : Type 0 where
  pub lines : 32 ≤ o.lines.room
  pub keys : 34 ≤ o.lines.keys
  pub writes : 17 ≤ o.lines.writes
  pub rounds : 7 ≤ o.rounds.room
  pub lists : 7 ≤ o.lists.count
  pub width : deps ≤ o.lists.width

-- there is room besides for what a stub tells sixteen shards, and for the fences of all services
pub record HasStubRoom (o : Outbox) : Type 0 where
  pub lines : 48 ≤ o.lines.room
  pub fences : vec_len o.fences + 16 ≤ vec_capacity o.fences
