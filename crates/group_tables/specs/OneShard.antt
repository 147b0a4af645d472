-- What one shard replies to requests that come one after another, each at a reading of the time.
use Rattle.std.specs.Prelude.{List, [], ◌∷◌}
use Rattle.rss_names.specs.declared.service.Key.{Key}
use Rattle.truetime.specs.Reading.{Reading}
use Rattle.rss_wire.specs.declared.messages.Request.{Request}
use Rattle.rss_wire.specs.declared.messages.Reply.{Reply}
use Rattle.rss_tables.specs.ShardRow.{Shard, opening_shard, shard_after, shard_reply}

-- a request with the reading at which it is served
pub record Asked : Type 0 where
  pub request : Request
  pub at : Reading

-- a shard's replies
unfoldable pub shard_replies : Shard → List Asked → List Reply
shard_replies sh [] = []
shard_replies sh (x ∷ asked) = shard_reply sh x.at.latest x.request ∷ shard_replies (shard_after sh x.at.latest x.request) asked

-- from its opening on
abbrev pub one_shard : List Key → List Asked → List Reply
one_shard keys asked = shard_replies (opening_shard keys) asked
