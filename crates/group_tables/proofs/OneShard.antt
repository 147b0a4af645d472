-- Replies, one request at a time.
use Rattle.std.specs.Prelude.{◌≡◌, List, [], ◌∷◌}
use Rattle.std.proofs.Common.{refl, sym, ap, ◌∙◌}
use Rattle.rss_wire.specs.declared.messages.Reply.{Reply}
use Rattle.rss_tables.specs.ShardRow.{Shard, shard_after, shard_reply}
use Rattle.group_tables.specs.OneShard.{Asked, shard_replies}

pub replies_to_nothing : (sh : Shard) → shard_replies sh [] ≡ []
unfolding shard_replies
replies_to_nothing sh = refl

pub replies_to_one : (sh : Shard) (x : Asked) (asked : List Asked) → shard_replies sh (x ∷ asked) ≡ shard_reply sh x.at.latest x.request ∷ shard_replies (shard_after sh x.at.latest x.request) asked
unfolding shard_replies
replies_to_one sh x asked = refl

-- a shard that has served one of them
pub served_one : (old new : Shard) (x : Asked) (reply : Reply) → new ≡ shard_after old x.at.latest x.request → reply ≡ shard_reply old x.at.latest x.request → (asked : List Asked)
    → shard_replies old (x ∷ asked) ≡ reply ∷ shard_replies new asked
served_one old new x reply after is asked =
    replies_to_one old x asked ∙ ap (λ (r : Reply). r ∷ shard_replies (shard_after old x.at.latest x.request) asked) (sym is) ∙ ap (λ (sh : Shard). reply ∷ shard_replies sh asked) (sym after)
