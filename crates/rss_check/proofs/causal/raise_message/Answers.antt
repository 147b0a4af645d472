use Rattle.std.proofs.Common.{◌≡◌, max, arith}
use Rattle.indexmap.specs.IndexMap.{get}
use Rattle.history_index.specs.Kept.{key_of_message, same_message}
use Rattle.rss_check.specs.Passes.{kept_of_message}
use Rattle.rss_check.proofs.Raised.{raised_message}
use Rattle.rss_check.proofs.causal.raise_message.Goals as goal

pub returns : goal.returns
returns c =
    let top : c.max-top.result ≡ max (kept_of_message c.args.messages.now c.message_key-message.result) c.args.place =
    grind (arith, c.max-top.ensures, c.message_top.ensures) in
    λ other.
    raised_message c.args.token other c.message_key-message.result c.args.place c.max-top.result
    (get same_message c.args.messages.now) (get same_message c.put_top.new.messages (key_of_message other))
    c.message_key-message.ensures top (c.in_ok-put_top.ensures (key_of_message other))
