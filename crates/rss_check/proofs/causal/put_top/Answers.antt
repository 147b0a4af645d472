use Rattle.rss_check.proofs.Raised.{put_grouped}
use Rattle.rss_check.proofs.causal.put_top.Goals as goal

pub returns-in-Ok : goal.returns-in-Ok
returns-in-Ok c =
    λ other. put_grouped c.args.messages.now c.insert.new.self c.args.message other c.args.top (c.in-Ok.ensures.updates.0 other)
