use Rattle.std.proofs.Common.{◌≡◌, take}
use Rattle.rss_cli.specs.Played.{replayed}
use Rattle.rss_cli.proofs.play.play.Given as goal

abbrev pub invariant-loop-before : goal.invariant-loop-before
invariant-loop-before l = (l.world.config ≡ l.fn.config) × (l.world.log ≡ replayed (take l.before l.steps))
