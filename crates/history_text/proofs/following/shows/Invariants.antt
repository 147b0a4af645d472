use Rattle.std.proofs.Common.{◌≡◌, drop}
use Rattle.history_index.specs.Following.{shows}
use Rattle.history_text.proofs.following.shows.Given as goal

abbrev pub invariant-loop-key : goal.invariant-loop-key
invariant-loop-key l = shows l.reply l.keys ≡ shows l.left (drop l.key-index l.keys)
