-- Where all cells heard have small stamps, so has the greatest.
use Rattle.std.proofs.Common.{◌≡◌, ℕ, Option, Some, None, arith, refl, lit<}
use Rattle.std.proofs.lemmas.Grind.{common_steps}
use Rattle.rss_wire.specs.declared.messages.RegReply.{RegReply}
use Rattle.rss_tables.specs.Round.{Round, greatest_heard, hears}
use Rattle.gryff_quorum.specs.Heard.{IsSmall, HearsSmall, HasSmallStamps}
use Rattle.gryff_quorum.proofs.GreatestHeard.{greatest_is_greatest}

pub greatest_heard_is_small : (round : Round) → HearsSmall round → HasSmallStamps round
greatest_heard_is_small round h = go (greatest_heard round) refl
  where
    go : (best : Option RegReply) → greatest_heard round ≡ best → HasSmallStamps round
    go None p = rw p (lit< tt)
    go (Some best) p = let one = (greatest_is_greatest round).was_heard best p in rw p (h one.0 best one.1)

pub hearing_keeps_small : (round : Round) (from : ℕ) (cell : RegReply) → HearsSmall round → IsSmall cell → HearsSmall (hears round from cell)
hearing_keeps_small round from cell h s at other e = grind (arith, common_steps, h at other)
