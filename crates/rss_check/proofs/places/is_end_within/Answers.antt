use Rattle.std.proofs.Common.{◌∙◌, ap, nat_lt}
use Rattle.rss_check.specs.Places.{kept}
use Rattle.rss_check.proofs.Placed.{placed_is}
use Rattle.rss_check.proofs.places.is_end_within.Goals as goal

pub returns-in-End : goal.returns-in-End
returns-in-End c =
    rw c.in-End.is
    (ap (nat_lt 0) c.place_of.ensures ∙
    placed_is c.args.c.now (kept c.args.places.now) c.in-End.call c.requires)
