use Rattle.std.proofs.Common.{◌∙◌, sym}
use Rattle.rss_check.specs.Passes.{latest_of}
use Rattle.rss_check.proofs.Ended.{bound_by, bound_none}
use Rattle.rss_check.proofs.timely.bound_of.Goals as goal

pub returns-in-Some : goal.returns-in-Some
returns-in-Some c =
    c.greatest_read.ensures ∙
    bound_by c.args.h.now (latest_of c.args.tops.now) c.args.call c.in-Some.op.now
    (sym c.is_mutation.ensures ∙ c.if-is_mutation.false) c.in-Some.ensures

pub returns-in-None : goal.returns-in-None
returns-in-None c =
    bound_none c.args.h.now (latest_of c.args.tops.now) c.args.call
    (sym c.is_mutation.ensures ∙ c.if-is_mutation.false) c.in-None.ensures
