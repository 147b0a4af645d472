use Rattle.std.proofs.Common.{arith}
use Rattle.std.proofs.lemmas.Slice.Eq.{slice_eq-Decides}
use Rattle.plain_walk.proofs.Owing.{owed-Decides, owed_all}
use Rattle.plain_walk.proofs.endings.is_nothing_or_all.Goals as goal

pub returns-else-is_empty : goal.returns-else-is_empty
returns-else-is_empty c =
    owed_all c.eq.result c.args.owed.now c.args.all.now
    (slice_eq-Decides owed-Decides _ _ _ c.eq.ensures)
    (λ e. grind (arith, e, c.if-is_empty.ensures))
