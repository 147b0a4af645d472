use Rattle.std.proofs.Common.{◌≤◌, length, drop, arith, ap, ◌∙◌, sym}
use Rattle.rss_machine.specs.State.{Stage}
use Rattle.pipeline_stage.proofs.Pairs.{nothing_shown}
use Rattle.pipeline_stage.proofs.stage.Stage.set_pairs.Goals as goal

pub returns-in-None-clause-set : goal.returns-in-None-clause-set
returns-in-None-clause-set c =
    let past : length c.args.shown.now ≤ c.loop-place.place = omega (arith, c.in-None.ensures.lookup) in
    let same =
    nothing_shown c.loop-place.self.cursor (drop c.loop-place.place c.args.pairs.now)
    c.args.shown.now c.loop-place.place past in
    ap (λ at. let s : Stage = record c.loop-place.self { cursor = at } in s) (sym same) ∙ c.loop-place.invariant.set
