use Rattle.std.proofs.Common.{rules, sym}
use Rattle.attempt_index.proofs.Found.{found-range}
use Rattle.attempt_index.proofs.index.find_pairs.Goals as goal

pub slice_bounds-result-count : goal.slice_bounds-result-count
slice_bounds-result-count c = (found-range c.args.index.now c.args.key c.count_before.result c.count_upto.result c.requires.ascending (sym c.count_before.ensures.same) (sym c.count_upto.ensures.same)).0

pub slice_bounds-result-start : goal.slice_bounds-result-start
slice_bounds-result-start c =
    let upto = (found-range c.args.index.now c.args.key c.count_before.result c.count_upto.result c.requires.ascending (sym c.count_before.ensures.same) (sym c.count_upto.ensures.same)).0 in
    search rules

pub returns : goal.returns
returns c = (found-range c.args.index.now c.args.key c.count_before.result c.count_upto.result c.requires.ascending (sym c.count_before.ensures.same) (sym c.count_upto.ensures.same)).1
