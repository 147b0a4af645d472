use Rattle.std.proofs.Common.{◌≡◌, ◌++◌, drop}
use Rattle.pipeline_lang.specs.Printing.{more_pairs_text}
use Rattle.pipeline_lang.proofs.printing.put_more_pairs.Given as goal

abbrev pub invariant-loop-pair : goal.invariant-loop-pair
invariant-loop-pair l = l.text.items ++ more_pairs_text (drop l.pair-index l.pairs) ≡ l.fn.text.items ++ more_pairs_text l.fn.pairs
