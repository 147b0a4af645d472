use Rattle.std.proofs.Common.{◌≡◌, drop}
use Rattle.rss_model.specs.Operation.{values_of}
use Rattle.rss_model.specs.CallStatement.{with_pairs}
use Rattle.rss_machine.specs.State.{Stage}
use Rattle.pipeline_stage.proofs.stage.Stage.set_pairs.Given as goal

-- the pairs that were set and those that are left are all
abbrev pub invariant-loop-place : goal.invariant-loop-place
invariant-loop-place l = record {
  set : (let reached : Stage = record l.self { cursor = with_pairs l.self.cursor (drop l.place l.pairs) (values_of (drop l.place l.shown)) } in
      let sought : Stage = record l.fn.self { cursor = with_pairs l.fn.self.cursor l.pairs (values_of l.shown) } in reached ≡ sought);
  stays : l.self.cursor.position ≡ l.fn.self.cursor.position;
}
