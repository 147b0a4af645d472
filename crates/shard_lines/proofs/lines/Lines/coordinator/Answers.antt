use Rattle.std.proofs.Common.{ap, sym, ◌∙◌, arith}
use Rattle.rss_tables.specs.Lines.{coordinator_of}
use Rattle.shard_lines.specs.declared.flat.FlatLine.{FlatLine}
use Rattle.shard_lines.specs.Flat.{LinesView}
use Rattle.shard_lines.proofs.Flats.{coordinator_view, view_length}
use Rattle.shard_lines.proofs.lines.Lines.coordinator.Goals as goal

pub index-requires : goal.index-requires
index-requires c = c.self.invariant.1

pub returns : goal.returns
returns c =
    let v = ap (λ (x : LinesView). x.lines) c.self.view_is in
    ap (λ (f : FlatLine). f.shard) c.index.ensures
    ∙ sym (coordinator_view c.self.inside.keys.items c.self.inside.shown.items c.self.inside.skipped.items c.self.inside.lines.items c.index.result.now (omega (arith, c.self.invariant.1, c.self.inside.lines.ok.0)))
    ∙ ap coordinator_of v
