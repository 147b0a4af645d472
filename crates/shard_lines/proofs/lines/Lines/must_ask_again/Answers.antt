use Rattle.std.proofs.Common.{ap, arith, length}
use Rattle.shard_lines.specs.Flat.{LinesView}
use Rattle.shard_lines.proofs.Flats.{line_of, view_length}
use Rattle.shard_lines.proofs.lines.Lines.must_ask_again.Goals as goal

pub part_of-requires : goal.part_of-requires
part_of-requires c =
    let v = ap (λ (x : LinesView). x.lines) c.self.view_is in
    let i = line_of _ _ _ _ _ _ _ c.index.ensures c.self.invariant.0 c.requires (view_length _ _ _ _ _ v) in
    omega (arith, i.3, ap length c.as_slice.ensures.value)
