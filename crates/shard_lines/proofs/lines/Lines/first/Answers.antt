use Rattle.std.proofs.Common.{ap, arith}
use Rattle.shard_lines.specs.Flat.{LinesView}
use Rattle.shard_lines.proofs.Flats.{first_place, view_length}
use Rattle.shard_lines.proofs.lines.Lines.first.Goals as goal

pub returns : goal.returns
returns c = first_place _ (omega (arith, c.self.invariant.1, c.self.inside.lines.ok.0, view_length _ _ _ _ _ (ap (λ (x : LinesView). x.lines) c.self.view_is)))
