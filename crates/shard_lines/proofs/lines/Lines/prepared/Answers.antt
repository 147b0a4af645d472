use Rattle.std.proofs.Common.{refl, ap, sym, ◌∙◌, arith}
use Rattle.rss_tables.specs.Lines.{Line, in_state, with_line}
use Rattle.shard_lines.specs.Flat.{LinesView}
use Rattle.rss_tables.specs.declared.lines.LineState.TheVariants.{Answered}
use Rattle.shard_lines.proofs.Flats.{put_read, put_keeps, view_length}
use Rattle.shard_lines.proofs.lines.Lines.prepared.Goals as goal

pub invariant_of-self : goal.invariant_of-self
invariant_of-self c =
    let v = ap (λ (x : LinesView). x.lines) c.self.view_is in
    (put_keeps _ _ _ _ _ _ _ _ c.index_mut-line.ensures.value c.self.invariant.0 c.requires.inside (view_length _ _ _ _ _ v) refl (λ h. h), omega (arith, c.self.invariant.1), omega (arith, c.self.invariant.2))

pub returns-clause-lines : goal.returns-clause-lines
returns-clause-lines c =
    let v = ap (λ (x : LinesView). x.lines) c.self.view_is in
    let p = put_read _ _ _ _ _ _ _ _ _ _ (record c.index_mut-line.result.now { prepare_time = c.args.time; state = Answered }) v c.index_mut-line.ensures.value c.self.invariant.0 c.requires.inside refl in
    p.0 ∙ ap (λ (x : Line). with_line c.args.self.now.lines (in_state (record x { prepare_time = c.args.time }) Answered)) (sym p.1)
