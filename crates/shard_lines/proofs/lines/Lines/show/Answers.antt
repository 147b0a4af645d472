use Rattle.std.proofs.Common.{◌≡◌, ℕ, ◌<◌, ◌++◌, length, List, ap, sym, refl, arith, ◌∙◌, subst, map, set}
use Rattle.std.specs.Prelude.{vec_len}
use Rattle.rss_names.specs.declared.service.Key.{Key}
use Rattle.rss_wire.specs.declared.messages.Skipped.{Skipped}
use Rattle.rss_wire.specs.declared.messages.Version.{Version}
use Rattle.rss_tables.specs.declared.lines.LineState.TheVariants.{Answered}
use Rattle.rss_tables.specs.Lines.{Line}
use Rattle.shard_lines.specs.declared.flat.FlatLine.{FlatLine}
use Rattle.shard_lines.specs.Flat.{LinesView, read_line, AreLines}
use Rattle.shard_lines.proofs.Flats.{shows, shown_lines, view_length}
use Rattle.shard_lines.proofs.lines.Lines.show.Goals as goal

pub invariant_of-self : goal.invariant_of-self
invariant_of-self c =
    let v = ap (λ (x : LinesView). x.lines) c.self.view_is in
    let inside : c.args.at < length c.self.inside.lines.items = omega (arith, c.requires.inside, view_length _ _ _ _ _ v) in
    let h : AreLines (vec_len c.self.inside.keys) c.len.result c.len-2.result c.self.inside.lines.items = subst (λ n. AreLines (vec_len c.self.inside.keys) c.len.result n c.self.inside.lines.items) (sym c.len-2.ensures) (subst (λ n. AreLines (vec_len c.self.inside.keys) n (vec_len c.self.inside.skipped) c.self.inside.lines.items) (sym c.len.ensures) c.self.invariant.0) in
    (shown_lines (vec_len c.self.inside.keys) c.len.result _ c.len-2.result _ c.self.inside.lines.items c.args.at (length c.args.shown.now) (length c.args.skipped.now) c.index_mut-line.result.now _ c.index_mut-line.ensures.value h inside (omega (arith, c.extend.ensures.len, c.len.ensures)) (omega (arith, c.extend-2.ensures.len, c.len-2.ensures)) refl refl refl refl refl, omega (arith, c.self.invariant.1), omega (arith, c.self.invariant.2))

pub returns-clause-lines : goal.returns-clause-lines
returns-clause-lines c =
    let v = ap (λ (x : LinesView). x.lines) c.self.view_is in
    let h : AreLines (vec_len c.self.inside.keys) c.len.result c.len-2.result c.self.inside.lines.items = subst (λ n. AreLines (vec_len c.self.inside.keys) c.len.result n c.self.inside.lines.items) (sym c.len-2.ensures) (subst (λ n. AreLines (vec_len c.self.inside.keys) n (vec_len c.self.inside.skipped) c.self.inside.lines.items) (sym c.len.ensures) c.self.invariant.0) in
    let x : FlatLine = record c.index_mut-line.result.now { shown = record { from = c.len.result; many = length c.args.shown.now }; skipped = record { from = c.len-2.result; many = length c.args.skipped.now }; state = Answered } in
    ap (λ (s : List (Key × Version)). map (read_line c.self.inside.keys.items s c.extend-2.new.items.items) (set c.self.inside.lines.items c.args.at x)) c.extend.ensures.items
    ∙ ap (λ (s : List Skipped). map (read_line c.self.inside.keys.items (c.self.inside.shown.items ++ c.args.shown.now) s) (set c.self.inside.lines.items c.args.at x)) c.extend-2.ensures.items
    ∙ shows c.self.inside.keys.items c.self.inside.shown.items c.args.shown.now c.self.inside.skipped.items c.args.skipped.now (vec_len c.self.inside.keys) c.self.inside.lines.items _ c.args.at c.len.result c.len-2.result c.index_mut-line.result.now Answered v c.index_mut-line.ensures.value (omega (arith, c.len.ensures)) (omega (arith, c.len-2.ensures)) h c.requires.inside
