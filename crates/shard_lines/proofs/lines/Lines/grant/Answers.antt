use Rattle.std.proofs.Common.{◌≡◌, ℕ, ◌<◌, ◌≤◌, ◌+◌, length, List, ap, sym, refl, arith, ◌∙◌, subst, map, set}
use Rattle.std.specs.Prelude.{vec_len}
use Rattle.rss_names.specs.declared.service.Key.{Key}
use Rattle.rss_wire.specs.declared.messages.Version.{Version}
use Rattle.rss_tables.specs.declared.lines.LineState.TheVariants.{Answered}
use Rattle.rss_tables.specs.Lines.{Line, no_line, with_line, in_state}
use Rattle.shard_lines.specs.declared.flat.FlatLine.{FlatLine}
use Rattle.shard_lines.specs.Flat.{LinesView, read_line, AreLines}
use Rattle.shard_lines.proofs.Flats.{grants, granted_lines, view_length}
use Rattle.shard_lines.proofs.lines.Lines.grant.Goals as goal

pub invariant_of-self : goal.invariant_of-self
invariant_of-self c =
    let v = ap (λ (x : LinesView). x.lines) c.self.view_is in
    let inside : c.args.at < length c.self.inside.lines.items = omega (arith, c.requires.inside, view_length _ _ _ _ _ v) in
    let h : AreLines (vec_len c.self.inside.keys) c.len.result (vec_len c.self.inside.skipped) c.self.inside.lines.items = subst (λ n. AreLines (vec_len c.self.inside.keys) n (vec_len c.self.inside.skipped) c.self.inside.lines.items) (sym c.len.ensures) c.self.invariant.0 in
    (granted_lines (vec_len c.self.inside.keys) c.len.result _ _ c.self.inside.lines.items c.args.at (length c.args.shown.now) c.index_mut-line.result.now _ c.index_mut-line.ensures.value h inside (omega (arith, c.extend.ensures.len, c.len.ensures)) refl refl refl refl refl, omega (arith, c.self.invariant.1), omega (arith, c.self.invariant.2))

pub returns-clause-lines : goal.returns-clause-lines
returns-clause-lines c =
    let v = ap (λ (x : LinesView). x.lines) c.self.view_is in
    let x : FlatLine = record c.index_mut-line.result.now { shown = record { from = c.len.result; many = length c.args.shown.now }; state = Answered } in
    ap (λ (s : List (Key × Version)). map (read_line c.self.inside.keys.items s c.self.inside.skipped.items) (set c.self.inside.lines.items c.args.at x)) c.extend.ensures.items
    ∙ grants c.self.inside.keys.items c.self.inside.shown.items c.args.shown.now c.self.inside.skipped.items (vec_len c.self.inside.keys) (vec_len c.self.inside.skipped) c.self.inside.lines.items _ c.args.at c.len.result c.index_mut-line.result.now Answered v c.index_mut-line.ensures.value (omega (arith, c.len.ensures)) (subst (λ n. AreLines (vec_len c.self.inside.keys) n (vec_len c.self.inside.skipped) c.self.inside.lines.items) (sym c.len.ensures) c.self.invariant.0) c.requires.inside
