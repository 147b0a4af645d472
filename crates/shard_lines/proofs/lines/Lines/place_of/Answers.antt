use Rattle.std.proofs.Common.{ℕ, ap, sym, ◌∙◌, List, Option, Some, None, subst}
use Rattle.std.specs.Prelude.{IfSome, IfNone}
use Rattle.rss_tables.specs.Lines.{Line}
use Rattle.shard_lines.specs.declared.flat.FlatLine.{FlatLine}
use Rattle.shard_lines.specs.Flat.{no_flat, has_flat, LinesView, HasShard, IsPlace}
use Rattle.shard_lines.proofs.Flats.{place_is, no_place}
use Rattle.shard_lines.proofs.lines.Lines.place_of.Goals as goal

under : {P Q : ℕ → Type 0} (x : Option ℕ) → ((n : ℕ) → P n → Q n) → IfSome x P → IfSome x Q
under None f h = tt
under (Some n) f h = f n h

under_none : {P Q : Type 0} (x : Option ℕ) → (P → Q) → IfNone x P → IfNone x Q
under_none None f h = f h
under_none (Some n) f h = tt

pub returns : goal.returns
returns c =
    let v = ap (λ (x : LinesView). x.lines) c.self.view_is in
    record { found = under c.place_of.result (λ at h. place_is c.self.inside.keys.items c.self.inside.shown.items c.self.inside.skipped.items _ _ _ c.self.inside.lines.items _ at c.args.shard no_flat v c.self.invariant.0 (subst (λ (l : List FlatLine). HasShard l at c.args.shard) c.as_slice.ensures.value h)) c.place_of.ensures.found; missing = under_none c.place_of.result (λ h. no_place c.self.inside.keys.items c.self.inside.shown.items c.self.inside.skipped.items c.self.inside.lines.items _ c.args.shard v (ap (λ (l : List FlatLine). has_flat l c.args.shard) (sym c.as_slice.ensures.value) ∙ h)) c.place_of.ensures.missing }
